-- Where a side gives the result of an operator.
use Rattle.std.specs.Prelude.{◌≡◌, ℕ, ◌≤◌, ◌⊎◌, List, Some, None, Option}
use Rattle.store.specs.declared.task.Op.{Op}
use Rattle.store.specs.Tasks.{applied}
use Rattle.nodes.specs.declared.Node.{Node}
use Rattle.nodes.specs.Graph.{value}

-- one of the two numbers is the result, whatever the nodes, or neither is a constant
abbrev pub Plain : Op → ℕ → ℕ → Option ℕ → Type 0
Plain op a b (Some r) = ((r ≡ a) ⊎ (r ≡ b)) × ((xs : List Node) (w : ℕ) → value xs r w ≡ applied op (value xs a w) (value xs b w))
Plain op a b None = (2 ≤ a) × (2 ≤ b)
