-- Where a task begins.
use Rattle.std.specs.Prelude.{ℕ, ◌<◌, min, List}
use Rattle.store.specs.declared.task.Task.{Task}
use Rattle.store.specs.declared.task.Task.TheVariants.{Variable, Not, Both, Cofactor}
use Rattle.nodes.specs.declared.Node.{Node}
use Rattle.nodes.specs.Graph.{top}

-- the first variable that the function may depend on
abbrev pub peak : ℕ → List Node → Task → ℕ
peak n xs (Variable i) = i
peak n xs (Not a) = top n xs a
peak n xs (Both op a b) = min (top n xs a) (top n xs b)
peak n xs (Cofactor a i t) = top n xs a

-- variable v comes before the one that the task fixes
abbrev pub Before : ℕ → Task → Type 0
Before v (Variable i) = Unit {0}
Before v (Not a) = Unit {0}
Before v (Both op a b) = Unit {0}
Before v (Cofactor a i t) = v < i
