-- The numbers that a task is on.
use Rattle.std.specs.Prelude.{ℕ, ◌==◌, Bool, cond, List, unwrap_or}
use Rattle.nodes.specs.declared.Node.{Node}
use Rattle.nodes.specs.Graph.{child, node_under}
use Rattle.diagram.specs.declared.numbers.Operand.{Operand}

-- under n, and over number a itself
abbrev pub leaf : ℕ → ℕ → Node
leaf n a = record { variable = n; low = a; high = a }

abbrev pub operand : ℕ → List Node → ℕ → Operand
operand n xs a = record { number = a; node = unwrap_or (node_under xs a) (leaf n a) }

-- the child where the variable is on top, and else the number
abbrev pub half : Operand → ℕ → Bool → ℕ
half o v t = cond (o.node.variable == v) (child o.node t) o.number
