-- Reduced ordered diagrams as lists of nodes. Number 0 is false, 1 true, and k + 2 the node at place k.
use Rattle.std.specs.Prelude.{◌≡◌, ℕ, zero, suc, ◌+◌, ◌<◌, Bool, true, false, cond, List, length, Some, None, Option, slice_index_or}
use Rattle.std.specs.List.{slice_get}
use Rattle.nodes.specs.declared.Node.{Node}
use Rattle.store.specs.Fun.{Fn, bit}

abbrev pub blank : Node
blank = record { variable = 0; low = 0; high = 0 }

abbrev pub node : List Node → ℕ → Node
node xs k = slice_index_or xs k blank

-- the child of a node where its variable is t
abbrev pub child : Node → Bool → ℕ
child x t = cond t x.high x.low

-- the truth of number a at w, found in at most m steps down
abbrev pub truth : ℕ → List Node → ℕ → ℕ → Bool
truth m xs zero w = false
truth m xs (suc zero) w = true
truth zero xs (suc (suc k)) w = false
truth (suc m) xs (suc (suc k)) w = truth m xs (child (node xs k) (bit (node xs k).variable w)) w

-- the function of number a
abbrev pub value : List Node → ℕ → Fn
value xs a w = truth a xs a w

-- the node of number a, and none for a constant and for a number that is not held
abbrev pub node_under : List Node → ℕ → Option Node
node_under xs zero = None
node_under xs (suc zero) = None
node_under xs (suc (suc k)) = slice_get xs k

-- the variable that a node decides by, and n without one
abbrev pub variable_or : ℕ → Option Node → ℕ
variable_or n None = n
variable_or n (Some x) = x.variable

-- the variable on top of number a, and n where it has no node
abbrev pub top : ℕ → List Node → ℕ → ℕ
top n xs a = variable_or n (node_under xs a)

-- a node that may stand at place k: its variable is one of n, its children are earlier, lie below it and differ
pub record Fit (n : ℕ) (xs : List Node) (k : ℕ) (x : Node) : Type 0 where
  pub below : x.variable < n
  pub earlier : (t : Bool) → child x t < k + 2
  pub under : (t : Bool) → x.variable < top n xs (child x t)
  pub differ : x.low ≡ x.high → ⊥

-- reduced and ordered, and no two nodes equal
pub record Sound (n : ℕ) (xs : List Node) : Type 0 where
  pub fit : (k : ℕ) → k < length xs → Fit n xs k (node xs k)
  pub once : (j k : ℕ) → j < length xs → k < length xs → node xs j ≡ node xs k → j ≡ k
