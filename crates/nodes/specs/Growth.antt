-- How a list of nodes grows while a function is made.
use Rattle.std.specs.Prelude.{◌≡◌, ℕ, ◌+◌, ◌<◌, ◌≤◌, Bool, ◌⊎◌, List, [], ◌∷◌, length}
use Rattle.store.specs.Fun.{Fn, Same, bit, fix}
use Rattle.nodes.specs.declared.Node.{Node}
use Rattle.nodes.specs.Graph.{node, value, top, Sound}
use Rattle.nodes.specs.Price.{fixings}

-- x is related to an entry of the list
abbrev pub In : {A : Type 0} → (A → A → Type 0) → A → List A → Type 0
In R x [] = ⊥
In R x (y ∷ ys) = R x y ⊎ In R x ys

-- ys begins with xs
pub record Ext (xs ys : List Node) : Type 0 where
  pub longer : length xs ≤ length ys
  pub kept : (k : ℕ) → k < length xs → node ys k ≡ node xs k

-- ys begins with xs, and each number that is new arises from f, which does not depend on the variables above v, by fixing its first variables
pub record Parts (n : ℕ) (xs ys : List Node) (v : ℕ) (f : Fn) : Type 0 where
  pub ext : Ext xs ys
  pub part : (b : ℕ) → length xs + 2 ≤ b → b < length ys + 2 → (m i : ℕ) → i + m ≡ n → i ≤ v → In (Same n) (value ys b) (fixings m i f)

-- number r of ys is f, and what ys has more than xs are parts of f
pub record Built (n : ℕ) (xs ys : List Node) (v : ℕ) (f : Fn) (r : ℕ) : Type 0 where
  pub parts : Parts n xs ys v f
  pub held : r < length ys + 2
  pub under : v ≤ top n ys r
  pub means : Same n (value ys r) f

-- f needs more nodes than the capacity
abbrev pub Short : ℕ → List Node → ℕ → ℕ → Fn → Type 0
Short n xs capacity v f = (ys : List Node) × Sound n ys × Parts n xs ys v f × (capacity < length ys)

-- one of two functions, by variable v
abbrev pub choose : ℕ → (Bool → Fn) → Fn
choose v h w = h (bit v w) w

-- f is h t where variable v is t, and depends on none above v
pub record Splits (n v : ℕ) (f : Fn) (h : Bool → Fn) : Type 0 where
  pub below : v < n
  pub half : (t : Bool) → Same n (fix v t f) (h t)
  pub free : (j : ℕ) (t : Bool) → j < v → Same n (fix j t f) f

-- number r is number a with variable v, which a does not have above its top, fixed to t; it is held if a is
pub record Halved (n : ℕ) (xs : List Node) (a v : ℕ) (t : Bool) (r : ℕ) : Type 0 where
  pub held : a < length xs + 2 → r < length xs + 2
  pub under : v < top n xs r
  pub lower : top n xs a ≤ top n xs r
  pub means : Same n (fix v t (value xs a)) (value xs r)
