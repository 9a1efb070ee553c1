-- What it is to be a store under an order, in terms of the variables.
use Rattle.std.specs.Prelude.{◌≡◌, ℕ, ◌^◌, ◌<◌}
use Rattle.store.specs.Fun.{Fn, bit}
use Rattle.store.specs.Meaning.{Shown, price, Lawful}

-- p takes each number below n once
pub record Permutes (n : ℕ) (p : ℕ → ℕ) : Type 0 where
  pub within : (i : ℕ) → i < n → p i < n
  pub once : (i j : ℕ) → i < n → j < n → p i ≡ p j → i ≡ j
  pub each : (j : ℕ) → j < n → (i : ℕ) × ((i < n) × (p i ≡ j))

-- v is, below, the valuation w: variable i of w is variable p(i) of v
abbrev pub Places : ℕ → (ℕ → ℕ) → ℕ → ℕ → Type 0
Places n p w v = (i : ℕ) → i < n → bit i w ≡ bit (p i) v

-- f is, above, the function g: they agree at each w and v of which one is the other
abbrev pub StandsFor : ℕ → (ℕ → ℕ) → Fn → Fn → Type 0
StandsFor n p f g = (w v : ℕ) → w < 2 ^ n → v < 2 ^ n → Places n p w v → f w ≡ g v

-- p renames n variables: it takes each once, and so each valuation and each function above is one below, and each below
-- is one above; that nothing is left out is what gives weight to all that is said of what stands for what
pub record Renames (n : ℕ) (p : ℕ → ℕ) : Type 0 where
  pub permutes : Permutes n p
  pub placed : (w : ℕ) → w < 2 ^ n → (v : ℕ) × ((v < 2 ^ n) × Places n p w v)
  pub taken : (v : ℕ) → v < 2 ^ n → (w : ℕ) × ((w < 2 ^ n) × Places n p w v)
  pub below : (f : Fn) → (g : Fn) × StandsFor n p f g
  pub above : (g : Fn) → (f : Fn) × StandsFor n p f g

-- t is the store s under the order p
pub record Reorders (p : ℕ → ℕ) (s t : Shown) : Type 0 where
  pub lawful : Lawful t
  pub renames : Renames s.vars p
  -- N, the numbers that are held, the units and the top price are those below
  pub vars : t.vars ≡ s.vars
  pub held : (a : ℕ) → t.held a ≡ s.held a
  pub used : t.used ≡ s.used
  pub capacity : t.capacity ≡ s.capacity
  pub top : t.top ≡ s.top
  -- and the functions and the prices, with variable i for variable p(i)
  pub value : (a : ℕ) → StandsFor s.vars p (t.value a) (s.value a)
  pub price : (f g : Fn) → StandsFor s.vars p f g → price t f ≡ price s g
