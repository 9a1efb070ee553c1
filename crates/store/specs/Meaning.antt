-- What a store shows to its user, and the laws of what it shows.
use Rattle.std.specs.Prelude.{◌≡◌, ℕ, ◌+◌, ◌-◌, ◌<◌, ◌≤◌, Bool, true, false, ◌&&◌, nat_lt}
use Rattle.store.specs.Fun.{Fn, Same, same, some}

pub record Shown : Type 0 where
  -- the number of variables
  pub vars : ℕ
  -- which numbers are held, and the function under each
  pub held : ℕ → Bool
  pub value : ℕ → Fn
  -- units
  pub used : ℕ
  pub capacity : ℕ
  -- the top price, and the price rule: a price by which functions are held, and the function
  pub top : ℕ
  pub tariff : (Fn → Bool) → Fn → ℕ

-- whether f is held, under any number of 16 bits
unfoldable pub holds : Shown → Fn → Bool
holds s f = some (λ a. s.held a && same s.vars (s.value a) f) 65536

abbrev pub price : Shown → Fn → ℕ
price s f = s.tariff (holds s) f

abbrev pub free : Shown → ℕ
free s = s.capacity - s.used

-- what holds of every store at every time
pub record Lawful (s : Shown) : Type 0 where
  pub few : s.vars ≤ 24
  pub within : s.used ≤ s.capacity
  -- numbers are of 16 bits, 0 is false, 1 is true, and no two are the same function
  pub narrow : (a : ℕ) → s.held a ≡ true → a < 65536
  pub no : (s.held 0 ≡ true) × Same s.vars (s.value 0) (λ _. false)
  pub yes : (s.held 1 ≡ true) × Same s.vars (s.value 1) (λ _. true)
  pub apart : (a b : ℕ) → s.held a ≡ true → s.held b ≡ true → Same s.vars (s.value a) (s.value b) → a ≡ b
  -- a price goes by the function, is at most the top price, and is 0 exactly if the function is held
  pub alike : (f g : Fn) → Same s.vars f g → price s f ≡ price s g
  pub bounded : (f : Fn) → price s f ≤ s.top
  pub gratis : (f : Fn) → holds s f ≡ true → price s f ≡ 0
  pub priced : (f : Fn) → price s f ≡ 0 → holds s f ≡ true

-- a store that was just made: it holds the constants, and nothing is used
pub record Fresh (s : Shown) : Type 0 where
  pub held : (a : ℕ) → s.held a ≡ nat_lt a 2
  pub used : s.used ≡ 0

-- what never changes, and that every earlier number keeps its function
pub record Grown (s t : Shown) : Type 0 where
  pub vars : t.vars ≡ s.vars
  pub capacity : t.capacity ≡ s.capacity
  pub top : t.top ≡ s.top
  pub tariff : t.tariff ≡ s.tariff
  pub kept : (a : ℕ) → s.held a ≡ true → (t.held a ≡ true) × Same s.vars (t.value a) (s.value a)

-- f was made, and its number is a
pub record Made (s t : Shown) (f : Fn) (a : ℕ) : Type 0 where
  pub grown : Grown s t
  pub held : t.held a ≡ true
  pub means : Same s.vars (t.value a) f
  -- the price did not exceed the free units, and just the price was used
  pub afforded : price s f ≤ free s
  pub paid : t.used ≡ s.used + price s f
  -- nothing changed if f was held; else its number was not held before
  pub still : holds s f ≡ true → t ≡ s
  pub fresh : holds s f ≡ false → s.held a ≡ false
