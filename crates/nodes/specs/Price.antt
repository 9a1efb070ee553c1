-- The price of a function: how many distinct functions that arise from it by fixing its first variables are neither constant nor held.
use Rattle.std.specs.Prelude.{ℕ, zero, suc, Bool, true, false, cond, not, ◌&&◌, ◌||◌, List, [], ◌∷◌, ◌++◌, length, filter}
use Rattle.store.specs.Fun.{Fn, fix, same}

-- what arises from f by fixing variables i to i + k - 1, for k from 0 to m - 1
abbrev pub fixings : ℕ → ℕ → Fn → List Fn
fixings zero i f = []
fixings (suc m) i f = f ∷ (fixings m (suc i) (fix i false f) ++ fixings m (suc i) (fix i true f))

abbrev pub constant : ℕ → Fn → Bool
constant n f = same n f (λ _. false) || same n f (λ _. true)

-- whether x is in the list, by the test r
abbrev pub has : {A : Type 0} → (A → A → Bool) → A → List A → Bool
has r x [] = false
has r x (y ∷ ys) = r x y || has r x ys

-- the list with each entry once, by the test r
abbrev pub distinct : {A : Type 0} → (A → A → Bool) → List A → List A
distinct r [] = []
distinct r (x ∷ xs) = cond (has r x xs) (distinct r xs) (x ∷ distinct r xs)

-- neither constant nor held
abbrev pub wanted : ℕ → (Fn → Bool) → Fn → Bool
wanted n held g = not (constant n g) && not (held g)

-- the price of f, a function of n variables, by which functions are held
unfoldable pub cost : ℕ → (Fn → Bool) → Fn → ℕ
cost n held f = length (distinct (same n) (filter (wanted n held) (fixings n 0 f)))
