-- Functions of truth values, by their value at each valuation: bit i of a valuation is variable i.
use Rattle.std.specs.Prelude.{◌≡◌, ℕ, zero, suc, ◌+◌, ◌*◌, ◌/◌, ◌%◌, ◌^◌, ◌<◌, Bool, true, false, cond, not, ◌&&◌, ◌||◌, ◌==◌}

abbrev pub Fn : Type 0
Fn = ℕ → Bool

-- bit i of w
abbrev pub bit : ℕ → ℕ → Bool
bit zero w = w % 2 == 1
bit (suc i) w = bit i (w / 2)

-- w with its bit i set to t
abbrev pub fixed : ℕ → Bool → ℕ → ℕ
fixed zero t w = 2 * (w / 2) + cond t 1 0
fixed (suc i) t w = 2 * fixed i t (w / 2) + w % 2

-- f with variable i fixed to t
abbrev pub fix : ℕ → Bool → Fn → Fn
fix i t f w = f (fixed i t w)

-- f and g are the same function of n variables
abbrev pub Same : ℕ → Fn → Fn → Type 0
Same n f g = (w : ℕ) → w < 2 ^ n → f w ≡ g w

abbrev pub eqv : Bool → Bool → Bool
eqv true b = b
eqv false b = not b

-- p holds at each number below m
abbrev pub each : (ℕ → Bool) → ℕ → Bool
each p zero = true
each p (suc m) = p m && each p m

-- p holds at some number below m
unfoldable pub some : (ℕ → Bool) → ℕ → Bool
some p zero = false
some p (suc m) = p m || some p m

-- the test of Same
abbrev pub same : ℕ → Fn → Fn → Bool
same n f g = each (λ w. eqv (f w) (g w)) (2 ^ n)
