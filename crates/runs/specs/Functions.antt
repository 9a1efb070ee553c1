-- One step back in functions of truth values: register i is variable 2i, its copy for the next value is 2i + 1, input j is 2n + j.
use Rattle.std.specs.Prelude.{ℕ, zero, suc, ◌+◌, ◌*◌, ◌/◌, ◌%◌, Bool, true, false, not, ◌&&◌, ◌||◌}
use Rattle.store.specs.Fun.{Fn, bit, fix}
use Rattle.runs.specs.Numbers.{number}

abbrev pub register : ℕ → ℕ
register i = 2 * i

abbrev pub copy : ℕ → ℕ
copy i = 2 * i + 1

abbrev pub input : ℕ → ℕ → ℕ
input n j = 2 * n + j

-- the state and the input of a valuation
abbrev pub state_of : ℕ → ℕ → ℕ
state_of n w = number n (λ i. bit (register i) w)

abbrev pub input_of : ℕ → ℕ → ℕ → ℕ
input_of n m w = number m (λ j. bit (input n j) w)

-- a set of states, as a function of the registers
abbrev pub on_states : ℕ → (ℕ → Bool) → Fn
on_states n set w = set (state_of n w)

-- a valuation of a state and an input: register i at 2i, 0 at the copies, input j at 2n + j
abbrev pub spread : ℕ → ℕ → ℕ → ℕ
spread zero q v = v
spread (suc n) q v = 4 * spread n (q / 2) v + q % 2

abbrev pub negated : Fn → Fn
negated f w = not (f w)

abbrev pub both : Fn → Fn → Fn
both f g w = f w && g w

abbrev pub either : Fn → Fn → Fn
either f g w = f w || g w

-- f with g put for variable x, from its two cofactors
abbrev pub composed : ℕ → Fn → Fn → Fn
composed x g f = either (both g (fix x true f)) (both (negated g) (fix x false f))

-- f with g i put for variable x i, for each i below n in turn
abbrev pub composed_all : (ℕ → ℕ) → (ℕ → Fn) → Fn → ℕ → Fn
composed_all x g f zero = f
composed_all x g f (suc i) = composed (x i) (g i) (composed_all x g f i)

-- f under some values of the m variables from x on, from the two cofactors by each in turn
abbrev pub quantified : ℕ → Fn → ℕ → Fn
quantified x f zero = f
quantified x f (suc j) = either (fix (x + j) false (quantified x f j)) (fix (x + j) true (quantified x f j))

-- f over the copies in place of the registers, and then over the next values in place of the copies
abbrev pub copied : ℕ → Fn → Fn
copied n f = composed_all register (λ i. bit (copy i)) f n

abbrev pub pre_image : ℕ → (ℕ → Fn) → Fn → Fn
pre_image n next f = composed_all copy next (copied n f) n

-- the first set, from the assumption h and the property p
abbrev pub first_of : ℕ → ℕ → Fn → Fn → Fn
first_of n m h p = quantified (2 * n) (both (negated p) h) m

-- the set after f
abbrev pub back_of : ℕ → ℕ → (ℕ → Fn) → Fn → Fn → Fn
back_of n m next h f = either (quantified (2 * n) (both (pre_image n next f) h) m) f
