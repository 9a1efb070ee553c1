-- Worked circuits, from the bytes of their files and the texts of their claims.
use Rattle.std.specs.Prelude.{◌≡◌, ℕ, zero, suc, ◌*◌, ◌/◌, ◌%◌, ◌^◌, Bool, true, false, not, ◌||◌, List, [], ◌∷◌, codes, slice_index}
use Prim.Native.String.{String}
use Rattle.store.specs.Fun.{Fn, some}
use Rattle.circuit.specs.Files.{bytes_of}
use Rattle.runs.specs.Systems.{System}
use Rattle.runs.specs.Search.{leads_into, inside, unsafe, safe, open_yet, verdict_by, verdict, Trace}
use Rattle.runs.specs.Functions.{register, spread, both, either, composed_all, quantified}
use Rattle.runs.specs.Models.{Model, system, Describes}
use Rattle.runs.specs.Valuations.{claim_fn, next_fn, set_fn}

-- sizes, left literals, right literals: one register, which begins as 0 and takes over the input
abbrev pub F : List ℕ
F = bytes_of (1 ∷ 1 ∷ 2 ∷ 4 ∷ 3 ∷ 4 ∷ 3 ∷ [])

-- two registers, which are swapped; the first begins as 1 and the second as 0
abbrev pub W : List ℕ
W = bytes_of (2 ∷ 0 ∷ 3 ∷ 4 ∷ 2 ∷ 2 ∷ 4 ∷ 2 ∷ 5 ∷ [])

-- two registers, which begin as 0: the first takes over the input, and the second the first
abbrev pub D : List ℕ
D = bytes_of (2 ∷ 1 ∷ 3 ∷ 6 ∷ 2 ∷ 3 ∷ 6 ∷ 2 ∷ 5 ∷ [])

-- the file, with the assumption h and the property p, is a model of which P holds
abbrev pub With : List ℕ → String → String → (Model → Type 0) → Type 0
With file h p P = (m : Model) × Describes 24 file (codes h) (codes p) m × P m

abbrev pub row : List ℕ → ℕ → ℕ
row xs t = slice_index xs t

-- wrong: the registers replaced by next values one after the other, without copies
abbrev pub rushed : Model → ℕ → Fn
rushed m zero = set_fn m 0
rushed m (suc j) =
    either
    (quantified (2 * m.circuit.registers) (both (composed_all register (next_fn m) (rushed m j) m.circuit.registers) (claim_fn m m.assumption)) m.circuit.inputs)
    (rushed m j)

abbrev pub rushed_set : Model → ℕ → ℕ → Bool
rushed_set m j q = rushed m j (spread m.circuit.registers q 0)

-- wrong: the property without the assumption at the last step
abbrev pub unguarded_set : System → ℕ → ℕ → Bool
unguarded_set s zero q = some (λ v. not (s.property q v)) (2 ^ s.inputs)
unguarded_set s (suc j) q = unguarded_set s j q || some (leads_into s (unguarded_set s j) q) (2 ^ s.inputs)

pub record UnsafeInOne (m : Model) : Type 0 where
  pub opens : verdict (system m) 0 ≡ open_yet
  pub settles : verdict (system m) 1 ≡ unsafe 1
  pub trace : Trace (system m) 1 (row (0 ∷ 1 ∷ [])) (row (1 ∷ 0 ∷ []))

pub record SafeInOne (m : Model) : Type 0 where
  pub opens : verdict (system m) 0 ≡ open_yet
  pub settles : verdict (system m) 1 ≡ safe

pub record Worked : Type 0 where
  pub follows : With F "1" "!s0" UnsafeInOne
  pub held_low : With F "!v0" "!s0" (λ m. SafeInOne m × (inside (system m) 1 0 ≡ true) × (inside (system m) 1 1 ≡ false))
  pub at_once : With F "1" "s0" (λ m. (verdict (system m) 0 ≡ unsafe 0) × Trace (system m) 0 (row (0 ∷ [])) (row (0 ∷ [])))
  pub swapped : With W "1" "!s0 | !s1" (λ m. SafeInOne m
      × (inside (system m) 1 0 ≡ true) × (inside (system m) 1 1 ≡ true) × (inside (system m) 1 2 ≡ true) × (inside (system m) 1 3 ≡ false))
  pub delayed : With D "1" "!s1" (λ m. (verdict (system m) 0 ≡ open_yet) × (verdict (system m) 1 ≡ open_yet) × (verdict (system m) 2 ≡ unsafe 2)
      × Trace (system m) 2 (row (0 ∷ 1 ∷ 2 ∷ [])) (row (1 ∷ 0 ∷ 0 ∷ [])))
  -- the two wrong ways come out unsafe where the verdict is safe
  pub hasty : With W "1" "!s0 | !s1" (λ m. SafeInOne m
      × (verdict_by (system m) (rushed_set m) 0 ≡ open_yet) × (verdict_by (system m) (rushed_set m) 1 ≡ unsafe 1))
  pub careless : With F "!s0" "!s0" (λ m. SafeInOne m
      × (verdict_by (system m) (unguarded_set (system m)) 0 ≡ open_yet) × (verdict_by (system m) (unguarded_set (system m)) 1 ≡ unsafe 1))
