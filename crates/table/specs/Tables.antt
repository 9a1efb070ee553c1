-- Truth tables of 128 bytes: the value at w is bit w mod 8 of byte w div 8.
use Rattle.std.specs.Prelude.{◌≡◌, ℕ, zero, suc, ◌+◌, ◌*◌, ◌/◌, ◌%◌, ◌^◌, ◌<◌, ◌≤◌, Bool, false, Some, None, Option, cond, ◌&&◌, map, nat_lt, slice_index}
use Rattle.std.specs.List.{range_with_len}
use Rattle.store.specs.Fun.{Fn, Same, bit}
use Rattle.table.specs.declared.truths.Form.{Form}
use Rattle.table.specs.declared.truths.Form.TheVariants as form
use Rattle.table.specs.declared.truths.Truths.{Truths}

-- the function of a table
abbrev pub truth : Truths → Fn
truth t w = bit (w % 8) (slice_index t.bytes (w / 8))

-- the number whose bit k is the value of g at w + k, for k below m
unfoldable pub packed : ℕ → ℕ → Fn → ℕ
packed zero w g = 0
packed (suc m) w g = 2 * packed m (suc w) g + cond (g w) 1 0

-- the values of f below 1024
unfoldable pub packed_truths : Fn → Truths
packed_truths f = record { bytes = map (λ j. packed 8 (8 * j) f) (range_with_len 0 128) }

-- f as a function of n variables: false from 2^n on
abbrev pub within : ℕ → Fn → Fn
within n f w = nat_lt w (2 ^ n) && f w

-- the table of f, of n variables
abbrev pub table : ℕ → Fn → Truths
table n f = packed_truths (within n f)

-- the constant that f is as a function of n variables, if it is one
abbrev pub Constant : ℕ → Fn → Option Bool → Type 0
Constant n f (Some b) = Same n f (λ _. b)
Constant n f None = (b : Bool) → Same n f (λ _. b) → ⊥

-- f as a function of n variables, by its constant or its table
abbrev pub FormOf : ℕ → Fn → Form → Type 0
FormOf n f (form.Constant b) = Constant n f (Some b)
FormOf n f (form.Mixed t) = (t ≡ table n f) × Constant n f None

-- a closure whose calls are `post` computes f below m
abbrev pub Computes : ℕ → (ℕ → Bool → Type 0) → Fn → Type 0
Computes m post f = (w : ℕ) (r : Bool) → w < m → post w r → r ≡ f w

-- f is false from m on
abbrev pub EndsAt : ℕ → Fn → Type 0
EndsAt m f = (w : ℕ) → m ≤ w → f w ≡ false
