-- The table of a function, and the function of a table.
use Rattle.std.proofs.Common.{◌≡◌, ℕ, zero, suc, ◌+◌, ◌-◌, ◌*◌, ◌/◌, ◌%◌, ◌^◌, ◌<◌, ◌≤◌, Bool, true, false, cond, ◌&&◌, List, length, get_or, ◌≢◌, ltb, sym, subst, refl, ap, ◌∙◌, ap₂, ⊎_elim, pow-suc, arith, pow_mono}
use mathlib.Core.Path.{fun_ext}
use mir.Val.{bool_byte}
use Rattle.std.specs.Array.{IsFromFnResultFrom}
use Rattle.std.specs.Bool.{MatchBool, then_some}
use Rattle.std.specs.Fn.{Called}
use Rattle.std.specs.List.{range_with_len, AllWithin, HoldsAt}
use Rattle.std.proofs.lemmas.List.{length-map}
use Rattle.std.proofs.lemmas.List.FromFn.{length-range_with_len, get_or-range_with_len, get_or-map-range_with_len}
use Rattle.std.proofs.lemmas.Bool.{cases_Bool, cases_lt, ltb-true, lt-ltb, le-ltb}
use Rattle.std.proofs.lemmas.Nat.{pow_pos}
use denote.Param.Members.{Mut}
use Rattle.store.specs.Fun.{Fn, bit, Same}
use Rattle.table.specs.Tables.{truth, packed, packed_truths, within, table, Constant, EndsAt}

first_bit : (t : Bool) (p : ℕ) → bit 0 (2 * p + cond t 1 0) ≡ t
first_bit true p = let e : (2 * p + 1) % 2 ≡ 1 = omega arith in rw e refl
first_bit false p = let e : (2 * p + 0) % 2 ≡ 0 = omega arith in rw e refl

other_bits : (t : Bool) (p : ℕ) → (2 * p + cond t 1 0) / 2 ≡ p
other_bits true p = omega arith
other_bits false p = omega arith

packed_lt : (m w : ℕ) (g : Fn) → packed m w g < 2 ^ m
unfolding packed
packed_lt zero w g = omega arith
packed_lt (suc m) w g = let q = pow-suc 2 m in let r = packed_lt m (suc w) g in let e = other_bits (g w) (packed m (suc w) g) in omega arith

pub packed_none : (w : ℕ) (g : Fn) → packed 0 w g ≡ 0
unfolding packed
packed_none w g = refl

-- where g is false on, bits are 0
pub packed_past : (m w : ℕ) (g : Fn) → EndsAt w g → packed m w g ≡ 0
unfolding packed
packed_past zero w g h = refl
packed_past (suc m) w g h = rw (packed_past m (suc w) g (λ v l. h v (omega arith)), h w (omega arith)) refl

pub bool_low : (t : Bool) → bool_byte t ≤ 1
bool_low true = omega arith
bool_low false = omega arith

bool_byte_is : (t : Bool) → bool_byte t ≡ cond t 1 0
bool_byte_is true = refl
bool_byte_is false = refl

-- one bit more
pub packed_more : (j k : ℕ) (g : Fn) (b : ℕ) (t : Bool) → 0 < k → k ≤ 8 → b ≡ packed (8 - k) (8 * j + k) g → t ≡ g (8 * j + (k - 1))
    → 2 * b + bool_byte t ≡ packed (8 - (k - 1)) (8 * j + (k - 1)) g
unfolding packed
packed_more j k g b t h l e q =
    let m : 8 - (k - 1) ≡ suc (8 - k) = omega arith in
    let w : suc (8 * j + (k - 1)) ≡ 8 * j + k = omega arith in
    rw (m, w) (ap₂ (λ x y. 2 * x + y) e (bool_byte_is t ∙ ap (λ (y : Bool). cond y 1 0) q))

bit_packed : (m w k : ℕ) (g : Fn) → k < m → bit k (packed m w g) ≡ g (w + k)
unfolding packed
bit_packed zero w k g h = absurd (omega arith)
bit_packed (suc m) w zero g h = let e : w + 0 ≡ w = omega arith in first_bit (g w) (packed m (suc w) g) ∙ ap g (sym e)
bit_packed (suc m) w (suc k) g h =
    let e : suc w + k ≡ w + suc k = omega arith in
    ap (bit k) (other_bits (g w) (packed m (suc w) g)) ∙ bit_packed m (suc w) k g (omega arith) ∙ ap g e

-- the bits of the table of f
bit_table : (n : ℕ) (f : Fn) (w : ℕ) → w < 8 * 128 → truth (table n f) w ≡ within n f w
unfolding packed_truths
bit_table n f w h =
    let low : w / 8 < 128 = omega arith in
    let e : 8 * (w / 8) + w % 8 ≡ w = omega arith in
    ap (bit (w % 8)) (get_or-map-range_with_len (λ j. packed 8 (8 * j) (within n f)) 0 128 (w / 8) (w / 8) 0 low (omega arith))
    ∙ bit_packed 8 (8 * (w / 8)) (w % 8) (within n f) (omega arith) ∙ ap (within n f) e

-- a function below 2^n is its table's
pub truth_table : (n : ℕ) (f : Fn) → n ≤ 10 → Same n (truth (table n f)) f
truth_table n f few w h =
    let p : 2 ^ n ≤ 2 ^ 10 = pow_mono few in
    bit_table n f w (omega arith) ∙ rw (lt-ltb w (2 ^ n) h) refl

-- and from 2^n on its bits are 0
pub table_past : (n : ℕ) (f : Fn) (w : ℕ) → 2 ^ n ≤ w → w < 8 * 128 → truth (table n f) w ≡ false
table_past n f w h low = bit_table n f w low ∙ rw (le-ltb w (2 ^ n) h) refl

-- it has 128 bytes
pub table_size : (n : ℕ) (f : Fn) → length (table n f).bytes ≡ 128
unfolding packed_truths
table_size n f = length-map (range_with_len 0 128) (λ j. packed 8 (8 * j) (within n f)) ∙ length-range_with_len 0 128

-- within n, f ends at 2^n
pub within_ends : (n : ℕ) (f : Fn) → EndsAt (2 ^ n) (within n f)
within_ends n f w h = rw (le-ltb w (2 ^ n) h) refl

within_same : (n : ℕ) (f g : Fn) → Same n f g → within n f ≡ within n g
within_same n f g e = fun_ext (λ w. ⊎_elim
    (λ y. ap (λ b. ltb w (2 ^ n) && b) (e w (ltb-true w (2 ^ n) y)))
    (λ z. rw z refl)
    (cases_Bool (ltb w (2 ^ n))))

-- a table goes by the function
pub table_same : (n : ℕ) (f g : Fn) → Same n f g → table n f ≡ table n g
table_same n f g e = ap packed_truths (within_same n f g e)

-- the constant that g is, by whether its values from 1 on are its first
pub constant_told : (n : ℕ) (g : Fn) (first r : Bool) → first ≡ g 0
    → MatchBool r (AllWithin (λ w. w < 2 ^ n → g w ≡ first) (range_with_len 1 (2 ^ n - 1)) 0 (length (range_with_len 1 (2 ^ n - 1))))
    ((k : ℕ) × (k < length (range_with_len 1 (2 ^ n - 1))) × HoldsAt (λ w. w < 2 ^ n → g w ≢ first) (range_with_len 1 (2 ^ n - 1)) k)
    → Constant n g (then_some r first)
constant_told n g first true e all = λ w h. at w h
  where
    at : (w : ℕ) → w < 2 ^ n → g w ≡ first
    at zero h = sym e
    at (suc k) h =
        let l = length-range_with_len 1 (2 ^ n - 1) in
        let q = get_or-range_with_len 1 (2 ^ n - 1) k 0 (omega arith) in
        ap g (omega (arith, q)) ∙ all k 0 (omega arith) (omega (arith, l)) (omega (arith, q))
constant_told n g first false e (k, low, other) =
    let l = length-range_with_len 1 (2 ^ n - 1) in
    let p = pow_pos n in
    let q = get_or-range_with_len 1 (2 ^ n - 1) k 0 (omega (arith, l)) in
    λ b s. other 0 (omega (arith, l, q)) (s _ (omega (arith, l, q)) ∙ sym (s 0 (omega arith)) ∙ sym e)

-- what the calls in turn gave, where each gives h
pub from_fn_at : {F B : Type 0} (g : Mut F (ℕ × Unit {0}) B) (f : F) (h : ℕ → B) → ((i : ℕ) (y : B) (q : F) → Called g f (i, tt) y q → (q ≡ f) × (y ≡ h i))
    → (ys : List B) (d : B) (n i : ℕ) → IsFromFnResultFrom g f ys i n → (k : ℕ) → i ≤ k → k < i + n → get_or ys k d ≡ h k
from_fn_at g f h step ys d zero i made k low high = absurd (omega arith)
from_fn_at g f h step ys d (suc n) i (q, y, at, called, rest) k low high =
    let s = step i y q called in
    ⊎_elim
    (λ here. let e : k ≡ i = omega arith in subst (λ (j : ℕ). get_or ys j d ≡ h j) (sym e) (at.1 d ∙ s.1))
    (λ later. from_fn_at g f h step ys d n (i + 1) (subst (λ (p : _). IsFromFnResultFrom g p ys (i + 1) n) s.0 rest) k later (omega arith))
    (cases_lt k (i + 1))
