-- Bits of a word of 32 bits, as the code sets and reads them.
use Rattle.std.proofs.Common.{◌≡◌, ℕ, zero, suc, ◌+◌, ◌-◌, ◌*◌, ◌/◌, ◌%◌, ◌^◌, ◌<◌, ◌≤◌, Bool, true, false, cond, eqb, refl, ap, ◌∙◌, mod-eq_of_lt, pow-suc, arith}
use mir.Val.{bool_byte}
use lib.Bits.{bit_and, bit_or, and_step, or_step, or_zero_r, and_mask}
use Rattle.std.proofs.lemmas.Nat.{one_shl, pow_pos, pow_below}
use Rattle.std.proofs.lemmas.Bool.Decides.{nat_tests}
use Rattle.store.specs.Fun.{bit, fixed}

-- a number has no bits past its own
pub bit_past : (n i w : ℕ) → w < 2 ^ n → n ≤ i → bit i w ≡ false
bit_past zero zero w l h = let e : w ≡ 0 = omega arith in ap (λ k. eqb (k % 2) 1) e
bit_past zero (suc i) w l h = bit_past zero i (w / 2) (omega arith) (omega arith)
bit_past (suc n) zero w l h = absurd (omega arith)
bit_past (suc n) (suc i) w l h = let p = pow-suc 2 n in bit_past n i (w / 2) (omega arith) (omega arith)

pub or_unit : (i v : ℕ) → bit_or v (2 ^ i) ≡ fixed i true v
or_unit zero v = or_step v 1 ∙ rw (or_zero_r (v / 2)) (omega arith)
or_unit (suc i) v =
    let p = pow-suc 2 i in
    let half : 2 ^ suc i / 2 ≡ 2 ^ i = omega arith in
    let even : 2 ^ suc i % 2 ≡ 0 = omega arith in
    or_step v (2 ^ suc i) ∙ rw (half, even, or_unit i (v / 2)) (omega arith)

pub and_unit : (m i v : ℕ) → i < m → v < 2 ^ m → bit_and v (2 ^ m - 1 - 2 ^ i) ≡ fixed i false v
and_unit zero i v h l = absurd (omega arith)
and_unit (suc m) zero v h l =
    let p = pow-suc 2 m in
    let q = pow_pos m in
    let half : (2 ^ suc m - 1 - 1) / 2 ≡ 2 ^ m - 1 = omega arith in
    let even : (2 ^ suc m - 1 - 1) % 2 ≡ 0 = omega arith in
    let whole : v / 2 % 2 ^ m ≡ v / 2 = mod-eq_of_lt (omega arith) in
    and_step v (2 ^ suc m - 1 - 1) ∙ rw (half, even, and_mask (v / 2) m, whole) (omega arith)
and_unit (suc m) (suc i) v h l =
    let p = pow-suc 2 m in
    let q = pow-suc 2 i in
    let b = pow_below i m (omega arith) in
    let half : (2 ^ suc m - 1 - 2 ^ suc i) / 2 ≡ 2 ^ m - 1 - 2 ^ i = omega arith in
    let odd : (2 ^ suc m - 1 - 2 ^ suc i) % 2 ≡ 1 = omega arith in
    and_step v (2 ^ suc m - 1 - 2 ^ suc i) ∙ rw (half, odd, and_unit m i (v / 2) (omega arith) (omega arith)) (omega arith)

-- a bit that is set twice is as it was set last
fixed_again : (i : ℕ) (t u : Bool) (v : ℕ) → fixed i t (fixed i u v) ≡ fixed i t v
fixed_again zero t u v =
    let c : cond u 1 0 ≤ 1 = grind (arith, nat_tests) in
    let half : fixed zero u v / 2 ≡ v / 2 = omega arith in
    ap (λ k. 2 * k + cond t 1 0) half
fixed_again (suc i) t u v =
    let half : fixed (suc i) u v / 2 ≡ fixed i u (v / 2) = omega arith in
    let odd : fixed (suc i) u v % 2 ≡ v % 2 = omega arith in
    rw (half, odd, fixed_again i t u (v / 2)) refl

-- a truth, as a number, that is set where the bit was cleared
pub or_truth : (i v x : ℕ) (t : Bool) → i < 32 → x ≡ bool_byte t → bit_or (fixed i false v) (x * 2 ^ i % 4294967296) ≡ fixed i t v
or_truth i v x true h e =
    ap (λ k. bit_or (fixed i false v) (k * 2 ^ i % 4294967296)) e
    ∙ ap (bit_or (fixed i false v)) (one_shl i 32 h)
    ∙ or_unit i (fixed i false v)
    ∙ fixed_again i true false v
or_truth i v x false h e =
    let none : x * 2 ^ i % 4294967296 ≡ 0 = rw e (omega arith) in
    ap (bit_or (fixed i false v)) none ∙ or_zero_r (fixed i false v)
