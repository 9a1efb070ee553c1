-- Single bits of a number.
use Rattle.std.proofs.Common.{◌≡◌, ℕ, zero, suc, ◌/◌, ◌%◌, ◌^◌, ◌<◌, ◌≤◌, Bool, eqb, sym, ◌∙◌, ⊎_elim, pow-suc, arith}
use Rattle.std.proofs.lemmas.Bool.{cases_eq, eqb-true, eq-eqb}
use Rattle.store.specs.Fun.{bit, fixed}

parity : (a b : ℕ) → eqb (a % 2) 1 ≡ eqb (b % 2) 1 → a % 2 ≡ b % 2
parity a b e = ⊎_elim
    (λ p. p ∙ sym (eqb-true (b % 2) 1 (sym e ∙ eq-eqb (a % 2) 1 p)))
    (λ p. ⊎_elim (λ q. absurd (p (eqb-true (a % 2) 1 (e ∙ eq-eqb (b % 2) 1 q)))) (λ q. omega arith) (cases_eq (b % 2) 1))
    (cases_eq (a % 2) 1)

-- a number below 2^n is known by its n bits
pub bit_ext : (n a b : ℕ) → a < 2 ^ n → b < 2 ^ n → ((k : ℕ) → k < n → bit k a ≡ bit k b) → a ≡ b
bit_ext zero a b h l e = omega arith
bit_ext (suc n) a b h l e =
    let p = pow-suc 2 n in
    let q = parity a b (e 0 (omega arith)) in
    let r = bit_ext n (a / 2) (b / 2) (omega arith) (omega arith) (λ k lt. e (suc k) (omega arith)) in
    omega arith

pub fixed_ge : (n i : ℕ) (t : Bool) (w : ℕ) → i < n → 2 ^ n ≤ w → 2 ^ n ≤ fixed i t w
fixed_ge zero i t w h l = absurd (omega arith)
fixed_ge (suc n) zero t w h l = let p = pow-suc 2 n in omega arith
fixed_ge (suc n) (suc i) t w h l =
    let p = pow-suc 2 n in
    let r = fixed_ge n i t (w / 2) (omega arith) (omega arith) in
    omega arith
