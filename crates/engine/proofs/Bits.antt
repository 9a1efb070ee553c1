-- A number from its highest bits.
use Rattle.std.proofs.Common.{◌≡◌, ℕ, zero, suc, ◌+◌, ◌*◌, ◌/◌, ◌%◌, ◌^◌, ◌<◌, ◌≤◌, Bool, true, false, eqb, Ok, Result, refl, ap, ◌∙◌, add-one, pow-suc, pow_mono, arith}
use Rattle.std.proofs.lemmas.Nat.{shr-shr}
use mir.Val.{bool_byte}
use Rattle.store.proofs.Bit.{bit_shift}
use Rattle.store.specs.Fun.{bit}
use Rattle.making.specs.Faults.{Fault}

pub one : (b : Bool) → bool_byte b < 2
one true = omega arith
one false = omega arith

odd : (r : ℕ) → r < 2 → bool_byte (eqb r 1) ≡ r
odd zero h = refl
odd (suc zero) h = refl
odd (suc (suc r)) h = absurd (omega arith)

halves : (y z b : ℕ) → y / 2 ≡ z → b ≡ y % 2 → 2 * z + b ≡ y
halves y z b p q = omega arith

-- one bit more
pub more : (k x : ℕ) (b : Bool) → ◌≡◌ {A = Result Bool Fault} (Ok b) (Ok (bit k x)) → 2 * (x / 2 ^ suc k) + bool_byte b ≡ x / 2 ^ k
more k x b e =
    let s : b ≡ bit k x = cc in
    halves (x / 2 ^ k) (x / 2 ^ suc k) (bool_byte b) (shr-shr x k 1 ∙ ap (λ n. x / 2 ^ n) (add-one k)) (ap bool_byte (s ∙ bit_shift k x) ∙ odd (x / 2 ^ k % 2) (omega arith))

pub more_below : (t next : ℕ) (b : Bool) → next < 2 ^ t → 2 * next + bool_byte b < 2 ^ suc t
more_below t next b l = let p = pow-suc 2 t in let q = one b in omega arith

pub room : (t next : ℕ) → t ≤ 7 → next < 2 ^ t → next < 128
room t next h l = let p = pow_mono {i = t} {j = 7} h in omega arith
