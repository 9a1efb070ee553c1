-- Powers, and the valuation of a state and an input one register at a time.
use Rattle.std.proofs.Common.{◌≡◌, ℕ, zero, suc, ◌+◌, ◌-◌, ◌*◌, ◌/◌, ◌%◌, ◌^◌, ◌<◌, ◌≤◌, ap, ◌∙◌, zero-lt-suc, pow-suc, arith, pow_mono}
use native.Mathlib.Nat.{pow-le-pow_right}
use Rattle.runs.specs.Functions.{spread}

pub spread_step : (n q v : ℕ) → 0 < n → 4 * spread (n - 1) (q / 2) v + q % 2 ≡ spread n q v
spread_step zero q v l = absurd (omega arith)
spread_step (suc n) q v l = ap (λ k. 4 * spread k (q / 2) v + q % 2) e
  where
    e : suc n - 1 ≡ n
    e = omega arith

-- 4^n for the small n
pub four : (n : ℕ) → 0 < n → 4 ^ n ≡ 4 ^ (n - 1) * 4
four zero l = absurd (omega arith)
four (suc n) l = pow-suc 4 n ∙ ap (λ k. 4 ^ k * 4) e
  where
    e : n ≡ suc n - 1
    e = omega arith

pub four_few : (n : ℕ) → n ≤ 7 → 4 ^ n ≤ 16384
four_few n l = pow-le-pow_right (zero-lt-suc 3) l

pub shifted : (n : ℕ) → n ≤ 8 → (1 * 2 ^ n) % 65536 ≡ 2 ^ n
shifted n l = let p = pow_mono {i = n} {j = 8} l in omega arith
