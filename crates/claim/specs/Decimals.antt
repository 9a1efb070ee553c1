-- Numbers and their decimal spellings.
use Rattle.std.specs.Prelude.{◌≡◌, ◌↔◌, ℕ, ◌+◌, ◌*◌, ◌^◌, ◌<◌, List, [], ◌∷◌, ◌++◌, decimal}
use Rattle.claim.specs.Grammar.{value}
use Rattle.claim.specs.Spelling.{Proper}

-- the digits of n: a number below ten is its digit, and d after n is 10 n + d
pub data Written : ℕ → List ℕ → Type 0 where
  one_digit : {d : ℕ} → d < 10 → Written d ((48 + d) ∷ [])
  more_digits : {n d : ℕ} {ds : List ℕ} → 0 < n → Written n ds → d < 10 → Written (n * 10 + d) (ds ++ ((48 + d) ∷ []))

pub record Decimals : Type 0 where
  -- each number is written in one way, and that is what its digits are read as
  pub written : (n : ℕ) → (ds : List ℕ) × Written n ds × ((es : List ℕ) → Written n es → es ≡ ds)
  pub value_of : (n : ℕ) (ds : List ℕ) → Written n ds → value ds ≡ n
  -- proper numbers are what is so written
  pub proper : (ds : List ℕ) → Proper ds ↔ Written (value ds) ds
  -- and the library writes this too, as far as it writes numbers
  pub printed : (n : ℕ) → n < 10 ^ 64 → Written n (decimal n)
