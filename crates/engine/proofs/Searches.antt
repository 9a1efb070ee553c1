-- A search from 0 on, one test after the other.
use Rattle.std.proofs.Common.{◌≡◌, ℕ, ◌+◌, ◌<◌, Bool, true, false, Ok, Result, below_more}
use Rattle.making.specs.Faults.{Fault}
use Rattle.runs.specs.Search.{Least}

module _ (f : ℕ → Bool) (x : ℕ) (a : Bool) (told : ◌≡◌ {A = Result Bool Fault} (Ok a) (Ok (f x))) (before : (y : ℕ) → y < x → f y ≡ false) where
  pub found_least : (n : ℕ) → x < n → a ≡ true → Least n f x
  found_least n l e = record { below = l; holds = cc; first = before }

  pub not_yet : a ≡ false → (y : ℕ) → y < x + 1 → f y ≡ false
  not_yet e = let h : f x ≡ false = cc in below_more (λ y. f y ≡ false) x before h
