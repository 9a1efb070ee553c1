-- What holds of each element of a list.
use Rattle.std.proofs.Common.{◌≡◌, List, [], ◌∷◌, ◌++◌, refl, ap}
use Rattle.std.specs.List.{AllByRecursion}

module _ {A : Type 0} (P : A → Type 0) where
  pub all_append : (xs ys : List A) → AllByRecursion P xs → AllByRecursion P ys → AllByRecursion P (xs ++ ys)
  all_append [] ys h k = k
  all_append (x ∷ xs) ys h k = (h.0, all_append xs ys h.1 k)

  pub all_parts : (xs ys : List A) → AllByRecursion P (xs ++ ys) → AllByRecursion P xs × AllByRecursion P ys
  all_parts [] ys h = (tt, h)
  all_parts (x ∷ xs) ys h = let r = all_parts xs ys h.1 in ((h.0, r.0), r.1)

  -- by each place
  pub all_splits : (xs : List A) → ((us : List A) (x : A) (vs : List A) → xs ≡ us ++ x ∷ vs → P x) → AllByRecursion P xs
  all_splits [] h = tt
  all_splits (x ∷ xs) h = (h [] x xs refl, all_splits xs (λ us y vs e. h (x ∷ us) y vs (ap (λ l. x ∷ l) e)))
