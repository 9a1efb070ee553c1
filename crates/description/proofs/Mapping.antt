-- What a `map_err` and a `?` answer.
use Rattle.std.proofs.Common.{◌≡◌, Ok, Err, Result, MatchResult, IsErrAnd, sym, refl, ◌∙◌, ap, subst}
use Rattle.std.proofs.lemmas.Result.{err_from_is_err_and}
use Rattle.description.proofs.Checks.{never}

module _ {X E D : Type 0} (P : E → D → Type 0) where
  -- what a `map_err` was of
  abbrev Mapped : Result X E → Result X D → Type 0
  Mapped r s = MatchResult r (λ x. s ≡ Ok x) (λ e. IsErrAnd s (P e))

  pub was_ok : (r : Result X E) (s : Result X D) {x : X} → Mapped r s → s ≡ Ok x → r ≡ Ok x
  was_ok (Ok y) s {x = x} h e = let is : y ≡ x = cc in ap Ok is
  was_ok (Err y) s h e = let k = (err_from_is_err_and s h).1 in never (cc)

  pub was_err : (r : Result X E) (s : Result X D) {d : D} → Mapped r s → s ≡ Err d → (e : E) × (r ≡ Err e) × P e d
  was_err (Ok y) s h e = never (cc)
  was_err (Err y) s {d = d} h e =
      let k = err_from_is_err_and s h in
      let is : k.0 ≡ d = cc in
      (y, refl, subst (P y) is k.2)

-- the exit of a `?`
pub exits : {X D : Type 0} (P : X → Type 0) (Q : D → Type 0) (r : Result X D) {d e : D} → IsErrAnd r (λ y. y ≡ d) → d ≡ e → Q e → MatchResult r P Q
exits P Q r h is q =
    let k = err_from_is_err_and r h in
    subst (λ s. MatchResult s P Q) (sym k.1) (subst Q (sym (k.2 ∙ is)) q)
