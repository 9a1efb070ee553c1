-- A set of a search meets Init exactly if the number of both is not 0.
use Rattle.std.proofs.Common.{◌≡◌, ℕ, ◌*◌, ◌≤◌, true, false, sym, ap, ◌∙◌, ⊎_elim}
use Rattle.std.proofs.lemmas.Bool.{cases_Bool, not-true, not_from_false}
use Rattle.store.specs.Meaning.{Shown, Lawful}
use Rattle.making.specs.Making.{Means}
use Rattle.runs.specs.Functions.{both}
use Rattle.runs.specs.Models.{Model, system, Valid}
use Rattle.runs.specs.Search.{bad, meets_init}
use Rattle.runs.specs.Valuations.{init_fn, set_fn}
use Rattle.runs.proofs.Models.{functions_exact}

module _ (m : Model) (valid : Valid m) (t : Shown) (l : Lawful t) (fit : 2 * m.circuit.registers ≤ t.vars) (i b : ℕ) (q : Means t b (both (set_fn m i) (init_fn m))) where
  pub misses : b ≡ 0 → meets_init (system m) (bad (system m) i) ≡ false
  misses e = not-true _ (((functions_exact m valid).stepped.misses t.vars i fit).1 (λ w h. sym (q.same w h) ∙ ap (λ x. t.value x w) e ∙ l.no.1 w h))

  pub meets : (b ≡ 0 → ⊥) → meets_init (system m) (bad (system m) i) ≡ true
  meets e = ⊎_elim (λ p. p)
      (λ p. absurd (e (l.apart b 0 q.held l.no.0
      (λ w h. q.same w h ∙ ((functions_exact m valid).stepped.misses t.vars i fit).0 (not_from_false _ p) w h ∙ sym (l.no.1 w h)))))
      (cases_Bool _)
