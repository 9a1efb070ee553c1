-- From a state inside no permitted walk of any length breaks the property.
use Rattle.std.proofs.Common.{◌≡◌, ℕ, zero, suc, ◌≤◌, Bool, true, false, not, Decides, sym, refl, subst, ⊎_elim, arith}
use Rattle.std.proofs.lemmas.Bool.{both_ways, cases_Bool, not-true, not_from_false, not_from_true}
use Rattle.runs.specs.Systems.{System, State, Closed, Walk, Permitted, BreakingFrom, Step}
use Rattle.runs.specs.Search.{bad, inside}
use Rattle.runs.specs.Verdicts.{Safe, FirstSet}
use Rattle.runs.proofs.Sets.{first_tells, bad_later, bad_walk}

module _ (s : System) (j : ℕ) (safe : Safe s j) where
  -- a permitted walk that begins inside stays there
  walk_inside :
      (d : ℕ) (q v : ℕ → ℕ)
      → Walk s d q v
      → Permitted s d q v
      → inside s j (q 0) ≡ true
      → (t : ℕ)
      → t ≤ d
      → inside s j (q t) ≡ true
  walk_inside d q v w p i zero l = i
  walk_inside d q v w p i (suc t) l =
      let step : Step s (q t) (v t) (q (suc t)) = record {
        state = w.states t (omega arith);
        input = w.inputs t (omega arith);
        permitted = p t (omega arith);
        leads = w.moves t l;
      } in
      safe.stays (q t) (v t) (q (suc t)) (walk_inside d q v w p i t (omega arith)) step

  -- one that breaks the property ends in the set, however long it is
  walk_in_set : (d x : ℕ) → BreakingFrom s d x → bad s j x ≡ true
  walk_in_set d x w = ⊎_elim (λ b. b) (λ f. absurd (both_ways _ (ends_inside f) ends_in_set)) (cases_Bool (bad s j x))
    where
      ends_in_set : bad s j (w.states d) ≡ true
      ends_in_set =
          let last : FirstSet s (w.states d) =
          (w.inputs d, w.walk.inputs d (omega arith), (w.permitted d (omega arith), w.breaks)) in
          bad_later s 0 j (w.states d) (omega arith) ((first_tells s (w.states d)).1 last)

      ends_inside : bad s j x ≡ false → bad s j (w.states d) ≡ false
      ends_inside f =
          let here = subst (λ i. inside s j i ≡ true) (sym w.from) (not_from_false (bad s j x) f) in
          not-true (bad s j (w.states d)) (walk_inside d w.states w.inputs w.walk w.permitted here d (omega arith))

  -- the answer is no exactly when such a walk begins in the state
  pub inside_tells : Closed s → (q : ℕ) → State s q → Decides (not (inside s j q)) ((d : ℕ) × BreakingFrom s d q)
  inside_tells closed q h = (
    λ n. let w = bad_walk s closed j q h (twice (bad s j q) n) in (w.0, w.2),
    λ w. not_from_false (inside s j q) (not_from_true (bad s j q) (walk_in_set w.0 q w.1)),
  )
    where
      twice : (b : Bool) → not (not b) ≡ true → b ≡ true
      twice true e = refl
      twice false e = e
