-- What a verdict says of runs.
use Rattle.std.proofs.Common.{◌≡◌, ℕ, zero, suc, ◌^◌, ◌<◌, ◌≤◌, Bool, true, false, cond, sym, refl, ◌∙◌, subst, ⊎_elim, eq-or-lt_of_le, arith, pow_pos}
use Rattle.std.proofs.lemmas.Bool.{both_ways, cases_Bool, cases_lt, not-true, not_from_false, cond-true, cond-false}
use Rattle.std.proofs.lemmas.Bool.Decides.{not_from_Decides}
use Rattle.store.specs.Fun.{Same}
use Rattle.runs.specs.Systems.{System, State, Closed, Walk, Permitted, Broken, Unbroken, BreakingFrom, Step}
use Rattle.runs.specs.Search.{bad, meets_init, stable, unsafe, safe, open_yet, verdict_by, verdict, Reached}
use Rattle.runs.specs.Verdicts.{Safe, Unsafe, Open, VerdictsMean}
use Rattle.runs.proofs.Some.{if_not}
use Rattle.runs.proofs.Counts.{count, count_le, count_more}
use Rattle.runs.proofs.Sets.{first_tells, next_tells, meets_tells, stable_tells, bad_more, bad_later, step_back, walk_bad, bad_walk}

-- the two tests behind a verdict
tests_unsafe : (a b : Bool) (j d : ℕ) → cond a (unsafe j) (cond b safe open_yet) ≡ unsafe d → (a ≡ true) × (d ≡ j)
tests_unsafe true b j d e = (refl, cc)
tests_unsafe false true j d e = let z : ◌≡◌ {A = ℕ} 0 1 = cc in absurd (omega arith)
tests_unsafe false false j d e = let z : ◌≡◌ {A = ℕ} 0 1 = cc in absurd (omega arith)

tests_safe : (a b : Bool) (j : ℕ) → cond a (unsafe j) (cond b safe open_yet) ≡ safe → (a ≡ false) × (b ≡ true)
tests_safe true b j e = let z : ◌≡◌ {A = ℕ} 0 1 = cc in absurd (omega arith)
tests_safe false true j e = (refl, refl)
tests_safe false false j e = let z : ◌≡◌ {A = ℕ} 0 1 = cc in absurd (omega arith)

tests_open : (a b : Bool) (j : ℕ) → cond a (unsafe j) (cond b safe open_yet) ≡ open_yet → (a ≡ false) × (b ≡ false)
tests_open true b j e = let z : ◌≡◌ {A = ℕ} 0 1 = cc in absurd (omega arith)
tests_open false true j e = let z : ◌≡◌ {A = ℕ} 0 1 = cc in absurd (omega arith)
tests_open false false j e = (refl, refl)

module _ (s : System) where
  pub unsafe_meets : (j d : ℕ) → verdict s j ≡ unsafe d → (meets_init s (bad s j) ≡ true) × (d ≡ j)
  unfolding verdict_by
  unsafe_meets j d e = tests_unsafe (meets_init s (bad s j)) (stable s (bad s) j) j d e

  open_tests : (j : ℕ) → verdict s j ≡ open_yet → (meets_init s (bad s j) ≡ false) × (stable s (bad s) j ≡ false)
  unfolding verdict_by
  open_tests j e = tests_open (meets_init s (bad s j)) (stable s (bad s) j) j e

  -- the set of an open verdict holds no initial state
  pub open_apart : (j : ℕ) → verdict s j ≡ open_yet → (q : ℕ) → State s q → s.init q ≡ true → bad s j q ≡ false
  open_apart j e q h i = if_not (bad s j q) (λ b. not_from_Decides (meets_init s (bad s j)) (meets_tells s j) (open_tests j e).0 (q, h, (i, b)))

  broken_meets : (d : ℕ) → Broken s d → meets_init s (bad s d) ≡ true
  broken_meets d r =
      let b = r.2 in
      (meets_tells s d).1 (r.0 0, b.run.walk.states 0 (omega arith), (b.run.initial, walk_bad s d r.0 r.1 b.run.walk b.permitted b.breaks))

  apart_unbroken : (d : ℕ) → meets_init s (bad s d) ≡ false → Unbroken s d
  apart_unbroken d e r = both_ways (meets_init s (bad s d)) e (broken_meets d r)

  open_unbroken : (d : ℕ) → verdict s d ≡ open_yet → Unbroken s d
  open_unbroken d e = apart_unbroken d (open_tests d e).0

  -- a walk from an initial state is a run
  from_broken : (d q : ℕ) → s.init q ≡ true → BreakingFrom s d q → Broken s d
  from_broken d q i w = (
    w.states,
    w.inputs,
    record {
      run = record { walk = w.walk; initial = subst (λ x. s.init x ≡ true) (sym w.from) i };
      permitted = w.permitted;
      breaks = w.breaks;
    },
  )

  unsafely : Closed s → (j : ℕ) → Reached s j → meets_init s (bad s j) ≡ true → Unsafe s j
  unsafely closed j reached e =
      let m = (meets_tells s j).0 e in
      let w = bad_walk s closed j m.0 m.1 m.2.1 in
      let r = from_broken w.0 m.0 m.2.0 w.2 in
      ⊎_elim
      (λ p. record { broken = subst (Broken s) p r; sooner = λ i l. open_unbroken i (reached i l) })
      (λ l. absurd (open_unbroken w.0 (reached w.0 l) r))
      (eq-or-lt_of_le w.1)

  exactly : (j : ℕ) → Unsafe s j → verdict s j ≡ unsafe j
  unfolding verdict_by
  exactly j u = cond-true (meets_init s (bad s j)) _ _ (broken_meets j u.broken)

  -- no permitted step leads into a set that is the same as the one before
  outside_stays : (j : ℕ) → stable s (bad s) j ≡ true → (q v q' : ℕ) → State s q' → bad s j q ≡ false → Step s q v q' → bad s j q' ≡ false
  unfolding stable
  outside_stays zero e q v q' h b t = absurd (both_ways false refl e)
  outside_stays (suc i) e q v q' h b t = if_not (bad s (suc i) q') (λ p.
      let p' : bad s i q' ≡ true = sym ((stable_tells s i).0 e q' h) ∙ p in
      both_ways (bad s (suc i) q) b (step_back s i q v q' t p'))

  module _ (closed : Closed s) (j : ℕ) (st : stable s (bad s) j ≡ true) where
    stays : (q v q' : ℕ) → bad s j q ≡ false → Step s q v q' → bad s j q' ≡ false
    stays q v q' b t =
        let h : State s q' = rw t.leads (closed q v t.state t.input) in
        outside_stays j st q v q' h b t

    walk_stays : (d : ℕ) (q v : ℕ → ℕ) → Walk s d q v → Permitted s d q v → bad s j (q 0) ≡ false → (t : ℕ) → t ≤ d → bad s j (q t) ≡ false
    walk_stays d q v w p b zero l = b
    walk_stays d q v w p b (suc t) l =
        stays (q t) (v t) (q (suc t)) (walk_stays d q v w p b t (omega arith))
        (record { state = w.states t (omega arith); input = w.inputs t (omega arith); permitted = p t (omega arith); leads = w.moves t l })

    never_broken : meets_init s (bad s j) ≡ false → (d : ℕ) → Unbroken s d
    never_broken m d r =
        let q = r.0 in
        let v = r.1 in
        let b = r.2 in
        let w = b.run.walk in
        let f = if_not (bad s j (q 0)) (λ x. not_from_Decides (meets_init s (bad s j)) (meets_tells s j) m (q 0, w.states 0 (omega arith), (b.run.initial, x))) in
        let last : bad s 0 (q d) ≡ true = (first_tells s (q d)).1 (v d, w.inputs d (omega arith), (b.permitted d (omega arith), b.breaks)) in
        both_ways (bad s j (q d)) (walk_stays d q v w b.permitted f d (omega arith)) (bad_later s 0 j (q d) (omega arith) last)

  safely : Closed s → (j : ℕ) → verdict s j ≡ safe → Safe s j
  unfolding verdict_by
  safely closed j e =
      let t = tests_safe (meets_init s (bad s j)) (stable s (bad s) j) j e in
      record {
        never = never_broken closed j t.1 t.0;
        initial = λ q h i. not_from_false (bad s j q) (if_not (bad s j q) (λ b. not_from_Decides (meets_init s (bad s j)) (meets_tells s j) t.0 (q, h, (i, b))));
        stays = λ q v q' b p. not_from_false (bad s j q') (stays closed j t.1 q v q' (not-true (bad s j q) b) p);
      }

  -- a set that grew is larger than the one before
  grows : (i : ℕ) → stable s (bad s) (suc i) ≡ false → count (2 ^ s.registers) (bad s i) < count (2 ^ s.registers) (bad s (suc i))
  grows i e = ⊎_elim (λ l. l) (λ l. absurd (both_ways (stable s (bad s) (suc i)) e ((stable_tells s i).1 (same_sets l)))) (cases_lt (size i) (size (suc i)))
    where
      size : ℕ → ℕ
      size j = count (2 ^ s.registers) (bad s j)

      lost : size (suc i) ≤ size i → (q : ℕ) → State s q → bad s i q ≡ false → bad s (suc i) q ≡ false
      lost l q h f = if_not (bad s (suc i) q) (λ t.
          let c = count_more (2 ^ s.registers) (bad s i) (bad s (suc i)) (λ k b. bad_more s i k) q h f t in
          omega arith)

      same_sets : size (suc i) ≤ size i → Same s.registers (bad s (suc i)) (bad s i)
      same_sets l q h = ⊎_elim (λ t. bad_more s i q t ∙ sym t) (λ f. lost l q h f ∙ sym f) (cases_Bool (bad s i q))

  -- where the first step adds a state, the first set has one
  nonempty : Closed s → stable s (bad s) 1 ≡ false → 0 < count (2 ^ s.registers) (bad s 0)
  nonempty closed e = ⊎_elim (λ l. l) (λ l. absurd (both_ways (stable s (bad s) 1) e ((stable_tells s 0).1 (same_sets l)))) (cases_lt 0 size)
    where
      size : ℕ
      size = count (2 ^ s.registers) (bad s 0)

      none_bad : size ≤ 0 → (q : ℕ) → State s q → bad s 0 q ≡ false
      none_bad l q h = if_not (bad s 0 q) (λ t.
          let c = count_more (2 ^ s.registers) (λ _. false) (bad s 0) (λ k b z. absurd (both_ways false refl z)) q h refl t in
          omega arith)

      none_next : size ≤ 0 → (q : ℕ) → State s q → bad s 1 q ≡ false
      none_next l q h = if_not (bad s 1 q) (λ t.
          ⊎_elim (both_ways (bad s 0 q) (none_bad l q h))
          (λ r. both_ways (bad s 0 (s.next q r.0)) (none_bad l (s.next q r.0) (closed q r.0 h r.1)) r.2.1)
          ((next_tells s 0 q).0 t))

      same_sets : size ≤ 0 → Same s.registers (bad s 1) (bad s 0)
      same_sets l q h = none_next l q h ∙ sym (none_bad l q h)

  -- each set that grew has a state more
  many : Closed s → (i : ℕ) → ((k : ℕ) → k ≤ i → stable s (bad s) (suc k) ≡ false) → suc i < count (2 ^ s.registers) (bad s (suc i))
  many closed zero h =
      let a = nonempty closed (h 0 (omega arith)) in
      let b = grows 0 (h 0 (omega arith)) in
      omega arith
  many closed (suc i) h =
      let a = many closed i (λ k l. h k (omega arith)) in
      let b = grows (suc i) (h (suc i) (omega arith)) in
      omega arith

  few_open : Closed s → (j : ℕ) → ((k : ℕ) → k ≤ j → verdict s k ≡ open_yet) → j < 2 ^ s.registers
  few_open closed zero h = pow_pos s.registers
  few_open closed (suc i) h =
      let a = many closed i (λ k l. (open_tests (suc k) (h (suc k) (omega arith))).1) in
      let b = count_le (2 ^ s.registers) (bad s (suc i)) in
      omega arith

  few : Closed s → (j : ℕ) → Reached s j → j ≤ 2 ^ s.registers
  few closed zero r = omega arith
  few closed (suc i) r = few_open closed i (λ k l. r k (omega arith))

  openly : Closed s → (j : ℕ) → Reached s j → verdict s j ≡ open_yet → Open s j
  openly closed j r e = record { unbroken = λ i l. open_unbroken i (all i l); few = few_open closed j all }
    where
      all : (k : ℕ) → k ≤ j → verdict s k ≡ open_yet
      all k l = ⊎_elim (λ p. subst (λ x. verdict s x ≡ open_yet) (sym p) e) (r k) (eq-or-lt_of_le l)

  settles : (j : ℕ) → verdict s j ≡ open_yet → Same s.registers (bad s (suc j)) (bad s j) → verdict s (suc j) ≡ safe
  unfolding verdict_by
  settles j e h =
      let m : meets_init s (bad s (suc j)) ≡ false = if_not (meets_init s (bad s (suc j))) (λ t.
      let r = (meets_tells s (suc j)).0 t in
      both_ways (bad s j r.0) (open_apart j e r.0 r.1 r.2.0) (sym (h r.0 r.1) ∙ r.2.1)) in
      cond-false (meets_init s (bad s (suc j))) _ _ m ∙ cond-true (stable s (bad s) (suc j)) _ _ ((stable_tells s j).1 h)

pub verdicts : VerdictsMean
verdicts s closed j r = record {
  safely = safely s closed j;
  unsafely = λ d e. let u = unsafe_meets s j d e in (u.1, unsafely s closed j r u.0);
  exactly = exactly s j;
  openly = openly s closed j r;
  few = few s closed j r;
  settles = settles s j;
}
