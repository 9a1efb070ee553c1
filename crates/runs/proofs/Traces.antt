-- The trace of an unsafe verdict.
use Rattle.std.proofs.Common.{◌≡◌, ℕ, zero, suc, ◌-◌, ◌^◌, ◌<◌, ◌≤◌, true, false, cond, ltb, sym, refl, subst, ⊎_elim, eq-or-lt_of_le, arith}
use Rattle.std.proofs.lemmas.Bool.{both_ways, cond-true, cond-false, lt-ltb, le-ltb}
use Rattle.store.specs.Fun.{some}
use Rattle.runs.specs.Systems.{System, State, Input, Closed, Breaking}
use Rattle.runs.specs.Search.{faulty, leads_into, bad, initial_in, meets_init, Reached, Least, TraceTo, Trace}
use Rattle.runs.specs.Verdicts.{TracesRun}
use Rattle.runs.proofs.Some.{if_not, found}
use Rattle.runs.proofs.Least.{smallest, smallest_least, least_one}
use Rattle.runs.proofs.Sets.{faulty_tells, leads_tells, start_tells, first_tells, next_tells, step_back}
use Rattle.runs.proofs.Verdicts.{unsafe_meets, open_apart}

-- what holds at each step and at the end
at_each : (d : ℕ) (P : ℕ → Type 0) → ((t : ℕ) → t < d → P t) → P d → (t : ℕ) → t ≤ d → P t
at_each d P steps last t h = ⊎_elim (λ e. subst P (sym e) last) (steps t) (eq-or-lt_of_le h)

-- q is a state in B_j, and not in the set before
record Newly (s : System) (j q : ℕ) : Type 0 where
  state : State s q
  now : bad s j q ≡ true
  before : (i : ℕ) → j ≡ suc i → bad s i q ≡ false

module _ (s : System) (closed : Closed s) where
  -- such a state has an input that leads on
  leads_on : (i q : ℕ) → Newly s (suc i) q → some (leads_into s (bad s i) q) (2 ^ s.inputs) ≡ true
  leads_on i q f = ⊎_elim (λ p. absurd (both_ways (bad s i q) (f.before i refl) p))
      (λ p. (found _ (2 ^ s.inputs)).1 (p.0, p.1, (leads_tells s i q p.0).1 p.2))
      ((next_tells s i q).0 f.now)

  -- and any such input leads to such a state
  newly_next : (i q v : ℕ) → Input s v → leads_into s (bad s i) q v ≡ true → Newly s (suc i) q → Newly s i (s.next q v)
  newly_next i q v h l f =
      let p = (leads_tells s i q v).0 l in
      record {
        state = closed q v f.state h;
        now = p.1;
        before = λ k e. if_not (bad s k (s.next q v)) (λ b.
            both_ways (bad s (suc k) q) (subst (λ x. bad s x q ≡ false) e (f.before i refl))
            (step_back s k q v (s.next q v) (record { state = f.state; input = h; permitted = p.0; leads = refl }) b));
      }

  module _ (d : ℕ) (reached : Reached s d) where
    newly_start : (q : ℕ) → Least (2 ^ s.registers) (initial_in s (bad s d)) q → Newly s d q
    newly_start q l =
        let p = (start_tells s d q).0 l.holds in
        record {
          state = l.below;
          now = p.1;
          before = λ i e. open_apart s i (reached i (omega arith)) q l.below p.0;
        }

    newly_at : (q v : ℕ → ℕ) (t : ℕ) → t ≤ d → TraceTo s d t q v → Newly s (d - t) (q t)
    newly_at q v zero h l = let e : d ≡ d - 0 = omega arith in subst (λ x. Newly s x (q 0)) e (newly_start (q 0) l.start)
    newly_at q v (suc t) h l =
        let c = l.inputs t (omega arith) in
        let e : d - t ≡ suc (d - t - 1) = omega arith in
        let e' : d - t - 1 ≡ d - suc t = omega arith in
        let f = newly_at q v t (omega arith) (record { start = l.start; inputs = λ i k. l.inputs i (omega arith); moves = λ i k. l.moves i (omega arith) }) in
        let g = newly_next (d - t - 1) (q t) (v t) c.below c.holds (subst (λ x. Newly s x (q t)) e f) in
        subst (λ x. Newly s x (q (suc t))) e' (subst (Newly s (d - t - 1)) (sym (l.moves t (omega arith))) g)

    goes_on : (q v : ℕ → ℕ) (t : ℕ) → t < d → TraceTo s d t q v → some (leads_into s (bad s (d - t - 1)) (q t)) (2 ^ s.inputs) ≡ true
    goes_on q v t h l =
        let e : d - t ≡ suc (d - t - 1) = omega arith in
        leads_on (d - t - 1) (q t) (subst (λ x. Newly s x (q t)) e (newly_at q v t (omega arith) l))

    ends : (q v : ℕ → ℕ) → TraceTo s d d q v → some (faulty s (q d)) (2 ^ s.inputs) ≡ true
    ends q v l =
        let e : d - d ≡ 0 = omega arith in
        let p = (first_tells s (q d)).0 (subst (λ x. Newly s x (q d)) e (newly_at q v d (omega arith) l)).now in
        (found _ (2 ^ s.inputs)).1 (p.0, p.1, (faulty_tells s (q d) p.0).1 p.2)

    -- the trace, step by step
    choice : ℕ → ℕ → ℕ
    choice t q = cond (ltb t d) (smallest (2 ^ s.inputs) (leads_into s (bad s (d - t - 1)) q)) (smallest (2 ^ s.inputs) (faulty s q))

    states : ℕ → ℕ
    states zero = smallest (2 ^ s.registers) (initial_in s (bad s d))
    states (suc t) = s.next (states t) (choice t (states t))

    inputs : ℕ → ℕ
    inputs t = choice t (states t)

    module _ (begins : some (initial_in s (bad s d)) (2 ^ s.registers) ≡ true) where
      chosen : (t : ℕ) → t < d → TraceTo s d t states inputs → Least (2 ^ s.inputs) (leads_into s (bad s (d - t - 1)) (states t)) (inputs t)
      unfolding inputs choice
      chosen t h l =
          subst (Least (2 ^ s.inputs) (leads_into s (bad s (d - t - 1)) (states t))) (sym (cond-true (ltb t d) _ _ (lt-ltb t d h)))
          (smallest_least (2 ^ s.inputs) (leads_into s (bad s (d - t - 1)) (states t)) (goes_on states inputs t h l))

      traced : (t : ℕ) → t ≤ d → TraceTo s d t states inputs
      unfolding states inputs
      traced zero h = record { start = smallest_least _ _ begins; inputs = λ i k. absurd (omega arith); moves = λ i k. absurd (omega arith) }
      traced (suc t) h =
          let l = traced t (omega arith) in
          record {
            start = l.start;
            inputs = λ i k. ⊎_elim
                (λ p. subst (λ x. Least (2 ^ s.inputs) (leads_into s (bad s (d - x - 1)) (states x)) (inputs x)) (sym p) (chosen t h l))
                (l.inputs i)
                (eq-or-lt_of_le (down i k));
            moves = λ i k. refl;
          }
        where
          down : (i : ℕ) → suc i ≤ suc t → i ≤ t
          down i x = omega arith

      trace : Trace s d states inputs
      unfolding inputs choice
      trace =
          let l = traced d (omega arith) in
          record {
            steps = l;
            last = subst (Least (2 ^ s.inputs) (faulty s (states d))) (sym (cond-false (ltb d d) _ _ (le-ltb d d (omega arith))))
                (smallest_least (2 ^ s.inputs) (faulty s (states d)) (ends states inputs l));
          }

  module _ (d : ℕ) (q v : ℕ → ℕ) (l : Trace s d q v) where
    trace_inputs : (t : ℕ) → t ≤ d → Input s (v t)
    trace_inputs = at_each d (λ t. Input s (v t)) (λ t h. (l.steps.inputs t h).below) l.last.below

    trace_states : (t : ℕ) → t ≤ d → State s (q t)
    trace_states zero h = l.steps.start.below
    trace_states (suc t) h = rw (l.steps.moves t h) (closed (q t) (v t) (trace_states t (omega arith)) (trace_inputs t (omega arith)))

    breaking : Breaking s d q v
    breaking = record {
      run = record {
        walk = record { states = trace_states; inputs = trace_inputs; moves = l.steps.moves };
        initial = ((start_tells s d (q 0)).0 l.steps.start.holds).0;
      };
      permitted = at_each d (λ t. s.assumed (q t) (v t) ≡ true)
          (λ t h. ((leads_tells s (d - t - 1) (q t) (v t)).0 (l.steps.inputs t h).holds).0)
          ((faulty_tells s (q d) (v d)).0 l.last.holds).0;
      breaks = ((faulty_tells s (q d) (v d)).0 l.last.holds).1;
    }

  module _ (d : ℕ) (q v q' v' : ℕ → ℕ) (a : Trace s d q v) (b : Trace s d q' v') where
    same_input : (t : ℕ) → t < d → q t ≡ q' t → v t ≡ v' t
    same_input t h e =
        least_one (2 ^ s.inputs) (leads_into s (bad s (d - t - 1)) (q t)) (v t) (v' t) (a.steps.inputs t h)
        (subst (λ x. Least (2 ^ s.inputs) (leads_into s (bad s (d - t - 1)) x) (v' t)) (sym e) (b.steps.inputs t h))

    same_state : (t : ℕ) → t ≤ d → q t ≡ q' t
    same_state zero h = least_one (2 ^ s.registers) _ (q 0) (q' 0) a.steps.start b.steps.start
    same_state (suc t) h =
        let e = same_state t (omega arith) in
        let i = same_input t h e in
        let x = a.steps.moves t h in
        let y = b.steps.moves t h in
        cc

    same_last : v d ≡ v' d
    same_last =
        least_one (2 ^ s.inputs) (faulty s (q d)) (v d) (v' d) a.last
        (subst (λ x. Least (2 ^ s.inputs) (faulty s x) (v' d)) (sym (same_state d (omega arith))) b.last)

    one : (t : ℕ) → t ≤ d → (q t ≡ q' t) × (v t ≡ v' t)
    one t h = (same_state t h, at_each d (λ t. v t ≡ v' t) (λ t l. same_input t l (same_state t (omega arith))) same_last t h)

pub traces : TracesRun
unfolding meets_init
traces s closed d r e =
    let b = (unsafe_meets s d d e).0 in
    record {
      given = (states s closed d r, inputs s closed d r, trace s closed d r b);
      one = one s closed d;
      breaking = breaking s closed d;
      begins = b;
      goes_on = goes_on s closed d r;
      ends = ends s closed d r;
    }
