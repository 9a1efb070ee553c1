-- The trace, as it grows step by step.
use Rattle.std.proofs.Common.{◌≡◌, ℕ, zero, suc, ◌+◌, ◌-◌, ◌^◌, ◌<◌, ◌≤◌, List, set, length, get_or, sym, refl, ap, ap₂, ◌∙◌, subst, ⊎_elim, eq-or-lt_of_le, add-one, arith}
use Rattle.std.proofs.lemmas.List.{get_or-set_same, get_or-set_other}
use Rattle.runs.specs.Search.{faulty, leads_into, bad, initial_in, Least, TraceTo, Trace}
use Rattle.runs.specs.Systems.{System, State, Closed}

abbrev pub at : List ℕ → ℕ → ℕ
at xs t = get_or xs t 0

module _ (s : System) (d : ℕ) where
  -- other sequences with the same start
  traced_like : (t : ℕ) (q v q' v' : ℕ → ℕ) → ((i : ℕ) → i ≤ t → q i ≡ q' i) → ((i : ℕ) → i < t → v i ≡ v' i) → TraceTo s d t q v → TraceTo s d t q' v'
  traced_like t q v q' v' e f l = record {
    start = subst (Least (2 ^ s.registers) (initial_in s (bad s d))) (e 0 (omega arith)) l.start;
    inputs = λ i h. subst (λ x. Least (2 ^ s.inputs) (leads_into s (bad s (d - i - 1)) x) (v' i)) (e i (omega arith))
        (subst (Least (2 ^ s.inputs) (leads_into s (bad s (d - i - 1)) (q i))) (f i h) (l.inputs i h));
    moves = λ i h. let x = e i (omega arith) in let y = e (suc i) (omega arith) in let z = f i h in let w = l.moves i h in cc;
  }

  -- one step more
  traced_more : (t : ℕ) (q v : ℕ → ℕ) → TraceTo s d t q v → Least (2 ^ s.inputs) (leads_into s (bad s (d - t - 1)) (q t)) (v t) → q (suc t) ≡ s.next (q t) (v t)
      → TraceTo s d (suc t) q v
  traced_more t q v l a e = record {
    start = l.start;
    inputs = λ i h. ⊎_elim (λ p. subst (λ x. Least (2 ^ s.inputs) (leads_into s (bad s (d - x - 1)) (q x)) (v x)) (sym p) a) (l.inputs i) (eq-or-lt_of_le (down i h));
    moves = λ i h. ⊎_elim (λ p. subst (λ x. q (suc x) ≡ s.next (q x) (v x)) (sym p) e) (l.moves i) (eq-or-lt_of_le (down i h));
  }
    where
      down : (i : ℕ) → suc i ≤ suc t → i ≤ t
      down i h = omega arith

  traced_state : Closed s → (t : ℕ) (q v : ℕ → ℕ) → TraceTo s d t q v → (i : ℕ) → i ≤ t → State s (q i)
  traced_state closed t q v l zero h = l.start.below
  traced_state closed t q v l (suc i) h = rw (l.moves i h) (closed (q i) (v i) (traced_state closed t q v l i (omega arith)) (l.inputs i h).below)

  -- the first state was written
  pub starts : (xs ys : List ℕ) (q : ℕ) → 0 < length xs → Least (2 ^ s.registers) (initial_in s (bad s d)) q → TraceTo s d 0 (at (set xs 0 q)) (at ys)
  starts xs ys q b l = record {
    start = subst (Least (2 ^ s.registers) (initial_in s (bad s d))) (sym (get_or-set_same xs 0 q 0 b)) l;
    inputs = λ i h. absurd (omega arith);
    moves = λ i h. absurd (omega arith);
  }

  module _ (t : ℕ) (xs ys : List ℕ) (l : TraceTo s d t (at xs) (at ys)) where
    pub state_now : Closed s → State s (at xs t)
    state_now closed = traced_state closed t (at xs) (at ys) l t (omega arith)

    -- an input that was written leaves those before it
    inputs_before : (v : ℕ) (i : ℕ) → i < t → at ys i ≡ at (set ys t v) i
    inputs_before v i h = sym (get_or-set_other ys t i v 0 (λ e. absurd (omega arith)))

    -- a state that was written leaves those before it
    states_before : (r : ℕ) (i : ℕ) → i ≤ t → at xs i ≡ at (set xs (t + 1) r) i
    states_before r i h = sym (get_or-set_other xs (t + 1) i r 0 (λ e. absurd (omega arith)))

    -- an input and the next state were written
    pub steps : (v r : ℕ) → t + 1 < length xs → t < length ys → Least (2 ^ s.inputs) (leads_into s (bad s (d - t - 1)) (at xs t)) v → r ≡ s.next (at xs t) v
        → TraceTo s d (suc t) (at (set xs (t + 1) r)) (at (set ys t v))
    steps v r bx by a n = traced_more t _ _
        (traced_like t (at xs) (at ys) _ _ (states_before r) (inputs_before v) l)
        (subst (λ q. Least (2 ^ s.inputs) (leads_into s (bad s (d - t - 1)) q) (at (set ys t v) t)) now
        (subst (Least (2 ^ s.inputs) (leads_into s (bad s (d - t - 1)) (at xs t))) (sym read) a))
        (state_next ∙ n ∙ ap₂ s.next now (sym read))
      where
        now : at xs t ≡ at (set xs (t + 1) r) t
        now = states_before r t (omega arith)

        read : at (set ys t v) t ≡ v
        read = get_or-set_same ys t v 0 by

        state_next : at (set xs (t + 1) r) (suc t) ≡ r
        state_next = ap (at (set xs (t + 1) r)) (sym (add-one t)) ∙ get_or-set_same xs (t + 1) r 0 bx

    -- the last input was written
    pub finishes : (v : ℕ) → t ≡ d → t < length ys → Least (2 ^ s.inputs) (faulty s (at xs t)) v → Trace s d (at xs) (at (set ys t v))
    finishes v e b a = subst (λ n. TraceTo s d n (at xs) (at (set ys t v)) → Least (2 ^ s.inputs) (faulty s (at xs n)) (at (set ys t v) n) → Trace s d (at xs) (at (set ys t v))) (sym e)
        (λ x y. record { steps = x; last = y })
        (traced_like t (at xs) (at ys) _ _ (λ i h. refl) (inputs_before v) l)
        (subst (Least (2 ^ s.inputs) (faulty s (at xs t))) (sym (get_or-set_same ys t v 0 b)) a)
