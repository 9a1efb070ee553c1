use Rattle.std.proofs.Common.{rules, ◌≡◌, ℕ, ◌+◌, ◌-◌, ◌^◌, ◌<◌, length, get_or, set as set_at, Ok, Result, sym, refl, ap, ◌∙◌, subst, add-one, true, arith}
use Rattle.std.proofs.lemmas.List.{length-set}
use Rattle.making.specs.Making.{Means}
use Rattle.making.specs.Faults.{Fault}
use Rattle.runs.specs.Models.{Model, system}
use Rattle.runs.specs.Search.{initial_in, bad, leads_into, faulty, unsafe, verdict, Reached, TraceTo}
use Rattle.runs.specs.Systems.{State}
use Rattle.runs.specs.Valuations.{set_fn}
use Rattle.runs.proofs.Traces.{traces}
use Rattle.engine.specs.Keeping.{Sets}
use Rattle.engine.specs.declared.search.Search.{Search}
use Rattle.engine.specs.Questions.{Finds, GoesTo}
use Rattle.store.specs.Meaning.{Shown}
use Rattle.store.specs.Fun.{some}
use Rattle.runs.proofs.Models.{closed}
use Rattle.engine.proofs.Readings.{refused}
use Rattle.engine.proofs.Tracings.{at, starts, state_now, steps, finishes}
use Rattle.engine.proofs.Walking.{found, lost, sets_still, next_is, start, lead, fault, spares_none, spares_state, spares_input, spares_both}
use Rattle.engine.proofs.search.Search.walk.Goals as goal
use Rattle.engine.proofs.search.Search.walk.Goals.{After-smallest, After-smallest-in-loop-t, After-smallest-2}

-- the smallest initial state
begins : (g : _) (c : After-smallest g) (m : Model) (j : ℕ) → Sets m j (g.S.Store.shows c.args.store.now) c.args.self.now
    → Finds (2 ^ (system m).registers) (initial_in (system m) (bad (system m) j)) c.smallest.result
begins g c m j h = start m j _ c.args.self.now h g.S.Store.shows _ _ c.smallest.result c.smallest.ensures.finds c.states.ensures (λ a b x o p. search rules)

pub returns-in_err-first-clause-walks : goal.returns-in_err-first-clause-walks
returns-in_err-first-clause-walks g c m j h r e = absurd (lost _ _ _ (begins g (goal.at.returns-in_err-first-clause-walks g c).After-smallest m j h) (traces (system m) (closed m) j r e).begins c.in_err-first.was)

pub loop-t-init : goal.loop-t-init
loop-t-init g c = (
  refl,
  spares_none _ _ _,
  λ m j h r e.
      starts (system m) j c.args.states.now c.args.inputs.now c.in_ok-first.first (omega (arith, c.requires.states_fit))
      (found _ _ _ (begins g (goal.at.loop-t-init g c).After-smallest m j (sets_still m j c.args.self.now _ _ (sym c.smallest.ensures.same) h)) c.in_ok-first.was),
)

-- in the loop, at the store where it stands
module _ (g : _) (c : After-smallest-in-loop-t g) (m : Model) (j : ℕ) (h : Sets m j (g.S.Store.shows c.smallest.new.store) c.args.self.now) (r : Reached (system m) j) (e : verdict (system m) j ≡ unsafe j) where
  abbrev k : Search
  k = c.args.self.now

  abbrev t : ℕ
  t = c.loop-t.t

  abbrev state : ℕ
  state = at c.loop-t.states t

  here : Sets m j (g.S.Store.shows c.loop-t.store) k
  here = sets_still m j k _ _ c.loop-t.invariant.0 h

  so_far : TraceTo (system m) j t (at c.loop-t.states) (at c.loop-t.inputs)
  so_far = c.loop-t.invariant.2 m j h r e

  is_state : State (system m) state
  is_state = state_now (system m) j t c.loop-t.states c.loop-t.inputs so_far (closed m)

  left : t < j
  left = omega (arith, c.loop-t-test.true, c.len-depth.ensures.items, h.count)

  set_here : Means (g.S.Store.shows c.loop-t.store) (get_or k.earlier.items (j - t - 1) 0) (set_fn m (j - t - 1))
  set_here = here.earlier (j - t - 1) (omega (arith, left))

  -- the set that is read here
  abbrev set : ℕ
  set = get_or c.as_slice.result.now (c.len-depth.result - t - 1) 0

  set_is : get_or k.earlier.items (j - t - 1) 0 ≡ set
  set_is =
      let n : j - t - 1 ≡ c.len-depth.result - t - 1 = ap (λ i. i - t - 1) (sym (c.len-depth.ensures.items ∙ h.count)) in
      ap (get_or k.earlier.items (j - t - 1)) refl ∙ ap (λ i. get_or k.earlier.items i 0) n ∙ ap (λ l. get_or l (c.len-depth.result - t - 1) 0) (sym c.as_slice.ensures.items)

  leads : Finds (2 ^ (system m).inputs) (leads_into (system m) (bad (system m) (j - t - 1)) state) c.smallest-in-loop-t.result
  leads = lead m j _ k here g.S.Store.shows _ _ c.smallest-in-loop-t.result c.smallest-in-loop-t.ensures.finds c.inputs.ensures state is_state
      (j - t - 1) set (subst (λ a. Means (g.S.Store.shows c.loop-t.store) a (set_fn m (j - t - 1))) set_is set_here) (λ a b x o p. search rules)

  leads_on : some (leads_into (system m) (bad (system m) (j - t - 1)) state) (2 ^ (system m).inputs) ≡ true
  leads_on = (traces (system m) (closed m) j r e).goes_on _ _ t left so_far

  module _ (v : ℕ) (p : c.smallest-in-loop-t.result ≡ Ok v) (u : Shown) (q : u ≡ g.S.Store.shows c.loop-t.store) (x : Result ℕ Fault) (f : GoesTo u k.parts state v x) where
    moves : x ≡ Ok ((system m).next state v)
    moves = next_is m j u k (sets_still m j k _ _ q here) state v x is_state (found _ _ _ leads p).below f

    goes_on : (y : ℕ) → x ≡ Ok y → t + 1 < length c.loop-t.states → t < length c.loop-t.inputs
        → TraceTo (system m) j (t + 1) (at (set_at c.loop-t.states (t + 1) y)) (at (set_at c.loop-t.inputs t v))
    goes_on y z bx by =
        let n : y ≡ (system m).next state v = let b = sym z ∙ moves in cc in
        subst (λ i. TraceTo (system m) j i (at (set_at c.loop-t.states (t + 1) y)) (at (set_at c.loop-t.inputs t v))) (sym (add-one t))
        (steps (system m) j t c.loop-t.states c.loop-t.inputs so_far v y bx by (found _ _ _ leads p) n)

pub returns-in_err-input-clause-walks : goal.returns-in_err-input-clause-walks
returns-in_err-input-clause-walks g c m j h r e =
    let b = (goal.at.returns-in_err-input-clause-walks g c).After-smallest-in-loop-t in
    let h' = sets_still m j c.args.self.now _ _ c.smallest.ensures.same h in
    absurd (lost _ _ _ (leads g b m j h' r e) (leads_on g b m j h' r e) c.in_err-input.was)

pub returns-in_err-states-clause-walks : goal.returns-in_err-states-clause-walks
returns-in_err-states-clause-walks g c m j h r e =
    let b = (goal.at.returns-in_err-states-clause-walks g c).After-smallest-in-loop-t in
    let h' = sets_still m j c.args.self.now _ _ c.smallest.ensures.same h in
    refused (sym c.in_err-states.was ∙ moves g b m j h' r e c.in_ok-input.input c.in_ok-input.was _ c.smallest-in-loop-t.ensures.same _ c.next_state.ensures.goes)

pub loop-t-preserved : goal.loop-t-preserved
loop-t-preserved g c =
    let b = (goal.at.loop-t-preserved g c).After-smallest-in-loop-t in
    let d = length c.args.self.now.earlier.items in
    let l = c.loop-t-test.true in
    let n = c.len-depth.ensures.items in (
      c.next_state.ensures.same ∙ c.smallest-in-loop-t.ensures.same ∙ c.loop-t.invariant.0,
      spares_state d _ _ c.loop-t.states (set_at c.loop-t.inputs c.loop-t.t c.in_ok-input.input) (c.loop-t.t + 1) c.in_ok-states.field-0 (omega (arith, l, n))
          (spares_input d _ _ c.loop-t.states c.loop-t.inputs c.loop-t.t c.in_ok-input.input (omega (arith, l, n)) c.loop-t.invariant.1),
      λ m j h r e. goes_on g b m j h r e c.in_ok-input.input c.in_ok-input.was _ c.smallest-in-loop-t.ensures.same _ c.next_state.ensures.goes c.in_ok-states.field-0 c.in_ok-states.was
          (omega (arith, l, n, c.loop-t.invariant.1.states_long, length-set c.args.states.now 0 c.in_ok-first.first, c.requires.states_fit))
          (omega (arith, l, n, c.loop-t.auto.inputs, c.requires.inputs_fit)),
    )

-- after the loop
module _ (g : _) (c : After-smallest-2 g) (m : Model) (j : ℕ) (h : Sets m j (g.S.Store.shows c.args.store.now) c.args.self.now) (r : Reached (system m) j) (e : verdict (system m) j ≡ unsafe j) where
  at_first : Sets m j (g.S.Store.shows c.smallest.new.store) c.args.self.now
  at_first = sets_still m j c.args.self.now _ _ c.smallest.ensures.same h

  at_end : c.len-depth.result ≡ j
  at_end = c.len-depth.ensures.items ∙ h.count

  abbrev end : ℕ
  end = at c.loop-t.states c.len-depth.result

  whole : TraceTo (system m) j c.len-depth.result (at c.loop-t.states) (at c.loop-t.inputs)
  whole =
      let i : c.loop-t.t ≡ c.len-depth.result = omega (arith, c.loop-t-test.false, c.loop-t.auto.t-end) in
      subst (λ n. TraceTo (system m) j n (at c.loop-t.states) (at c.loop-t.inputs)) i (c.loop-t.invariant.2 m j at_first r e)

  state_at_end : State (system m) end
  state_at_end = state_now (system m) j _ c.loop-t.states c.loop-t.inputs whole (closed m)

  faults : Finds (2 ^ (system m).inputs) (faulty (system m) end) c.smallest-2.result
  faults = fault m j _ c.args.self.now (sets_still m j c.args.self.now _ _ c.loop-t.invariant.0 at_first) g.S.Store.shows _ _ c.smallest-2.result c.smallest-2.ensures.finds c.inputs-2.ensures
      end state_at_end (λ a b x o p. search rules)

  faults_there : some (faulty (system m) end) (2 ^ (system m).inputs) ≡ true
  faults_there = subst (λ n. some (faulty (system m) (at c.loop-t.states n)) (2 ^ (system m).inputs) ≡ true) (sym at_end)
      ((traces (system m) (closed m) j r e).ends _ _ (subst (λ n. TraceTo (system m) j n (at c.loop-t.states) (at c.loop-t.inputs)) at_end whole))

pub returns-in_err-last-clause-walks : goal.returns-in_err-last-clause-walks
returns-in_err-last-clause-walks g c m j h r e =
    let b = (goal.at.returns-in_err-last-clause-walks g c).After-smallest-2 in
    absurd (lost _ _ _ (faults g b m j h r e) (faults_there g b m j h r e) c.in_err-last.was)

pub returns-clause-spares : goal.returns-clause-spares
returns-clause-spares g c =
    let d = length c.args.self.now.earlier.items in
    let x = c.args.states.now in
    let y = c.args.inputs.now in
    let x' = set_at x 0 c.in_ok-first.first in
    let n = c.len-depth.ensures.items in
    spares_input d x y c.loop-t.states c.loop-t.inputs c.len-depth.result c.in_ok-last.last (omega (arith, n))
    (spares_both d x y x' y c.loop-t.states c.loop-t.inputs (spares_state d x y x y 0 c.in_ok-first.first (omega arith) (spares_none d x y)) c.loop-t.invariant.1)

pub returns-clause-walks : goal.returns-clause-walks
returns-clause-walks g c m j h r e =
    let b = (goal.at.returns-clause-walks g c).After-smallest-2 in (
      refl,
      finishes (system m) j _ c.loop-t.states c.loop-t.inputs (whole g b m j h r e) c.in_ok-last.last (at_end g b m j h r e)
          (omega (arith, c.len-depth.ensures.items, c.requires.inputs_fit, c.loop-t.auto.inputs)) (found _ _ _ (faults g b m j h r e) c.in_ok-last.was),
    )
