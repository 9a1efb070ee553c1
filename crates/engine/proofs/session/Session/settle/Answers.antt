use Rattle.std.proofs.Common.{suc, [], List, Ok, MatchResult, sym, subst, add-one, arith}
use Rattle.std.proofs.lemmas.Result.{err_from_is_err_and}
use Rattle.store.specs.Meaning.{Shown}
use Rattle.uses.specs.Calls.{State, stand, Event}
use Rattle.uses.specs.Uses.{Use}
use Rattle.engine.specs.Keeping.{world, Keeps}
use Rattle.engine.specs.Settled.{none, Decided, Stuck}
use Rattle.engine.proofs.Settlings.{Going, settles_empty, goes_on, decided, unsettled, too_many}
use Rattle.engine.proofs.session.Session.settle.Goals as goal
use Rattle.engine.proofs.session.Session.settle.Goals.{After-advance}

pub loop-init : goal.loop-init
loop-init g c start history state u k = record { state = state; made = []; advanced = none; led = u; keeps = k; far = omega arith }

pub returns-in-Some-clause-settles : goal.returns-in-Some-clause-settles
returns-in-Some-clause-settles g c start history state u k =
    decided start history (stand state (g.S.Store.shows c.args.self.now.store)) c.loop.counter (world g.S.Store.shows c.loop.self) c.in-Some.settled
    (c.loop.invariant start history state u k) c.in-Some.ensures

pub returns-in-Some-clause-empty : goal.returns-in-Some-clause-empty
returns-in-Some-clause-empty g c k =
    settles_empty (world g.S.Store.shows c.args.self.now) (world g.S.Store.shows c.loop.self) (Ok c.in-Some.settled) (returns-in-Some-clause-settles g c) k

-- one advance from where the loop stands
module _ (g : _) (c : After-advance g) (start : Shown) (history : List Event) (state : State)
    (u : Use start history (stand state (g.S.Store.shows c.args.self.now.store))) (k : Keeps state (world g.S.Store.shows c.args.self.now)) where
  here : Going start history (stand state (g.S.Store.shows c.args.self.now.store)) c.loop.counter (world g.S.Store.shows c.loop.self)
  here = c.loop.invariant start history state u k

  one_advance : MatchResult c.advance.result
      (λ _. Going start history (stand state (g.S.Store.shows c.args.self.now.store)) (suc c.loop.counter) (world g.S.Store.shows c.advance.new.self))
      (Stuck start history (stand state (g.S.Store.shows c.args.self.now.store)) (world g.S.Store.shows c.advance.new.self))
  one_advance =
      goes_on start history (stand state (g.S.Store.shows c.args.self.now.store)) c.loop.counter (world g.S.Store.shows c.loop.self) (world g.S.Store.shows c.advance.new.self) here
      (unsettled c.loop.self.search c.settled.result c.in_default.not-Some c.settled.ensures here.state (g.S.Store.shows c.loop.self.store) here.keeps) c.advance.ensures.next

pub returns-in_err-advance-clause-settles : goal.returns-in_err-advance-clause-settles
returns-in_err-advance-clause-settles g c start history state u k =
    let b = (goal.at.returns-in_err-advance-clause-settles g c).After-advance in
    let from = stand state (g.S.Store.shows c.args.self.now.store) in
    let w = world g.S.Store.shows c.advance.new.self in
    let e = c.in_err-advance.field-0.0 in
    let p = err_from_is_err_and c.from_residual.result c.from_residual.ensures.1 in
    subst (λ i. MatchResult i (Decided start history from w) (Stuck start history from w)) (sym p.1)
    (subst (Stuck start history from w) (sym p.2)
    (subst (λ i. MatchResult i (λ _. Going start history from (suc c.loop.counter) w) (Stuck start history from w)) c.in_err-advance.was (one_advance g b start history state u k)))

pub returns-in_err-advance-clause-empty : goal.returns-in_err-advance-clause-empty
returns-in_err-advance-clause-empty g c k =
    settles_empty (world g.S.Store.shows c.args.self.now) (world g.S.Store.shows c.advance.new.self) c.from_residual.result (returns-in_err-advance-clause-settles g c) k

pub loop-preserved : goal.loop-preserved
loop-preserved g c start history state u k =
    let b = (goal.at.loop-preserved g c).After-advance in
    let from = stand state (g.S.Store.shows c.args.self.now.store) in
    let w = world g.S.Store.shows c.advance.new.self in
    subst (λ n. Going start history from n w) (sym (add-one c.loop.counter))
    (subst (λ i. MatchResult i (λ _. Going start history from (suc c.loop.counter) w) (Stuck start history from w)) c.in_ok-advance.was (one_advance g b start history state u k))

pub returns-clause-settles : goal.returns-clause-settles
returns-clause-settles g c start history state u k =
    absurd (too_many start history (stand state (g.S.Store.shows c.args.self.now.store)) c.loop.counter (world g.S.Store.shows c.loop.self)
    (c.loop.invariant start history state u k) (omega (arith, c.loop-test.false)))

pub returns-clause-empty : goal.returns-clause-empty
returns-clause-empty g c k =
    settles_empty (world g.S.Store.shows c.args.self.now) (world g.S.Store.shows c.loop.self) _ (returns-clause-settles g c) k
