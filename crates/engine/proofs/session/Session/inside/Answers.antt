use Rattle.std.proofs.Common.{◌≡◌, ◌<◌, ◌≤◌, not, Some, Ok, sym, subst}
use Rattle.std.specs.Borrow.{Bor}
use Rattle.store.specs.Meaning.{Shown}
use Rattle.uses.specs.declared.fault.Fault.TheVariants.{Empty}
use Rattle.uses.specs.Calls.{inside}
use Rattle.uses.specs.Uses.{inside_empty}
use Rattle.engine.specs.declared.search.Search.{Search}
use Rattle.engine.specs.Keeping.{world, Next}
use Rattle.engine.proofs.Insides.{when_not_safe, when_high, when_told, when_refused}
use Rattle.engine.proofs.Keepings.{lent, not_lent, handed_on, stays_none}
use Rattle.engine.proofs.session.Session.inside.Goals as goal
use Rattle.engine.proofs.session.Session.inside.Goals.{In_ok-search}

pub returns-in_err-search-clause-next : goal.returns-in_err-search-clause-next
returns-in_err-search-clause-next g c =
    let w = world g.S.Store.shows c.args.self.now in
    let p = not_lent (λ (x : Bor Search). x.now) w.search c.as_ref.result c.as_ref.ensures.value c.ok_or.result Empty c.ok_or.ensures.value c.in_err-search.field-0.0 c.in_err-search.was in
    rw (handed_on c.from_residual.result c.in_err-search.field-0.0 c.from_residual.ensures.1, p.1) (stays_none w _ p.0 inside_empty)

loaded : (g : _) (c : In_ok-search g) → c.args.self.now.search ≡ Some c.in_ok-search.search.now
loaded g c = lent (λ (x : Bor Search). x.now) c.args.self.now.search c.as_ref.result c.as_ref.ensures.value c.ok_or.result Empty c.ok_or.ensures.value c.in_ok-search.search c.in_ok-search.was

pub returns-in_default-clause-next : goal.returns-in_default-clause-next
returns-in_default-clause-next g c =
    let b = (goal.at.returns-in_default-clause-next g c).In_ok-search in
    when_not_safe (world g.S.Store.shows c.args.self.now) c.in_ok-search.search.now (loaded g b) c.args.state c.in_default.not-Safe

pub returns-then-state-states-clause-next : goal.returns-then-state-states-clause-next
returns-then-state-states-clause-next g c =
    let b = (goal.at.returns-then-state-states-clause-next g c).In_ok-search in
    when_high (world g.S.Store.shows c.args.self.now) c.in_ok-search.search.now (loaded g b) c.args.state c.in-Safe.is (subst (λ i. i ≤ c.args.state) c.states.ensures c.if-state-states.true)

pub returns-in_err-held-clause-next : goal.returns-in_err-held-clause-next
returns-in_err-held-clause-next g c =
    let b = (goal.at.returns-in_err-held-clause-next g c).In_ok-search in
    let w = world g.S.Store.shows c.args.self.now in
    subst (λ (t : Shown). Next w (inside c.args.state c.from_residual-in_err-held.result) (record { store = t; search = w.search })) (sym c.truth.ensures.same)
    (when_refused w c.in_ok-search.search.now (loaded g b) c.args.state c.in-Safe.is (subst (λ i. c.args.state < i) c.states.ensures c.if-state-states.false)
    c.truth.result (rw c.at.ensures at c.truth.ensures.tells) _ c.in_err-held.was c.from_residual-in_err-held.result)

pub returns-clause-next : goal.returns-clause-next
returns-clause-next g c =
    let b = (goal.at.returns-clause-next g c).In_ok-search in
    let w = world g.S.Store.shows c.args.self.now in
    subst (λ (t : Shown). Next w (inside c.args.state (Ok (not c.in_ok-held.held))) (record { store = t; search = w.search })) (sym c.truth.ensures.same)
    (when_told w c.in_ok-search.search.now (loaded g b) c.args.state c.in-Safe.is (subst (λ i. c.args.state < i) c.states.ensures c.if-state-states.false)
    c.truth.result (rw c.at.ensures at c.truth.ensures.tells) c.in_ok-held.held c.in_ok-held.was)
