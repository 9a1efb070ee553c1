use Rattle.std.proofs.Common.{◌≡◌, Some, Err, sym, subst, arith}
use Rattle.std.specs.Borrow.{Bor}
use Rattle.store.specs.Meaning.{Shown}
use Rattle.uses.specs.declared.fault.Fault.TheVariants as fault
use Rattle.uses.specs.Calls.{trace}
use Rattle.uses.specs.Uses.{trace_empty}
use Rattle.engine.specs.declared.search.Search.{Search}
use Rattle.engine.specs.Keeping.{world, Next}
use Rattle.engine.proofs.Handing.{when_not_unsafe, when_short, when_walked}
use Rattle.engine.proofs.Keepings.{lent, not_lent, handed_on, stays_none}
use Rattle.engine.proofs.session.Session.trace.Goals as goal
use Rattle.engine.proofs.session.Session.trace.Goals.{In_ok-search}

pub returns-in_err-search-clause-next : goal.returns-in_err-search-clause-next
returns-in_err-search-clause-next g c =
    let w = world g.S.Store.shows c.args.self.now in
    let p = not_lent (λ (x : Bor Search). x.now) w.search c.as_ref.result c.as_ref.ensures.value c.ok_or.result fault.Empty c.ok_or.ensures.value c.in_err-search.field-0.0 c.in_err-search.was in
    rw (handed_on c.from_residual.result c.in_err-search.field-0.0 c.from_residual.ensures.1, p.1) (stays_none w _ p.0 trace_empty)

loaded : (g : _) (c : In_ok-search g) → c.args.self.now.search ≡ Some c.in_ok-search.search.now
loaded g c = lent (λ (x : Bor Search). x.now) c.args.self.now.search c.as_ref.result c.as_ref.ensures.value c.ok_or.result fault.Empty c.ok_or.ensures.value c.in_ok-search.search c.in_ok-search.was

pub returns-in_default-clause-next : goal.returns-in_default-clause-next
returns-in_default-clause-next g c =
    let b = (goal.at.returns-in_default-clause-next g c).In_ok-search in
    when_not_unsafe (world g.S.Store.shows c.args.self.now) c.in_ok-search.search.now (loaded g b) c.args.states.now c.args.inputs.now c.in_default.not-Unsafe

pub returns-then-min-entries-clause-next : goal.returns-then-min-entries-clause-next
returns-then-min-entries-clause-next g c =
    let b = (goal.at.returns-then-min-entries-clause-next g c).In_ok-search in
    let w = world g.S.Store.shows c.args.self.now in
    let x = c.args.states.now in
    let y = c.args.inputs.now in
    subst (λ n. Next w (trace x y x y (Err (fault.Short n))) w) (omega (arith, c.len-entries.ensures.items))
    (when_short w c.in_ok-search.search.now (loaded g b) x y c.in-Unsafe.field-0 c.in-Unsafe.is (λ lx ly. absurd (omega arith)))

pub returns-clause-next : goal.returns-clause-next
returns-clause-next g c =
    let b = (goal.at.returns-clause-next g c).In_ok-search in
    let w = world g.S.Store.shows c.args.self.now in
    let x = c.args.states.now in
    let y = c.args.inputs.now in
    subst (λ (t : Shown). Next w (trace x y c.walk.new.states c.walk.new.inputs c.walk.result) (record { store = t; search = w.search })) (sym c.walk.ensures.same)
    (when_walked w c.in_ok-search.search.now (loaded g b) x y c.in-Unsafe.field-0 c.in-Unsafe.is c.walk.result c.walk.new.states c.walk.new.inputs c.walk.ensures.walks c.walk.ensures.spares
    (omega (arith, c.len-entries.ensures.items)) (omega (arith, c.len-entries.ensures.items)))
