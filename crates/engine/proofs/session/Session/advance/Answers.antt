use Rattle.std.specs.Borrow.{MutBor}
use Rattle.uses.specs.declared.fault.Fault.TheVariants.{Empty}
use Rattle.uses.specs.Uses.{advance_empty}
use Rattle.engine.specs.declared.search.Search.{Search}
use Rattle.engine.specs.Keeping.{world}
use Rattle.engine.proofs.Keepings.{not_lent, handed_on, stays_none}
use Rattle.engine.proofs.session.Session.advance.Goals as goal

pub returns-in_err-search-clause-next : goal.returns-in_err-search-clause-next
returns-in_err-search-clause-next g c =
    let w = world g.S.Store.shows c.args.self.now in
    let p = not_lent (λ (x : MutBor Search). x.now) w.search c.as_mut.result c.as_mut.ensures.value c.ok_or.result Empty c.ok_or.ensures.value c.in_err-search.field-0.0 c.in_err-search.was in
    rw (handed_on c.from_residual.result c.in_err-search.field-0.0 c.from_residual.ensures.1, p.1) (stays_none w _ p.0 advance_empty)
