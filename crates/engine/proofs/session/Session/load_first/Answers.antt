use Rattle.uses.specs.declared.fault.Fault.TheVariants.{Description, Making}
use Rattle.engine.specs.Keeping.{world}
use Rattle.engine.proofs.Keepings.{handed_on}
use Rattle.engine.proofs.Loads.{when_wrong, when_full, when_done}
use Rattle.engine.proofs.session.Session.load_first.Goals as goal

pub returns-in_err-described-clause-next : goal.returns-in_err-described-clause-next
returns-in_err-described-clause-next g c =
    let w = world g.S.Store.shows c.args.self.now in
    rw (handed_on c.from_residual.result (Description c.in_err-described.field-0.0) c.from_residual.ensures.1)
    (when_wrong _ _ _ w c.requires _ c.figures-width.ensures.same c.figures-width.result c.figures-width.ensures.told c.in_err-described.field-0.0 c.in_err-described.ensures)

pub returns-in_err-built-clause-next : goal.returns-in_err-built-clause-next
returns-in_err-built-clause-next g c =
    let w = world g.S.Store.shows c.args.self.now in
    rw (handed_on c.from_residual-in_err-built.result (Making c.in_err-built.field-0.0) c.from_residual-in_err-built.ensures.1)
    (when_full _ _ _ w c.requires _ c.figures-width.ensures.same c.figures-width.result c.figures-width.ensures.told
    c.in_ok-described.described c.in_ok-described.ensures _ c.in_err-built.field-0.0 c.in_err-built.ensures)

pub returns-clause-next : goal.returns-clause-next
returns-clause-next g c =
    let w = world g.S.Store.shows c.args.self.now in
    when_done _ _ _ w c.requires _ c.figures-width.ensures.same c.figures-width.result c.figures-width.ensures.told
    c.in_ok-described.described c.in_ok-described.ensures _ c.in_ok-built.built _ c.begin-search.ensures c.in_ok-built.ensures
