use Rattle.std.proofs.Common.{sym, ◌∙◌}
use Rattle.engine.specs.Keeping.{world}
use Rattle.engine.proofs.Keepings.{is_there}
use Rattle.engine.proofs.Loads.{when_twice}
use Rattle.engine.proofs.session.Session.load.Goals as goal

pub returns-then-is_some-clause-next : goal.returns-then-is_some-clause-next
returns-then-is_some-clause-next g c =
    let p = is_there c.args.self.now.search (sym c.is_some.ensures ∙ c.if-is_some.true) in
    when_twice _ _ _ (world g.S.Store.shows c.args.self.now) p.0 p.1
