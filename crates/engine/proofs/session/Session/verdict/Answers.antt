use Rattle.std.proofs.Common.{◌≡◌, rules, sym, subst}
use Rattle.std.specs.Borrow.{Bor}
use Rattle.uses.specs.Calls.{State, told, stand}
use Rattle.uses.specs.Promise.{Promise}
use Rattle.uses.proofs.Promises.{promised}
use Rattle.engine.specs.declared.search.Search.{Search}
use Rattle.engine.specs.Keeping.{world, Keeps}
use Rattle.engine.proofs.Keepings.{told_by, asked}
use Rattle.engine.proofs.session.Session.verdict.Goals as goal
use Rattle.engine.proofs.session.Session.verdict.Goals.{After-map_or}

tells : (g : _) (c : After-map_or g) (st : State) → Keeps st (world g.S.Store.shows c.args.self.now) → c.map_or.result ≡ told st
tells g c st = told_by (λ (x : Bor Search). x.now) _ st (world g.S.Store.shows c.args.self.now) c.as_ref.result c.map_or.result c.as_ref.ensures.value c.map_or.ensures (λ k p. search rules)

pub returns-clause-promise : goal.returns-clause-promise
returns-clause-promise g c s h st u k =
    subst (λ r. Promise s h st r) (sym (tells g (goal.at.returns-clause-promise g c).After-map_or st k)) (promised s h (stand st (g.S.Store.shows c.args.self.now.store)) u)

pub returns-clause-next : goal.returns-clause-next
returns-clause-next g c = asked (world g.S.Store.shows c.args.self.now) c.map_or.result (tells g (goal.at.returns-clause-next g c).After-map_or)
