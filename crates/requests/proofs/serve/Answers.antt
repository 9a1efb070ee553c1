use Rattle.std.proofs.Common.{subst, sym}
use Rattle.engine.specs.Keeping.{world}
use Rattle.requests.specs.Served.{Served}
use Rattle.requests.proofs.Progresses.{progress_new, served}
use Rattle.requests.proofs.serve.Goals as goal

pub returns : goal.returns
returns g c =
    let shows = g.S.Store.shows in
    let start = shows c.args.store in
    let n = c.new-session.ensures in
    let w = world shows c.new-session.result in
    let v = world shows c.answer_all.new.session in
    let xs = c.args.exchanges.now in
    let ys = c.answer_all.new.exchanges in
    let p = c.answer_all.ensures start (progress_new start w n.begun n.keeps) in
    subst (λ t. Served start xs ys t) (sym c.into_store.ensures) (served start v xs ys p)
