use Rattle.std.proofs.Common.{rules}
use Rattle.decide.specs.Reports.{Reports}
use Rattle.decide.proofs.Single.{only, said}
use Rattle.decide.proofs.Room.{full, grown}
use Rattle.decide.proofs.report_on.Goals as goal
use Rattle.decide.proofs.report_on.Goals.{After-into_store}

is_right : (g : _) (c : After-into_store g) → Reports (g.S.Store.shows c.args.store) c.args.job.now c.unwrap_or_else-report.result (g.S.Store.shows c.into_store.result)
is_right g c = search rules

pub returns : goal.returns
returns g c =
    let s = g.S.Store.shows c.args.store in
    let a = is_right g (goal.at.returns g c).After-into_store in
    let b = said s c.args.job.now a in
    record {
      right = a;
      only = only s c.args.job.now _ _ a;
      full = full s c.args.job.now _ _ a;
      grown = grown s c.args.job.now a;
      accepted = b.0;
      broken = b.1;
    }
