use Rattle.std.proofs.Common.{arith}
use Rattle.engine.specs.Keeping.{world}
use Rattle.requests.proofs.Progresses.{progress_at, progress_all, ahead}
use Rattle.requests.proofs.answer_all.Goals as goal

pub loop-exchange-preserved : goal.loop-exchange-preserved
loop-exchange-preserved g c =
    let shows = g.S.Store.shows in
    let l = c.loop-exchange in
    let w = world shows l.session in
    let v = world shows c.answer-exchange.new.session in
    let xs = c.args.exchanges.now in
    record {
      progress = λ s p.
          progress_at s w v xs l.exchanges l.exchange-index _ _ (omega arith) (omega arith) (l.invariant.ahead _ _ (omega arith))
          (l.invariant.progress s p) c.answer-exchange.ensures;
      ahead = ahead xs l.exchanges l.exchange-index _ l.invariant.ahead;
    }

pub returns : goal.returns
returns g c s p =
    let l = c.loop-exchange in
    progress_all s (world g.S.Store.shows l.session) c.args.exchanges.now l.exchanges l.exchange-index (omega arith) (omega arith) (l.invariant.progress s p)
