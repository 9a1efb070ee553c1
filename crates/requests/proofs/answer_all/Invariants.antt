use Rattle.std.proofs.Common.{◌≡◌, ℕ, ◌≤◌, take, get_or}
use Rattle.engine.specs.Keeping.{world}
use Rattle.requests.specs.declared.exchange.Exchange.{Exchange}
use Rattle.requests.specs.Progress.{AllAnswered}
use Rattle.requests.proofs.answer_all.Given as goal

-- wherever the session came from, it has come on by the exchanges so far, and those ahead are as they were
abbrev pub invariant-loop-exchange : goal.invariant-loop-exchange
invariant-loop-exchange g l =
    let shows = g.S.Store.shows in
    let i = l.exchange-index in
    record {
      progress : AllAnswered (world shows l.initial.session) (take i l.initial.exchanges) (take i l.exchanges) (world shows l.session);
      ahead : (k : ℕ) (d : Exchange) → i ≤ k → get_or l.exchanges k d ≡ get_or l.initial.exchanges k d;
    }
