use Rattle.std.proofs.Common.{◌≡◌, Err, sym, rules}
use Rattle.store.proofs.Replies.{reply_refused, reply_made}
use Rattle.diagram.specs.Shows.{showing}
use Rattle.diagram.proofs.Fields.{lawful_of}
use Rattle.diagram.proofs.Replies.{answered}
use Rattle.diagram.proofs.calls.DiagramStore.answer.Goals as goal

pub returns-in_err-check : goal.returns-in_err-check
returns-in_err-check c =
    let d = c.args.self.now in
    let r : c.from_residual.result ≡ Err c.in_err-check.field-0.0 = search rules in
    rw r (reply_refused (showing d) _ _ _ _ (lawful_of d) (rw c.len-used.ensures at (sym c.in_err-check.ensures)))

pub returns : goal.returns
returns c =
    let d = c.args.self.now in
    let e = c.finish.new.self in
    reply_made (showing d) (showing e) _ _ _ _ (lawful_of d) (lawful_of e) (rw c.len-used.ensures at (sym c.in_ok-check.ensures))
    (answered d c.make-made.new.self e _ _ c.make-made.result c.finish.result c.len-used.result c.len-used.ensures c.make-made.ensures c.finish.ensures)
