use Rattle.std.proofs.Common.{◌+◌, nat_lt, sym, ap, ◌∙◌}
use Rattle.std.proofs.lemmas.Result.{err_from_is_err_and}
use Rattle.store.specs.Tasks.{names, ranges, allowed}
use Rattle.store.proofs.Replies.{reply_refused, reply_made}
use Rattle.table.specs.Store.{shows}
use Rattle.table.proofs.Lawful.{lawful_table}
use Rattle.table.proofs.TableStore.answer.Goals as goal

pub returns-in_err-check : goal.returns-in_err-check
returns-in_err-check c =
    let d = c.args.self.now in
    let p = err_from_is_err_and c.from_residual.result c.from_residual.ensures.1 in
    let e = ap (λ h. allowed (names (λ a. nat_lt a (h + 2)) c.args.task) (ranges d.n c.args.task)) (sym c.made.ensures) ∙ sym c.check.ensures ∙ c.in_err-check.was in
    rw (p.1, p.2) (reply_refused (shows d) _ _ _ _ (lawful_table d) e)

pub returns : goal.returns
returns c =
    let d = c.args.self.now in
    let e = ap (λ h. allowed (names (λ a. nat_lt a (h + 2)) c.args.task) (ranges d.n c.args.task)) (sym c.made.ensures) ∙ sym c.check.ensures ∙ c.in_ok-check.was in
    reply_made (shows d) (shows c.make.new.self) _ _ _ c.make.result (lawful_table d) (lawful_table c.make.new.self) e c.make.ensures
