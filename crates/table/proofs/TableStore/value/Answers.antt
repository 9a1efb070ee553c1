use Rattle.std.proofs.Common.{◌+◌, ◌^◌, nat_lt, sym, ap, ◌∙◌}
use Rattle.std.proofs.lemmas.Result.{err_from_is_err_and}
use Rattle.store.specs.Tasks.{allowed}
use Rattle.store.proofs.Replies.{value_refused, value_told}
use Rattle.table.specs.Store.{shows}
use Rattle.table.proofs.Lawful.{lawful_table}
use Rattle.table.proofs.TableStore.value.Goals as goal

pub returns-in_err-check_value-clause-told : goal.returns-in_err-check_value-clause-told
returns-in_err-check_value-clause-told c =
    let d = c.args.self.now in
    let p = err_from_is_err_and c.from_residual.result c.from_residual.ensures.1 in
    let e = ap (λ h. allowed (nat_lt c.args.a (h + 2)) (nat_lt c.args.w (2 ^ d.n))) (sym c.made.ensures) ∙ sym c.check_value.ensures ∙ c.in_err-check_value.was in
    rw (p.1, p.2) (value_refused (shows d) c.args.a c.args.w _ (lawful_table d) e)

pub returns-clause-told : goal.returns-clause-told
returns-clause-told c =
    let d = c.args.self.now in
    let e = ap (λ h. allowed (nat_lt c.args.a (h + 2)) (nat_lt c.args.w (2 ^ d.n))) (sym c.made.ensures) ∙ sym c.check_value.ensures ∙ c.in_ok-check_value.was in
    value_told (shows d) c.args.a c.args.w c.truth.result (lawful_table d) e c.truth.ensures
