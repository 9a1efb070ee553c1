use Rattle.std.proofs.Common.{◌≡◌, Err, sym, rules}
use Rattle.store.proofs.Replies.{value_refused, value_told}
use Rattle.diagram.specs.Shows.{showing}
use Rattle.diagram.proofs.Fields.{lawful_of}
use Rattle.diagram.proofs.calls.DiagramStore.value.Goals as goal

pub returns-in_err-check_value-clause-told : goal.returns-in_err-check_value-clause-told
returns-in_err-check_value-clause-told c =
    let d = c.args.self.now in
    let r : c.from_residual.result ≡ Err c.in_err-check_value.field-0.0 = search rules in
    rw r (value_refused (showing d) _ _ _ (lawful_of d) (rw c.len.ensures at (sym c.in_err-check_value.ensures)))

pub returns-clause-told : goal.returns-clause-told
returns-clause-told c =
    let d = c.args.self.now in
    value_told (showing d) _ _ _ (lawful_of d) (rw c.len.ensures at (sym c.in_ok-check_value.ensures)) c.truth.ensures
