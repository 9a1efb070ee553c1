use Rattle.std.proofs.Common.{◌^◌, ◌≤◌, sym, ◌∙◌, pow_mono, arith}
use Rattle.std.proofs.lemmas.Bool.{lt-ltb, le-leb}
use Rattle.store.proofs.task.is_valuation.Goals as goal

pub returns-then-variables-ge32 : goal.returns-then-variables-ge32
returns-then-variables-ge32 c =
    let n = c.args.variables in
    let w = c.args.w in
    let p : 2 ^ 32 ≤ 2 ^ n = pow_mono c.if-variables-ge32.true in
    le-leb 32 n c.if-variables-ge32.true ∙ sym (lt-ltb w (2 ^ n) (omega (arith, c.ranges.w.fits)))
