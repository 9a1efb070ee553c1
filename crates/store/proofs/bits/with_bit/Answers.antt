use Rattle.std.proofs.Common.{◌*◌, ◌^◌, ◌%◌, ◌-◌, ap, ◌∙◌}
use lib.Bits.{bit_and, bit_or}
use Rattle.std.proofs.lemmas.Nat.{one_shl}
use Rattle.store.proofs.Word.{or_truth, and_unit}
use Rattle.store.proofs.bits.with_bit.Goals as goal

pub returns-clause-within : goal.returns-clause-within
returns-clause-within c h =
    let a = c.args in
    ap (λ k. bit_or (bit_and a.w (4294967295 - k)) (c.from.result * 2 ^ a.i % 4294967296)) (one_shl a.i 32 h)
    ∙ ap (λ v. bit_or v (c.from.result * 2 ^ a.i % 4294967296)) (and_unit 32 a.i a.w h c.ranges.w.fits)
    ∙ or_truth a.i a.w _ a.t h c.from.ensures
