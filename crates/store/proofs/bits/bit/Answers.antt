use Rattle.std.proofs.Common.{sym, ◌∙◌}
use Rattle.std.proofs.lemmas.Bool.{le-ltb}
use Rattle.store.proofs.Bit.{bit_shift}
use Rattle.store.proofs.Word.{bit_past}
use Rattle.store.proofs.bits.bit.Goals as goal

pub returns-then-i-lt32 : goal.returns-then-i-lt32
returns-then-i-lt32 c = sym (bit_shift c.args.i c.args.w)

pub returns-else-i-lt32 : goal.returns-else-i-lt32
returns-else-i-lt32 c = le-ltb _ _ c.if-i-lt32.false ∙ sym (bit_past 32 c.args.i c.args.w c.ranges.w.fits c.if-i-lt32.false)
