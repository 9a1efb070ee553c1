use Rattle.std.proofs.Common.{refl}
use Rattle.diagram.specs.Remembered.{all_blank}
use Rattle.diagram.proofs.memo.Memo.new.Goals as goal

pub returns : goal.returns
unfolding all_blank
returns c = refl
