use Rattle.std.proofs.Common.{refl}
use Rattle.records.specs.Contents.{entries}
use Rattle.records.proofs.list.List.as_slice.Goals as goal

pub returns : goal.returns
unfolding entries
returns g c = refl
