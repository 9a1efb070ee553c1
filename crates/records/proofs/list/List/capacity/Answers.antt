use Rattle.std.proofs.Common.{refl}
use Rattle.records.specs.Contents.{room}
use Rattle.records.proofs.list.List.capacity.Goals as goal

pub returns : goal.returns
unfolding room
returns g c = refl
