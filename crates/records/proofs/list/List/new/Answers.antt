use Rattle.std.proofs.Common.{refl}
use Rattle.records.specs.Contents.{entries, room}
use Rattle.records.proofs.list.List.new.Goals as goal

pub returns : goal.returns
unfolding entries room
returns g c = record { empty = refl; room = refl }
