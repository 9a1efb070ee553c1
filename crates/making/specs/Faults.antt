-- The number, the part and the place of each refusal of the builder.
use Rattle.std.specs.Prelude.{ℕ}
use Rattle.description.specs.declared.part.Part.{Part}
use Rattle.description.specs.declared.part.Part.TheVariants.{Call}
use Rattle.description.specs.declared.notice.Notice.{Notice}
use Rattle.making.specs.declared.fault.Fault.{Fault as At}
use Rattle.making.specs.declared.fault.Fault.TheVariants.{Room, Number, Variable}

-- of the builder's own calls, each of which has a part
abbrev pub Fault : Type 0
Fault = At Part

abbrev pub number_of : Fault → ℕ
number_of (Room p l u) = 10
number_of Number = 16
number_of Variable = 17

abbrev pub part_of : Fault → Part
part_of (Room p l u) = p
part_of Number = Call
part_of Variable = Call

abbrev pub place_of : Fault → ℕ
place_of (Room p l u) = l
place_of Number = 0
place_of Variable = 0

abbrev pub notice_of : Fault → Notice
notice_of e = record { number = number_of e; part = part_of e; place = place_of e }
