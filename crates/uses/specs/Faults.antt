-- The number, the part and the place of each refusal of a session.
use Rattle.std.specs.Prelude.{ℕ}
use Rattle.description.specs.declared.part.Part.{Part}
use Rattle.description.specs.declared.part.Part.TheVariants.{Call}
use Rattle.description.specs.declared.notice.Notice.{Notice}
use Rattle.description.specs.Faults as description
use Rattle.making.specs.Faults as making
use Rattle.uses.specs.declared.fault.Fault.{Fault}
use Rattle.uses.specs.declared.fault.Fault.TheVariants.{Loaded, Description, Making, Empty}
use Rattle.uses.specs.declared.fault.Fault.TheVariants.{Settled, Verdict, Short, State}

abbrev pub number_of : Fault → ℕ
number_of Loaded = 1
number_of (Description e) = description.number_of e
number_of (Making e) = making.number_of e
number_of Empty = 11
number_of Settled = 12
number_of Verdict = 13
number_of (Short n) = 14
number_of State = 15

abbrev pub part_of : Fault → Part
part_of Loaded = Call
part_of (Description e) = description.part_of e
part_of (Making e) = making.part_of e
part_of Empty = Call
part_of Settled = Call
part_of Verdict = Call
part_of (Short n) = Call
part_of State = Call

abbrev pub place_of : Fault → ℕ
place_of Loaded = 0
place_of (Description e) = description.place_of e
place_of (Making e) = making.place_of e
place_of Empty = 0
place_of Settled = 0
place_of Verdict = 0
place_of (Short n) = n
place_of State = 0

abbrev pub notice_of : Fault → Notice
notice_of e = record { number = number_of e; part = part_of e; place = place_of e }
