-- The number, the part and the place of each fault, and the number of each part.
use Rattle.std.specs.Prelude.{ℕ}
use Rattle.circuit.specs.Reading as circuit
use Rattle.claim.specs.Faults as claim
use Rattle.description.specs.declared.part.Part.{Part}
use Rattle.description.specs.declared.part.Part.TheVariants as part
use Rattle.description.specs.declared.fault.Fault.{Fault}
use Rattle.description.specs.declared.fault.Fault.TheVariants.{Circuit, Assumption, Property}
use Rattle.description.specs.declared.notice.Notice.{Notice}

abbrev pub number_of : Fault → ℕ
number_of (Circuit e) = circuit.number_of e
number_of (Assumption e) = claim.number_of e
number_of (Property e) = claim.number_of e

abbrev pub part_of : Fault → Part
part_of (Circuit e) = part.Circuit
part_of (Assumption e) = part.Assumption
part_of (Property e) = part.Property

abbrev pub place_of : Fault → ℕ
place_of (Circuit e) = circuit.place_of e
place_of (Assumption e) = claim.place_of e
place_of (Property e) = claim.place_of e

abbrev pub notice_of : Fault → Notice
notice_of e = record { number = number_of e; part = part_of e; place = place_of e }

abbrev pub part_number : Part → ℕ
part_number part.Job = 0
part_number part.Circuit = 1
part_number part.Assumption = 2
part_number part.Property = 3
part_number part.Sets = 4
part_number part.Call = 5
