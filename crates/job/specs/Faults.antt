-- What is told of a fault.
use Rattle.description.specs.declared.notice.Notice.{Notice}
use Rattle.description.specs.declared.part.Part.TheVariants as part
use Rattle.job.specs.declared.fault.Fault.{Fault}
use Rattle.job.specs.declared.fault.Fault.TheVariants.{Length}

abbrev pub notice_of : Fault → Notice
notice_of (Length b) = record { number = 2; part = part.Job; place = b }
