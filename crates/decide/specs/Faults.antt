-- What is told of a fault: of the frame's fault, or of the call's.
use Rattle.description.specs.declared.notice.Notice.{Notice}
use Rattle.job.specs.Faults as frame
use Rattle.uses.specs.Faults as call
use Rattle.decide.specs.declared.fault.Fault.{Fault}
use Rattle.decide.specs.declared.fault.Fault.TheVariants.{Frame, Call}

abbrev pub notice_of : Fault → Notice
notice_of (Frame e) = frame.notice_of e
notice_of (Call e) = call.notice_of e
