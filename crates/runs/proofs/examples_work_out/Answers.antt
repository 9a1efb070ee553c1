use Rattle.runs.proofs.examples_work_out.Goals as goal
use Rattle.runs.proofs.Worked.{worked}

pub returns : goal.returns
returns c = worked
