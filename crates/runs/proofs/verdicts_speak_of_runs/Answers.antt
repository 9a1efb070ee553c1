use Rattle.runs.proofs.verdicts_speak_of_runs.Goals as goal
use Rattle.runs.proofs.Verdicts.{verdicts}

pub returns : goal.returns
returns c = verdicts
