use Rattle.runs.proofs.traces_are_runs.Goals as goal
use Rattle.runs.proofs.Traces.{traces}

pub returns : goal.returns
returns c = traces
