use Rattle.std.proofs.Common.{[]}
use Rattle.claim.specs.Truth.{logic}
use Rattle.claim.proofs.Stacks.{exec_post}
use Rattle.claim.proofs.codes_run_to_the_truth.Goals as goal

pub returns : goal.returns
returns c v t = exec_post (logic v) t []
