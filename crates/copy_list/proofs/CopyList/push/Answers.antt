use Rattle.std.proofs.Common.{rules}
use Rattle.copy_list.proofs.Filling.{filled_more}
use Rattle.copy_list.proofs.CopyList.push.Goals as goal

pub invariant_of-self : goal.invariant_of-self
invariant_of-self g c = filled_more _ _ _ _ _ c.self.invariant (search rules)
