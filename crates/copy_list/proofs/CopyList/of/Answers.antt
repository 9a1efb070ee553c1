use Rattle.std.proofs.Common.{rules}
use Rattle.copy_list.proofs.Filling.{filled}
use Rattle.copy_list.proofs.CopyList.of.Goals as goal

pub invariant_of-result : goal.invariant_of-result
invariant_of-result g c = filled _ _ c.args.entries.now _ _ (search rules) c.copy_from_slice.ensures.after (search rules)
