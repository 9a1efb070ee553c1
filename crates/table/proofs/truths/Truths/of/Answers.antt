use Rattle.std.proofs.Common.{rules, arith}
use Rattle.std.proofs.lemmas.Nat.{one_shl}
use Rattle.table.specs.Tables.{within}
use Rattle.table.proofs.Tables.{within_ends}
use Rattle.table.proofs.truths.Truths.of.Goals as goal

pub returns : goal.returns
returns g c f h = c.packed.ensures (within c.args.n f) (λ w r low p. search rules) (λ w past. within_ends c.args.n f w (omega (arith, one_shl c.args.n 32 (omega (arith, c.requires.few)))))
