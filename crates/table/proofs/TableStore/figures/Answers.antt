use Rattle.std.proofs.Common.{refl, arith}
use Rattle.records.proofs.Contents.{entries_fit}
use Rattle.table.proofs.Lawful.{lawful_table}
use Rattle.table.proofs.TableStore.figures.Goals as goal

pub overflow_cast-result : goal.overflow_cast-result
overflow_cast-result c = omega (arith, c.len.ensures, entries_fit c.args.self.now.list, c.args.self.now.small)

pub returns-clause-told : goal.returns-clause-told
returns-clause-told c = record {
  lawful = lawful_table c.args.self.now;
  variables = refl;
  used = c.len.ensures;
  capacity = c.capacity.ensures;
  top = refl;
}
