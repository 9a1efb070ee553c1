use Rattle.std.proofs.Common.{rules}
use Rattle.table.proofs.Table.form.Goals as goal

pub returns-in-Variable : goal.returns-in-Variable
returns-in-Variable c = c.of.ensures _ (λ w r low p. search rules)

pub returns-in-Not : goal.returns-in-Not
returns-in-Not c = c.of-in-Not.ensures _ (λ w r low p. search rules)

pub returns-in-Both-And-default-default : goal.returns-in-Both-And-default-default
returns-in-Both-And-default-default c = c.of-in-Both-And-default-default.ensures _ (λ w r low p. search rules)

pub returns-in-Both-Or-default-default : goal.returns-in-Both-Or-default-default
returns-in-Both-Or-default-default c = c.of-in-Both-Or-default-default.ensures _ (λ w r low p. search rules)

pub returns-in-Cofactor : goal.returns-in-Cofactor
returns-in-Cofactor c = c.of-in-Cofactor.ensures _ (λ w r low p. search rules)
