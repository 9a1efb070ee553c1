use Rattle.diagram.proofs.Twofold.{made_variable}
use Rattle.diagram.proofs.Diagram.make.Goals as goal

pub returns-in-Variable : goal.returns-in-Variable
returns-in-Variable c = rw c.in-Variable.is (made_variable c.args.self.now c.join.new.self c.in-Variable.i c.join.result c.join.ensures)

pub returns-in-Not : goal.returns-in-Not
returns-in-Not c = rw c.in-Not.is c.number.ensures

pub returns-in-And : goal.returns-in-And
returns-in-And c = rw (c.in-Both.is, c.in-And.is) c.number-in-And.ensures

pub returns-in-Or : goal.returns-in-Or
returns-in-Or c = rw (c.in-Both.is, c.in-Or.is) c.number-in-Or.ensures

pub returns-in-Cofactor : goal.returns-in-Cofactor
returns-in-Cofactor c = rw c.in-Cofactor.is c.number-in-Cofactor.ensures
