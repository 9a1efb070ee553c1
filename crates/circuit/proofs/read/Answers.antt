use Rattle.std.proofs.Common.{Ok, sym, refl, rules, arith}
use Rattle.circuit.specs.Reading.{answered}
use Rattle.circuit.proofs.Lines.{determined}
use Rattle.circuit.proofs.Written.{acceptable, written_exactly, accepted_exactly}
use Rattle.circuit.proofs.read.Goals as goal

pub returns-in_err-netlist-clause-written : goal.returns-in_err-netlist-clause-written
returns-in_err-netlist-clause-written c = written_exactly c.args.width c.args.file.now (answered c.from_residual.result) (search rules) (λ i. omega (arith, c.type_inv.file i))

pub returns-in_err-netlist-clause-accepted : goal.returns-in_err-netlist-clause-accepted
returns-in_err-netlist-clause-accepted c = accepted_exactly c.args.width c.args.file.now c.from_residual.result (search rules)

pub returns-clause-written : goal.returns-clause-written
returns-clause-written c = written_exactly c.args.width c.args.file.now (Ok c.in_ok-netlist.netlist) c.in_ok-netlist.ensures.reads (λ i. omega (arith, c.type_inv.file i))

pub returns-clause-accepted : goal.returns-clause-accepted
returns-clause-accepted c = ((λ h. acceptable c.args.width c.args.file.now c.in_ok-netlist.netlist (sym c.in_ok-netlist.ensures.reads)), (λ a. refl))

pub returns-clause-determined : goal.returns-clause-determined
returns-clause-determined c = determined _ c.in_ok-netlist.ensures.sound
