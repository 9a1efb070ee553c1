-- What the checks come to on a netlist whose sizes are in range.
use Rattle.std.proofs.Common.{◌≡◌, ℕ, ◌-◌, ◌<◌, true, false, length, Ok, Err, ◌∙◌, arith}
use Rattle.std.proofs.lemmas.Bool.{cond-true, cond-false, le-ltb}
use Rattle.std.proofs.lemmas.Bool.Decides.{not_from_Decides}
use Rattle.circuit.specs.declared.refusal.Refusal.TheVariants.{Start}
use Rattle.circuit.specs.Netlists.{Netlist, sizes, lines, init_line}
use Rattle.circuit.specs.Lines.{touching}
use Rattle.circuit.specs.Rules.{Wired, Sound, first_miswired, checking}
use Rattle.circuit.specs.Steps.{InRange}
use Rattle.circuit.proofs.Checks.{least_none, wired_not}
use Rattle.circuit.proofs.Lines.{touching_tells}

module _ (c : Netlist) (wired : (g : ℕ) → g < length c.gates → Wired c g) where
  all_wired : first_miswired c ≡ length c.gates
  all_wired = least_none _ _ (λ g h. wired_not c g (wired g h))

  pub refused : touching c (init_line c) ≡ true → checking c ≡ Err (Start (length c.gates - 1))
  refused t = cond-false _ _ _ (le-ltb (first_miswired c) (length c.gates) (omega (arith, all_wired))) ∙ cond-true _ _ _ t

  pub accepted : touching c (init_line c) ≡ false → checking c ≡ Ok c
  accepted t = cond-false _ _ _ (le-ltb (first_miswired c) (length c.gates) (omega (arith, all_wired))) ∙ cond-false _ _ _ t

  pub sound : InRange (sizes c) → touching c (init_line c) ≡ false → Sound c
  sound r t = record {
    some_registers = r.some_registers;
    few_registers = r.few_registers;
    few_inputs = r.few_inputs;
    enough_gates = r.enough_gates;
    few_gates = r.few_gates;
    wired = wired;
    apart = not_from_Decides _ (touching_tells c wired (lines c) (omega arith) (init_line c) (omega (arith, r.enough_gates))) t;
  }
