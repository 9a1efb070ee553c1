-- That a netlist is sound can be shown in one way at most, so it comes out of a circuit's type.
use mathlib.Core.HLevel.{Π_prop, ⊥_prop}
use mathlib.Core.Logic.{∥∥₁_elim}
use Rattle.std.proofs.Common.{ℕ}
use native.Mathlib.Bridge.{le_prop}
use Rattle.circuit.specs.Netlists.{Netlist}
use Rattle.circuit.specs.Rules.{Wired, Sound}
use Rattle.runs.specs.Models.{Valid}
use Rattle.making.specs.Models.{alone}

wired_prop : (c : Netlist) (g : ℕ) → IsProp (Wired c g)
wired_prop c g p q i = (le_prop p.0 q.0 i, le_prop p.1 q.1 i)

sound_prop : (c : Netlist) → IsProp (Sound c)
sound_prop c p q i = record {
  some_registers = le_prop p.some_registers q.some_registers i;
  few_registers = le_prop p.few_registers q.few_registers i;
  few_inputs = le_prop p.few_inputs q.few_inputs i;
  enough_gates = le_prop p.enough_gates q.enough_gates i;
  few_gates = le_prop p.few_gates q.few_gates i;
  wired = Π_prop (λ g. Π_prop (λ _. wired_prop c g)) p.wired q.wired i;
  apart = Π_prop (λ _. ⊥_prop) p.apart q.apart i;
}

pub sound_out : (c : Netlist) → ∥ Sound c ∥₁ → Sound c
sound_out c h = ∥∥₁_elim h (sound_prop c) (λ s. s)

pub valid_alone : (c : Netlist) → ∥ Sound c ∥₁ → Valid (alone c)
valid_alone c h = record { circuit = sound_out c h; assumption = tt; property = tt }
