-- Texts for a circuit with one register, one input and two gates.
use Rattle.std.specs.Prelude.{ℕ, List, [], ◌++◌, replicate, codes, true}
use Rattle.circuit.specs.declared.sizes.Sizes.{Sizes}
use Rattle.circuit.specs.declared.sort.Sort.TheVariants.{Register, Input}
use Rattle.claim.specs.declared.fault.Fault.TheVariants.{Claim, Name, Deep}
use Rattle.claim.specs.Grammar.{Tree, const, named, neg}
use Rattle.claim.specs.Faults.{Read, Refused}

abbrev pub small : Sizes
small = record { registers = 1; inputs = 1; gates = 2 }

-- n times `!`, then s0
abbrev pub negated : ℕ → List ℕ
negated n = replicate n 33 ++ codes "s0"

pub record Examples : Type 0 where
  pub empty : Refused [] small (Claim 0)
  pub two_names : Refused (codes "s0 s9") small (Claim 3)
  pub no_register : Refused (codes "s1") small (Name 0)
  pub leading_zero : Refused (codes "s00") small (Claim 0)
  pub deepest : (t : Tree) × Read (negated 16) small t
  pub too_deep : Refused (negated 17) small (Deep 16)
  pub constant : Read (codes "1") small (const 0 true)
  pub register : Read (codes "s0") small (named 0 Register 0)
  pub not_register : Read (codes "!s0") small (neg 0 (named 1 Register 0))
  pub not_input : Read (codes "!v0") small (neg 0 (named 1 Input 0))
