-- What the checks of a circuit file and two texts give, for a store of `width` variables.
use Rattle.std.specs.Prelude.{◌≡◌, ℕ, List, Ok, Err, Result}
use Rattle.circuit.specs.declared.refusal.Refusal.{Refusal}
use Rattle.circuit.specs.Netlists.{Netlist}
use Rattle.circuit.specs.Rules.{reading}
use Rattle.claim.specs.declared.fault.Fault.{Fault as Misreading}
use Rattle.claim.specs.Grammar.{Tree}
use Rattle.claim.specs.Faults.{Read, Refused}
use Rattle.runs.specs.Models.{Model, sizes, Describes}
use Rattle.description.specs.declared.fault.Fault.{Fault}
use Rattle.description.specs.declared.fault.Fault.TheVariants as fault

module _ (width : ℕ) (file assumed promised : List ℕ) where
  -- the circuit's, then the whole assumption's, then the whole property's
  pub data Checked : Result Model Fault → Type 0 where
    right : {m : Model} → Describes width file assumed promised m → Checked (Ok m)
    wrong_circuit : {e : Refusal} → reading width file ≡ Err e → Checked (Err (fault.Circuit e))
    wrong_assumption : {c : Netlist} {f : Misreading} → reading width file ≡ Ok c → Refused assumed (sizes c) f → Checked (Err (fault.Assumption f))
    wrong_property : {c : Netlist} {t : Tree} {f : Misreading} → reading width file ≡ Ok c → Read assumed (sizes c) t → Refused promised (sizes c) f
        → Checked (Err (fault.Property f))

  -- they always give an answer, and never two
  pub record OneAnswer : Type 0 where
    pub always : (r : Result Model Fault) × Checked r
    pub one : (r r' : Result Model Fault) → Checked r → Checked r' → r ≡ r'
