-- What a load starts from and what it leaves.
use Rattle.std.proofs.Common.{◌≡◌, ℕ, zero, suc, List, get_or, sym, ◌∙◌, subst, arith}
use Rattle.store.specs.Fun.{Fn}
use Rattle.store.specs.Meaning.{Shown, Lawful}
use Rattle.circuit.specs.Netlists.{Netlist}
use Rattle.claim.specs.Grammar.{Tree}
use Rattle.runs.specs.Valuations.{line_fn}
use Rattle.runs.specs.Models.{Model, Valid}
use Rattle.runs.proofs.Models.{functions_exact}
use Rattle.making.specs.declared.parts.Built.{Built}
use Rattle.making.specs.Models.{model, alone}
use Rattle.making.specs.Making.{Means, Numbered}
use Rattle.making.specs.Loads.{Loaded}

-- line 0 is number 0
pub zeroth : (m : Model) → Valid m → (s : Shown) → Lawful s → (ns : List ℕ) → get_or ns 0 0 ≡ 0 → Numbered s ns (line_fn m) 1
zeroth m ok s w ns e zero l = subst (λ a. Means s a (line_fn m 0)) (sym e) (record { held = w.no.0; same = λ v j. w.no.1 v j ∙ sym ((functions_exact m ok).lined.zeroth v) })
zeroth m ok s w ns e (suc i) l = absurd (omega arith)

-- what stands for a circuit alone stands for each model of it
pub loaded_model : (c : Netlist) (h q : Tree) {t : Shown} {f g : Fn} {b : Built} → Loaded t (alone c) f g b → Loaded t (model c h q) f g b
loaded_model c h q k = record {
  lawful = k.lawful;
  registers = k.registers;
  inputs = k.inputs;
  kept = k.kept;
  property = k.property;
  init = k.init;
  set = k.set;
  met = k.met;
}
