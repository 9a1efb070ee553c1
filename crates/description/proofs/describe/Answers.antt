use Rattle.std.proofs.Common.{◌≡◌, ℕ, List, Ok, Result, MatchResult, IsErrAnd, sym, refl, ◌∙◌, ap, subst}
use Rattle.std.proofs.lemmas.Result.{MatchResult-at_ok, MatchResult-at_err}
use Rattle.circuit.specs.Reading.{netlist, answered}
use Rattle.circuit.specs.declared.sizes.Sizes.{Sizes}
use Rattle.circuit.specs.Netlists.{Netlist, sizes}
use Rattle.claim.specs.declared.codes.Codes.{Codes}
use Rattle.claim.specs.declared.fault.Fault.{Fault as Misreading}
use Rattle.claim.specs.Grammar.{Known}
use Rattle.claim.specs.Faults.{Read, Refused}
use Rattle.claim.specs.Result.{used, Reads}
use Rattle.description.specs.declared.fault.Fault.{Fault}
use Rattle.description.specs.Checks.{wrong_circuit, wrong_assumption, wrong_property}
use Rattle.description.specs.Stated.{Stated}
use Rattle.description.proofs.Mapping.{was_ok, was_err, exits}
use Rattle.description.proofs.describe.Goals as goal

-- an accepted text
module _ {text : List ℕ} {z : Sizes} {x : Codes} where
  read_of : (P : Misreading → Fault → Type 0) (r : Result Codes Misreading) (s : Result Codes Fault)
      → MatchResult r (λ y. s ≡ Ok y) (λ e. IsErrAnd s (P e))
      → s ≡ Ok x
      → MatchResult r (Reads text z) (Refused text z)
      → Reads text z x
  read_of P r s mapped was answer = MatchResult-at_ok (Reads text z) (Refused text z) x (was_ok P r s mapped was) answer

  stated : (c : Netlist) → z ≡ sizes c → Reads text z x → Stated c (used x)
  stated c is a = (a.tree, a.codes, subst (λ (y : Sizes). Known y a.tree) is a.read.known)

pub invariant_of-result : goal.invariant_of-result
invariant_of-result c =
    let a = read_of _ c.read-2.result c.map_err-2.result c.map_err-2.ensures.cases c.in_ok-assumption.was c.read-2.ensures.answer in
    let p = read_of _ c.read-3.result c.map_err-3.result c.map_err-3.ensures.cases c.in_ok-property.was c.read-3.ensures.answer in
    record { stated = ∣ (stated (netlist c.in_ok-circuit.circuit) c.sizes-sizes.ensures a, stated (netlist c.in_ok-circuit.circuit) c.sizes-sizes.ensures p) ∣₁ }

pub returns-in_err-circuit : goal.returns-in_err-circuit
returns-in_err-circuit c =
    let w = was_err _ c.read.result c.map_err.result c.map_err.ensures.cases c.in_err-circuit.was in
    exits _ _ c.from_residual.result c.from_residual.ensures.1 w.2 (wrong_circuit (sym c.read.ensures.reads ∙ ap answered w.1))

pub returns-in_err-assumption : goal.returns-in_err-assumption
returns-in_err-assumption c =
    let circuit = was_ok _ c.read.result c.map_err.result c.map_err.ensures.cases c.in_ok-circuit.was in
    let text = c.args.source.assumption.now in
    let z = c.sizes-sizes.result in
    let w = was_err _ c.read-2.result c.map_err-2.result c.map_err-2.ensures.cases c.in_err-assumption.was in
    exits _ _ c.from_residual-in_err-assumption.result c.from_residual-in_err-assumption.ensures.1 w.2
    (wrong_assumption (sym c.read.ensures.reads ∙ ap answered circuit)
    (subst (λ (y : Sizes). Refused text y w.0) c.sizes-sizes.ensures
    (MatchResult-at_err (Reads text z) (Refused text z) w.0 w.1 c.read-2.ensures.answer)))

pub returns-in_err-property : goal.returns-in_err-property
returns-in_err-property c =
    let circuit = was_ok _ c.read.result c.map_err.result c.map_err.ensures.cases c.in_ok-circuit.was in
    let text = c.args.source.assumption.now in
    let promise = c.args.source.property.now in
    let z = c.sizes-sizes.result in
    let a = read_of _ c.read-2.result c.map_err-2.result c.map_err-2.ensures.cases c.in_ok-assumption.was c.read-2.ensures.answer in
    let w = was_err _ c.read-3.result c.map_err-3.result c.map_err-3.ensures.cases c.in_err-property.was in
    exits _ _ c.from_residual-in_err-property.result c.from_residual-in_err-property.ensures.1 w.2
    (wrong_property (sym c.read.ensures.reads ∙ ap answered circuit)
    (subst (λ (y : Sizes). Read text y a.tree) c.sizes-sizes.ensures a.read)
    (subst (λ (y : Sizes). Refused promise y w.0) c.sizes-sizes.ensures
    (MatchResult-at_err (Reads promise z) (Refused promise z) w.0 w.1 c.read-3.ensures.answer)))

pub returns : goal.returns
returns c =
    let circuit = was_ok _ c.read.result c.map_err.result c.map_err.ensures.cases c.in_ok-circuit.was in
    let text = c.args.source.assumption.now in
    let promise = c.args.source.property.now in
    let a = read_of _ c.read-2.result c.map_err-2.result c.map_err-2.ensures.cases c.in_ok-assumption.was c.read-2.ensures.answer in
    let p = read_of _ c.read-3.result c.map_err-3.result c.map_err-3.ensures.cases c.in_ok-property.was c.read-3.ensures.answer in
    record {
      model = record { circuit = netlist c.in_ok-circuit.circuit; assumption = a.tree; property = p.tree };
      describes = record {
        circuit = sym c.read.ensures.reads ∙ ap answered circuit;
        assumption = subst (λ (y : Sizes). Read text y a.tree) c.sizes-sizes.ensures a.read;
        property = subst (λ (y : Sizes). Read promise y p.tree) c.sizes-sizes.ensures p.read;
      };
      circuit = refl;
      assumed = a.codes;
      promised = p.codes;
    }
