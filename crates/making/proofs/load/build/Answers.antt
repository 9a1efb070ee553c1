use Rattle.std.proofs.Common.{◌≡◌, ℕ, IsErrAnd, Err, Result, ◌∙◌, subst}
use Rattle.store.specs.declared.refusal.Refusal.{Refusal}
use Rattle.store.specs.Meaning.{Shown}
use Rattle.circuit.specs.declared.circuit.Circuit.{Circuit}
use Rattle.circuit.specs.Reading.{netlist}
use Rattle.claim.specs.declared.codes.Codes.{Codes}
use Rattle.claim.specs.Result.{used}
use Rattle.description.specs.declared.described.Described.{Described}
use Rattle.description.specs.declared.part.Part.{Part}
use Rattle.description.specs.declared.part.Part.TheVariants.{Assumption, Property}
use Rattle.description.specs.Results.{circuit_of, assumption_of, property_of}
use Rattle.making.specs.Faults.{Fault}
use Rattle.making.specs.declared.lines.Lines.{Lines}
use Rattle.making.specs.declared.parts.Built.{Built}
use Rattle.making.specs.Models.{alone}
use Rattle.making.specs.Promises.{MakesLines, MakesClaim, MakesStart, Builds}
use Rattle.making.proofs.Steps.{exits}
use Rattle.making.proofs.Building.{unlined, unassumed, unpromised, started}
use Rattle.making.proofs.load.build.Goals as goal

-- the parts that were lent are those of what was described
module _ (d : Described) {s t : Shown} where
  exit : (r : Result Built Fault) {e : Fault} → IsErrAnd r (λ y. y ≡ e)
      → Builds s (netlist (circuit_of d)) (used (assumption_of d)) (used (property_of d)) (Err e) t
      → Builds s (netlist (circuit_of d)) (used (assumption_of d)) (used (property_of d)) r t
  exit r {e = e} is = exits (λ z. Builds s (netlist (circuit_of d)) (used (assumption_of d)) (used (property_of d)) z t) r e is

  of_lines : {x : Circuit} {r : Result Lines Fault} → x ≡ circuit_of d → MakesLines s (alone (netlist x)) r t → MakesLines s (alone (netlist (circuit_of d))) r t
  of_lines {r = r} e k = subst (λ z. MakesLines s (alone (netlist z)) r t) e k

  of_claim : (p : Part) (k : Lines) {x y : Codes} {r : Result ℕ Fault} → k.circuit.now ≡ circuit_of d → x ≡ y
      → MakesClaim s p (alone (netlist k.circuit.now)) (used x) k.numbers.items r t
      → MakesClaim s p (alone (netlist (circuit_of d))) (used y) k.numbers.items r t
  of_claim p k {x = x} {y = y} {r = r} e f h =
      subst (λ z. MakesClaim s p (alone (netlist (circuit_of d))) (used z) k.numbers.items r t) f
      (subst (λ z. MakesClaim s p (alone (netlist z)) (used x) k.numbers.items r t) e h)

  of_start : (k : Lines) {a b : ℕ} {r : Result Built Refusal} → k.circuit.now ≡ circuit_of d
      → MakesStart s (alone (netlist k.circuit.now)) k.numbers.items k.copies.items a b r t
      → MakesStart s (alone (netlist (circuit_of d))) k.numbers.items k.copies.items a b r t
  of_start k {a = a} {b = b} {r = r} e h = subst (λ z. MakesStart s (alone (netlist z)) k.numbers.items k.copies.items a b r t) e h

pub returns-in_err-lines : goal.returns-in_err-lines
returns-in_err-lines g c =
    let d = c.args.described.now in
    exit d c.from_residual.result c.from_residual.ensures.1
    (unlined (netlist (circuit_of d)) (used (assumption_of d)) (used (property_of d)) d.stated _ _ _ (of_lines d c.circuit.ensures c.in_err-lines.ensures.makes))

pub returns-in_err-assumed : goal.returns-in_err-assumed
returns-in_err-assumed g c =
    let d = c.args.described.now in
    let k = c.in_ok-lines.lines in
    exit d c.from_residual-in_err-assumed.result c.from_residual-in_err-assumed.ensures.1
    (unassumed (netlist (circuit_of d)) (used (assumption_of d)) (used (property_of d)) d.stated _ _ k (of_lines d c.circuit.ensures c.in_ok-lines.ensures.makes) _ _
    (of_claim d Assumption k (c.in_ok-lines.ensures.circuit ∙ c.circuit.ensures) c.assumption.ensures c.in_err-assumed.ensures))

pub returns-in_err-promised : goal.returns-in_err-promised
returns-in_err-promised g c =
    let d = c.args.described.now in
    let k = c.in_ok-lines.lines in
    let e = c.in_ok-lines.ensures.circuit ∙ c.circuit.ensures in
    exit d c.from_residual-in_err-promised.result c.from_residual-in_err-promised.ensures.1
    (unpromised (netlist (circuit_of d)) (used (assumption_of d)) (used (property_of d)) d.stated _ _ k (of_lines d c.circuit.ensures c.in_ok-lines.ensures.makes) _ _
    (of_claim d Assumption k e c.assumption.ensures c.in_ok-assumed.ensures) _ _
    (of_claim d Property k e c.property.ensures c.in_err-promised.ensures))

pub returns : goal.returns
returns g c =
    let d = c.args.described.now in
    let k = c.in_ok-lines.lines in
    let e = c.in_ok-lines.ensures.circuit ∙ c.circuit.ensures in
    rw c.place_at.ensures
    (started (netlist (circuit_of d)) (used (assumption_of d)) (used (property_of d)) d.stated _ _ k (of_lines d c.circuit.ensures c.in_ok-lines.ensures.makes) _ _
    (of_claim d Assumption k e c.assumption.ensures c.in_ok-assumed.ensures) _ _
    (of_claim d Property k e c.property.ensures c.in_ok-promised.ensures) _ c.make_start-start.result
    (of_start d k e c.make_start-start.ensures))
