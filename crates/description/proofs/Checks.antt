-- The checks of a load give one answer.
use Rattle.std.proofs.Common.{◌≡◌, ℕ, List, Ok, Err, Result, sym, refl, ap, subst, ⊎_elim, arith}
use Rattle.circuit.specs.declared.refusal.Refusal.{Refusal}
use Rattle.circuit.specs.Netlists.{Netlist}
use Rattle.circuit.specs.Rules.{reading}
use Rattle.claim.specs.declared.fault.Fault.{Fault as Misreading}
use Rattle.claim.specs.Grammar.{Tree}
use Rattle.claim.specs.Faults.{Read, Refused}
use Rattle.claim.proofs.Exactly.{exact}
use Rattle.description.specs.declared.fault.Fault.{Fault}
use Rattle.description.specs.declared.fault.Fault.TheVariants as fault
use Rattle.runs.specs.Models.{Model, sizes, Describes}
use Rattle.description.specs.Checks.{Checked, right, wrong_circuit, wrong_assumption, wrong_property}

pub never : {X : Type 0} → ◌≡◌ {A = ℕ} 0 1 → X
never e = absurd (omega arith)

-- texts of one circuit
module _ {r : Result Netlist Refusal} {c c' : Netlist} (e : r ≡ Ok c) (e' : r ≡ Ok c') where
  one_circuit : c ≡ c'
  one_circuit = cc

  one_tree : {text : List ℕ} {t t' : Tree} → Read text (sizes c) t → Read text (sizes c') t' → t ≡ t'
  one_tree {text = text} {t = t} {t' = t'} h h' = (exact text (sizes c)).one_tree t t' h (subst (λ d. Read text (sizes d) t') (sym one_circuit) h')

  one_fault : {text : List ℕ} {f f' : Misreading} → Refused text (sizes c) f → Refused text (sizes c') f' → f ≡ f'
  one_fault {text = text} {f = f} {f' = f'} h h' = (exact text (sizes c)).one_fault f f' h (subst (λ d. Refused text (sizes d) f') (sym one_circuit) h')

  not_both : {text : List ℕ} {t : Tree} {f : Misreading} → Read text (sizes c) t → Refused text (sizes c') f → ⊥
  not_both {text = text} {t = t} {f = f} h h' = (exact text (sizes c)).not_both t f h (subst (λ d. Refused text (sizes d) f) (sym one_circuit) h')

one_model : {width : ℕ} {x a p : List ℕ} {m m' : Model} → Describes width x a p m → Describes width x a p m' → m ≡ m'
one_model d d' =
    let c = one_circuit d.circuit d'.circuit in
    let h = one_tree d.circuit d'.circuit d.assumption d'.assumption in
    let q = one_tree d.circuit d'.circuit d.property d'.property in
    λ i. record { circuit = c i; assumption = h i; property = q i }

pub one_check : {width : ℕ} {x a p : List ℕ} {r r' : Result Model Fault} → Checked width x a p r → Checked width x a p r' → r ≡ r'
one_check (right d) (right d') = ap Ok (one_model d d')
one_check (right d) (wrong_circuit e) = let h = d.circuit in never (cc)
one_check (right d) (wrong_assumption e f) = absurd (not_both d.circuit e d.assumption f)
one_check (right d) (wrong_property e h f) = absurd (not_both d.circuit e d.property f)
one_check (wrong_circuit e) (right d) = let h = d.circuit in never (cc)
one_check (wrong_circuit {e = y} e) (wrong_circuit {e = z} e') = let h : y ≡ z = cc in ap (λ i. Err (fault.Circuit i)) h
one_check (wrong_circuit e) (wrong_assumption e' f) = never (cc)
one_check (wrong_circuit e) (wrong_property e' h f) = never (cc)
one_check (wrong_assumption e f) (right d) = absurd (not_both d.circuit e d.assumption f)
one_check (wrong_assumption e f) (wrong_circuit e') = never (cc)
one_check (wrong_assumption e f) (wrong_assumption e' f') = ap (λ i. Err (fault.Assumption i)) (one_fault e e' f f')
one_check (wrong_assumption e f) (wrong_property e' h f') = absurd (not_both e' e h f)
one_check (wrong_property e h f) (right d) = absurd (not_both d.circuit e d.property f)
one_check (wrong_property e h f) (wrong_circuit e') = never (cc)
one_check (wrong_property e h f) (wrong_assumption e' f') = absurd (not_both e e' h f')
one_check (wrong_property e h f) (wrong_property e' h' f') = ap (λ i. Err (fault.Property i)) (one_fault e e' f f')

-- the checks always give an answer
pub some_check : (width : ℕ) (x a p : List ℕ) → (r : Result Model Fault) × Checked width x a p r
some_check width x a p = by (reading width x) refl
  where
    by : (r : Result Netlist Refusal) → reading width x ≡ r → (r : Result Model Fault) × Checked width x a p r
    by (Err e) is = (Err (fault.Circuit e), wrong_circuit is)
    by (Ok c) is =
        ⊎_elim
        (λ h. ⊎_elim
        (λ q. (Ok (record { circuit = c; assumption = h.0; property = q.0 }), right (record { circuit = is; assumption = h.1; property = q.1 })))
        (λ f. (Err (fault.Property f.0), wrong_property is h.1 f.1))
        (exact p (sizes c)).always)
        (λ f. (Err (fault.Assumption f.0), wrong_assumption is f.1))
        (exact a (sizes c)).always
