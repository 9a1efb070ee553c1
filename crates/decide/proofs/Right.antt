-- From what the calls of a session gave to the report on a job.
use Rattle.std.proofs.Common.{◌≡◌, ℕ, ◌≤◌, List, IsErrAnd, Ok, Result, sym, ap, ◌∙◌, subst}
use Rattle.std.proofs.lemmas.Result.{err_from_is_err_and}
use Rattle.store.specs.Meaning.{Shown}
use Rattle.circuit.specs.Files.{registers, sizes_at, says}
use Rattle.circuit.specs.Netlists.{Netlist}
use Rattle.circuit.specs.Rules.{reading}
use Rattle.circuit.proofs.Passing.{reading_says, says_count, reading_sound}
use Rattle.uses.specs.declared.fault.Fault.{Fault as Refusal}
use Rattle.uses.specs.declared.fault.Fault.TheVariants.{Description}
use Rattle.runs.specs.Models.{Model, system, sizes, Describes}
use Rattle.runs.specs.Search.{unsafe, verdict}
use Rattle.job.specs.Frames.{Parts, frame}
use Rattle.decide.specs.declared.fault.Fault.{Fault}
use Rattle.decide.specs.declared.fault.Fault.TheVariants.{Call}
use Rattle.decide.specs.declared.report.Report.{Report}
use Rattle.decide.specs.declared.report.Report.TheVariants as report
use Rattle.decide.specs.Outcomes.{Job, Searched}
use Rattle.decide.specs.Reports.{Reports, unfit, load_full, advance_full, found_safe, found_unsafe}
use Rattle.decide.specs.Searches.{reported, Conclusion, is_safe, is_unsafe}
use Rattle.decide.proofs.Sessions.{Unbegun, misdescribed, no_room, Short}

-- the sizes at the start of a file that passes are those of its circuit
pub sizes_are : (width : ℕ) (file : List ℕ) (c : Netlist) → reading width file ≡ Ok c → sizes_at file ≡ sizes c
sizes_are width file c e =
    let n = says_count file in
    (λ i. record { registers = (says file).registers; inputs = (says file).inputs; gates = sym n i }) ∙ ap sizes (reading_says width file c e)

pub few_registers : (width : ℕ) (file : List ℕ) (c : Netlist) → reading width file ≡ Ok c → registers file ≤ 8
few_registers width file c e = subst (λ (z : Netlist). z.registers ≤ 8) (sym (reading_says width file c e)) (reading_sound width file c e).0.few_registers

module _ (s : Shown) (bs : List ℕ) where
  -- a refusal that `?` hands on
  pub refuses : (r : Result Report Fault) (e : Fault) (t : Shown) → IsErrAnd r (λ y. y ≡ e) → Reports s bs (report.Refused e) t → Reports s bs (reported r) t
  refuses r e t b q =
      let p = err_from_is_err_and r b in
      subst (λ i. Reports s bs (reported i) t) (sym p.1) (subst (λ y. Reports s bs (report.Refused y) t) (sym p.2) q)

  module _ (p : Parts) (framed : frame bs ≡ Ok p) where
    pub not_begun : (t : Shown) (e : Refusal) → Unbegun s p.circuit p.assumption p.property t e → Reports s bs (report.Refused (Call e)) t
    not_begun t e (misdescribed {d = d} k q) = subst (λ u. Reports s bs (report.Refused (Call (Description d))) u) (sym q) (unfit framed k)
    not_begun t e (no_room d q) = load_full (record { parts = p; framed = framed; describes = d }) q

    module _ (m : Model) (d : Describes s.vars p.circuit p.assumption p.property m) where
      job : Job s.vars bs m
      job = record { parts = p; framed = framed; describes = d }

      pub not_settled : (e : Refusal) (t : Shown) → Short s m t e → Reports s bs (report.Refused (Call e)) t
      not_settled e t u = subst (λ y. Reports s bs (report.Refused (Call y)) t) (sym u.is) (advance_full job u.searched u.undecided u.stops)

      pub concluded : (j : ℕ) (t : Shown) (r : Report) → Searched m s j t → Conclusion m j r → Reports s bs r t
      concluded j t r f (is_safe o) = found_safe job f o
      concluded j t r f (is_unsafe {x = x} e o h) =
          found_unsafe job (subst (λ i. Searched m s i t) (sym e) f) (subst (λ i. verdict (system m) i ≡ unsafe i) (sym e) o) h
