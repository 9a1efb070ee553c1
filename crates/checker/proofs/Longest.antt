-- No job that is accepted is longer than 5,130 bytes.
use Rattle.std.proofs.Common.{◌≡◌, ℕ, ◌+◌, ◌*◌, ◌<◌, ◌≤◌, List, length, take, Option, Some, None, Ok, inl, inr, refl, ap, ◌∙◌, subst, arith}
use Rattle.std.specs.Prelude.{IfSome}
use Rattle.std.proofs.lemmas.List.{length-take-le}
use Rattle.circuit.proofs.Passing.{reading_long, reading_says, reading_sound, says_count}
use Rattle.circuit.specs.Netlists.{Netlist}
use Rattle.circuit.specs.Rules.{reading}
use Rattle.job.proofs.Joined.{framed_length}
use Rattle.decide.specs.Outcomes.{Job}
use Rattle.decide.specs.Reports.{Reports, unframed, unfit, load_full, advance_full, found_safe, found_unsafe}
use Rattle.decide.specs.declared.report.Report.{Report}
use Rattle.runs.specs.Models.{Model}
use Rattle.store.specs.Meaning.{Shown}
use Rattle.job.specs.Inputs.{ReadsFirst}
use Rattle.checker.specs.Program.{start, with_nodes, Right, Unread, Reported}

short_file : (width : ℕ) (file : List ℕ) (c : Netlist) → reading width file ≡ Ok c → length file ≤ 6 + 4 * 1024
short_file width file c h = omega (arith, reading_long width file c h, says_count file, ap (λ (x : Netlist). length x.gates) (reading_says width file c h), (reading_sound width file c h).0.few_gates)

short_job : (width : ℕ) (bs : List ℕ) (m : Model) → Job width bs m → length bs ≤ 5130
short_job width bs m j = omega (arith, framed_length bs j.parts j.framed, short_file width j.parts.circuit m.circuit j.describes.circuit, j.describes.assumption.short, j.describes.property.short)

module _ (bs : List ℕ) (long : 5130 < length bs) where
  no_job : (width : ℕ) (m : Model) → Job width bs m → ⊥
  no_job width m j = omega (arith, short_job width bs m j)

  -- longer bytes are refused before any making call
  pub refused : (s t : Shown) (r : Report) → Reports s bs r t → Unread r
  refused s t r (unframed e) = inl (_, refl)
  refused s t r (unfit f e) = inr (_, refl)
  refused s t r (load_full {m = m} j e) = absurd (no_job s.vars m j)
  refused s t r (advance_full {m = m} j h v e) = absurd (no_job s.vars m j)
  refused s t r (found_safe {m = m} j h v) = absurd (no_job s.vars m j)
  refused s t r (found_unsafe {m = m} j h v x) = absurd (no_job s.vars m j)

-- what is answered of the first bytes of an input
pub reported : (before after : Option (List ℕ)) (job : List ℕ) (r : Report) → ReadsFirst 5131 before job after → Right job r → IfSome before (λ input. Reported input r)
reported None after job r h right = tt
reported (Some input) after job r h right =
    let is : Right (take 5131 input) r = subst (λ bs. Right bs r) h.0 right in
    record {
      right = is;
      longer = λ l. refused (take 5131 input) (omega (arith, l, length-take-le 5131 input (omega arith))) start (with_nodes is.nodes) r is.reports;
    }
