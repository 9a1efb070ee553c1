-- What a refusal of a job for room says, and that nothing that the store had is lost.
use Rattle.std.proofs.Common.{◌≡◌, ℕ, ◌⊎◌, List, length, subst, inl, inr}
use Rattle.store.specs.Meaning.{Shown, free, Grown}
use Rattle.description.specs.Checks.{right}
use Rattle.description.specs.declared.part.Part.{Part}
use Rattle.making.specs.declared.fault.Fault.TheVariants.{Room}
use Rattle.making.specs.Making.{Item}
use Rattle.making.specs.Loads.{load_list, advance_list}
use Rattle.making.specs.Bounds.{load_bound, advance_bound}
use Rattle.making.proofs.Lengths.{advance_length}
use Rattle.making.proofs.Steps.{grown_none, grown_more, runs_grown, stops_grown}
use Rattle.runs.specs.Models.{Model, system}
use Rattle.runs.specs.Search.{open_yet, verdict}
use Rattle.uses.specs.declared.fault.Fault.TheVariants.{Making}
use Rattle.uses.specs.Uses.{room}
use Rattle.uses.specs.Fair.{ShortOf}
use Rattle.uses.proofs.Told.{never}
use Rattle.uses.proofs.Promises.{short_of, load_calls}
use Rattle.decide.specs.declared.fault.Fault.TheVariants.{Call}
use Rattle.decide.specs.declared.report.Report.{Report}
use Rattle.decide.specs.declared.report.Report.TheVariants as report
use Rattle.decide.specs.Outcomes.{Job, Searched}
use Rattle.decide.specs.Reports.{Reports, unframed, unfit, load_full, advance_full, found_safe, found_unsafe, Full}
use Rattle.decide.proofs.Single.{all_made}

module _ (s : Shown) (bs : List ℕ) where
  pub grown : {r : Report} {t : Shown} → Reports s bs r t → Grown s t
  grown (unframed e) = grown_none
  grown (unfit f k) = grown_none
  grown (load_full w q) = stops_grown q
  grown (advance_full w f o q) = grown_more (runs_grown (all_made f)) (stops_grown q)
  grown (found_safe w f o) = runs_grown (all_made f)
  grown (found_unsafe w f o h) = runs_grown (all_made f)

  -- the load or the advance that had no room
  abbrev Short : Shown → (part : Part) (place units : ℕ) → Type 0
  Short t part place units =
      (m : Model) × (job : Job s.vars bs m)
      × (ShortOf s t (load_list m) (load_bound m (length job.parts.assumption) (length job.parts.property)) part place units
      ⊎ ((j : ℕ) × (u : Shown)
      × Searched m s j u
      × (verdict (system m) j ≡ open_yet)
      × ShortOf u t (advance_list m j) (advance_bound m) part place units))

  -- by the part, the place and the units of the call that was refused
  renamed :
      {t : Shown} {part : Part} {place units : ℕ} (y : Item)
      → Short t y.part y.place (free t)
      → report.Refused (Call (room y t)) ≡ report.Refused (Call (Making (Room part place units)))
      → Short t part place units
  renamed {t = t} {part = part} {place = place} {units = units} y h e =
      let p : y.part ≡ part = cc in
      let q : y.place ≡ place = cc in
      let r : free t ≡ units = cc in
      subst (λ i. Short t part place i) r (subst (λ i. Short t part i (free t)) q (subst (λ i. Short t i y.place (free t)) p h))

  pub full : (r : Report) (t : Shown) → Reports s bs r t → Full s bs r t
  full r t (unframed e) part place units is = never (cc)
  full r t (unfit f k) part place units is = never (cc)
  full r t (load_full {m = m} {y = y} w q) part place units is =
      let bound = load_bound m (length w.parts.assumption) (length w.parts.property) in
      renamed y (m, w, inl (short_of bound q (load_calls (right w.describes)))) is
  full r t (advance_full {m = m} {j = j} {y = y} {t = u} w f o q) part place units is =
      renamed y (m, w, inr (j, u, f, o, short_of (advance_bound m) q (advance_length m j))) is
  full r t (found_safe w f o) part place units is = never (cc)
  full r t (found_unsafe w f o h) part place units is = never (cc)
