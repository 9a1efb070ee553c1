-- What is said of the bytes of a job, by a store that shows s at the start and t at the end.
use Rattle.std.specs.Prelude.{◌≡◌, ℕ, Bool, true, false, ◌⊎◌, List, length, Ok, Err}
use Rattle.store.specs.Meaning.{Shown}
use Rattle.circuit.specs.declared.sizes.Sizes.{Sizes}
use Rattle.description.specs.Checks.{Checked}
use Rattle.description.specs.declared.fault.Fault.{Fault as Misdescription}
use Rattle.uses.specs.declared.fault.Fault.TheVariants.{Description, Making}
use Rattle.description.specs.declared.part.Part.{Part}
use Rattle.making.specs.declared.fault.Fault.TheVariants.{Room}
use Rattle.making.specs.Making.{Item, Stops}
use Rattle.making.specs.Loads.{load_list, advance_list}
use Rattle.making.specs.Bounds.{load_bound, advance_bound}
use Rattle.runs.specs.Models.{Model, system, sizes}
use Rattle.runs.specs.Search.{unsafe, safe, open_yet, verdict}
use Rattle.runs.specs.Systems.{Breaking}
use Rattle.runs.specs.Verdicts.{Safe, Unsafe}
use Rattle.uses.specs.Uses.{room}
use Rattle.uses.specs.Fair.{ShortOf}
use Rattle.job.specs.Frames.{Parts, frame}
use Rattle.job.specs.declared.fault.Fault.{Fault as Unframed}
use Rattle.decide.specs.declared.fault.Fault.TheVariants.{Frame, Call}
use Rattle.decide.specs.declared.report.Report.{Report}
use Rattle.decide.specs.declared.report.Report.TheVariants as report
use Rattle.decide.specs.declared.trace.Trace.{Trace}
use Rattle.decide.specs.Traces.{depth_of, state_at, input_at}
use Rattle.decide.specs.Outcomes.{Job, Searched, insides, Traced}

-- the right report, and what the store then shows
pub data Reports (s : Shown) (bs : List ℕ) : Report → Shown → Type 0 where
  -- the frame is wrong: no call was made
  unframed :
      {e : Unframed}
      → frame bs ≡ Err e
      → Reports s bs (report.Refused (Frame e)) s
  -- a check of the load refuses the circuit or a text: no making call was made
  unfit :
      {p : Parts} {e : Misdescription}
      → frame bs ≡ Ok p
      → Checked s.vars p.circuit p.assumption p.property (Err e)
      → Reports s bs (report.Refused (Call (Description e))) s
  -- the store refused a making call of the load
  load_full :
      {m : Model} {y : Item} {t : Shown}
      → Job s.vars bs m
      → Stops s (load_list m) y t
      → Reports s bs (report.Refused (Call (room y t))) t
  -- the store refused a making call of an advance
  advance_full :
      {m : Model} {j : ℕ} {y : Item} {t u : Shown}
      → Job s.vars bs m
      → Searched m s j t
      → verdict (system m) j ≡ open_yet
      → Stops t (advance_list m j) y u
      → Reports s bs (report.Refused (Call (room y u))) u
  -- the search settled
  found_safe :
      {m : Model} {j : ℕ} {t : Shown}
      → Job s.vars bs m
      → Searched m s j t
      → verdict (system m) j ≡ safe
      → Reports s bs (report.Safe (sizes m.circuit) j (insides m j)) t
  found_unsafe :
      {m : Model} {t : Shown} {x : Trace}
      → Job s.vars bs m
      → Searched m s (depth_of x) t
      → verdict (system m) (depth_of x) ≡ unsafe (depth_of x)
      → Traced m x
      → Reports s bs (report.Unsafe (sizes m.circuit) x) t

-- the job was refused for room
abbrev pub is_full : Report → Bool
is_full (report.Refused (Call (Making (Room part place units)))) = true
is_full _ = false

-- no other report is right
pub record Only (s : Shown) (bs : List ℕ) (r : Report) (t : Shown) : Type 0 where
  -- where the store shows the same at the end
  pub same_end : (other : Report) → Reports s bs other t → other ≡ r
  -- whatever it shows there, unless one of the two is a refusal for room
  pub any_end :
      (other : Report) (u : Shown)
      → Reports s bs other u
      → is_full r ≡ false
      → is_full other ≡ false
      → other ≡ r

-- a refusal for room names the call that the store refused, of the load or of an advance from an open verdict;
-- and the free units at the start of that load or advance did not cover the bound on its calls
abbrev pub Full : Shown → List ℕ → Report → Shown → Type 0
Full s bs r t =
    (part : Part) (place units : ℕ)
    → r ≡ report.Refused (Call (Making (Room part place units)))
    → (m : Model) × (job : Job s.vars bs m)
    × (ShortOf s t
    (load_list m)
    (load_bound m (length job.parts.assumption) (length job.parts.property))
    part place units
    ⊎ ((j : ℕ) × (u : Shown)
    × Searched m s j u
    × (verdict (system m) j ≡ open_yet)
    × ShortOf u t (advance_list m j) (advance_bound m) part place units))

-- the job is accepted only if its circuit and claims are read, and no permitted run of any length breaks the property
abbrev pub Accepted : Shown → List ℕ → Report → Type 0
Accepted s bs r =
    (z : Sizes) (j c : ℕ)
    → r ≡ report.Safe z j c
    → (m : Model) × Job s.vars bs m × Safe (system m) j

-- it is called unsafe only with a permitted run that breaks the property, and none breaks it after fewer steps
abbrev pub Broken : Shown → List ℕ → Report → Type 0
Broken s bs r =
    (z : Sizes) (x : Trace)
    → r ≡ report.Unsafe z x
    → (m : Model)
    × Job s.vars bs m
    × Unsafe (system m) (depth_of x)
    × Breaking (system m) (depth_of x) (state_at x) (input_at x)
