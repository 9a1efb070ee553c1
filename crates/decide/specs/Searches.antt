-- What the parts of the search promise one another.
use Rattle.std.specs.Prelude.{◌≡◌, ℕ, List, Ok, Err, Result, MatchResult}
use Rattle.store.specs.Meaning.{Shown}
use Rattle.circuit.specs.Files.{sizes_at}
use Rattle.uses.specs.declared.fault.Fault.{Fault as Refusal}
use Rattle.runs.specs.Models.{Model, system, sizes}
use Rattle.runs.specs.Search.{unsafe, safe, verdict}
use Rattle.uses.specs.Calls.{loaded, stand, Event}
use Rattle.uses.specs.Uses.{Use}
use Rattle.engine.specs.declared.settled.Settled.{Settled}
use Rattle.engine.specs.Keeping.{World, Keeps}
use Rattle.engine.specs.Settled.{advances_of, verdict_of}
use Rattle.decide.specs.declared.fault.Fault.{Fault}
use Rattle.decide.specs.declared.report.Report.{Report}
use Rattle.decide.specs.declared.report.Report.TheVariants as report
use Rattle.decide.specs.declared.trace.Trace.{Trace}
use Rattle.decide.specs.Traces.{depth_of}
use Rattle.decide.specs.Outcomes.{Searched, insides, Traced}

-- a fault is reported as a refusal
abbrev pub reported : Result Report Fault → Report
reported (Ok r) = r
reported (Err e) = report.Refused e

-- some use has led the session to B_j, by a search from a store that showed s
pub record Come (s : Shown) (m : Model) (j : ℕ) (w : World) : Type 0 where
  pub past : List Event
  pub led : Use s past (stand (loaded m j) w.store)
  pub keeps : Keeps (loaded m j) w
  pub searched : Searched m s j w.store

-- the search has come to B_j, whose verdict is this one
pub record Ended (s : Shown) (m : Model) (a : Settled) (v : World) : Type 0 where
  pub come : Come s m (advances_of a) v
  pub settled : verdict (system m) (advances_of a) ≡ verdict_of a

abbrev pub CountsInside : World → ℕ → Result ℕ Refusal → Type 0
CountsInside w n r =
    (s : Shown) (m : Model) (j : ℕ)
    → Come s m j w
    → verdict (system m) j ≡ safe
    → n ≡ m.circuit.registers
    → r ≡ Ok (insides m j)

abbrev pub HandsOut : World → ℕ → Result Trace Refusal → Type 0
HandsOut w d r =
    (s : Shown) (m : Model)
    → Come s m d w
    → verdict (system m) d ≡ unsafe d
    → MatchResult r (λ x. (depth_of x ≡ d) × Traced m x) (λ _. ⊥)

-- what is said of a settled search
pub data Conclusion (m : Model) (j : ℕ) : Report → Type 0 where
  is_safe :
      verdict (system m) j ≡ safe
      → Conclusion m j (report.Safe (sizes m.circuit) j (insides m j))
  is_unsafe :
      {x : Trace}
      → depth_of x ≡ j
      → verdict (system m) j ≡ unsafe j
      → Traced m x
      → Conclusion m j (report.Unsafe (sizes m.circuit) x)

abbrev pub Concludes : World → List ℕ → Settled → Result Report Refusal → Type 0
Concludes w file a r =
    (s : Shown) (m : Model)
    → Ended s m a w
    → sizes_at file ≡ sizes m.circuit
    → MatchResult r (Conclusion m (advances_of a)) (λ _. ⊥)
