-- What a verdict says, and which load it speaks of.
use Rattle.std.specs.Prelude.{◌≡◌, ℕ, List, Contains, Ok, ◌≢◌}
use Rattle.store.specs.Meaning.{Shown}
use Rattle.runs.specs.Models.{Model, system, Describes}
use Rattle.runs.specs.Verdicts.{Safe, Unsafe, Open}
use Rattle.uses.specs.declared.verdict.Verdict.{Verdict}
use Rattle.uses.specs.declared.verdict.Verdict.TheVariants as verdict
use Rattle.uses.specs.Calls.{State, empty, loaded, load, Event, accepted_loads, accepted_advances}

-- what the answer says of the runs of a loaded circuit, after j advances
pub record Meant (m : Model) (j : ℕ) (answer : Verdict) : Type 0 where
  pub not_empty : answer ≢ verdict.Empty
  pub safely : answer ≡ verdict.Safe → Safe (system m) j
  pub unsafely : (d : ℕ) → answer ≡ verdict.Unsafe d → (d ≡ j) × Unsafe (system m) j
  pub exactly : Unsafe (system m) j → answer ≡ verdict.Unsafe j
  pub openly : answer ≡ verdict.Open → Open (system m) j

-- what it says of a session in this state
abbrev pub Says : State → Verdict → Type 0
Says empty answer = answer ≡ verdict.Empty
Says (loaded m j) answer = Meant m j answer

-- one load was accepted, and m is what its bytes and texts describe for the store
pub record OneLoad (start : Shown) (history : List Event) (m : Model) : Type 0 where
  pub event : Event
  pub past : Contains history event
  pub file : List ℕ
  pub assumption : List ℕ
  pub property : List ℕ
  pub answer : Verdict
  pub accepted : event.call ≡ load file assumption property (Ok answer)
  pub describes : Describes start.vars file assumption property m
  pub only : accepted_loads history ≡ 1

-- what was accepted before a session came to this state
abbrev pub Accepted : Shown → List Event → State → Type 0
Accepted start history empty = (accepted_loads history ≡ 0) × (accepted_advances history ≡ 0)
Accepted start history (loaded m j) = OneLoad start history m × (accepted_advances history ≡ j)
