-- The rules leave no call without an answer.
use Rattle.std.specs.Prelude.{◌≡◌, ℕ, Bool, ◌⊎◌, List, Result}
use Rattle.store.specs.Meaning.{Shown}
use Rattle.making.specs.Making.{Item, Runs, Stops}
use Rattle.making.specs.Loads.{load_list, advance_list}
use Rattle.runs.specs.Models.{Model, system, Describes}
use Rattle.runs.specs.Search.{open_yet, verdict}
use Rattle.uses.specs.declared.fault.Fault.{Fault}
use Rattle.uses.specs.declared.verdict.Verdict.{Verdict}
use Rattle.uses.specs.Calls.{empty, loaded, load, advance, ask, trace, inside, Stand, Event}
use Rattle.uses.specs.Uses.{Step, Use}

-- the store accepts all of the list, or refuses a call of it for room
abbrev pub Answered : Shown → List Item → Type 0
Answered s list = ((t : Shown) × Runs s list t) ⊎ ((y : Item) × (t : Shown) × Stops s list y t)

-- each call has an answer by the rules, whatever its arguments, if the store answers the list that it makes
pub record GoesOn (before : Stand) : Type 0 where
  pub to_load :
      (file a p : List ℕ)
      → ((m : Model)
      → before.state ≡ empty
      → Describes before.store.vars file a p m
      → Answered before.store (load_list m))
      → (r : Result Verdict Fault) × (after : Stand) × Step before (load file a p r) after
  pub to_advance :
      ((m : Model) (j : ℕ)
      → before.state ≡ loaded m j
      → verdict (system m) j ≡ open_yet
      → Answered before.store (advance_list m j))
      → (r : Result Verdict Fault) × (after : Stand) × Step before (advance r) after
  pub to_ask : (r : Verdict) × (after : Stand) × Step before (ask r) after
  pub to_trace :
      (x y : List ℕ)
      → (x' : List ℕ) × (y' : List ℕ) × (r : Result (Unit {0}) Fault)
      × (after : Stand) × Step before (trace x y x' y' r) after
  pub to_inside : (q : ℕ) → (r : Result Bool Fault) × (after : Stand) × Step before (inside q r) after

abbrev pub Possible : Type 0
Possible =
    (start : Shown) (history : List Event) (end : Stand)
    → Use start history end
    → GoesOn end
