-- What one call of a use was.
use Rattle.std.specs.Prelude.{◌≡◌, ◌≢◌, ℕ, suc, ◌*◌, ◌<◌, ◌≤◌, ◌⊎◌, Bool, false, not, Decides}
use Rattle.std.specs.Prelude.{List, length, Some, Ok, Err, slice_index}
use Rattle.store.specs.Meaning.{Shown, Grown, free, price}
use Rattle.description.specs.Checks.{Checked}
use Rattle.description.specs.declared.part.Part.{Part}
use Rattle.making.specs.declared.fault.Fault.TheVariants.{Room}
use Rattle.making.specs.Making.{Item, Runs, Stops, Held}
use Rattle.making.specs.Loads.{load_list, advance_list}
use Rattle.making.specs.Bounds.{load_bound, advance_bound}
use Rattle.runs.specs.Models.{Model, system}
use Rattle.runs.specs.Systems.{State, Breaking, BreakingFrom}
use Rattle.runs.specs.Verdicts.{Safe, Unsafe}
use Rattle.uses.specs.declared.fault.Fault.{Fault}
use Rattle.uses.specs.declared.fault.Fault.TheVariants.{Making, Settled, Verdict}
use Rattle.uses.specs.declared.verdict.Verdict.{Verdict as Answer}
use Rattle.uses.specs.declared.verdict.Verdict.TheVariants as verdict
use Rattle.uses.specs.Calls.{loaded, told, load, advance, trace, inside, Event, answered, is_load, is_advance, is_full}
use Rattle.uses.specs.Uses.{Step}
use Rattle.uses.specs.Says.{Says}

-- each call of this list, of at most `bound` calls, was accepted, and every result is held
pub record AllMade (before after : Shown) (list : List Item) (bound : ℕ) : Type 0 where
  pub runs : Runs before list after
  pub held : Held after list
  pub few : length list ≤ bound

-- the store refused a call of this list, whose price exceeded the free units there and then;
-- and the free units at the start did not cover `bound` calls, which are no fewer than the list has
pub record ShortOf (before after : Shown) (list : List Item) (bound : ℕ) (part : Part) (place units : ℕ) : Type 0 where
  pub item : Item
  pub stops : Stops before list item after
  pub above : free after < price after item.fn
  pub part_is : part ≡ item.part
  pub place_is : place ≡ item.place
  pub units_are : units ≡ free after
  pub few : length list ≤ bound
  pub uncovered : free before < bound * before.top

-- a step by the rules
pub record Fair (event : Event) : Type 0 where
  pub step : Step event.before event.call event.after
  -- nothing that the store had is lost
  pub grown : Grown event.before.store event.after.store
  -- only an accepted load or advance changes the session, and only these and a refusal for room change the store
  pub same_state :
      is_load event.call ≡ false
      → is_advance event.call ≡ false
      → event.after.state ≡ event.before.state
  pub same_store :
      is_load event.call ≡ false
      → is_advance event.call ≡ false
      → is_full event.call ≡ false
      → event.after.store ≡ event.before.store
  -- a verdict that it answers means what it says
  pub says : (answer : Answer) → answered event.call ≡ Some answer → Says event.after.state answer
  -- the list of an accepted load or advance was made, and that of one refused for room was not
  pub load_accepted :
      (file a p : List ℕ) (answer : Answer)
      → event.call ≡ load file a p (Ok answer)
      → (m : Model)
      × (event.after.state ≡ loaded m 0)
      × Checked event.before.store.vars file a p (Ok m)
      × AllMade event.before.store event.after.store (load_list m) (load_bound m (length a) (length p))
  pub load_room :
      (file a p : List ℕ) (part : Part) (place units : ℕ)
      → event.call ≡ load file a p (Err (Making (Room part place units)))
      → (m : Model)
      × Checked event.before.store.vars file a p (Ok m)
      × ShortOf event.before.store event.after.store (load_list m) (load_bound m (length a) (length p)) part place units
  pub advance_accepted :
      (answer : Answer)
      → event.call ≡ advance (Ok answer)
      → (m : Model) × (j : ℕ)
      × (event.before.state ≡ loaded m j)
      × (event.after.state ≡ loaded m (suc j))
      × AllMade event.before.store event.after.store (advance_list m j) (advance_bound m)
  pub advance_room :
      (part : Part) (place units : ℕ)
      → event.call ≡ advance (Err (Making (Room part place units)))
      → (m : Model) × (j : ℕ)
      × (event.before.state ≡ loaded m j)
      × ShortOf event.before.store event.after.store (advance_list m j) (advance_bound m) part place units
  -- a trace that is handed out is a shortest run of those that break the property, and a refused one changes no array
  pub traced :
      (x y x' y' : List ℕ)
      → event.call ≡ trace x y x' y' (Ok tt)
      → (m : Model) × (j : ℕ)
      × (event.before.state ≡ loaded m j)
      × Unsafe (system m) j
      × Breaking (system m) j (λ t. slice_index x' t) (λ t. slice_index y' t)
  pub same_arrays :
      (x y x' y' : List ℕ) (reason : Fault)
      → event.call ≡ trace x y x' y' (Err reason)
      → (x' ≡ x) × (y' ≡ y)
  -- of a state, after a safe verdict: no exactly when a permitted walk of some length from there breaks the property
  pub insides :
      (q : ℕ) (answer : Bool)
      → event.call ≡ inside q (Ok answer)
      → (m : Model) × (j : ℕ)
      × (event.before.state ≡ loaded m j)
      × Safe (system m) j
      × State (system m) q
      × Decides (not answer) ((d : ℕ) × BreakingFrom (system m) d q)
  -- what is refused for its turn: an advance of a settled verdict, a trace of one that is not unsafe,
  -- and the inside of one that is not safe
  pub settled :
      event.call ≡ advance (Err Settled)
      → (m : Model) × (j : ℕ)
      × (event.before.state ≡ loaded m j)
      × (Safe (system m) j ⊎ Unsafe (system m) j)
  pub not_unsafe :
      (x y x' y' : List ℕ)
      → event.call ≡ trace x y x' y' (Err Verdict)
      → (m : Model) × (j : ℕ)
      × (event.before.state ≡ loaded m j)
      × (Unsafe (system m) j → ⊥)
  pub not_safe :
      (q : ℕ)
      → event.call ≡ inside q (Err Verdict)
      → (m : Model) × (j : ℕ)
      × (event.before.state ≡ loaded m j)
      × (told (loaded m j) ≢ verdict.Safe)
