-- The rules of the five calls, and a use of a session.
use Rattle.std.specs.Prelude.{◌≡◌, ℕ, suc, ◌^◌, ◌<◌, ◌≤◌, List, [], ◌∷◌, length, Ok, Err, ◌≢◌}
use Rattle.store.specs.Meaning.{Shown, free}
use Rattle.description.specs.Checks.{Checked}
use Rattle.description.specs.declared.fault.Fault.{Fault as Misdescription}
use Rattle.making.specs.Making.{Item, Runs, Stops}
use Rattle.making.specs.Loads.{load_list, advance_list}
use Rattle.making.specs.Ends.{located}
use Rattle.runs.specs.Models.{Model, system}
use Rattle.runs.specs.Search.{unsafe, safe, open_yet, verdict, Trace}
use Rattle.runs.specs.Search as search
use Rattle.uses.specs.declared.fault.Fault.{Fault}
use Rattle.uses.specs.declared.fault.Fault.TheVariants as fault
use Rattle.uses.specs.Calls.{State, empty, loaded, told, Call, load, advance, ask, trace, inside}
use Rattle.uses.specs.Calls.{Stand, stand, Event, event, written}

-- the refusal of a call of the list for room
abbrev pub room : Item → Shown → Fault
room item store = fault.Making (located item (free store))

-- one call with its answer, and what it leaves; a and p are the texts, j the accepted advances
pub data Step : Stand → Call → Stand → Type 0 where
  load_twice :
      {s : Shown} {m : Model} {j : ℕ} {file a p : List ℕ}
      → Step (stand (loaded m j) s) (load file a p (Err fault.Loaded)) (stand (loaded m j) s)
  load_wrong :
      {s : Shown} {file a p : List ℕ} {e : Misdescription}
      → Checked s.vars file a p (Err e)
      → Step (stand empty s) (load file a p (Err (fault.Description e))) (stand empty s)
  load_full :
      {s t : Shown} {file a p : List ℕ} {m : Model} {y : Item}
      → Checked s.vars file a p (Ok m)
      → Stops s (load_list m) y t
      → Step (stand empty s) (load file a p (Err (room y t))) (stand empty t)
  loads :
      {s t : Shown} {file a p : List ℕ} {m : Model}
      → Checked s.vars file a p (Ok m)
      → Runs s (load_list m) t
      → Step (stand empty s) (load file a p (Ok (told (loaded m 0)))) (stand (loaded m 0) t)
  advance_empty :
      {s : Shown}
      → Step (stand empty s) (advance (Err fault.Empty)) (stand empty s)
  advance_settled :
      {s : Shown} {m : Model} {j : ℕ}
      → verdict (system m) j ≢ open_yet
      → Step (stand (loaded m j) s) (advance (Err fault.Settled)) (stand (loaded m j) s)
  advance_full :
      {s t : Shown} {m : Model} {j : ℕ} {y : Item}
      → verdict (system m) j ≡ open_yet
      → Stops s (advance_list m j) y t
      → Step (stand (loaded m j) s) (advance (Err (room y t))) (stand (loaded m j) t)
  advances :
      {s t : Shown} {m : Model} {j : ℕ}
      → verdict (system m) j ≡ open_yet
      → Runs s (advance_list m j) t
      → Step (stand (loaded m j) s) (advance (Ok (told (loaded m (suc j))))) (stand (loaded m (suc j)) t)
  asks :
      {s : Shown} {st : State}
      → Step (stand st s) (ask (told st)) (stand st s)
  trace_empty :
      {s : Shown} {x y : List ℕ}
      → Step (stand empty s) (trace x y x y (Err fault.Empty)) (stand empty s)
  trace_verdict :
      {s : Shown} {m : Model} {j : ℕ} {x y : List ℕ}
      → verdict (system m) j ≢ unsafe j
      → Step (stand (loaded m j) s) (trace x y x y (Err fault.Verdict)) (stand (loaded m j) s)
  trace_short :
      {s : Shown} {m : Model} {j : ℕ} {x y : List ℕ}
      → verdict (system m) j ≡ unsafe j
      → (suc j ≤ length x → suc j ≤ length y → ⊥)
      → Step (stand (loaded m j) s) (trace x y x y (Err (fault.Short (suc j)))) (stand (loaded m j) s)
  traces :
      {s : Shown} {m : Model} {j : ℕ} {x y : List ℕ} (q v : ℕ → ℕ)
      → verdict (system m) j ≡ unsafe j
      → suc j ≤ length x
      → suc j ≤ length y
      → Trace (system m) j q v
      → Step
      (stand (loaded m j) s)
      (trace x y (written (suc j) q x) (written (suc j) v y) (Ok tt))
      (stand (loaded m j) s)
  inside_empty :
      {s : Shown} {q : ℕ}
      → Step (stand empty s) (inside q (Err fault.Empty)) (stand empty s)
  inside_verdict :
      {s : Shown} {m : Model} {j q : ℕ}
      → verdict (system m) j ≢ safe
      → Step (stand (loaded m j) s) (inside q (Err fault.Verdict)) (stand (loaded m j) s)
  inside_state :
      {s : Shown} {m : Model} {j q : ℕ}
      → verdict (system m) j ≡ safe
      → 2 ^ m.circuit.registers ≤ q
      → Step (stand (loaded m j) s) (inside q (Err fault.State)) (stand (loaded m j) s)
  insides :
      {s : Shown} {m : Model} {j q : ℕ}
      → verdict (system m) j ≡ safe
      → q < 2 ^ m.circuit.registers
      → Step (stand (loaded m j) s) (inside q (Ok (search.inside (system m) j q))) (stand (loaded m j) s)

-- what began with a session's making over a store that showed `start`, and went on with nothing but these calls;
-- the latest event first
pub data Use (start : Shown) : List Event → Stand → Type 0 where
  begun : Use start [] (stand empty start)
  went_on :
      {history : List Event} {before after : Stand} {call : Call}
      → Use start history before
      → Step before call after
      → Use start (event before call after ∷ history) after
