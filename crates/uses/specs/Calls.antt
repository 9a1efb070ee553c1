-- The five calls of a session with their arguments and answers, and what stands before and after each.
use Rattle.std.specs.Prelude.{ℕ, Bool, true, false, List, ◌++◌, map, drop, count_by, Err, Result, is_ok}
use Rattle.std.specs.Prelude.{Option, Some, None}
use Rattle.std.specs.Result.{result_ok}
use Rattle.std.specs.List.{range_with_len}
use Rattle.store.specs.Meaning.{Shown}
use Rattle.making.specs.declared.fault.Fault.TheVariants.{Room}
use Rattle.runs.specs.Models.{Model, system}
use Rattle.runs.specs.Search as search
use Rattle.uses.specs.declared.fault.Fault.{Fault}
use Rattle.uses.specs.declared.fault.Fault.TheVariants.{Making}
use Rattle.uses.specs.declared.verdict.Verdict.{Verdict}
use Rattle.uses.specs.declared.verdict.Verdict.TheVariants as verdict

-- what a session is in: empty, or loaded and after j accepted advances
pub data State : Type 0 where
  empty : State
  loaded : Model → ℕ → State

abbrev pub tell : search.Verdict → Verdict
tell (search.unsafe d) = verdict.Unsafe d
tell search.safe = verdict.Safe
tell search.open_yet = verdict.Open

-- what the call verdict answers
abbrev pub told : State → Verdict
told empty = verdict.Empty
told (loaded m j) = tell (search.verdict (system m) j)

pub data Call : Type 0 where
  load : (file : List ℕ) (assumption : List ℕ) (property : List ℕ) → Result Verdict Fault → Call
  advance : Result Verdict Fault → Call
  ask : Verdict → Call
  -- the arrays as they are handed in, and as they come back
  trace : (states inputs states' inputs' : List ℕ) → Result (Unit {0}) Fault → Call
  inside : ℕ → Result Bool Fault → Call

-- what stands: the session, and what its store shows
pub record Stand : Type 0 where
  pub state : State
  pub store : Shown

abbrev pub stand : State → Shown → Stand
stand st s = record { state = st; store = s }

pub record Event : Type 0 where
  pub before : Stand
  pub call : Call
  pub after : Stand

abbrev pub event : Stand → Call → Stand → Event
event w c v = record { before = w; call = c; after = v }

-- xs with f 0 to f (n - 1) written over its start
abbrev pub written : ℕ → (ℕ → ℕ) → List ℕ → List ℕ
written n f xs = map f (range_with_len 0 n) ++ drop n xs

-- the verdict that the call answered, if it did
abbrev pub answered : Call → Option Verdict
answered (load file a p r) = result_ok r
answered (advance r) = result_ok r
answered (ask r) = Some r
answered (trace x y x' y' r) = None
answered (inside q r) = None

-- whether the call was an accepted load
abbrev pub is_load : Call → Bool
is_load (load file a p r) = is_ok r
is_load (advance r) = false
is_load (ask r) = false
is_load (trace x y x' y' r) = false
is_load (inside q r) = false

-- or an accepted advance
abbrev pub is_advance : Call → Bool
is_advance (load file a p r) = false
is_advance (advance r) = is_ok r
is_advance (ask r) = false
is_advance (trace x y x' y' r) = false
is_advance (inside q r) = false

abbrev pub for_room : {X : Type 0} → Result X Fault → Bool
for_room (Err (Making (Room part place units))) = true
for_room _ = false

-- whether it was refused for room
abbrev pub is_full : Call → Bool
is_full (load file a p r) = for_room r
is_full (advance r) = for_room r
is_full (ask r) = false
is_full (trace x y x' y' r) = for_room r
is_full (inside q r) = for_room r

abbrev pub accepted_loads : List Event → ℕ
accepted_loads history = count_by (λ e. is_load e.call) history

abbrev pub accepted_advances : List Event → ℕ
accepted_advances history = count_by (λ e. is_advance e.call) history
