-- One advance of a search.
use Rattle.std.specs.Prelude.{◌≡◌, ℕ, suc, length, Result}
use Rattle.store.specs.Meaning.{Shown, Lawful}
use Rattle.making.specs.Faults.{Fault as Unmade}
use Rattle.making.specs.Making.{Means}
use Rattle.making.specs.Loads.{registers_of, Kept, advance_list}
use Rattle.making.specs.Ends.{Ends, located}
use Rattle.runs.specs.Models.{Model, system, Valid}
use Rattle.runs.specs.Search.{open_yet, verdict, Reached}
use Rattle.runs.specs.Valuations.{claim_fn, next_fn, init_fn, set_fn}
use Rattle.uses.specs.Calls.{loaded, told}
use Rattle.engine.specs.declared.stage.Stage.{Stage}
use Rattle.engine.specs.declared.search.Search.{Search}

-- the numbers at hand are those of B_j, of Init and of the circuit, and the verdict is open
pub record Ready (s : Shown) (m : Model) (j : ℕ) (k : Search) : Type 0 where
  pub valid : Valid m
  pub registers : registers_of k.parts ≡ m.circuit.registers
  pub inputs : k.parts.m ≡ m.circuit.inputs
  pub parts : Kept s k.parts (next_fn m) (claim_fn m m.assumption)
  pub init : Means s k.parts.init (init_fn m)
  pub count : length k.earlier.items ≡ j
  pub set : Means s k.last.set (set_fn m j)
  pub reached : Reached (system m) j
  pub undecided : verdict (system m) j ≡ open_yet

-- the next set, and the verdict with it
pub record Reaches (t : Shown) (m : Model) (j : ℕ) (x : Stage) : Type 0 where
  pub lawful : Lawful t
  pub set : Means t x.set (set_fn m (suc j))
  pub verdict : x.verdict ≡ told (loaded m (suc j))

-- the list of an advance from B_j is made, and leads to the next set; or a call of it is refused
abbrev pub Advances : Shown → Search → Result Stage Unmade → Shown → Type 0
Advances s k r t = (m : Model) (j : ℕ) → Ready s m j k → Ends located s t (advance_list m j) (Reaches t m j) r
