-- What a search of a job comes to, in a store that shows s at the start.
use Rattle.std.specs.Prelude.{◌≡◌, ℕ, zero, suc, ◌+◌, ◌^◌, Bool, cond, List, Ok}
use Rattle.store.specs.Meaning.{Shown}
use Rattle.making.specs.Making.{Runs}
use Rattle.making.specs.Loads.{load_list, advance_list}
use Rattle.runs.specs.Models.{Model, system, Describes}
use Rattle.runs.specs.Search.{open_yet, verdict, inside}
use Rattle.runs.specs.Search as search
use Rattle.job.specs.Frames.{Parts, frame}
use Rattle.decide.specs.declared.trace.Trace.{Trace}
use Rattle.decide.specs.Traces.{depth_of, state_at, input_at}

-- the bytes are a circuit and two claims, for a store of `width` variables
pub record Job (width : ℕ) (bs : List ℕ) (m : Model) : Type 0 where
  pub parts : Parts
  pub framed : frame bs ≡ Ok parts
  pub describes : Describes width parts.circuit parts.assumption parts.property m

-- the search has come to B_j and the store to t: it made the list of a load and then of each advance,
-- and every verdict before was open
pub data Searched (m : Model) (s : Shown) : ℕ → Shown → Type 0 where
  begun :
      {t : Shown}
      → Runs s (load_list m) t
      → Searched m s 0 t
  advanced :
      {j : ℕ} {t u : Shown}
      → Searched m s j t
      → verdict (system m) j ≡ open_yet
      → Runs t (advance_list m j) u
      → Searched m s (suc j) u

-- how many numbers below n have p
abbrev pub tally : ℕ → (ℕ → Bool) → ℕ
tally zero p = 0
tally (suc n) p = tally n p + cond (p n) 1 0

-- how many states are inside after j advances
abbrev pub insides : Model → ℕ → ℕ
insides m j = tally (2 ^ m.circuit.registers) (inside (system m) j)

-- the trace of the rules
abbrev pub Traced : Model → Trace → Type 0
Traced m t = search.Trace (system m) (depth_of t) (state_at t) (input_at t)
