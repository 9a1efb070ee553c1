-- What the questions of a session promise one another: s is what the store shows.
use Rattle.std.specs.Prelude.{◌≡◌, ℕ, suc, ◌*◌, ◌+◌, ◌^◌, ◌<◌, ◌≤◌, Bool, false, List, length, drop, slice_index}
use Rattle.std.specs.Prelude.{Option, None, Some, Ok, Err, Result}
use Rattle.std.specs.Borrow.{MutBor}
use Rattle.store.specs.Fun.{Fn}
use Rattle.store.specs.Meaning.{Shown}
use Rattle.making.specs.Faults.{Fault as Unmade}
use Rattle.making.specs.declared.parts.Parts.{Parts}
use Rattle.making.specs.Making.{Means}
use Rattle.making.specs.Loads.{registers_of, Kept}
use Rattle.runs.specs.Functions.{spread}
use Rattle.runs.specs.Valuations.{claim_fn, next_fn, init_fn, set_fn}
use Rattle.runs.specs.Models.{Model, system, Valid}
use Rattle.runs.specs.Search.{faulty, leads_into, bad, initial_in, unsafe, verdict, Reached, Least, Trace}
use Rattle.runs.specs.Systems.{State, Input}
use Rattle.uses.specs.declared.fault.Fault.{Fault}
use Rattle.engine.specs.declared.search.Search.{Search}
use Rattle.engine.specs.Keeping.{Sets}

-- the numbers are those of the model's claims, Init and next values
pub record Readable (s : Shown) (m : Model) (k : Parts) : Type 0 where
  pub valid : Valid m
  pub registers : registers_of k ≡ m.circuit.registers
  pub inputs : k.m ≡ m.circuit.inputs
  pub parts : Kept s k (next_fn m) (claim_fn m m.assumption)
  pub property : Means s k.property (claim_fn m m.property)
  pub init : Means s k.init (init_fn m)

-- the truth of number a at the valuation of a state and an input
abbrev pub Tells : Shown → ℕ → ℕ → ℕ → ℕ → Result Bool Unmade → Type 0
Tells s n a q v r =
    (m : ℕ) (f : Fn)
    → Means s a f
    → 2 * n + m ≤ s.vars
    → q < 2 ^ n
    → v < 2 ^ m
    → r ≡ Ok (f (spread n q v))

abbrev pub GoesTo : Shown → Parts → ℕ → ℕ → Result ℕ Unmade → Type 0
GoesTo s k q v r =
    (m : Model)
    → Readable s m k
    → State (system m) q
    → Input (system m) v
    → r ≡ Ok ((system m).next q v)

-- a is the number of the set B_i
abbrev pub Leads : Shown → Parts → ℕ → ℕ → ℕ → Result Bool Unmade → Type 0
Leads s k a q v r =
    (m : Model) (i : ℕ)
    → Readable s m k
    → Means s a (set_fn m i)
    → State (system m) q
    → Input (system m) v
    → r ≡ Ok (leads_into (system m) (bad (system m) i) q v)

abbrev pub Faults : Shown → Parts → ℕ → ℕ → Result Bool Unmade → Type 0
Faults s k q v r =
    (m : Model)
    → Readable s m k
    → State (system m) q
    → Input (system m) v
    → r ≡ Ok (faulty (system m) q v)

abbrev pub Begins : Shown → Parts → ℕ → ℕ → Result Bool Unmade → Type 0
Begins s k a q r =
    (m : Model) (i : ℕ)
    → Readable s m k
    → Means s a (set_fn m i)
    → State (system m) q
    → r ≡ Ok (initial_in (system m) (bad (system m) i) q)

-- a test that is called with a store and a number: the store before, the number, the answer and the store after
abbrev pub Test : Type 0 → Type 1
Test A = MutBor A → ℕ → Result Bool Unmade → MutBor A → Type 0

-- a call of a test leaves what the store shows
abbrev pub Keeping : {A : Type 0} → (A → Shown) → Test A → Type 0
Keeping {A} shows calls =
    (a b : MutBor A) (x : ℕ) (r : Result Bool Unmade)
    → calls a x r b
    → shows b.now ≡ shows a.now

-- below n a test answers f, where the store shows s
abbrev pub Telling : {A : Type 0} → (A → Shown) → Test A → Shown → ℕ → (ℕ → Bool) → Type 0
Telling {A} shows calls s n f =
    (a b : MutBor A) (x : ℕ) (r : Result Bool Unmade)
    → shows a.now ≡ s
    → x < n
    → calls a x r b
    → r ≡ Ok (f x)

-- the smallest number below n at which f holds; a refusal if there is none
abbrev pub Finds : ℕ → (ℕ → Bool) → Result ℕ Unmade → Type 0
Finds n f (Ok x) = Least n f x
Finds n f (Err e) = (x : ℕ) → x < n → f x ≡ false

-- both arrays are as long as before, and past entry d they are as they were
pub record Spares (d : ℕ) (x y x' y' : List ℕ) : Type 0 where
  pub states_long : length x' ≡ length x
  pub inputs_long : length y' ≡ length y
  pub states_after : drop (suc d) x' ≡ drop (suc d) x
  pub inputs_after : drop (suc d) y' ≡ drop (suc d) y

-- a session that is empty leaves both arrays as they are
abbrev pub Spared : Option Search → List ℕ → List ℕ → List ℕ → List ℕ → Type 0
Spared None x y x' y' = (x' ≡ x) × (y' ≡ y)
Spared (Some k) x y x' y' = Spares (length k.earlier.items) x y x' y'

-- where the sets are kept and the last verdict is unsafe, the starts of both arrays are the trace
abbrev pub Walks : Shown → Search → Result (Unit {0}) Fault → List ℕ → List ℕ → Type 0
Walks s k r x' y' = (m : Model) (j : ℕ)
    → Sets m j s k
    → Reached (system m) j
    → verdict (system m) j ≡ unsafe j
    → (r ≡ Ok tt) × Trace (system m) j (slice_index x') (slice_index y')
