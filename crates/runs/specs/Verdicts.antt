-- What the sets, the verdict and the trace say of runs.
use Rattle.std.specs.Prelude.{◌≡◌, ℕ, suc, ◌-◌, ◌^◌, ◌<◌, ◌≤◌, true, false, ◌⊎◌, Decides}
use Rattle.store.specs.Fun.{some, Same}
use Rattle.runs.specs.Systems.{System, State, Input, Closed, Breaking, Broken, Unbroken, BreakingFrom, Step}
use Rattle.runs.specs.Search.{faulty, leads_into, bad, inside, initial_in, meets_init, stable, unsafe, safe, open_yet, verdict, Reached, TraceTo, Trace}

-- B_0 holds each state with an input where the assumption holds and the property fails
abbrev pub FirstSet : System → ℕ → Type 0
FirstSet s q = (v : ℕ) × Input s v × ((s.assumed q v ≡ true) × (s.property q v ≡ false))

-- B_(j+1) is B_j and each state with an input that satisfies the assumption and leads into B_j
abbrev pub NextSet : System → ℕ → ℕ → Type 0
NextSet s j q = (bad s j q ≡ true) ⊎ ((v : ℕ) × Input s v × ((s.assumed q v ≡ true) × (bad s j (s.next q v) ≡ true)))

-- the sets and the tests of the verdict say what they should
pub record Sets (s : System) : Type 0 where
  pub first : (q : ℕ) → Decides (bad s 0 q) (FirstSet s q)
  pub next : (j q : ℕ) → Decides (bad s (suc j) q) (NextSet s j q)
  pub meets : (j : ℕ) → Decides (meets_init s (bad s j)) ((q : ℕ) × State s q × ((s.init q ≡ true) × (bad s j q ≡ true)))
  pub settles : (j : ℕ) → Decides (stable s (bad s) (suc j)) (Same s.registers (bad s (suc j)) (bad s j))
  -- B_j is exactly the states from which some permitted walk of at most j steps breaks the property
  pub walks : Closed s → (j q : ℕ) → State s q → Decides (bad s j q) ((d : ℕ) × (d ≤ j) × BreakingFrom s d q)

-- no permitted run of any length breaks the property, every initial state is inside, and no permitted step leads out
pub record Safe (s : System) (j : ℕ) : Type 0 where
  pub never : (d : ℕ) → Unbroken s d
  pub initial : (q : ℕ) → State s q → s.init q ≡ true → inside s j q ≡ true
  pub stays : (q v q' : ℕ) → inside s j q ≡ true → Step s q v q' → inside s j q' ≡ true

-- a permitted run breaks the property after j steps, and none after fewer
pub record Unsafe (s : System) (j : ℕ) : Type 0 where
  pub broken : Broken s j
  pub sooner : (i : ℕ) → i < j → Unbroken s i

-- no permitted run breaks the property within j steps, and j is below the number of states
pub record Open (s : System) (j : ℕ) : Type 0 where
  pub unbroken : (i : ℕ) → i ≤ j → Unbroken s i
  pub few : j < 2 ^ s.registers

-- what the verdict of a search that has come to j says
pub record Meaning (s : System) (j : ℕ) : Type 0 where
  pub safely : verdict s j ≡ safe → Safe s j
  pub unsafely : (d : ℕ) → verdict s j ≡ unsafe d → (d ≡ j) × Unsafe s j
  pub exactly : Unsafe s j → verdict s j ≡ unsafe j
  pub openly : verdict s j ≡ open_yet → Open s j
  pub few : j ≤ 2 ^ s.registers
  -- where the verdict is open and the next set is the same, the next verdict is safe
  pub settles : verdict s j ≡ open_yet → Same s.registers (bad s (suc j)) (bad s j) → verdict s (suc j) ≡ safe

-- the trace of an unsafe verdict: there is one and no other, it is a permitted run that breaks the property, and at each step there is what it takes
pub record Traces (s : System) (d : ℕ) : Type 0 where
  pub given : (q : ℕ → ℕ) × (v : ℕ → ℕ) × Trace s d q v
  pub one : (q v q' v' : ℕ → ℕ) → Trace s d q v → Trace s d q' v' → (t : ℕ) → t ≤ d → (q t ≡ q' t) × (v t ≡ v' t)
  pub breaking : (q v : ℕ → ℕ) → Trace s d q v → Breaking s d q v
  pub begins : some (initial_in s (bad s d)) (2 ^ s.registers) ≡ true
  pub goes_on : (q v : ℕ → ℕ) (t : ℕ) → t < d → TraceTo s d t q v → some (leads_into s (bad s (d - t - 1)) (q t)) (2 ^ s.inputs) ≡ true
  pub ends : (q v : ℕ → ℕ) → TraceTo s d d q v → some (faulty s (q d)) (2 ^ s.inputs) ≡ true

abbrev pub VerdictsMean : Type 0
VerdictsMean = (s : System) → Closed s → (j : ℕ) → Reached s j → Meaning s j

abbrev pub TracesRun : Type 0
TracesRun = (s : System) → Closed s → (d : ℕ) → Reached s d → verdict s d ≡ unsafe d → Traces s d
