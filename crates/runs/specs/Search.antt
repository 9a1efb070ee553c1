-- The backward search: the sets of states, the verdict, the trace and the inside.
use Rattle.std.specs.Prelude.{◌≡◌, ℕ, zero, suc, ◌-◌, ◌^◌, ◌<◌, Bool, true, false, cond, not, ◌&&◌, ◌||◌}
use Rattle.store.specs.Fun.{some, same}
use Rattle.runs.specs.Systems.{System}

-- the assumption holds and the property fails at the state q with the input v
abbrev pub faulty : System → ℕ → ℕ → Bool
faulty s q v = s.assumed q v && not (s.property q v)

-- the assumption holds, and the next state is in the set
abbrev pub leads_into : System → (ℕ → Bool) → ℕ → ℕ → Bool
leads_into s set q v = s.assumed q v && set (s.next q v)

-- B_0 holds each state with such an input; B_(j+1) is B_j and each state with an input that leads into B_j
unfoldable pub bad : System → ℕ → ℕ → Bool
unfolding some
bad s zero q = some (faulty s q) (2 ^ s.inputs)
bad s (suc j) q = bad s j q || some (leads_into s (bad s j) q) (2 ^ s.inputs)

-- the states that B_j does not hold
abbrev pub inside : System → ℕ → ℕ → Bool
inside s j q = not (bad s j q)

-- an initial state in the set
abbrev pub initial_in : System → (ℕ → Bool) → ℕ → Bool
initial_in s set q = s.init q && set q

-- the set meets Init
unfoldable pub meets_init : System → (ℕ → Bool) → Bool
unfolding some
meets_init s set = some (initial_in s set) (2 ^ s.registers)

-- j ≥ 1, and set number j is the same as the one before
unfoldable pub stable : System → (ℕ → ℕ → Bool) → ℕ → Bool
stable s sets zero = false
stable s sets (suc j) = same s.registers (sets (suc j)) (sets j)

pub data Verdict : Type 0 where
  -- with its depth
  unsafe : ℕ → Verdict
  safe : Verdict
  open_yet : Verdict

-- the verdict at j that a row of sets gives: unsafe if set j meets Init, else safe if it is stable, else open
unfoldable pub verdict_by : System → (ℕ → ℕ → Bool) → ℕ → Verdict
unfolding meets_init stable
verdict_by s sets j = cond (meets_init s (sets j)) (unsafe j) (cond (stable s sets j) safe open_yet)

abbrev pub verdict : System → ℕ → Verdict
verdict s j = verdict_by s (bad s) j

-- a search comes to j if every earlier verdict is open
abbrev pub Reached : System → ℕ → Type 0
Reached s j = (i : ℕ) → i < j → verdict s i ≡ open_yet

-- k is the smallest number below n at which f holds
pub record Least (n : ℕ) (f : ℕ → Bool) (k : ℕ) : Type 0 where
  pub below : k < n
  pub holds : f k ≡ true
  pub first : (i : ℕ) → i < k → f i ≡ false

-- the first t steps of the trace of d steps: q 0 is the smallest initial state in B_d, v i the smallest input that leads into B_(d-i-1)
pub record TraceTo (s : System) (d t : ℕ) (q v : ℕ → ℕ) : Type 0 where
  pub start : Least (2 ^ s.registers) (initial_in s (bad s d)) (q 0)
  pub inputs : (i : ℕ) → i < t → Least (2 ^ s.inputs) (leads_into s (bad s (d - i - 1)) (q i)) (v i)
  pub moves : (i : ℕ) → i < t → q (suc i) ≡ s.next (q i) (v i)

-- the whole trace: v d is the smallest input where the assumption holds and the property fails
pub record Trace (s : System) (d : ℕ) (q v : ℕ → ℕ) : Type 0 where
  pub steps : TraceTo s d d q v
  pub last : Least (2 ^ s.inputs) (faulty s (q d)) (v d)
