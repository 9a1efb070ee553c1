-- Transition systems, their runs, and what it means that a run is permitted or breaks the property.
use Rattle.std.specs.Prelude.{◌≡◌, ℕ, suc, ◌^◌, ◌<◌, ◌≤◌, Bool, true, false}

-- Init on states, the next state from a state under an input, and an assumption and a property of a state with an input
pub record System : Type 0 where
  pub registers : ℕ
  pub inputs : ℕ
  pub init : ℕ → Bool
  pub next : ℕ → ℕ → ℕ
  pub assumed : ℕ → ℕ → Bool
  pub property : ℕ → ℕ → Bool

-- states and inputs by their numbers: bit i of a state is register i, bit j of an input is input j
abbrev pub State : System → ℕ → Type 0
State s q = q < 2 ^ s.registers

abbrev pub Input : System → ℕ → Type 0
Input s v = v < 2 ^ s.inputs

-- the next state is a state
abbrev pub Closed : System → Type 0
Closed s = (q v : ℕ) → State s q → Input s v → State s (s.next q v)

-- a walk of d steps: states q 0 to q d and inputs v 0 to v d, each next state under the input before
pub record Walk (s : System) (d : ℕ) (q v : ℕ → ℕ) : Type 0 where
  pub states : (t : ℕ) → t ≤ d → State s (q t)
  pub inputs : (t : ℕ) → t ≤ d → Input s (v t)
  pub moves : (t : ℕ) → t < d → q (suc t) ≡ s.next (q t) (v t)

-- a run is a walk from an initial state
pub record Run (s : System) (d : ℕ) (q v : ℕ → ℕ) : Type 0 where
  pub walk : Walk s d q v
  pub initial : s.init (q 0) ≡ true

-- the assumption holds at each state with its input, the last included
abbrev pub Permitted : System → ℕ → (ℕ → ℕ) → (ℕ → ℕ) → Type 0
Permitted s d q v = (t : ℕ) → t ≤ d → s.assumed (q t) (v t) ≡ true

-- the property fails at the last state with its input
abbrev pub Breaks : System → ℕ → (ℕ → ℕ) → (ℕ → ℕ) → Type 0
Breaks s d q v = s.property (q d) (v d) ≡ false

-- a permitted run of d steps that breaks the property
pub record Breaking (s : System) (d : ℕ) (q v : ℕ → ℕ) : Type 0 where
  pub run : Run s d q v
  pub permitted : Permitted s d q v
  pub breaks : Breaks s d q v

abbrev pub Broken : System → ℕ → Type 0
Broken s d = (q : ℕ → ℕ) × (v : ℕ → ℕ) × Breaking s d q v

abbrev pub Unbroken : System → ℕ → Type 0
Unbroken s d = Broken s d → ⊥

-- a permitted walk of d steps from the state x that breaks the property
pub record BreakingFrom (s : System) (d x : ℕ) : Type 0 where
  pub states : ℕ → ℕ
  pub inputs : ℕ → ℕ
  pub from : states 0 ≡ x
  pub walk : Walk s d states inputs
  pub permitted : Permitted s d states inputs
  pub breaks : Breaks s d states inputs

-- one permitted step, from any state
pub record Step (s : System) (q v q' : ℕ) : Type 0 where
  pub state : State s q
  pub input : Input s v
  pub permitted : s.assumed q v ≡ true
  pub leads : q' ≡ s.next q v
