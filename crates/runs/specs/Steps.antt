-- The functions that a search makes are its sets.
use Rattle.std.specs.Prelude.{◌≡◌, ℕ, suc, ◌+◌, ◌*◌, ◌^◌, ◌<◌, ◌≤◌, Bool, false, not, Decides}
use Rattle.store.specs.Fun.{Fn, bit, some, Same, same}
use Rattle.runs.specs.Systems.{System, Closed}
use Rattle.runs.specs.Search.{bad, meets_init}
use Rattle.runs.specs.Functions.{register, state_of, input_of, on_states, spread, both, pre_image, quantified, first_of, back_of}

abbrev pub state_at : System → ℕ → ℕ
state_at s w = state_of s.registers w

abbrev pub input_at : System → ℕ → ℕ
input_at s w = input_of s.registers s.inputs w

-- at each valuation these functions are those of the system at its state and its input
pub record Stands (s : System) (next : ℕ → Fn) (init assumed property : Fn) : Type 0 where
  pub nexts : (i : ℕ) → i < s.registers → (w : ℕ) → next i w ≡ bit i (s.next (state_at s w) (input_at s w))
  pub starts : (w : ℕ) → init w ≡ s.init (state_at s w)
  pub assumes : (w : ℕ) → assumed w ≡ s.assumed (state_at s w) (input_at s w)
  pub claims : (w : ℕ) → property w ≡ s.property (state_at s w) (input_at s w)

-- two valuations with the same registers
abbrev pub SameRegisters : System → ℕ → ℕ → Type 0
SameRegisters s w w' = (i : ℕ) → i < s.registers → bit (register i) w ≡ bit (register i) w'

-- the set B_j as a function, the first set as it is made, and the set that is made from B_j
abbrev pub set_of : System → ℕ → Fn
set_of s j = on_states s.registers (bad s j)

abbrev pub first_made : System → Fn → Fn → Fn
first_made s assumed property = first_of s.registers s.inputs assumed property

abbrev pub back_made : System → (ℕ → Fn) → Fn → ℕ → Fn
back_made s next assumed j = back_of s.registers s.inputs next assumed (set_of s j)

pub record Stepping (s : System) (next : ℕ → Fn) (init assumed property : Fn) : Type 0 where
  -- replacing registers by copies and copies by next values: the next state is in the set
  pub pre_images : (set : ℕ → Bool) (w : ℕ) → pre_image s.registers next (on_states s.registers set) w ≡ set (s.next (state_at s w) (input_at s w))
  -- the sets
  pub first : (w : ℕ) → first_made s assumed property w ≡ set_of s 0 w
  pub back : (j w : ℕ) → back_made s next assumed j w ≡ set_of s (suc j) w
  -- they depend on the registers alone
  pub first_alone : (w w' : ℕ) → SameRegisters s w w' → first_made s assumed property w ≡ first_made s assumed property w'
  pub back_alone : (j w w' : ℕ) → SameRegisters s w w' → back_made s next assumed j w ≡ back_made s next assumed j w'
  -- a set misses Init exactly if their and is false
  pub misses : (vars j : ℕ) → 2 * s.registers ≤ vars → Decides (not (meets_init s (bad s j))) (Same vars (both (set_of s j) init) (λ _. false))

abbrev pub StepsBack : Type 0
StepsBack = (s : System) (next : ℕ → Fn) (init assumed property : Fn) → Closed s → Stands s next init assumed property → Stepping s next init assumed property

-- the or of the two cofactors by each input: some input
abbrev pub InputsQuantified : Type 0
InputsQuantified = (n m : ℕ) (k : ℕ → ℕ → Bool) (w : ℕ) → quantified (2 * n) (λ u. k (state_of n u) (input_of n m u)) m w ≡ some (k (state_of n w)) (2 ^ m)

-- sets of states are the same exactly if their functions are
abbrev pub SetsSame : Type 0
SetsSame = (n vars : ℕ) → 2 * n ≤ vars → (f g : ℕ → Bool) → Decides (same n f g) (Same vars (on_states n f) (on_states n g))

-- a state with an input has a valuation
pub record Spread (n m q v : ℕ) : Type 0 where
  pub below : spread n q v < 2 ^ (2 * n + m)
  pub state : state_of n (spread n q v) ≡ q
  pub input : input_of n m (spread n q v) ≡ v

abbrev pub Spreads : Type 0
Spreads = (n m q v : ℕ) → q < 2 ^ n → v < 2 ^ m → Spread n m q v
