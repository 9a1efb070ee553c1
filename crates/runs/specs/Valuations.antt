-- The functions of a model over the valuations of a store: its lines, its claims and its sets.
use Rattle.std.specs.Prelude.{◌≡◌, ℕ, suc, ◌+◌, ◌*◌, ◌^◌, ◌<◌, ◌≤◌, Bool, false, cond, not, length, Decides}
use Rattle.store.specs.Fun.{Fn, bit, Same, same}
use Rattle.circuit.specs.Literals.{Literal}
use Rattle.circuit.specs.Netlists.{gate, register_line, input_line, gate_line, name_line, next_line, init_line}
use Rattle.circuit.specs.Lines.{line}
use Rattle.claim.specs.Grammar.{Tree, Known}
use Rattle.claim.specs.Truth.{Ops, fold}
use Rattle.runs.specs.Systems.{Closed}
use Rattle.runs.specs.Search.{bad, meets_init}
use Rattle.runs.specs.Functions.{register, input, spread, negated, both, either}
use Rattle.runs.specs.Steps.{Stands, set_of, first_made, back_made}
use Rattle.runs.specs.Models.{Model, claimed, system, sizes, Valid}

-- the registers and the inputs of a valuation
abbrev pub registers_at : ℕ → ℕ → Bool
registers_at w i = bit (register i) w

abbrev pub inputs_at : ℕ → ℕ → ℕ → Bool
inputs_at n w j = bit (input n j) w

-- a literal of lines that are these functions
abbrev pub literal_fn : (ℕ → Fn) → Literal → Fn
literal_fn lines x = cond x.negated (negated (lines x.line)) (lines x.line)

module _ (m : Model) where
  abbrev pub line_fn : ℕ → Fn
  line_fn x w = line m.circuit (registers_at w) (inputs_at m.circuit.registers w) x

  abbrev pub claim_fn : Tree → Fn
  claim_fn t w = claimed m.circuit (registers_at w) (inputs_at m.circuit.registers w) t

  -- the operations of claims on functions, with each name by its line
  abbrev pub claim_ops : Ops Fn
  claim_ops = record {
    constant = λ p b w. b;
    name = λ p s i. line_fn (name_line m.circuit s i);
    negate = λ p f. negated f;
    both = λ p f g. both f g;
    either = λ p f g. either f g;
  }

  abbrev pub next_fn : ℕ → Fn
  next_fn i = line_fn (next_line m.circuit i)

  abbrev pub init_fn : Fn
  init_fn = line_fn (init_line m.circuit)

  -- the set B_j
  abbrev pub set_fn : ℕ → Fn
  set_fn j = set_of (system m) j

  -- the first set as it is made, and the set that is made from B_j
  abbrev pub first_fn : Fn
  first_fn = first_made (system m) (claim_fn m.assumption) (claim_fn m.property)

  abbrev pub back_fn : ℕ → Fn
  back_fn j = back_made (system m) next_fn (claim_fn m.assumption) j

-- each line from those before it, and each claim from its operands
pub record Lined (m : Model) : Type 0 where
  pub zeroth : (w : ℕ) → line_fn m 0 w ≡ false
  pub register : (i : ℕ) → i < m.circuit.registers → (w : ℕ) → line_fn m (register_line i) w ≡ bit (register i) w
  pub input : (j : ℕ) → j < m.circuit.inputs → (w : ℕ) → line_fn m (input_line m.circuit j) w ≡ bit (input m.circuit.registers j) w
  pub gated : (g : ℕ) → g < length m.circuit.gates → (w : ℕ)
      → line_fn m (gate_line m.circuit g) w ≡ both (literal_fn (line_fn m) (gate m.circuit g).left) (literal_fn (line_fn m) (gate m.circuit g).right) w
  pub claims : (t : Tree) → Known (sizes m.circuit) t → (w : ℕ) → fold (claim_ops m) t w ≡ claim_fn m t w

-- what is made is the sets, and its tests are those of the sets
pub record Stepped (m : Model) : Type 0 where
  pub closed : Closed (system m)
  pub stands : Stands (system m) (next_fn m) (init_fn m) (claim_fn m m.assumption) (claim_fn m m.property)
  pub first : (w : ℕ) → first_fn m w ≡ set_fn m 0 w
  pub back : (j w : ℕ) → back_fn m j w ≡ set_fn m (suc j) w
  pub alike : (vars i j : ℕ) → 2 * m.circuit.registers ≤ vars
      → Decides (same m.circuit.registers (bad (system m) i) (bad (system m) j)) (Same vars (set_fn m i) (set_fn m j))
  pub misses : (vars j : ℕ) → 2 * m.circuit.registers ≤ vars
      → Decides (not (meets_init (system m) (bad (system m) j))) (Same vars (both (set_fn m j) (init_fn m)) (λ _. false))

-- the functions at the valuation of a state q and an input v
pub record At (m : Model) (q v : ℕ) : Type 0 where
  pub below : (vars : ℕ) → 2 * m.circuit.registers + m.circuit.inputs ≤ vars → spread m.circuit.registers q v < 2 ^ vars
  pub set : (j : ℕ) → set_fn m j (spread m.circuit.registers q v) ≡ bad (system m) j q
  pub init : init_fn m (spread m.circuit.registers q v) ≡ (system m).init q
  pub next : (i : ℕ) → i < m.circuit.registers → next_fn m i (spread m.circuit.registers q v) ≡ bit i ((system m).next q v)
  pub assumed : claim_fn m m.assumption (spread m.circuit.registers q v) ≡ (system m).assumed q v
  pub property : claim_fn m m.property (spread m.circuit.registers q v) ≡ (system m).property q v

pub record Exact (m : Model) : Type 0 where
  pub lined : Lined m
  pub stepped : Stepped m
  pub at : (q v : ℕ) → q < 2 ^ m.circuit.registers → v < 2 ^ m.circuit.inputs → At m q v

abbrev pub FunctionsExact : Type 0
FunctionsExact = (m : Model) → Valid m → Exact m
