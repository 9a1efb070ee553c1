-- The value of each line, and which lines touch an input.
use Rattle.std.specs.Prelude.{◌≡◌, ℕ, ◌<◌, Bool, true, false, cond, not, ◌&&◌, ◌||◌, List, [], ◌∷◌, ◌++◌, map, length, get_or, replicate, slice_index_or}
use Rattle.std.specs.List.{range_with_len}
use Rattle.circuit.specs.declared.gate.Gate.{Gate}
use Rattle.circuit.specs.Literals.{Literal}
use Rattle.circuit.specs.Netlists.{Netlist, gate, register_line, input_line, gate_line}

abbrev pub literal : (ℕ → Bool) → Literal → Bool
literal value x = cond x.negated (not (value x.line)) (value x.line)

abbrev pub conjunction : (ℕ → Bool) → Gate → Bool
conjunction value g = literal value g.left && literal value g.right

-- `value` is the value of each line, where register i is r i and input j is v j
pub record Values (c : Netlist) (r v value : ℕ → Bool) : Type 0 where
  pub zeroth : value 0 ≡ false
  pub register : (i : ℕ) → i < c.registers → value (register_line i) ≡ r i
  pub input : (j : ℕ) → j < c.inputs → value (input_line c j) ≡ v j
  pub gated : (g : ℕ) → g < length c.gates → value (gate_line c g) ≡ conjunction value (gate c g)

-- a line touches an input if it is one, or a gate with a literal of such a line
pub data Touches (c : Netlist) : ℕ → Type 0 where
  input : (j : ℕ) → j < c.inputs → Touches c (input_line c j)
  left : (g : ℕ) → g < length c.gates → Touches c (gate c g).left.line → Touches c (gate_line c g)
  right : (g : ℕ) → g < length c.gates → Touches c (gate c g).right.line → Touches c (gate_line c g)

-- the lines `before`, and then a line for each gate, by a rule on the lines before it
unfoldable pub extended : ((ℕ → Bool) → Gate → Bool) → List Gate → List Bool → List Bool
extended rule [] before = before
extended rule (g ∷ gs) before = extended rule gs (before ++ rule (λ x. get_or before x false) g ∷ [])

-- the value of line x, worked out gate after gate
unfoldable pub line : Netlist → (ℕ → Bool) → (ℕ → Bool) → ℕ → Bool
unfolding extended
line c r v x = slice_index_or (extended conjunction c.gates (false ∷ (map r (range_with_len 0 c.registers) ++ map v (range_with_len 0 c.inputs)))) x false

abbrev pub either : (ℕ → Bool) → Gate → Bool
either marked g = marked g.left.line || marked g.right.line

-- whether line x touches an input, worked out gate after gate
unfoldable pub touching : Netlist → ℕ → Bool
unfolding extended
touching c x = slice_index_or (extended either c.gates (false ∷ (replicate c.registers false ++ replicate c.inputs true))) x false
