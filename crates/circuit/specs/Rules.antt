-- Which netlists are circuits, and which refusal any other file gets.
use Rattle.std.specs.Prelude.{◌≡◌, ℕ, zero, suc, ◌+◌, ◌-◌, ◌*◌, ◌<◌, ◌≤◌, Bool, cond, not, ◌&&◌, ◌||◌, List, length, Ok, Err, Decides, Result, ◌==◌, nat_lt}
use Rattle.circuit.specs.declared.refusal.Refusal.{Refusal}
use Rattle.circuit.specs.declared.refusal.Refusal.TheVariants.{Length, Size, Width, Wire, Start}
use Rattle.circuit.specs.declared.sort.Sort.TheVariants as sort
use Rattle.circuit.specs.Netlists.{Netlist, gate, gate_line, lines, init_line}
use Rattle.circuit.specs.Lines.{Values, Touches, line, touching}
use Rattle.circuit.specs.Files.{registers, inputs, count, says}

-- the literals of gate g name lines before its own
abbrev pub Wired : Netlist → ℕ → Type 0
Wired c g = ((gate c g).left.line < gate_line c g) × ((gate c g).right.line < gate_line c g)

-- what a circuit is
pub record Sound (c : Netlist) : Type 0 where
  pub some_registers : 1 ≤ c.registers
  pub few_registers : c.registers ≤ 8
  pub few_inputs : c.inputs ≤ 8
  pub enough_gates : c.registers + 1 ≤ length c.gates
  pub few_gates : length c.gates ≤ 1024
  pub wired : (g : ℕ) → g < length c.gates → Wired c g
  pub apart : Touches c (init_line c) → ⊥

-- each line has one value at each valuation, and that of Init is the same under every input
pub record Determined (c : Netlist) : Type 0 where
  pub some : (r v : ℕ → Bool) → Values c r v (line c r v)
  pub one : (r v f g : ℕ → Bool) → Values c r v f → Values c r v g → (x : ℕ) → x < lines c → f x ≡ g x
  pub init : (r v w : ℕ → Bool) → line c r v (init_line c) ≡ line c r w (init_line c)

-- the least number below n at which p holds, or n
abbrev pub least : ℕ → (ℕ → Bool) → ℕ
least zero p = 0
least (suc n) p = cond (p 0) 0 (suc (least n (λ i. p (suc i))))

abbrev pub miswired : Netlist → ℕ → Bool
miswired c g = not (nat_lt (gate c g).left.line (gate_line c g) && nat_lt (gate c g).right.line (gate_line c g))

-- the first gate that is miswired, or the count of gates
abbrev pub first_miswired : Netlist → ℕ
first_miswired c = least (length c.gates) (miswired c)

abbrev pub outside : ℕ → ℕ → ℕ → Bool
outside low high x = nat_lt x low || nat_lt high x

abbrev pub refused_if : Bool → Refusal → Result Netlist Refusal → Result Netlist Refusal
refused_if b e r = cond b (Err e) r

-- the checks on what the lines are, in order
abbrev pub checking : Netlist → Result Netlist Refusal
checking c =
    refused_if (nat_lt (first_miswired c) (length c.gates)) (Wire (first_miswired c))
    (refused_if (touching c (init_line c)) (Start (length c.gates - 1))
    (Ok c))

-- all checks on a file, for a store of `width` variables, in order
abbrev pub reading : ℕ → List ℕ → Result Netlist Refusal
reading width bs =
    refused_if (nat_lt (length bs) 6) (Length (length bs))
    (refused_if (outside 1 8 (registers bs)) (Size sort.Register)
    (refused_if (nat_lt 8 (inputs bs)) (Size sort.Input)
    (refused_if (outside (registers bs + 1) 1024 (count bs)) (Size sort.Gate)
    (refused_if (not (length bs == 6 + 4 * count bs)) (Length (length bs))
    (refused_if (nat_lt width (2 * registers bs + inputs bs)) (Width (2 * registers bs + inputs bs))
    (checking (says bs)))))))

-- the tests above say what they should: `least` of the gates the first that is miswired, and `touching` what touches an input
pub record Tested (c : Netlist) : Type 0 where
  pub all_wired : first_miswired c ≡ length c.gates → (g : ℕ) → g < length c.gates → Wired c g
  pub first : first_miswired c < length c.gates → Wired c (first_miswired c) → ⊥
  pub earlier : (g : ℕ) → g < first_miswired c → Wired c g
  pub touches : ((g : ℕ) → g < length c.gates → Wired c g) → (x : ℕ) → x < lines c → Decides (touching c x) (Touches c x)
