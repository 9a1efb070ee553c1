use Rattle.std.proofs.Common.{◌≡◌, ℕ, ◌-◌, List, take, drop, arith}
use Rattle.std.specs.List.{slice_range}
use Rattle.circuit.specs.Netlists.{next_line, init_line}
use Rattle.circuit.specs.Reading.{netlist}
use Rattle.making.proofs.Circuits.{sound_out}
use Rattle.making.proofs.lines.Lines.nexts.Goals as goal

cut : (xs ys : List ℕ) (i j a b : ℕ) → xs ≡ ys → i ≡ a → j ≡ b → take (j - i) (drop i xs) ≡ slice_range ys a b
cut xs ys i j a b e p q k = slice_range (e k) (p k) (q k)

pub returns : goal.returns
returns c =
    let n = netlist c.args.self.now.circuit.now in
    let d = sound_out n c.args.self.now.circuit.now.sound in
    let end : c.len-end.result - 1 ≡ init_line n = omega (arith, c.len-end.ensures.value, c.args.self.now.whole, d.enough_gates) in
    let start : c.len-end.result - 1 - c.from.result ≡ next_line n 0 = omega (arith, end, c.from.ensures, c.registers.ensures, d.enough_gates) in
    cut _ _ (c.len-end.result - 1 - c.from.result) (c.len-end.result - 1) _ _ c.deref.ensures.0 start end
