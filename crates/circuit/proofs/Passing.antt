-- What a circuit file that passes the checks says.
use Rattle.std.proofs.Common.{◌≡◌, ℕ, ◌+◌, ◌-◌, ◌*◌, ◌<◌, ◌≤◌, Bool, true, false, not, eqb, ltb, List, length, Ok, Result, refl, subst, arith}
use Rattle.std.proofs.lemmas.List.FromFn.{length-map-range_with_len}
use Rattle.std.proofs.lemmas.Bool.{ltb-false, eqb-true, not-false, or_parts}
use Rattle.std.proofs.lemmas.Bool.Decides.{not_from_Decides}
use Rattle.circuit.specs.declared.refusal.Refusal.{Refusal}
use Rattle.circuit.specs.declared.refusal.Refusal.TheVariants.{Length, Size, Width, Wire, Start}
use Rattle.circuit.specs.declared.sort.Sort.TheVariants as sort
use Rattle.circuit.specs.Netlists.{Netlist, sizes, init_line}
use Rattle.circuit.specs.Files.{registers, inputs, count, sizes_at, gate_at, says}
use Rattle.circuit.specs.Lines.{touching}
use Rattle.circuit.specs.Rules.{Wired, Sound, first_miswired, outside, refused_if, reading}
use Rattle.circuit.proofs.Checks.{tested}

passed : (b : Bool) (e : Refusal) (r : Result Netlist Refusal) (c : Netlist) → refused_if b e r ≡ Ok c → (b ≡ false) × (r ≡ Ok c)
passed true e r c h = let z : ◌≡◌ {A = ℕ} 0 1 = cc in absurd (omega arith)
passed false e r c h = (refl, h)

within : (low high x : ℕ) → outside low high x ≡ false → (low ≤ x) × (x ≤ high)
within low high x h = let p = or_parts (ltb x low) (ltb high x) h in (ltb-false x low p.0, ltb-false high x p.1)

ok_same : (x y : Netlist) → ◌≡◌ {A = Result Netlist Refusal} (Ok x) (Ok y) → x ≡ y
ok_same x y e = cc

-- what the tests of a file that passes came to, and that its netlist is what its bytes say
record Passed (width : ℕ) (bs : List ℕ) (c : Netlist) : Type 0 where
  sized : outside 1 8 (registers bs) ≡ false
  narrow : ltb 8 (inputs bs) ≡ false
  gated : outside (registers bs + 1) 1024 (count bs) ≡ false
  long : not (eqb (length bs) (6 + 4 * count bs)) ≡ false
  fits : ltb width (2 * registers bs + inputs bs) ≡ false
  wired : ltb (first_miswired (says bs)) (length (says bs).gates) ≡ false
  apart : touching (says bs) (init_line (says bs)) ≡ false
  is : says bs ≡ c

all_passed : (width : ℕ) (bs : List ℕ) (c : Netlist) → reading width bs ≡ Ok c → Passed width bs c
all_passed width bs c h =
    let a = passed (ltb (length bs) 6) (Length (length bs)) _ c h in
    let b = passed (outside 1 8 (registers bs)) (Size sort.Register) _ c a.1 in
    let d = passed (ltb 8 (inputs bs)) (Size sort.Input) _ c b.1 in
    let e = passed (outside (registers bs + 1) 1024 (count bs)) (Size sort.Gate) _ c d.1 in
    let f = passed (not (eqb (length bs) (6 + 4 * count bs))) (Length (length bs)) _ c e.1 in
    let g = passed (ltb width (2 * registers bs + inputs bs)) (Width (2 * registers bs + inputs bs)) _ c f.1 in
    let i = passed (ltb (first_miswired (says bs)) (length (says bs).gates)) (Wire (first_miswired (says bs))) _ c g.1 in
    let j = passed (touching (says bs) (init_line (says bs))) (Start (length (says bs).gates - 1)) _ c i.1 in
    record { sized = b.0; narrow = d.0; gated = e.0; long = f.0; fits = g.0; wired = i.0; apart = j.0; is = ok_same (says bs) c j.1 }

pub reading_says : (width : ℕ) (bs : List ℕ) (c : Netlist) → reading width bs ≡ Ok c → says bs ≡ c
reading_says width bs c h = (all_passed width bs c h).is

pub reading_long : (width : ℕ) (bs : List ℕ) (c : Netlist) → reading width bs ≡ Ok c → length bs ≡ 6 + 4 * count bs
reading_long width bs c h = eqb-true _ _ (not-false _ (all_passed width bs c h).long)

pub says_count : (bs : List ℕ) → length (says bs).gates ≡ count bs
says_count bs = length-map-range_with_len (gate_at bs (count bs)) 0 (count bs)

pub says_sizes : (bs : List ℕ) → sizes (says bs) ≡ sizes_at bs
says_sizes bs = λ i. record { registers = registers bs; inputs = inputs bs; gates = says_count bs i }

pub reading_sound : (width : ℕ) (bs : List ℕ) (c : Netlist) → reading width bs ≡ Ok c → Sound c × (2 * c.registers + c.inputs ≤ width)
reading_sound width bs c h =
    let a = all_passed width bs c h in
    let n = within 1 8 (registers bs) a.sized in
    let k = within (registers bs + 1) 1024 (count bs) a.gated in
    let l = says_count bs in
    let w = wired a.wired in
    let t = (tested (says bs)).touches w (init_line (says bs)) (omega arith) in
    subst (λ x. Sound x × (2 * x.registers + x.inputs ≤ width)) a.is (
      record {
        some_registers = n.0;
        few_registers = n.1;
        few_inputs = ltb-false 8 (inputs bs) a.narrow;
        enough_gates = omega arith;
        few_gates = omega arith;
        wired = w;
        apart = not_from_Decides (touching (says bs) (init_line (says bs))) t a.apart;
      },
      ltb-false width (2 * registers bs + inputs bs) a.fits,
    )
  where
    wired : ltb (first_miswired (says bs)) (length (says bs).gates) ≡ false → (g : ℕ) → g < length (says bs).gates → Wired (says bs) g
    wired e g l = let f = ltb-false (first_miswired (says bs)) (length (says bs).gates) e in (tested (says bs)).earlier g (omega arith)
