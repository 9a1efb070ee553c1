-- The file of a circuit is read as that circuit, and a file that is read is the file of what was read.
use Rattle.std.proofs.Common.{◌≡◌, ◌↔◌, ℕ, zero, suc, ◌+◌, ◌-◌, ◌*◌, ◌/◌, ◌%◌, ◌<◌, ◌≤◌, Bool, true, false, cond, not, ◌||◌, eqb, List, map, length, get_or, Ok, Err, Result, IsOk, refl, sym, ap, ap₂, ◌∙◌, subst, inl, inr, ⊎_elim, arith}
use Rattle.std.specs.List.{range_with_len}
use Rattle.std.proofs.lemmas.List.FromFn.{get_or-map-range_with_len, length-map-range_with_len}
use Rattle.std.proofs.lemmas.List.{ext_get_or, get_or_append_left, get_or-append-add, get_or-map, length-append, length-map}
use Rattle.std.proofs.lemmas.Bool.{cases_lt, cases_Bool, cond-false, le-ltb, eq-eqb}
use Rattle.std.proofs.lemmas.Bool.Decides.{nat_tests}
use Rattle.circuit.specs.declared.circuit.Circuit.{Circuit}
use Rattle.circuit.specs.declared.refusal.Refusal.{Refusal}
use Rattle.circuit.specs.Literals.{Literal, literal_of, literal_number}
use Rattle.circuit.specs.Netlists.{Netlist, blank, gate, lines, init_line}
use Rattle.circuit.specs.Files.{number_at, registers, inputs, count, gate_at, says, left_number, right_number, numbers_of, file_of}
use Rattle.circuit.specs.Reading.{netlist, answered}
use Rattle.circuit.specs.Laws.{FileOf, Acceptable}
use Rattle.circuit.specs.Rules.{Sound, reading}
use Rattle.circuit.proofs.Numbers.{IsBytes, length-bytes_of, number_written, written}
use Rattle.circuit.proofs.Passing.{reading_says, reading_long, reading_sound, says_count}
use Rattle.circuit.proofs.Lines.{touching_tells}
use Rattle.circuit.proofs.Deciding.{accepted}

literal_again : (x : Literal) → literal_of (literal_number x) ≡ x
literal_again x = go x.line x.negated
  where
    go : (l : ℕ) (b : Bool) → literal_of (2 * l + cond b 1 0) ≡ record { line = l; negated = b }
    go l true =
        let line : (2 * l + 1) / 2 ≡ l = omega arith in
        let odd : eqb ((2 * l + 1) % 2) 1 ≡ true = eq-eqb _ _ (omega arith) in
        λ i. record { line = line i; negated = odd i }
    go l false =
        let line : (2 * l + 0) / 2 ≡ l = omega arith in
        let even : (2 * l + 0) % 2 ≡ 0 = omega arith in
        λ i. record { line = line i; negated = eqb (even i) 1 }

number_again : (x : ℕ) → literal_number (literal_of x) ≡ x
number_again x = grind (arith, nat_tests)

module _ (c : Netlist) where
  length-numbers_of : length (numbers_of c) ≡ 3 + 2 * length c.gates
  length-numbers_of = omega (arith, length-append (map left_number c.gates) (map right_number c.gates), length-map c.gates left_number, length-map c.gates right_number)

  -- the numbers of the literals
  left_at : (g : ℕ) → g < length c.gates → get_or (numbers_of c) (3 + g) 0 ≡ left_number (gate c g)
  left_at g h =
      let e : 3 + g ≡ suc (suc (suc g)) = omega arith in
      ap (λ i. get_or (numbers_of c) i 0) e
      ∙ get_or_append_left (map left_number c.gates) (map right_number c.gates) 0 g (omega (arith, length-map c.gates left_number))
      ∙ get_or-map left_number c.gates g blank 0 h

  right_at : (g : ℕ) → g < length c.gates → get_or (numbers_of c) (3 + length c.gates + g) 0 ≡ right_number (gate c g)
  right_at g h =
      let e : 3 + length c.gates + g ≡ suc (suc (suc (length (map left_number c.gates) + g))) = omega (arith, length-map c.gates left_number) in
      ap (λ i. get_or (numbers_of c) i 0) e
      ∙ get_or-append-add (map left_number c.gates) (map right_number c.gates) g 0
      ∙ get_or-map right_number c.gates g blank 0 h

  -- the numbers of its file are its numbers
  number_is : (i : ℕ) → i < 3 + 2 * length c.gates → number_at (file_of c) i ≡ get_or (numbers_of c) i 0
  number_is i h = number_written (numbers_of c) i (omega (arith, length-numbers_of))

  length-file_of : length (file_of c) ≡ 6 + 4 * length c.gates
  length-file_of = omega (arith, length-bytes_of (numbers_of c), length-numbers_of)

  gate_is : (g : ℕ) → g < length c.gates → gate_at (file_of c) (length c.gates) g ≡ gate c g
  gate_is g h =
      let left = ap literal_of (number_is (3 + g) (omega arith) ∙ left_at g h) ∙ literal_again (gate c g).left in
      let right = ap literal_of (number_is (3 + length c.gates + g) (omega arith) ∙ right_at g h) ∙ literal_again (gate c g).right in
      λ i. record { left = left i; right = right i }

  -- the file of a netlist says that netlist
  says_file : says (file_of c) ≡ c
  says_file =
      let k : count (file_of c) ≡ length c.gates = number_is 2 (omega arith) in
      let long = length-map-range_with_len (gate_at (file_of c) (length c.gates)) 0 (length c.gates) in
      let gates : map (gate_at (file_of c) (count (file_of c))) (range_with_len 0 (count (file_of c))) ≡ c.gates =
      ap (λ n. map (gate_at (file_of c) n) (range_with_len 0 n)) k
      ∙ ext_get_or blank _ c.gates long (λ i h. get_or-map-range_with_len (gate_at (file_of c) (length c.gates)) 0 (length c.gates) i i blank (omega (arith, h, long)) (omega arith) ∙ gate_is i (omega (arith, h, long)))
      in
      let r : registers (file_of c) ≡ c.registers = number_is 0 (omega arith) in
      let m : inputs (file_of c) ≡ c.inputs = number_is 1 (omega arith) in
      λ i. record { registers = r i; inputs = m i; gates = gates i }

-- bytes that are as many as they should be are the file of what they say
module _ (bs : List ℕ) (small : IsBytes bs) (long : length bs ≡ 6 + 4 * count bs) where
  gate_says : (g : ℕ) → g < count bs → gate (says bs) g ≡ gate_at bs (count bs) g
  gate_says g h = get_or-map-range_with_len (gate_at bs (count bs)) 0 (count bs) g g blank h (omega arith)

  number_says : (i : ℕ) → i < length (numbers_of (says bs)) → get_or (numbers_of (says bs)) i 0 ≡ number_at bs i
  number_says zero h = refl
  number_says (suc zero) h = refl
  number_says (suc (suc zero)) h = says_count bs
  number_says (suc (suc (suc i))) h =
      let k = says_count bs in
      let n = length-numbers_of (says bs) in
      elim (cases_lt i (count bs)) [
        | inl l ↦
            let e : suc (suc (suc i)) ≡ 3 + i = omega arith in
            ap (λ x. get_or (numbers_of (says bs)) x 0) e
            ∙ left_at (says bs) i (omega (arith, l, k))
            ∙ ap left_number (gate_says i l)
            ∙ number_again (number_at bs (3 + i))
            ∙ ap (number_at bs) (sym e)
        | inr m ↦
            let g : i - count bs < count bs = omega (arith, h, m, k, n) in
            let e : suc (suc (suc i)) ≡ 3 + count bs + (i - count bs) = omega (arith, m) in
            ap (λ x. get_or (numbers_of (says bs)) x 0) (e ∙ ap (λ x. 3 + x + (i - count bs)) (sym k))
            ∙ right_at (says bs) (i - count bs) (omega (arith, g, k))
            ∙ ap right_number (gate_says (i - count bs) g)
            ∙ number_again (number_at bs (3 + count bs + (i - count bs)))
            ∙ ap (number_at bs) (sym e)
      ]

  file_says : bs ≡ file_of (says bs)
  file_says = sym (written bs (numbers_of (says bs)) small (omega (arith, long, length-numbers_of (says bs), says_count bs)) number_says)

neither : (a b : Bool) → a ≡ false → b ≡ false → (a || b) ≡ false
neither a b h k = ap₂ ◌||◌ h k

not_from : (b : Bool) → (b ≡ true → ⊥) → b ≡ false
not_from b h = ⊎_elim (λ t. absurd (h t)) (λ f. f) (cases_Bool b)

module _ (width : ℕ) (bs : List ℕ) where
  read_says : Acceptable width bs → reading width bs ≡ Ok (says bs)
  read_says a =
      let s = a.sound in
      let k = says_count bs in
      let tells = touching_tells (says bs) s.wired (lines (says bs)) (omega arith) (init_line (says bs)) (omega (arith, s.enough_gates)) in
      cond-false _ _ _ (le-ltb (length bs) 6 (omega (arith, a.long)))
      ∙ cond-false _ _ _ (neither _ _ (le-ltb (registers bs) 1 s.some_registers) (le-ltb 8 (registers bs) s.few_registers))
      ∙ cond-false _ _ _ (le-ltb 8 (inputs bs) s.few_inputs)
      ∙ cond-false _ _ _ (neither _ _ (le-ltb (count bs) (registers bs + 1) (omega (arith, k, s.enough_gates))) (le-ltb 1024 (count bs) (omega (arith, k, s.few_gates))))
      ∙ cond-false _ _ _ (ap not (eq-eqb _ _ a.long))
      ∙ cond-false _ _ _ (le-ltb width (2 * registers bs + inputs bs) a.fits)
      ∙ accepted (says bs) s.wired (not_from _ (λ t. s.apart (tells.0 t)))

  pub read_file : (c : Netlist) → FileOf width bs c → reading width bs ≡ Ok c
  read_file c f =
      let is : says bs ≡ c = ap says f.file ∙ says_file c in
      let k : count bs ≡ length c.gates = sym (says_count bs) ∙ ap (λ (x : Netlist). length x.gates) is in
      let long : length bs ≡ 6 + 4 * count bs = ap length f.file ∙ length-file_of c ∙ ap (λ x. 6 + 4 * x) (sym k) in
      let whole = subst (λ x. Sound x × (2 * x.registers + x.inputs ≤ width)) (sym is) (f.sound, f.fits) in
      read_says (record { long = long; fits = whole.1; sound = whole.0 }) ∙ ap (λ (x : Netlist). Ok x) is

  pub acceptable : (c : Netlist) → reading width bs ≡ Ok c → Acceptable width bs
  acceptable c h =
      let s = reading_sound width bs c h in
      let whole = subst (λ x. Sound x × (2 * x.registers + x.inputs ≤ width)) (sym (reading_says width bs c h)) (s.0, s.1) in
      record { long = reading_long width bs c h; fits = whole.1; sound = whole.0 }

  pub file_read : IsBytes bs → (c : Netlist) → reading width bs ≡ Ok c → FileOf width bs c
  file_read small c h =
      let s = reading_sound width bs c h in
      record { file = file_says bs small (reading_long width bs c h) ∙ ap file_of (reading_says width bs c h); sound = s.0; fits = s.1 }

-- what a reader answers that goes by the rules
module _ (width : ℕ) (bs : List ℕ) where
  pub written_exactly : (r : Result Netlist Refusal) → r ≡ reading width bs → IsBytes bs → (c : Netlist) → (r ≡ Ok c) ↔ FileOf width bs c
  written_exactly r e small c = ((λ h. file_read width bs small c (sym e ∙ h)), (λ f. e ∙ read_file width bs c f))

  pub accepted_exactly : (r : Result Circuit Refusal) → answered r ≡ reading width bs → IsOk r ↔ Acceptable width bs
  accepted_exactly (Ok c) e = ((λ h. acceptable width bs (netlist c) (sym e)), (λ a. refl))
  accepted_exactly (Err d) e = ((λ h. absurd cc), (λ a. let f = e ∙ read_says width bs a in absurd cc))
