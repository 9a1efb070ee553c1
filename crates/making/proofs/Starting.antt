-- The first set, whether it meets Init, and the negations that an advance takes.
use Rattle.std.proofs.Common.{◌≡◌, ℕ, ◌+◌, ◌-◌, ◌*◌, ◌<◌, ◌≤◌, List, length, get_or, drop, Result, sym, refl, ap, ◌∙◌, subst, arith, length-drop}
use Rattle.std.proofs.lemmas.List.{length-take, get_or-take, get_or-drop}
use Rattle.std.specs.List.{slice_range}
use Rattle.copy_list.specs.Lists.{Listed}
use Rattle.store.specs.declared.refusal.Refusal.{Refusal}
use Rattle.store.specs.Fun.{Fn, bit}
use Rattle.store.specs.Meaning.{Shown, Lawful, Grown}
use Rattle.circuit.specs.Netlists.{lines, next_line, init_line}
use Rattle.description.specs.declared.part.Part.{Part}
use Rattle.runs.specs.Functions.{copy, negated, both, first_of, quantified}
use Rattle.runs.specs.Valuations.{line_fn, next_fn, init_fn}
use Rattle.runs.specs.Models.{Model, Valid}
use Rattle.making.specs.declared.parts.Polarities.{Polarities}
use Rattle.making.specs.declared.parts.Built.{Built}
use Rattle.making.specs.Models.{width}
use Rattle.making.specs.Making.{Means, Numbered, Paired}
use Rattle.making.specs.Pieces.{halves_list, negations_list}
use Rattle.making.specs.Loads.{first_list, start_list, registers_of, Loaded}
use Rattle.making.specs.Ends.{Ends, plain}
use Rattle.making.specs.Promises.{Negates}
use Rattle.making.proofs.Steps.{kept}
use Rattle.making.proofs.Placing.{Lies, lies_at, lies_++, lies_upto}

pub lies_start : (p : Part) (l n k : ℕ) (h q init : Fn) (next : ℕ → Fn) → Lies p l (start_list p l n k h q init next)
lies_start p l n k h q init next =
    lies_++ p l (first_list p l n k h q) _
    (refl, refl, (refl, refl, lies_upto p l _ (λ j. lies_at p l (halves_list (2 * n + j) (quantified (2 * n) (both (negated q) h) j))) k)) (
      refl,
      refl,
      lies_++ p l (negations_list p l (λ i. bit (copy i)) n) _ (lies_upto p l _ (λ i. (refl, refl, tt)) n) (lies_upto p l _ (λ i. (refl, refl, tt)) n),
    )

pub nexts_length : (m : Model) → Valid m → (numbers : List ℕ) → length numbers ≡ lines m.circuit
    → length (slice_range numbers (next_line m.circuit 0) (init_line m.circuit)) ≡ m.circuit.registers
nexts_length m ok numbers whole =
    let first = next_line m.circuit 0 in
    omega (arith, length-take (init_line m.circuit - first) (drop first numbers), length-drop first numbers, whole, ok.circuit.enough_gates)

-- f 0 to f (n - 1) with their negations
pub pairs_made : (p : Part) (l : ℕ) {s t u : Shown} (f : ℕ → Fn) (n : ℕ) (ns bs : List ℕ) (r : Result (Listed Polarities) Refusal) → Grown s t → Lawful t → Numbered s ns f n → length ns ≡ n
    → bs ≡ ns → Negates t bs r u → Ends plain t u (negations_list p l f n) (λ ps. Lawful u × Paired u ps.items f n) r
pairs_made p l {t = t} {u = u} f n ns bs r g w k whole e y =
    subst (λ n. Ends plain t u (negations_list p l f n) (λ ps. Lawful u × Paired u ps.items f n) r) whole
    (subst (λ xs. Negates t xs r u) e y p l f w (λ i lt. kept g (k i (subst (λ n. i < n) whole lt))))

-- the numbers of Init and of the next values are among those of the lines
module _ {m : Model} {s : Shown} (ok : Valid m) (numbers : List ℕ) (lined : Numbered s numbers (line_fn m) (lines m.circuit)) where
  pub init_means : (a : ℕ) → a ≡ get_or numbers (init_line m.circuit) 0 → Means s a (init_fn m)
  init_means a e = subst (λ x. Means s x (init_fn m)) (sym e) (lined (init_line m.circuit) (omega (arith, ok.circuit.enough_gates)))

  pub nexts_mean : Numbered s (slice_range numbers (next_line m.circuit 0) (init_line m.circuit)) (next_fn m) m.circuit.registers
  nexts_mean i lt =
      let first = next_line m.circuit 0 in
      let k = init_line m.circuit - first in
      let within : i < k = omega (arith, lt, ok.circuit.enough_gates) in
      let e : first + i ≡ next_line m.circuit i = omega arith in
      subst (λ x. Means s x (next_fn m i)) (sym (get_or-take k (drop first numbers) i 0 within ∙ get_or-drop first numbers i 0 ∙ ap (λ j. get_or numbers j 0) e))
      (lined (next_line m.circuit i) (omega (arith, ok.circuit.enough_gates)))

-- the numbers in the end
pub loaded : (m : Model) (h q : Fn) (t : Shown) (b : Built) → registers_of b.parts ≡ m.circuit.registers → b.parts.m ≡ m.circuit.inputs → width m ≤ t.vars → Lawful t
    → Paired t b.parts.copies.items (λ i. bit (copy i)) m.circuit.registers → Paired t b.parts.nexts.items (next_fn m) m.circuit.registers
    → Means t b.parts.assumed h → Means t b.parts.property q → Means t b.parts.init (init_fn m)
    → Means t b.set (first_of m.circuit.registers m.circuit.inputs h q) → Means t b.met (both (first_of m.circuit.registers m.circuit.inputs h q) (init_fn m)) → Loaded t m h q b
loaded m h q t b en ek w lawful cs ns mh mq mi ms mm = record {
  lawful = lawful;
  registers = en;
  inputs = ek;
  kept = record {
    wide = omega arith;
    copies = subst (λ n. Paired t b.parts.copies.items (λ i. bit (copy i)) n) (sym en) cs;
    nexts = subst (λ n. Paired t b.parts.nexts.items (next_fn m) n) (sym en) ns;
    assumed = mh;
  };
  property = mq;
  init = mi;
  set = ms;
  met = mm;
}
