-- A load, from what its parts promise.
use Rattle.std.proofs.Common.{◌≡◌, ℕ, ◌≤◌, List, length, Ok, Err, Result, sym, subst, append_assoc}
use Rattle.store.specs.declared.refusal.Refusal.{Refusal}
use Rattle.store.specs.Fun.{bit}
use Rattle.store.specs.Meaning.{Shown}
use Rattle.circuit.specs.Netlists.{Netlist, lines}
use Rattle.claim.specs.declared.code.Code.{Code}
use Rattle.claim.specs.Grammar.{Tree, post}
use Rattle.description.specs.declared.part.Part.TheVariants.{Assumption, Property, Sets}
use Rattle.description.specs.Stated.{Stated}
use Rattle.runs.specs.Functions.{copy}
use Rattle.runs.specs.Valuations.{line_fn, claim_fn, next_fn, init_fn}
use Rattle.making.specs.Faults.{Fault}
use Rattle.making.specs.declared.lines.Lines.{Lines}
use Rattle.making.specs.declared.parts.Built.{Built}
use Rattle.making.specs.Models.{model, alone, width}
use Rattle.making.specs.Pieces.{variables_list, gates_list}
use Rattle.making.specs.Loads.{load_list, Loaded}
use Rattle.making.specs.Ends.{Ends, located, placed}
use Rattle.making.specs.Promises.{MakesLines, MakesClaim, MakesStart, Builds}
use Rattle.making.proofs.Steps.{kept, runs_grown, grown_more, runs_of, ends_after, ends_before, ends_with, ends_as, lacks_none, lacks_other}
use Rattle.making.proofs.Loops.{numbered_kept}
use Rattle.making.proofs.Naming.{claims_known}
use Rattle.making.proofs.Placing.{gained}
use Rattle.making.proofs.Starting.{lies_start}
use Rattle.making.proofs.Joining.{loaded_model}

module _ (c : Netlist) (hs qs : List Code) (stated : ∥ (Stated c hs × Stated c qs) ∥₁) (s : Shown) where
  pub unlined : (t : Shown) (e : Fault) → MakesLines s (alone c) (Err e) t → Builds s c hs qs (Err e) t
  unlined t e k = record {
    lawful = k.lawful;
    wide = λ w h q eh eq. ends_as (append_assoc (variables_list (width (alone c))) (gates_list (alone c) (length c.gates)) _) (ends_before _ (k.wide w));
    narrow = λ l. lacks_other (k.narrow l);
  }

  module _ (t₁ : Shown) (k : Lines) (lined : MakesLines s (alone c) (Ok k) t₁) where
    -- what is left after the lines
    after_lines : (t : Shown) (r : Result Built Fault)
        → ((w : width (alone c) ≤ s.vars) (h q : Tree) → hs ≡ post h → qs ≡ post q → Ends located s t (load_list (model c h q)) (Loaded t (model c h q) (claim_fn (model c h q) h) (claim_fn (model c h q) q)) r)
        → Builds s c hs qs r t
    after_lines t r f = record { lawful = lined.lawful; wide = f; narrow = λ l. lacks_none (lined.narrow l) }

    pub unassumed : (t : Shown) (e : Fault) → MakesClaim t₁ Assumption (alone c) hs k.numbers.items (Err e) t → Builds s c hs qs (Err e) t
    unassumed t e claim = after_lines t (Err e) (λ w h q eh eq.
        let r1 = runs_of (lined.wide w) in
        let known = claims_known c stated h q eh eq in
        ends_as (append_assoc (variables_list (width (alone c))) (gates_list (alone c) (length c.gates)) _)
        (ends_after r1.0 (ends_before _ (claim h eh known.0 r1.1.0 r1.1.1))))

    module _ (t₂ : Shown) (a : ℕ) (assumed : MakesClaim t₁ Assumption (alone c) hs k.numbers.items (Ok a) t₂) where
      pub unpromised : (t : Shown) (e : Fault) → MakesClaim t₂ Property (alone c) qs k.numbers.items (Err e) t → Builds s c hs qs (Err e) t
      unpromised t e claim = after_lines t (Err e) (λ w h q eh eq.
          let r1 = runs_of (lined.wide w) in
          let known = claims_known c stated h q eh eq in
          let r2 = runs_of (assumed h eh known.0 r1.1.0 r1.1.1) in
          ends_as (append_assoc (variables_list (width (alone c))) (gates_list (alone c) (length c.gates)) _)
          (ends_after r1.0 (ends_after r2.0 (ends_before _ (claim q eq known.1 r2.1.0 (numbered_kept k.numbers.items (line_fn (alone c)) (lines c) (runs_grown r2.0) r1.1.1))))))

      module _ (t₃ : Shown) (b : ℕ) (promised : MakesClaim t₂ Property (alone c) qs k.numbers.items (Ok b) t₃) where
        pub started : (t : Shown) (r : Result Built Refusal) → MakesStart t₃ (alone c) k.numbers.items k.copies.items a b r t → Builds s c hs qs (placed Sets 0 r) t
        started t r start = after_lines t (placed Sets 0 r) (λ w h q eh eq.
            let m = model c h q in
            let r1 = runs_of (lined.wide w) in
            let known = claims_known c stated h q eh eq in
            let r2 = runs_of (assumed h eh known.0 r1.1.0 r1.1.1) in
            let there = numbered_kept k.numbers.items (line_fn (alone c)) (lines c) (runs_grown r2.0) r1.1.1 in
            let r3 = runs_of (promised q eq known.1 r2.1.0 there) in
            let g3 = runs_grown r3.0 in
            let g23 = grown_more (runs_grown r2.0) g3 in
            let ends = start Sets 0 (claim_fn m h) (claim_fn m q) (subst (λ v. width m ≤ v) (sym (grown_more (runs_grown r1.0) g23).vars) w)
            (numbered_kept k.numbers.items (line_fn m) (lines c) g3 there) (numbered_kept k.copies.items (λ i. bit (copy i)) c.registers g23 r1.1.2) (kept g3 r2.1.1) r3.1.1 in
            ends_as (append_assoc (variables_list (width (alone c))) (gates_list (alone c) (length c.gates)) _) (ends_after r1.0 (ends_after r2.0 (ends_after r3.0
            (gained Sets 0 (lies_start Sets 0 c.registers c.inputs (claim_fn m h) (claim_fn m q) (init_fn m) (next_fn m))
            (ends_with {Q = Loaded t m (claim_fn m h) (claim_fn m q)} (λ z v l. loaded_model c h q l) ends))))))
