-- The variables of a model, one after the other.
use Rattle.std.proofs.Common.{◌≡◌, ℕ, zero, suc, ◌+◌, ◌-◌, ◌*◌, ◌<◌, ◌≤◌, Bool, true, false, ltb, List, [], ◌∷◌, ◌++◌, length, IsErrAnd, Ok, Err, Result, sym, refl, ap, ◌∙◌, subst, add-one, ⊎_elim, eq-or-lt_of_le, arith}
use Rattle.std.proofs.lemmas.Bool.{ltb-true, le-ltb}
use Rattle.arrayvec.specs.ArrayVec.{ArrayVec}
use Rattle.store.specs.declared.refusal.Refusal.{Refusal}
use Rattle.store.specs.declared.refusal.Refusal.TheVariants.{Variable}
use Rattle.store.specs.Fun.{bit}
use Rattle.store.specs.Meaning.{Shown, Lawful, Made}
use Rattle.store.specs.Calls.{MakesVariable}
use Rattle.circuit.specs.Netlists.{input_line}
use Rattle.description.specs.declared.part.Part.TheVariants.{Circuit}
use Rattle.runs.specs.Functions.{copy, input}
use Rattle.runs.specs.Valuations.{line_fn}
use Rattle.runs.specs.Models.{Model, Valid}
use Rattle.runs.proofs.Models.{functions_exact}
use Rattle.making.specs.Models.{width}
use Rattle.making.specs.Making.{Item, at, Runs, ended, went, Means, Numbered}
use Rattle.making.specs.Pieces.{variables_list}
use Rattle.making.specs.Ends.{Ends, plain, Lacks, lacked}
use Rattle.making.specs.Promises.{MakesVariables}
use Rattle.making.proofs.Steps.{fresh, grown_more, runs_join, runs_grown, runs_lawful, variable_answers, gives_last, ends_after, exits, lacks_room}
use Rattle.making.proofs.Loops.{ends_upto, numbered_more, numbered_kept}

-- a list that is not empty was begun in a lawful store
lawful_before : {s t : Shown} (l : List Item) (x : Item) → Runs s (l ++ x ∷ []) t → Lawful s
lawful_before [] x (went a l m w r) = l
lawful_before (y ∷ l) x (went a h m w r) = h

pub variables_lawful : {s t : Shown} (n : ℕ) → 0 < n → Runs s (variables_list n) t → Lawful s
variables_lawful zero h r = absurd (omega arith)
variables_lawful (suc n) h r = lawful_before (variables_list n) (record { part = Circuit; place = 0; fn = bit n }) r

module _ (m : Model) (s : Shown) where
  -- the variables of the first i registers are made
  abbrev pub Registers : Shown → List ℕ → List ℕ → ℕ → Type 0
  Registers t ns cs i = Runs s (variables_list (2 * i)) t × Numbered t ns (line_fn m) (1 + i) × Numbered t cs (λ i. bit (copy i)) i

  -- the first x variables are made, with all registers
  abbrev pub Inputs : Shown → List ℕ → List ℕ → ℕ → Type 0
  Inputs t ns cs x = Runs s (variables_list x) t × Numbered t ns (line_fn m) (1 + (x - m.circuit.registers)) × Numbered t cs (λ i. bit (copy i)) m.circuit.registers

  -- the first x variables are made, and the store has so many
  abbrev pub Begun : Shown → ℕ → Type 0
  Begun t x = Runs s (variables_list x) t × (x ≤ s.vars)

  -- an accepted call is of a variable that the store has
  pub begun_more : (t u : Shown) (x a : ℕ) → Begun t x → MakesVariable t x (Ok a) u → Begun u (x + 1)
  begun_more t u x a so y = by (ltb x t.vars) refl
    where
      by : (b : Bool) → ltb x t.vars ≡ b → Begun u (x + 1)
      by true e =
          let l : x < s.vars = subst (λ n. x < n) (runs_grown so.0).vars (ltb-true x t.vars e) in (
            subst (λ n. Runs s (variables_list n) u) (sym (add-one x)) (runs_join so.0 (went a y.lawful (variable_answers y (ltb-true x t.vars e)) y.after ended)),
            omega (arith, l),
          )
      by false e = let k = (y.variable refl e).1 in let n : ◌≡◌ {A = ℕ} 0 1 = cc in absurd (omega arith)

  -- the refusal of variable x, which is one of the model's
  module _ (t u : Shown) (x : ℕ) (e : Refusal) (low : x < width m) (so : Begun t x) (y : MakesVariable t x (Err e) u) where
    -- where the store has it, room was wanting
    room_wanting : {X : Type 0} {P : X → Type 0} (n : ℕ) → x < n → x < s.vars → Ends plain s u (variables_list n) P (Err e)
    room_wanting n l h =
        ends_upto (λ k. at Circuit 0 (bit k ∷ [])) (suc x) n l
        (ends_after so.0 (gives_last y.lawful y.after (Err e) (variable_answers y (subst (λ v. x < v) (sym (runs_grown so.0).vars) h))))

    pub refused_variable : (before after : List ℕ) (r : Result (ArrayVec ℕ) Refusal) → IsErrAnd r (λ z. z ≡ e) → MakesVariables s m before r after u
    refused_variable before after r is = exits (λ z. MakesVariables s m before z after u) r e is (record {
      lawful = runs_lawful so.0 y.lawful;
      wide = λ w h. room_wanting (width m) low (omega (arith, low, w));
      narrow = λ l. ⊎_elim lacks (λ h. lacks_room (room_wanting {P = λ (a : ℕ). Unit {0}} s.vars h h)) (eq-or-lt_of_le so.1);
    })
      where
        lacks : x ≡ s.vars → Lacks {X = ArrayVec ℕ} plain Variable s u (Err e)
        lacks is =
            let k = y.variable refl (le-ltb x t.vars (omega (arith, is, (runs_grown so.0).vars))) in
            let z : e ≡ Variable = cc in
            lacked (subst (Runs s (variables_list s.vars)) (sym k.0) (subst (λ n. Runs s (variables_list n) t) is so.0)) z

  module _ (ok : Valid m) (wide : width m ≤ s.vars) where
    -- variable x is made after those before it
    made_next : (t u : Shown) (x a : ℕ) → x < width m → Runs s (variables_list x) t → MakesVariable t x (Ok a) u → Runs s (variables_list (suc x)) u × Made t u (bit x) a
    made_next t u x a l so y =
        let k : Made t u (bit x) a = variable_answers y (subst (λ n. x < n) (sym (runs_grown so).vars) (omega (arith, l, wide))) in
        (runs_join so (went a y.lawful k y.after ended), k)

    module _ (t t₁ : Shown) (ns cs : List ℕ) (i a : ℕ) (lt : i < m.circuit.registers) (so : Registers t ns cs i) (y : MakesVariable t (2 * i) (Ok a) t₁) where
      runs_register : Runs s (variables_list (2 * i + 1)) t₁
      runs_register = subst (λ k. Runs s (variables_list k) t₁) (sym (add-one (2 * i))) (made_next t t₁ (2 * i) a (omega arith) so.0 y).0

      pub registers_more : (u : Shown) (b : ℕ) → MakesVariable t₁ (2 * i + 1) (Ok b) u → length ns ≡ 1 + i → length cs ≡ i
          → (ns' cs' : List ℕ) → ns' ≡ ns ++ a ∷ [] → cs' ≡ cs ++ b ∷ [] → Registers u ns' cs' (i + 1)
      registers_more u b z whole whole' ns' cs' is is' =
          let j = (made_next t t₁ (2 * i) a (omega arith) so.0 y).1 in
          let k = made_next t₁ u (2 * i + 1) b (omega arith) runs_register z in
          let e : suc (2 * i + 1) ≡ 2 * (i + 1) = omega arith in
          let d : suc (1 + i) ≡ 1 + (i + 1) = omega arith in
          let f = fresh j in
          let new : Means t₁ a (line_fn m (1 + i)) = record { held = f.held; same = λ w l. f.same w l ∙ sym ((functions_exact m ok).lined.register i lt w) } in (
            subst (λ n. Runs s (variables_list n) u) e k.0,
            subst (λ xs. Numbered u xs (line_fn m) (1 + (i + 1))) (sym is)
                (subst (λ n. Numbered u (ns ++ a ∷ []) (line_fn m) n) d
                (numbered_kept (ns ++ a ∷ []) (line_fn m) (suc (1 + i)) k.1.grown (numbered_more ns (line_fn m) (1 + i) a so.1 j.grown new whole))),
            subst (λ xs. Numbered u xs (λ i. bit (copy i)) (i + 1)) (sym is')
                (subst (λ n. Numbered u (cs ++ b ∷ []) (λ i. bit (copy i)) n) (sym (add-one i))
                (numbered_more cs (λ i. bit (copy i)) i b so.2 (grown_more j.grown k.1.grown) (fresh k.1) whole')),
          )

    pub inputs_more : (t u : Shown) (ns cs : List ℕ) (x a : ℕ) → 2 * m.circuit.registers ≤ x → x < width m → Inputs t ns cs x → MakesVariable t x (Ok a) u
        → length ns ≡ 1 + (x - m.circuit.registers) → (ns' : List ℕ) → ns' ≡ ns ++ a ∷ [] → Inputs u ns' cs (x + 1)
    inputs_more t u ns cs x a low high so y whole ns' is =
        let k = made_next t u x a high so.0 y in
        let r = m.circuit.registers in
        let f = fresh k.1 in
        let d : suc (1 + (x - r)) ≡ 1 + (x + 1 - r) = omega arith in
        let c : input r (x - 2 * r) ≡ x = omega arith in
        let l : input_line m.circuit (x - 2 * r) ≡ 1 + (x - r) = omega arith in
        let new : Means u a (line_fn m (1 + (x - r))) =
        subst (λ n. Means u a (line_fn m n)) l
        (record { held = f.held; same = λ w h. f.same w h ∙ ap (λ n. bit n w) (sym c) ∙ sym ((functions_exact m ok).lined.input (x - 2 * r) (omega arith) w) }) in (
          subst (λ n. Runs s (variables_list n) u) (sym (add-one x)) k.0,
          subst (λ xs. Numbered u xs (line_fn m) (1 + (x + 1 - r))) (sym is)
              (subst (λ n. Numbered u (ns ++ a ∷ []) (line_fn m) n) d (numbered_more ns (line_fn m) (1 + (x - r)) a so.1 k.1.grown new whole)),
          numbered_kept cs (λ i. bit (copy i)) r k.1.grown so.2,
        )
