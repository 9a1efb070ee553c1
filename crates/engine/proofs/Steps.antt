-- What the numbers of one advance say of the sets.
use Rattle.std.proofs.Common.{◌≡◌, ℕ, suc, ◌+◌, ◌*◌, ◌≤◌, Bool, true, false, cond, ◌&&◌, eqb, List, [], ◌∷◌, ◌++◌, Ok, Result, sym, refl, ap, ◌∙◌, subst, ◌⊎◌, inl, inr, ⊎_elim, add-one, arith}
use Rattle.std.proofs.lemmas.Bool.{cases_Bool, cases_eq, cond-true, cond-false, eq-eqb, ne_eqb}
use Rattle.store.specs.declared.refusal.Refusal.{Refusal}
use Rattle.store.specs.Fun.{Fn, bit, same}
use Rattle.store.specs.Calls.{Reply}
use Rattle.store.specs.Meaning.{Shown, Lawful, Grown}
use Rattle.store.proofs.Same.{decides_same}
use Rattle.description.specs.declared.part.Part.{Part}
use Rattle.description.specs.declared.part.Part.TheVariants.{Sets}
use Rattle.making.specs.Faults.{Fault}
use Rattle.making.specs.Ends.{Ends, made, plain, located}
use Rattle.making.specs.Making.{Item, at, Runs, ended, Means}
use Rattle.making.specs.Pieces.{composed_list, composed_all_list, halves_list, quantified_list}
use Rattle.making.specs.Loads.{registers_of, back_list, advance_list}
use Rattle.making.specs.Promises.{StepsBack}
use Rattle.making.proofs.Placing.{Lies, lies_at, lies_++, lies_upto}
use Rattle.making.proofs.Steps.{kept, runs_grown, runs_join, and_answers, gives_last, ends_after}
use Rattle.runs.specs.Functions.{register, copy, both, composed_all, copied, pre_image, quantified, back_of}
use Rattle.runs.specs.Models.{Model, system}
use Rattle.runs.specs.Search.{bad, stable, unsafe, verdict, safe, open_yet, verdict_by}
use Rattle.runs.specs.Valuations.{claim_fn, next_fn, init_fn, set_fn, back_fn}
use Rattle.runs.proofs.Models.{functions_exact}
use Rattle.runs.proofs.Verdicts.{verdicts}
use Rattle.uses.specs.declared.verdict.Verdict.{Verdict}
use Rattle.uses.specs.declared.verdict.Verdict.TheVariants as told
use Rattle.uses.specs.Calls.{tell}
use Rattle.engine.specs.declared.stage.Stage.{Stage}
use Rattle.engine.specs.declared.search.Search.{Search}
use Rattle.engine.specs.Advancing.{Ready, Reaches}
use Rattle.engine.proofs.Meeting.{misses, meets}

lies_back : (p : Part) (l n m : ℕ) (next : ℕ → Fn) (h f : Fn) → Lies p l (back_list p l n m next h f)
lies_back p l n m next h f =
    let x = composed_all_list p l register (λ i. bit (copy i)) f n in
    let y = composed_all_list p l copy next (copied n f) n in
    let z = quantified_list p l (2 * n) (both (pre_image n next f) h) m in
    lies_++ p l x _ (lies_upto p l _ (λ i. lies_at p l (composed_list (register i) (bit (copy i)) (composed_all register (λ i. bit (copy i)) f i))) n)
    (lies_++ p l y _ (lies_upto p l _ (λ i. lies_at p l (composed_list (copy i) (next i) (composed_all copy next (copied n f) i))) n)
    (refl, refl, lies_++ p l z _ (lies_upto p l _ (λ j. lies_at p l (halves_list (2 * n + j) (quantified (2 * n) (both (pre_image n next f) h) j))) m) (refl, refl, tt)))

module _ (m : Model) (j : ℕ) where
  abbrev pub back_at : List Item
  back_at = back_list Sets j m.circuit.registers m.circuit.inputs (next_fn m) (claim_fn m m.assumption) (set_fn m j)

  abbrev pub last_at : List Item
  last_at = at Sets j (both (back_fn m j) (init_fn m) ∷ [])

  abbrev pub equal_at : Bool
  equal_at = same m.circuit.registers (bad (system m) (suc j)) (bad (system m) j)

  pub lies : Lies Sets j back_at
  lies = lies_back Sets j m.circuit.registers m.circuit.inputs (next_fn m) (claim_fn m m.assumption) (set_fn m j)

  module _ (s : Shown) (k : Search) (d : Ready s m j k) where
    wide : 2 * m.circuit.registers + m.circuit.inputs ≤ s.vars
    wide = subst (λ n. 2 * n + m.circuit.inputs ≤ s.vars) d.registers (subst (λ i. 2 * registers_of k.parts + i ≤ s.vars) d.inputs d.parts.wide)

    registers_fit : {t : Shown} → Grown s t → 2 * m.circuit.registers ≤ t.vars
    registers_fit g = omega (arith, wide, g.vars)

    -- the calls up to the next set
    pub backed : (r : Result ℕ Refusal) (t : Shown) → StepsBack s k.last.set k.parts r t → Ends plain s t back_at (λ a. Means t a (back_fn m j)) r
    backed r t f =
        subst (λ n. Ends plain s t (back_list Sets j n m.circuit.inputs (next_fn m) (claim_fn m m.assumption) (set_fn m j)) (λ a. Means t a (back_of n m.circuit.inputs (next_fn m) (claim_fn m m.assumption) (set_fn m j))) r) d.registers
        (subst (λ i. Ends plain s t (back_list Sets j (registers_of k.parts) i (next_fn m) (claim_fn m m.assumption) (set_fn m j)) (λ a. Means t a (back_of (registers_of k.parts) i (next_fn m) (claim_fn m m.assumption) (set_fn m j))) r) d.inputs
        (f Sets j (set_fn m j) (claim_fn m m.assumption) (next_fn m) d.set d.parts))

    module _ {t : Shown} (a : ℕ) (r : Runs s back_at t) (q : Means t a (back_fn m j)) (l : Lawful t) where
      pub next_set : Means t a (set_fn m (suc j))
      next_set = record { held = q.held; same = λ w h. q.same w h ∙ (functions_exact m d.valid).stepped.back j w }

      same_number : a ≡ k.last.set → equal_at ≡ true
      same_number e =
          ((functions_exact m d.valid).stepped.alike t.vars (suc j) j (registers_fit (runs_grown r))).1
          (λ w h. sym (next_set.same w h) ∙ ap (λ x. t.value x w) e ∙ (kept (runs_grown r) d.set).same w h)

      other_number : (a ≡ k.last.set → ⊥) → equal_at ≡ false
      other_number n = ⊎_elim
          (λ e. absurd (n (l.apart a k.last.set q.held (kept (runs_grown r) d.set).held
          (λ w h. next_set.same w h
          ∙ ((functions_exact m d.valid).stepped.alike t.vars (suc j) j (registers_fit (runs_grown r))).0 e w h
          ∙ sym ((kept (runs_grown r) d.set).same w h)))))
          (λ e. e)
          (cases_Bool equal_at)

      -- the set is the same
      pub settled : a ≡ k.last.set → Ends located s t (advance_list m j) (Reaches t m j) (Ok (record { set = a; verdict = told.Safe }))
      settled e =
          made (subst (λ b. Runs s (back_at ++ cond b [] last_at) t) (sym (same_number e)) (runs_join r ended))
          (record {
            lawful = l;
            set = next_set;
            verdict = sym (ap tell ((verdicts (system m) (functions_exact m d.valid).stepped.closed j d.reached).settles d.undecided
                ((decides_same m.circuit.registers (bad (system m) (suc j)) (bad (system m) j)).0 (same_number e))));
          })

      -- the set has grown: the call with Init comes after it
      pub grown : (a ≡ k.last.set → ⊥) → {u : Shown} {x : Result Stage Fault} → Ends located t u last_at (Reaches u m j) x → Ends located s u (advance_list m j) (Reaches u m j) x
      grown n {u} {x} h = subst (λ b. Ends located s u (back_at ++ cond b [] last_at) (Reaches u m j) x) (sym (other_number n)) (ends_after r h)

      pub met : (u : Shown) (x : Result ℕ Refusal) → Reply t u (t.held a && t.held k.parts.init) true (λ w. t.value a w && t.value k.parts.init w) x
          → Ends plain t u last_at (λ n. Means u n (both (back_fn m j) (init_fn m))) x
      met u x y = gives_last y.lawful y.after x (and_answers y q (kept (runs_grown r) d.init))

      module _ (n : a ≡ k.last.set → ⊥) {u : Shown} (b : ℕ) (r' : Runs t last_at u) (q' : Means u b (both (back_fn m j) (init_fn m))) (l' : Lawful u) where
        met_set : Means u b (both (set_fn m (suc j)) (init_fn m))
        met_set = record { held = q'.held; same = λ w h. q'.same w h ∙ ap (λ x. x && init_fn m w) ((functions_exact m d.valid).stepped.back j w) }

        fit : 2 * m.circuit.registers ≤ u.vars
        fit = omega (arith, registers_fit (runs_grown r), (runs_grown r').vars)

        told_next : b ≡ 0 ⊎ (b ≡ 0 → ⊥) → cond (eqb b 0) told.Open (told.Unsafe (j + 1)) ≡ tell (verdict (system m) (suc j))
        unfolding verdict_by stable
        told_next (inl e) = cond-true _ _ _ (eq-eqb b 0 e)
            ∙ sym (ap (λ x. tell (cond x (unsafe (suc j)) (cond equal_at safe open_yet))) (misses m d.valid u l' fit (suc j) b met_set e) ∙ ap (λ x. tell (cond x safe open_yet)) (other_number n))
        told_next (inr e) = cond-false _ _ _ (ne_eqb b 0 e) ∙ ap told.Unsafe (add-one j)
            ∙ sym (ap (λ x. tell (cond x (unsafe (suc j)) (cond equal_at safe open_yet))) (meets m d.valid u l' fit (suc j) b met_set e))

        pub reached : (v : Verdict) → v ≡ cond (eqb b 0) told.Open (told.Unsafe (j + 1)) → Reaches u m j (record { set = a; verdict = v })
        reached v e = record { lawful = l'; set = kept (runs_grown r') next_set; verdict = e ∙ told_next (cases_eq b 0) }

-- the count is that of the advances
pub at_count : (m : Model) {s t : Shown} {k : Search} {r : Result Stage Fault} (i j : ℕ) → i ≡ j → Ready s m j k
    → (Ready s m i k → Ends located s t (advance_list m i) (Reaches t m i) r) → Ends located s t (advance_list m j) (Reaches t m j) r
at_count m {s} {t} {k} {r} i j p d f = subst (λ n. Ready s m n k → Ends located s t (advance_list m n) (Reaches t m n) r) p f d
