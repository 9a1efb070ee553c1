-- The call that makes the next set.
use Rattle.std.proofs.Common.{◌≡◌, ℕ, suc, ◌<◌, ◌≤◌, ◌+◌, ◌++◌, [], ◌∷◌, length, get_or, Some, Ok, Err, Result, sym, ap, ◌∙◌, subst, ⊎_elim, eq-or-lt_of_le, add-one, arith, pow_mono}
use Rattle.std.proofs.Math.Seq.{get_or-append_seam}
use Rattle.std.proofs.lemmas.List.{get_or_append_left, length-append}
use Rattle.store.specs.Meaning.{Shown, Grown, Lawful}
use Rattle.making.specs.Faults.{Fault as Unmade}
use Rattle.making.specs.Ends.{Ends, made, stuck, located}
use Rattle.making.specs.Loads.{registers_of, advance_list}
use Rattle.making.specs.Making.{Means}
use Rattle.making.proofs.Backs.{kept_all}
use Rattle.making.proofs.Bounds.{stops_lawful}
use Rattle.making.proofs.Steps.{kept, runs_grown, stops_grown}
use Rattle.runs.specs.Models.{Model, system}
use Rattle.runs.specs.Search.{open_yet, Reached}
use Rattle.runs.specs.Search as search
use Rattle.runs.specs.Valuations.{set_fn}
use Rattle.runs.proofs.Models.{functions_exact}
use Rattle.runs.proofs.Verdicts.{verdicts}
use Rattle.uses.specs.declared.fault.Fault.TheVariants as fault
use Rattle.uses.specs.declared.verdict.Verdict.TheVariants as verdict
use Rattle.uses.specs.Calls.{loaded, tell, advance, stand}
use Rattle.uses.specs.Uses.{Step, advance_settled, advance_full, advances}
use Rattle.uses.proofs.Told.{tell_open}
use Rattle.engine.specs.declared.stage.Stage.{Stage}
use Rattle.engine.specs.declared.search.Search.{Search}
use Rattle.engine.specs.Advancing.{Reaches, Advances}
use Rattle.engine.specs.Keeping.{World, searching, Sets, Next}
use Rattle.engine.proofs.Keepings.{Leads_on, from_some, stays_some}

sets_kept : (m : Model) (j : ℕ) (s t : Shown) (k : Search) → Grown s t → Lawful t → Sets m j s k → Sets m j t k
sets_kept m j s t k g l h = record {
  valid = h.valid;
  lawful = l;
  registers = h.registers;
  inputs = h.inputs;
  count = h.count;
  verdict = h.verdict;
  parts = kept_all g h.parts;
  property = kept g h.property;
  init = kept g h.init;
  earlier = λ i b. kept g (h.earlier i b);
  set = kept g h.set;
}

module _ (w : World) (k : Search) (e : w.search ≡ Some k) where
  -- the verdict is not open, or the advances are as many as can be
  pub when_settled : (k.last.verdict ≡ verdict.Open → ⊥) → Next w (advance (Err fault.Settled)) w
  when_settled o = stays_some w _ k e (λ m j r h. advance_settled (λ v. o (h.verdict ∙ ap tell v)))

  pub when_many : 256 ≤ length k.earlier.items → Next w (advance (Err fault.Settled)) w
  when_many l = stays_some w _ k e (λ m j r h. advance_settled (λ v.
      let f = ((verdicts (system m) (functions_exact m h.valid).stepped.closed j r).openly v).few in
      let p = pow_mono {i = m.circuit.registers} {j = 8} h.valid.circuit.few_registers in
      omega (arith, f, p, l, h.count)))

  module _ (o : k.last.verdict ≡ verdict.Open) (t : Shown) where
    open_here : (m : Model) (j : ℕ) → Sets m j w.store k → search.verdict (system m) j ≡ open_yet
    open_here m j h = tell_open (search.verdict (system m) j) (sym h.verdict ∙ o)

    -- what the code did
    ran : (m : Model) (j : ℕ) → Reached (system m) j → Sets m j w.store k → (r : Result Stage Unmade) → Advances w.store k r t → Ends located w.store t (advance_list m j) (Reaches t m j) r
    ran m j r h x f = f m j (record {
      valid = h.valid;
      registers = h.registers;
      inputs = h.inputs;
      parts = h.parts;
      init = h.init;
      count = h.count;
      set = h.set;
      reached = r;
      undecided = open_here m j h;
    })

    pub when_full : (x : Unmade) → Advances w.store k (Err x) t → Next w (advance (Err (fault.Making x))) (searching t k)
    when_full x f = from_some w _ k e _ (λ m j r h. by m j h (ran m j r h (Err x) f))
      where
        by : (m : Model) (j : ℕ) → Sets m j w.store k → Ends located w.store t (advance_list m j) (Reaches t m j) (Err x)
            → Leads_on w (advance (Err (fault.Making x))) (loaded m j) (searching t k)
        by m j h (stuck y q z) = (
          loaded m j,
          subst (λ i. Step (stand (loaded m j) w.store) (advance (Err (fault.Making i))) (stand (loaded m j) t)) (sym z) (advance_full (open_here m j h) q),
          sets_kept m j w.store t k (stops_grown q) (stops_lawful q) h,
        )

    pub when_done : (x : Stage) (k' : Search) → k'.parts ≡ k.parts → k'.earlier.items ≡ k.earlier.items ++ k.last.set ∷ [] → k'.last ≡ x → Advances w.store k (Ok x) t → Next w (advance (Ok x.verdict)) (searching t k')
    when_done x k' ep ee el f = from_some w _ k e _ (λ m j r h. by m j h (ran m j r h (Ok x) f))
      where
        by : (m : Model) (j : ℕ) → Sets m j w.store k → Ends located w.store t (advance_list m j) (Reaches t m j) (Ok x)
            → Leads_on w (advance (Ok x.verdict)) (loaded m j) (searching t k')
        by m j h (made r q) = (
          loaded m (suc j),
          subst (λ a. Step (stand (loaded m j) w.store) (advance (Ok a)) (stand (loaded m (suc j)) t)) (sym q.verdict) (advances (open_here m j h) r),
          record {
            valid = h.valid;
            lawful = q.lawful;
            registers = ap registers_of ep ∙ h.registers;
            inputs = ap (λ p. p.m) ep ∙ h.inputs;
            count = ap length ee ∙ length-append k.earlier.items (k.last.set ∷ []) ∙ ap (λ n. n + 1) h.count ∙ add-one j;
            verdict = ap (λ l. l.verdict) el ∙ q.verdict;
            parts = rw ep (kept_all g h.parts);
            property = rw ep (kept g h.property);
            init = rw ep (kept g h.init);
            earlier = λ i b. subst (λ n. Means t n (set_fn m i)) (sym (ap (λ l. get_or l i 0) ee)) (⊎_elim (at_end i) (before i) (eq-or-lt_of_le (down i b)));
            set = rw el q.set;
          },
        )
          where
            g : Grown w.store t
            g = runs_grown r

            down : (i : ℕ) → i < suc j → i ≤ j
            down i b = omega arith

            at_end : (i : ℕ) → i ≡ j → Means t (get_or (k.earlier.items ++ k.last.set ∷ []) i 0) (set_fn m i)
            at_end i p =
                subst (λ n. Means t (get_or (k.earlier.items ++ k.last.set ∷ []) n 0) (set_fn m n)) (sym p)
                (subst (λ n. Means t n (set_fn m j)) (sym (ap (λ n. get_or (k.earlier.items ++ k.last.set ∷ []) n 0) (sym h.count) ∙ get_or-append_seam k.earlier.items k.last.set [] 0)) (kept g h.set))

            before : (i : ℕ) → i < j → Means t (get_or (k.earlier.items ++ k.last.set ∷ []) i 0) (set_fn m i)
            before i b = subst (λ n. Means t n (set_fn m i)) (sym (get_or_append_left k.earlier.items (k.last.set ∷ []) 0 i (subst (λ n. i < n) (sym h.count) b))) (kept g (h.earlier i b))
