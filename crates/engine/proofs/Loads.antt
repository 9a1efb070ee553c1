-- The call that takes a circuit and its claims.
use Rattle.std.proofs.Common.{◌≡◌, ℕ, ◌+◌, ◌*◌, ◌≤◌, cond, ◌&&◌, eqb, List, length, Some, None, Ok, Err, Result, sym, ap, ◌∙◌, subst, ⊎_elim, arith}
use Rattle.std.proofs.lemmas.Bool.{cases_eq, cond-true, cond-false, eq-eqb, ne_eqb}
use Rattle.store.specs.declared.figures.Figures.{Figures}
use Rattle.store.specs.Calls.{TellsFigures}
use Rattle.store.specs.Meaning.{Shown}
use Rattle.circuit.specs.Netlists.{Netlist}
use Rattle.circuit.specs.Reading.{netlist}
use Rattle.claim.specs.Result.{used}
use Rattle.description.specs.Checks.{Checked, right}
use Rattle.description.specs.Results.{circuit_of, assumption_of, property_of, Understood}
use Rattle.description.specs.declared.described.Described.{Described}
use Rattle.description.specs.declared.fault.Fault.{Fault as Misdescription}
use Rattle.making.specs.Faults.{Fault as Unmade}
use Rattle.making.specs.declared.parts.Built.{Built}
use Rattle.making.specs.declared.parts.Parts.{Parts}
use Rattle.making.specs.Ends.{Ends, made, stuck, located}
use Rattle.making.specs.Loads.{registers_of, load_list, Loaded}
use Rattle.making.specs.Making.{Means}
use Rattle.making.specs.Promises.{Builds}
use Rattle.runs.specs.Functions.{both}
use Rattle.runs.specs.Models.{Model, Valid}
use Rattle.runs.specs.Search.{stable, unsafe, open_yet, verdict_by}
use Rattle.runs.specs.Valuations.{claim_fn, init_fn, set_fn}
use Rattle.runs.proofs.Models.{functions_exact, descriptions_valid}
use Rattle.uses.specs.declared.fault.Fault.TheVariants as fault
use Rattle.uses.specs.declared.verdict.Verdict.TheVariants as verdict
use Rattle.uses.specs.Calls.{empty, loaded, tell, told, load, stand}
use Rattle.uses.specs.Uses.{Step, load_twice, load_wrong, load_full, loads}
use Rattle.engine.specs.declared.search.Search.{Search}
use Rattle.engine.specs.Keeping.{World, searching, Next}
use Rattle.engine.specs.Loading.{BeginsFrom}
use Rattle.engine.proofs.Keepings.{Leads_on, from_none, stays_some}
use Rattle.engine.proofs.Meeting.{misses, meets}

module _ (x a p : List ℕ) (w : World) where
  pub when_twice : (k : Search) → w.search ≡ Some k → Next w (load x a p (Err fault.Loaded)) w
  when_twice k e = stays_some w _ k e (λ m j r h. load_twice)

  -- the store after the question how wide it is
  module _ (e : w.search ≡ None) (t : Shown) (same : t ≡ w.store) (f : Figures) (told_of : TellsFigures w.store f) where
    pub when_wrong : (i : Misdescription) → Checked f.variables x a p (Err i) → Next w (load x a p (Err (fault.Description i))) (record { store = t; search = w.search })
    when_wrong i c = from_none w _ (record { store = t; search = w.search }) e (
      empty,
      subst (λ s. Step (stand empty w.store) (load x a p (Err (fault.Description i))) (stand empty s)) (sym same) (load_wrong (subst (λ n. Checked n x a p (Err i)) told_of.variables c)),
      e,
    )

    module _ (d : Described) (known : Understood f.variables x a p d) (v : Shown) where
      abbrev model : Model
      model = known.model

      valid : Valid model × (2 * model.circuit.registers + model.circuit.inputs ≤ f.variables)
      valid = descriptions_valid f.variables x a p model known.describes

      checked : Checked w.store.vars x a p (Ok model)
      checked = subst (λ n. Checked n x a p (Ok model)) told_of.variables (right known.describes)

      ran : (r : Result Built Unmade) → Builds t (netlist (circuit_of d)) (used (assumption_of d)) (used (property_of d)) r v
          → Ends located w.store v (load_list model) (Loaded v model (claim_fn model model.assumption) (claim_fn model model.property)) r
      ran r b =
          let at_store = subst (λ (s : Shown). Builds s (netlist (circuit_of d)) (used (assumption_of d)) (used (property_of d)) r v) same b in
          let at_model = subst (λ (c : Netlist). Builds w.store c (used (assumption_of d)) (used (property_of d)) r v) known.circuit at_store in
          at_model.wide (omega (arith, valid.1, told_of.variables)) model.assumption model.property known.assumed known.promised

      pub when_full : (i : Unmade) → Builds t (netlist (circuit_of d)) (used (assumption_of d)) (used (property_of d)) (Err i) v → Next w (load x a p (Err (fault.Making i))) (record { store = v; search = w.search })
      when_full i b = from_none w _ (record { store = v; search = w.search }) e (by (ran (Err i) b))
        where
          by : Ends located w.store v (load_list model) (Loaded v model (claim_fn model model.assumption) (claim_fn model model.property)) (Err i)
              → Leads_on w (load x a p (Err (fault.Making i))) empty (record { store = v; search = w.search })
          by (stuck y q z) = (empty, subst (λ o. Step (stand empty w.store) (load x a p (Err (fault.Making o))) (stand empty v)) (sym z) (load_full checked q), e)

      -- the verdict after a load
      begun : (b : Built) → Loaded v model (claim_fn model model.assumption) (claim_fn model model.property) b
          → cond (eqb b.met 0) verdict.Open (verdict.Unsafe 0) ≡ told (loaded model 0)
      unfolding verdict_by stable
      begun b q = ⊎_elim
          (λ e. cond-true _ _ _ (eq-eqb b.met 0 e)
          ∙ sym (ap (λ y. tell (cond y (unsafe 0) open_yet)) (misses model valid.0 v q.lawful fit 0 b.met met e)))
          (λ n. cond-false _ _ _ (ne_eqb b.met 0 n)
          ∙ sym (ap (λ y. tell (cond y (unsafe 0) open_yet)) (meets model valid.0 v q.lawful fit 0 b.met met n)))
          (cases_eq b.met 0)
        where
          fit : 2 * model.circuit.registers ≤ v.vars
          fit = omega (arith, q.kept.wide, q.registers)

          met : Means v b.met (both (set_fn model 0) (init_fn model))
          met = record { held = q.met.held; same = λ u l. q.met.same u l ∙ ap (λ y. y && init_fn model u) ((functions_exact model valid.0).stepped.first u) }

      pub when_done : (b : Built) (k : Search) → BeginsFrom b k → Builds t (netlist (circuit_of d)) (used (assumption_of d)) (used (property_of d)) (Ok b) v
          → Next w (load x a p (Ok k.last.verdict)) (searching v k)
      when_done b k z f = from_none w _ _ e (by (ran (Ok b) f))
        where
          by : Ends located w.store v (load_list model) (Loaded v model (claim_fn model model.assumption) (claim_fn model model.property)) (Ok b)
              → Leads_on w (load x a p (Ok k.last.verdict)) empty (searching v k)
          by (made r q) = (
            loaded model 0,
            subst (λ o. Step (stand empty w.store) (load x a p (Ok o)) (stand (loaded model 0) v)) (sym (z.verdict ∙ begun b q)) (loads checked r),
            record {
              valid = valid.0;
              lawful = q.lawful;
              registers = ap registers_of z.parts ∙ q.registers;
              inputs = ap (λ (y : Parts). y.m) z.parts ∙ q.inputs;
              count = ap length z.earlier;
              verdict = z.verdict ∙ begun b q;
              parts = rw z.parts q.kept;
              property = rw z.parts q.property;
              init = rw z.parts q.init;
              earlier = λ i l. absurd (omega arith);
              set = rw z.set (record { held = q.set.held; same = λ o l. q.set.same o l ∙ (functions_exact model valid.0).stepped.first o });
            },
          )
