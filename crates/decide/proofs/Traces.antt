-- Traces of the rules, as they are handed out.
use Rattle.std.proofs.Common.{◌≡◌, ℕ, suc, ◌-◌, ◌^◌, ◌<◌, List, map, get_or, take, sym, ap, ◌∙◌, subst, ap₂, arith}
use Rattle.std.proofs.lemmas.List.{get_or-take}
use Rattle.std.proofs.Math.ListN.{get_or-map}
use Rattle.runs.specs.Systems.{System}
use Rattle.runs.specs.Search.{faulty, leads_into, bad, initial_in, Least, Trace}
use Rattle.uses.specs.Calls.{written}
use Rattle.uses.proofs.Written.{written_at}
use Rattle.engine.specs.declared.step.Step.{Step}
use Rattle.decide.specs.Traces.{none}

-- a step has what was written at its place
pub step_is : (f : Step → ℕ) (n : ℕ) (q : ℕ → ℕ) (xs ys : List ℕ) (steps : List Step) → 0 ≡ f none → ys ≡ written n q xs → map f steps ≡ take n ys
    → (t : ℕ) → t < n → f (get_or steps t none) ≡ q t
step_is f n q xs ys steps z w h t l =
    sym (get_or-map f steps t none) ∙ sym (ap (get_or (map f steps) t) z) ∙ ap (λ l. get_or l t 0) h ∙ get_or-take n ys t 0 l
    ∙ ap (λ l. get_or l t 0) w ∙ written_at n q xs t l

-- states and inputs that agree with a trace up to its end are a trace
pub trace_like : (s : System) (d : ℕ) (q v q' v' : ℕ → ℕ) → ((t : ℕ) → t < suc d → q' t ≡ q t) → ((t : ℕ) → t < suc d → v' t ≡ v t) → Trace s d q v → Trace s d q' v'
trace_like s d q v q' v' eq ev r = record {
  steps = record {
    start = subst (Least (2 ^ s.registers) (initial_in s (bad s d))) (sym (eq 0 (omega arith))) r.steps.start;
    inputs = λ t l.
        subst (λ x. Least (2 ^ s.inputs) (leads_into s (bad s (d - t - 1)) x) (v' t)) (sym (eq t (omega arith)))
        (subst (Least (2 ^ s.inputs) (leads_into s (bad s (d - t - 1)) (q t))) (sym (ev t (omega arith))) (r.steps.inputs t l));
    moves = λ t l. eq (suc t) (omega arith) ∙ r.steps.moves t l ∙ sym (ap₂ s.next (eq t (omega arith)) (ev t (omega arith)));
  };
  last =
      subst (λ x. Least (2 ^ s.inputs) (faulty s x) (v' d)) (sym (eq d (omega arith)))
      (subst (Least (2 ^ s.inputs) (faulty s (q d))) (sym (ev d (omega arith))) r.last);
}
