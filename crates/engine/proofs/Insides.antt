-- The question whether a state is inside.
use Rattle.std.proofs.Common.{◌≡◌, ℕ, ◌^◌, ◌<◌, ◌≤◌, Bool, not, Some, Ok, Err, Result, sym, ap, ◌∙◌, subst}
use Rattle.making.specs.Faults.{Fault as Unmade}
use Rattle.making.specs.Loads.{registers_of}
use Rattle.runs.specs.Models.{Model, system}
use Rattle.runs.specs.Search.{bad, safe}
use Rattle.runs.specs.Search as search
use Rattle.uses.specs.declared.fault.Fault.{Fault}
use Rattle.uses.specs.declared.fault.Fault.TheVariants as fault
use Rattle.uses.specs.declared.verdict.Verdict.TheVariants as verdict
use Rattle.uses.specs.Calls.{loaded, tell, inside, stand}
use Rattle.uses.specs.Uses.{Step, inside_verdict, inside_state, insides}
use Rattle.uses.proofs.Told.{never, tell_safe}
use Rattle.engine.specs.declared.search.Search.{Search}
use Rattle.engine.specs.Keeping.{World, Sets, Next}
use Rattle.engine.specs.Questions.{Tells}
use Rattle.engine.proofs.Keepings.{stays_some, readable}
use Rattle.engine.proofs.Readings.{set_is}

module _ (w : World) (k : Search) (e : w.search ≡ Some k) (q : ℕ) where
  pub when_not_safe : (k.last.verdict ≡ verdict.Safe → ⊥) → Next w (inside q (Err fault.Verdict)) w
  when_not_safe o = stays_some w _ k e (λ m j r h. inside_verdict (λ v. o (h.verdict ∙ ap tell v)))

  module _ (o : k.last.verdict ≡ verdict.Safe) where
    safe_yet : (m : Model) (j : ℕ) → Sets m j w.store k → search.verdict (system m) j ≡ safe
    safe_yet m j h = tell_safe (search.verdict (system m) j) (sym h.verdict ∙ o)

    pub when_high : 2 ^ registers_of k.parts ≤ q → Next w (inside q (Err fault.State)) w
    when_high l = stays_some w _ k e (λ m j r h. inside_state (safe_yet m j h) (subst (λ n. 2 ^ n ≤ q) h.registers l))

    module _ (l : q < 2 ^ registers_of k.parts) (r : Result Bool Unmade) (t : Tells w.store (registers_of k.parts) k.last.set q 0 r) where
      -- what the store says of the last set at q
      last_set : (m : Model) (j : ℕ) → Sets m j w.store k → r ≡ Ok (bad (system m) j q)
      last_set m j h = set_is w.store m k.parts (readable m j w.store k h) j k.last.set q r h.set (subst (λ n. q < 2 ^ n) h.registers l) t

      pub when_told : (a : Bool) → r ≡ Ok a → Next w (inside q (Ok (not a))) w
      when_told a p = stays_some w _ k e (λ m j _ h.
          let same : bad (system m) j q ≡ a = let b = sym (last_set m j h) ∙ p in cc in
          let x = stand (loaded m j) w.store in
          subst (λ b. Step x (inside q (Ok (not b))) x) same (insides (safe_yet m j h) (subst (λ n. q < 2 ^ n) h.registers l)))

      -- it does not refuse
      pub when_refused : (f : Unmade) → r ≡ Err f → (c : Result Bool Fault) → Next w (inside q c) w
      when_refused f p c = stays_some w _ k e (λ m j _ h. let b = sym (last_set m j h) ∙ p in never (cc))
