-- From what one call did to any use that it is a call of.
use Rattle.std.proofs.Common.{◌≡◌, ℕ, true, false, Option, Some, None, MatchOption, IsErrAnd, Ok, Err, Result, ◌∷◌, refl, ap, ◌∙◌, sym, subst}
use Rattle.std.specs.Option.{is_some, option_map, ok_or}
use Rattle.std.proofs.lemmas.Result.{err_from_is_err_and}
use Rattle.store.specs.Meaning.{Shown}
use Rattle.runs.specs.Models.{Model, system}
use Rattle.runs.specs.Search.{Reached}
use Rattle.uses.specs.declared.fault.Fault.{Fault}
use Rattle.uses.specs.declared.verdict.Verdict.{Verdict}
use Rattle.uses.specs.declared.verdict.Verdict.TheVariants as verdict
use Rattle.uses.specs.Calls.{State, empty, loaded, told, Call, ask, stand, event}
use Rattle.uses.specs.Uses.{Step, Use, went_on, asks}
use Rattle.uses.proofs.Told.{never}
use Rattle.uses.proofs.Uses.{come}
use Rattle.engine.specs.declared.search.Search.{Search}
use Rattle.engine.specs.Keeping.{World, Sets, Keeps, Next}
use Rattle.engine.specs.Questions.{Readable}

pub readable : (m : Model) (j : ℕ) (s : Shown) (k : Search) → Sets m j s k → Readable s m k.parts
readable m j s k h = record { valid = h.valid; registers = h.registers; inputs = h.inputs; parts = h.parts; property = h.property; init = h.init }

module _ (w : World) (c : Call) where
  -- the call leads on from w to v
  abbrev pub Leads_on : State → World → Type 0
  Leads_on st v = (st' : State) × Step (stand st w.store) c (stand st' v.store) × Keeps st' v

  pub from_none : (v : World) → w.search ≡ None → Leads_on empty v → Next w c v
  from_none v e p s h empty u k = (p.0, went_on u p.1, p.2)
  from_none v e p s h (loaded m j) u k = absurd (subst (λ o. MatchOption o ⊥ (Sets m j w.store)) e k)

  pub stays_none : w.search ≡ None → Step (stand empty w.store) c (stand empty w.store) → Next w c w
  stays_none e p = from_none w e (empty, p, e)

  module _ (k : Search) (e : w.search ≡ Some k) where
    pub from_some : (v : World) → ((m : Model) (j : ℕ) → Reached (system m) j → Sets m j w.store k → Leads_on (loaded m j) v) → Next w c v
    from_some v p s h empty u x = never (cc)
    from_some v p s h (loaded m j) u x = let q = p m j (come u).reached (subst (λ o. MatchOption o ⊥ (Sets m j w.store)) e x) in (q.0, went_on u q.1, q.2)

    pub stays_some : ((m : Model) (j : ℕ) → Reached (system m) j → Sets m j w.store k → Step (stand (loaded m j) w.store) c (stand (loaded m j) w.store)) → Next w c w
    stays_some p = from_some w (λ m j r x. (loaded m j, p m j r x, subst (λ o. MatchOption o ⊥ (Sets m j w.store)) (sym e) x))

-- what a refused `?` hands on
pub handed_on : {X : Type 0} (r : Result X Fault) (e : Fault) → IsErrAnd r (λ y. y ≡ e) → r ≡ Err e
handed_on r e b = let p = err_from_is_err_and r b in p.1 ∙ ap Err p.2

-- the search that is lent out of a session, or that it has none
module _ {R : Type 0} (now : R → Search) (there : Option Search) (o : Option R) (e : option_map now o ≡ there) where
  pub lent : (r : Result R Fault) (f : Fault) → r ≡ ok_or o f → (k : R) → r ≡ Ok k → there ≡ Some (now k)
  lent r f p k q = sym e ∙ go o (sym p ∙ q)
    where
      go : (o : Option R) → ◌≡◌ {A = Result R Fault} (ok_or o f) (Ok k) → option_map now o ≡ Some (now k)
      go None p = never (cc)
      go (Some x) p = let h : x ≡ k = cc in ap (λ y. Some (now y)) h

  pub not_lent : (r : Result R Fault) (f : Fault) → r ≡ ok_or o f → (x : Fault) → r ≡ Err x → (there ≡ None) × (x ≡ f)
  not_lent r f p x q = let b = go o (sym p ∙ q) in (sym e ∙ b.0, b.1)
    where
      go : (o : Option R) → ◌≡◌ {A = Result R Fault} (ok_or o f) (Err x) → (option_map now o ≡ None) × (x ≡ f)
      go None p = (refl, cc)
      go (Some y) p = never (cc)

pub is_there : {X : Type 0} (o : Option X) → is_some o ≡ true → (x : X) × (o ≡ Some x)
is_there None e = never (cc)
is_there (Some x) e = (x, refl)

-- what the verdict call answers
pub told_by : {R : Type 0} (now : R → Search) (P : R → Type 0) (st : State) (w : World) (o : Option R) (v : Verdict) → option_map now o ≡ w.search
    → MatchOption o (v ≡ verdict.Empty) P → ((k : R) → P k → v ≡ (now k).last.verdict) → Keeps st w → v ≡ told st
told_by now P empty w None v e m f h = m
told_by now P empty w (Some k) v e m f h = let p = e ∙ h in never (cc)
told_by now P (loaded m j) w None v e q f h = absurd (subst (λ o. MatchOption o ⊥ (Sets m j w.store)) (sym e) h)
told_by now P (loaded m j) w (Some k) v e q f h = f k q ∙ (subst (λ o. MatchOption o ⊥ (Sets m j w.store)) (sym e) h).verdict

pub asked : (w : World) (r : Verdict) → ((st : State) → Keeps st w → r ≡ told st) → Next w (ask r) w
asked w r f s h st u k = let x = stand st w.store in (st, subst (λ a. Use s (event x (ask a) x ∷ h) x) (sym (f st k)) (went_on u asks), k)
