-- What the searches of a trace come to where the sets are kept.
use Rattle.std.proofs.Common.{◌≡◌, ℕ, suc, ◌^◌, ◌<◌, ◌≤◌, Bool, true, List, set, Ok, Err, Result, refl, sym, ap, ◌∙◌, subst, arith}
use Rattle.std.proofs.lemmas.List.{length-set, drop-set-lt}
use Rattle.std.proofs.lemmas.Bool.{both_ways}
use Rattle.std.specs.Borrow.{MutBor}
use Rattle.store.specs.Fun.{some}
use Rattle.store.specs.Meaning.{Shown}
use Rattle.making.specs.Faults.{Fault}
use Rattle.making.specs.Making.{Means}
use Rattle.making.specs.Loads.{registers_of}
use Rattle.runs.specs.Models.{Model, system}
use Rattle.runs.specs.Search.{faulty, leads_into, bad, initial_in, Least}
use Rattle.runs.specs.Systems.{State, Input}
use Rattle.runs.specs.Valuations.{set_fn}
use Rattle.runs.proofs.Some.{none_found}
use Rattle.engine.specs.declared.search.Search.{Search}
use Rattle.engine.specs.Keeping.{Sets}
use Rattle.engine.specs.Questions.{Readable, GoesTo, Begins, Leads, Faults, Finds, Telling, Spares}
use Rattle.engine.proofs.Keepings.{readable}

-- what is found, and that something is
module _ (f : ℕ → Bool) (n : ℕ) (r : Result ℕ Fault) (h : Finds n f r) where
  pub found : {x : ℕ} → r ≡ Ok x → Least n f x
  found e = subst (Finds n f) e h

  pub lost : {e : Fault} → some f n ≡ true → r ≡ Err e → ⊥
  lost t e = both_ways _ (none_found f n (subst (Finds n f) e h)) t

-- the store shows the same
pub sets_still : (m : Model) (j : ℕ) (k : Search) (s t : Shown) → t ≡ s → Sets m j s k → Sets m j t k
sets_still m j k s t e = subst (λ x. Sets m j x k) (sym e)

module _ (m : Model) (j : ℕ) (s : Shown) (k : Search) (h : Sets m j s k) where
  pub next_is : (q v : ℕ) (r : Result ℕ Fault) → State (system m) q → Input (system m) v → GoesTo s k.parts q v r → r ≡ Ok ((system m).next q v)
  next_is q v r lq lv f = f m (readable m j s k h) lq lv

  module _ {A : Type 0} (shows : A → Shown) (calls : MutBor A → ℕ → Result Bool Fault → MutBor A → Type 0) (count : ℕ) (r : Result ℕ Fault)
      (finds : (f : ℕ → Bool) → Telling shows calls s count f → Finds count f r) where
    known : (t : Shown) → t ≡ s → Readable t m k.parts
    known t e = subst (λ x. Readable x m k.parts) (sym e) (readable m j s k h)

    pub start : count ≡ 2 ^ registers_of k.parts → ((a b : MutBor A) (x : ℕ) (o : Result Bool Fault) → calls a x o b → Begins (shows a.now) k.parts k.last.set x o)
        → Finds (2 ^ (system m).registers) (initial_in (system m) (bad (system m) j)) r
    start e q =
        let n = e ∙ ap (λ n. 2 ^ n) h.registers in
        subst (λ n. Finds n (initial_in (system m) (bad (system m) j)) r) n
        (finds _ (λ a b x o p l c. q a b x o c m j (known _ p) (subst (λ t. Means t k.last.set (set_fn m j)) (sym p) h.set) (subst (λ i. x < i) n l)))

    module _ (e : count ≡ 2 ^ k.parts.m) (y : ℕ) (ly : State (system m) y) where
      pub lead : (i a : ℕ) → Means s a (set_fn m i) → ((p b : MutBor A) (x : ℕ) (o : Result Bool Fault) → calls p x o b → Leads (shows p.now) k.parts a y x o)
          → Finds (2 ^ (system m).inputs) (leads_into (system m) (bad (system m) i) y) r
      lead i a d q =
          let n = e ∙ ap (λ n. 2 ^ n) h.inputs in
          subst (λ n. Finds n (leads_into (system m) (bad (system m) i) y) r) n
          (finds _ (λ p b x o z l c. q p b x o c m i (known _ z) (subst (λ t. Means t a (set_fn m i)) (sym z) d) ly (subst (λ i. x < i) n l)))

      pub fault : ((p b : MutBor A) (x : ℕ) (o : Result Bool Fault) → calls p x o b → Faults (shows p.now) k.parts y x o)
          → Finds (2 ^ (system m).inputs) (faulty (system m) y) r
      fault q =
          let n = e ∙ ap (λ n. 2 ^ n) h.inputs in
          subst (λ n. Finds n (faulty (system m) y) r) n (finds _ (λ p b x o z l c. q p b x o c m (known _ z) ly (subst (λ i. x < i) n l)))

-- what a write leaves of both arrays
module _ (d : ℕ) (x y : List ℕ) where
  pub spares_none : Spares d x y x y
  spares_none = record { states_long = refl; inputs_long = refl; states_after = refl; inputs_after = refl }

  pub spares_both : (x' y' x'' y'' : List ℕ) → Spares d x y x' y' → Spares d x' y' x'' y'' → Spares d x y x'' y''
  spares_both x' y' x'' y'' p q = record {
    states_long = q.states_long ∙ p.states_long;
    inputs_long = q.inputs_long ∙ p.inputs_long;
    states_after = q.states_after ∙ p.states_after;
    inputs_after = q.inputs_after ∙ p.inputs_after;
  }

  pub spares_state : (x' y' : List ℕ) (i v : ℕ) → i ≤ d → Spares d x y x' y' → Spares d x y (set x' i v) y'
  spares_state x' y' i v l p = record {
    states_long = length-set x' i v ∙ p.states_long;
    inputs_long = p.inputs_long;
    states_after = drop-set-lt (suc d) x' i v (omega (arith, l)) ∙ p.states_after;
    inputs_after = p.inputs_after;
  }

  pub spares_input : (x' y' : List ℕ) (i v : ℕ) → i ≤ d → Spares d x y x' y' → Spares d x y x' (set y' i v)
  spares_input x' y' i v l p = record {
    states_long = p.states_long;
    inputs_long = length-set y' i v ∙ p.inputs_long;
    states_after = p.states_after;
    inputs_after = drop-set-lt (suc d) y' i v (omega (arith, l)) ∙ p.inputs_after;
  }
