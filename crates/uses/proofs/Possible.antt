-- Each call has an answer by the rules.
use Rattle.std.proofs.Common.{◌≡◌, ℕ, suc, ◌^◌, Bool, List, length, Ok, Err, Result, refl, ⊎_elim, arith}
use Rattle.std.proofs.lemmas.Bool.{cases_lt}
use Rattle.store.specs.Meaning.{Shown}
use Rattle.description.specs.Checks.{Checked, right}
use Rattle.description.specs.declared.fault.Fault.{Fault as Misdescription}
use Rattle.making.specs.Loads.{load_list, advance_list}
use Rattle.runs.specs.Search.{Verdict, unsafe, safe, open_yet, Reached}
use Rattle.runs.specs.Search as search
use Rattle.runs.specs.Models.{Model, system, Describes}
use Rattle.runs.proofs.Verdicts.{verdicts}
use Rattle.runs.proofs.Traces as runs
use Rattle.uses.specs.declared.fault.Fault.{Fault}
use Rattle.uses.specs.declared.verdict.Verdict.{Verdict as Answer}
use Rattle.uses.specs.Calls.{State, empty, loaded, load, advance, trace, inside, Stand, stand, Event}
use Rattle.uses.specs.Uses.{Step, load_twice, load_wrong, load_full, loads, advance_empty, advance_settled}
use Rattle.uses.specs.Uses.{advance_full, advances, asks, trace_empty, trace_verdict, trace_short, traces}
use Rattle.uses.specs.Uses.{inside_empty, inside_verdict, inside_state, insides}
use Rattle.uses.specs.Possible.{Answered, Possible}
use Rattle.description.proofs.Checks.{some_check}
use Rattle.uses.proofs.Told.{never}
use Rattle.runs.proofs.Models.{closed}
use Rattle.uses.proofs.Uses.{Come, come}

module _ (s : Shown) where
  abbrev Loads : State → (x a p : List ℕ) → Type 0
  Loads st x a p = (r : Result Answer Fault) × (v : Stand) × Step (stand st s) (load x a p r) v

  loads_empty :
      (x a p : List ℕ)
      → ((m : Model) → Describes s.vars x a p m → Answered s (load_list m))
      → (r : Result Model Misdescription)
      → Checked s.vars x a p r
      → Loads empty x a p
  loads_empty x a p f (Err e) k = (_, _, load_wrong k)
  loads_empty x a p f (Ok m) (right d) =
      ⊎_elim (λ y. (_, _, loads (right d) y.1)) (λ y. (_, _, load_full (right d) y.2)) (f m d)

  to_load :
      (st : State) (x a p : List ℕ)
      → ((m : Model) → st ≡ empty → Describes s.vars x a p m → Answered s (load_list m))
      → Loads st x a p
  to_load empty x a p f = let k = some_check s.vars x a p in loads_empty x a p (λ m d. f m refl d) k.0 k.1
  to_load (loaded m j) x a p f = (_, _, load_twice)

  abbrev Advances : State → Type 0
  Advances st = (r : Result Answer Fault) × (v : Stand) × Step (stand st s) (advance r) v

  to_advance :
      (st : State)
      → ((m : Model) (j : ℕ)
      → st ≡ loaded m j
      → search.verdict (system m) j ≡ open_yet
      → Answered s (advance_list m j))
      → Advances st
  to_advance empty f = (_, _, advance_empty)
  to_advance (loaded m j) f = by (search.verdict (system m) j) refl
    where
      by : (a : Verdict) → search.verdict (system m) j ≡ a → Advances (loaded m j)
      by (unsafe d) e = (_, _, advance_settled (λ o. never (cc)))
      by safe e = (_, _, advance_settled (λ o. never (cc)))
      by open_yet e = ⊎_elim (λ y. (_, _, advances e y.1)) (λ y. (_, _, advance_full e y.2)) (f m j refl e)

  abbrev HandsOut : State → (x y : List ℕ) → Type 0
  HandsOut st x y =
      (x' : List ℕ) × (y' : List ℕ) × (r : Result (Unit {0}) Fault) × (v : Stand)
      × Step (stand st s) (trace x y x' y' r) v

  traces_unsafe :
      (m : Model) (j : ℕ)
      → Reached (system m) j
      → (x y : List ℕ)
      → search.verdict (system m) j ≡ unsafe j
      → HandsOut (loaded m j) x y
  traces_unsafe m j g x y e =
      let t = (runs.traces (system m) (closed m) j g e).given in
      ⊎_elim
      (λ lx. (_, _, _, _, trace_short e (λ hx hy. omega arith)))
      (λ hx.
      ⊎_elim
      (λ ly. (_, _, _, _, trace_short e (λ _ hy. omega arith)))
      (λ hy. (_, _, _, _, traces t.0 t.1 e hx hy t.2))
      (cases_lt (length y) (suc j)))
      (cases_lt (length x) (suc j))

  to_trace : (start : Shown) (h : List Event) (st : State) → Come start h st → (x y : List ℕ) → HandsOut st x y
  to_trace start h empty g x y = (_, _, _, _, trace_empty)
  to_trace start h (loaded m j) g x y = by (search.verdict (system m) j) refl
    where
      by : (a : Verdict) → search.verdict (system m) j ≡ a → HandsOut (loaded m j) x y
      by (unsafe d) e =
          let h = ((verdicts (system m) (closed m) j g.reached).unsafely d e).0 in
          traces_unsafe m j g.reached x y (cc)
      by safe e = (_, _, _, _, trace_verdict (λ o. never (cc)))
      by open_yet e = (_, _, _, _, trace_verdict (λ o. never (cc)))

  abbrev Tells : State → ℕ → Type 0
  Tells st q = (r : Result Bool Fault) × (v : Stand) × Step (stand st s) (inside q r) v

  to_inside : (st : State) (q : ℕ) → Tells st q
  to_inside empty q = (_, _, inside_empty)
  to_inside (loaded m j) q = by (search.verdict (system m) j) refl
    where
      by : (a : Verdict) → search.verdict (system m) j ≡ a → Tells (loaded m j) q
      by (unsafe d) e = (_, _, inside_verdict (λ o. never (cc)))
      by safe e =
          ⊎_elim (λ l. (_, _, insides e l)) (λ l. (_, _, inside_state e l)) (cases_lt q (2 ^ m.circuit.registers))
      by open_yet e = (_, _, inside_verdict (λ o. never (cc)))

pub possible : Possible
possible s h w u = record {
  to_load = to_load w.store w.state;
  to_advance = to_advance w.store w.state;
  to_ask = (_, _, asks);
  to_trace = to_trace w.store s h w.state (come u);
  to_inside = to_inside w.store w.state;
}
