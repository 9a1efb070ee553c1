-- A call with its arguments has one answer, if the store then shows the same or none was refused for room.
use Rattle.std.proofs.Common.{◌≡◌, ℕ, suc, Bool, true, false, ◌⊎◌, List, Ok, Err, Result, sym, refl, ap, ap₂}
use Rattle.std.proofs.Common.{subst, inl, inr, ⊎_elim, arith}
use Rattle.std.proofs.lemmas.Bool.{both_ways}
use Rattle.store.specs.Meaning.{Shown}
use Rattle.description.specs.Checks.{Checked}
use Rattle.description.specs.declared.fault.Fault.{Fault as Misdescription}
use Rattle.description.proofs.Checks.{one_check}
use Rattle.making.specs.Making.{Item, Runs, Stops}
use Rattle.making.specs.Loads.{load_list}
use Rattle.making.proofs.Bounds.{one_way, one_stop}
use Rattle.runs.specs.Models.{Model, system}
use Rattle.runs.proofs.Traces as runs
use Rattle.uses.specs.declared.fault.Fault.{Fault}
use Rattle.uses.specs.declared.fault.Fault.TheVariants.{Description}
use Rattle.uses.specs.declared.verdict.Verdict.{Verdict}
use Rattle.uses.specs.Calls.{loaded, told, Call, load, advance, ask, trace, inside, is_full, Stand, Event}
use Rattle.uses.specs.Uses.{Step, load_twice, load_wrong, load_full, loads, advance_empty, advance_settled}
use Rattle.uses.specs.Uses.{advance_full, advances, asks, trace_empty, trace_verdict, trace_short, traces}
use Rattle.uses.specs.Uses.{inside_empty, inside_verdict, inside_state, insides}
use Rattle.uses.specs.Uses.{room}
use Rattle.uses.specs.Determined.{Alike, both_load, both_advance, both_ask, both_trace, both_inside, One, Determined}
use Rattle.uses.proofs.Told.{never}
use Rattle.uses.proofs.Written.{written_like}
use Rattle.runs.proofs.Models.{closed}
use Rattle.uses.proofs.Uses.{Come, come}

-- by what the store shows at the end, a list was made, or which call of it was refused
module _ {s t u : Shown} {l : List Item} (e : t ≡ u) where
  not_stopped : {y : Item} → Runs s l t → Stops s l y u → ⊥
  not_stopped {y = y} r q = one_way r (subst (Stops s l y) (sym e) q)

  one_room : {x y : Item} → Stops s l x t → Stops s l y u → room x t ≡ room y u
  one_room {y = y} q q' = ap₂ room (one_stop q (subst (Stops s l y) (sym e) q')) e

-- the store shows the same after both, or neither was refused for room
abbrev Tied : Call → Call → Stand → Stand → Type 0
Tied c c' v v' = (v.store ≡ v'.store) ⊎ ((is_full c ≡ false) × (is_full c' ≡ false))

-- one of the two was
pub left_full : {E : Type 0} {full : Bool} → E ⊎ ((true ≡ false) × (full ≡ false)) → E
left_full t = ⊎_elim (λ e. e) (λ n. absurd (both_ways true n.0 refl)) t

pub right_full : {E : Type 0} {full : Bool} → E ⊎ ((full ≡ false) × (true ≡ false)) → E
right_full t = ⊎_elim (λ e. e) (λ n. absurd (both_ways true n.1 refl)) t

module _ {width : ℕ} {x a p : List ℕ} where
  same_model : {m m' : Model} → Checked width x a p (Ok m) → Checked width x a p (Ok m') → m ≡ m'
  same_model k k' = let h = one_check k k' in cc

  same_fault : {e e' : Misdescription} → Checked width x a p (Err e) → Checked width x a p (Err e') → e ≡ e'
  same_fault k k' = let h = one_check k k' in cc

  not_both :
      {X : Type 0} {m : Model} {e : Misdescription}
      → Checked width x a p (Ok m)
      → Checked width x a p (Err e)
      → X
  not_both k k' = let h = one_check k k' in never (cc)

load_one :
    {w v v' : Stand} {x a p : List ℕ} {r r' : Result Verdict Fault}
    → Step w (load x a p r) v
    → Step w (load x a p r') v'
    → Tied (load x a p r) (load x a p r') v v'
    → One (load x a p r) (load x a p r') v v'
load_one load_twice load_twice s = (refl, refl)
load_one (load_wrong {file = x} {a = a} {p = p} k) (load_wrong k') s =
    (ap (λ f. load x a p (Err (Description f))) (same_fault k k'), refl)
load_one (load_wrong k) (load_full k' q) s = not_both k' k
load_one (load_wrong k) (loads k' t) s = not_both k' k
load_one (load_full k q) (load_wrong k') s = not_both k k'
load_one (load_full {s = w} {t = t} {file = x} {a = a} {p = p} {y = y} k q) (load_full k' q') s =
    let q'' = subst (λ m. Stops w (load_list m) y t) (same_model k k') q in
    (ap (λ f. load x a p (Err f)) (one_room (left_full s) q'' q'), refl)
load_one (load_full {s = w} {t = t} {y = y} k q) (loads k' r) s =
    absurd (not_stopped (sym (left_full s)) r (subst (λ m. Stops w (load_list m) y t) (same_model k k') q))
load_one (loads k t) (load_wrong k') s = not_both k k'
load_one (loads k r) (load_full {s = w} {t = t} {y = y} k' q) s =
    absurd (not_stopped (right_full s) r (subst (λ m. Stops w (load_list m) y t) (same_model k' k) q))
load_one (loads {file = x} {a = a} {p = p} k t) (loads k' t') s =
    let e = same_model k k' in
    (ap (λ n. load x a p (Ok (told (loaded n 0)))) e, ap (λ n. loaded n 0) e)

advance_one :
    {w v v' : Stand} {r r' : Result Verdict Fault}
    → Step w (advance r) v
    → Step w (advance r') v'
    → Tied (advance r) (advance r') v v'
    → One (advance r) (advance r') v v'
advance_one advance_empty advance_empty s = (refl, refl)
advance_one (advance_settled n) (advance_settled n') s = (refl, refl)
advance_one (advance_settled n) (advance_full o q) s = absurd (n o)
advance_one (advance_settled n) (advances o t) s = absurd (n o)
advance_one (advance_full o q) (advance_settled n) s = absurd (n o)
advance_one (advance_full o q) (advance_full o' q') s = (ap (λ f. advance (Err f)) (one_room (left_full s) q q'), refl)
advance_one (advance_full o q) (advances o' r) s = absurd (not_stopped (sym (left_full s)) r q)
advance_one (advances o t) (advance_settled n) s = absurd (n o)
advance_one (advances o r) (advance_full o' q) s = absurd (not_stopped (right_full s) r q)
advance_one (advances o t) (advances o' t') s = (refl, refl)

ask_one : {w v v' : Stand} {r r' : Verdict} → Step w (ask r) v → Step w (ask r') v' → One (ask r) (ask r') v v'
ask_one asks asks = (refl, refl)

trace_one :
    (start : Shown) (h : List Event) {w v v' : Stand} {x y x₁ y₁ x₂ y₂ : List ℕ} {r r' : Result (Unit {0}) Fault}
    → Come start h w.state
    → Step w (trace x y x₁ y₁ r) v
    → Step w (trace x y x₂ y₂ r') v'
    → One (trace x y x₁ y₁ r) (trace x y x₂ y₂ r') v v'
trace_one start h g trace_empty trace_empty = (refl, refl)
trace_one start h g (trace_verdict n) (trace_verdict n') = (refl, refl)
trace_one start h g (trace_verdict n) (trace_short o s) = absurd (n o)
trace_one start h g (trace_verdict n) (traces q v o lx ly d) = absurd (n o)
trace_one start h g (trace_short o s) (trace_verdict n) = absurd (n o)
trace_one start h g (trace_short o s) (trace_short o' s') = (refl, refl)
trace_one start h g (trace_short o s) (traces q v o' lx ly d) = absurd (s lx ly)
trace_one start h g (traces q v o lx ly d) (trace_verdict n) = absurd (n o)
trace_one start h g (traces q v o lx ly d) (trace_short o' s) = absurd (s lx ly)
trace_one start h g (traces {m = m} {j = j} {x = x} {y = y} q v o lx ly d) (traces q' v' o' lx' ly' d') =
    let e = (runs.traces (system m) (closed m) j g.reached o).one q v q' v' d d' in (
      ap₂ (λ a b. trace x y a b (Ok tt))
          (written_like (suc j) q q' x (λ t l. (e t (omega arith)).0))
          (written_like (suc j) v v' y (λ t l. (e t (omega arith)).1)),
      refl,
    )

inside_one :
    {w v v' : Stand} {q : ℕ} {r r' : Result Bool Fault}
    → Step w (inside q r) v
    → Step w (inside q r') v'
    → One (inside q r) (inside q r') v v'
inside_one inside_empty inside_empty = (refl, refl)
inside_one (inside_verdict n) (inside_verdict n') = (refl, refl)
inside_one (inside_verdict n) (inside_state o l) = absurd (n o)
inside_one (inside_verdict n) (insides o l) = absurd (n o)
inside_one (inside_state o l) (inside_verdict n) = absurd (n o)
inside_one (inside_state o l) (inside_state o' l') = (refl, refl)
inside_one (inside_state o l) (insides o' l') = absurd (omega arith)
inside_one (insides o l) (inside_verdict n) = absurd (n o)
inside_one (insides o l) (inside_state o' l') = absurd (omega arith)
inside_one (insides o l) (insides o' l') = (refl, refl)

by_call :
    (start : Shown) (h : List Event) {w v v' : Stand} {c c' : Call}
    → Come start h w.state
    → Alike c c'
    → Step w c v
    → Step w c' v'
    → Tied c c' v v'
    → One c c' v v'
by_call start h g (both_load x a p r r') k k' s = load_one k k' s
by_call start h g (both_advance r r') k k' s = advance_one k k' s
by_call start h g (both_ask r r') k k' s = ask_one k k'
by_call start h g (both_trace x y x₁ y₁ x₂ y₂ r r') k k' s = trace_one start h g k k'
by_call start h g (both_inside q r r') k k' s = inside_one k k'

pub determined : Determined
determined = record {
  same_end = λ start h w v v' c c' u like k k' s. by_call start h (come u) like k k' (inl s);
  any_end = λ start h w v v' c c' u like k k' n n'. by_call start h (come u) like k k' (inr (n, n'));
}
