-- From a use of a session to what is promised of it.
use Rattle.std.proofs.Common.{◌≡◌, ◌≢◌, ℕ, suc, ◌≤◌, ◌⊎◌, Bool, not, Decides, List, ◌∷◌, All, length, get_or}
use Rattle.std.proofs.Common.{Some, Ok, Err, sym, refl, ap, subst, inl, inr, mul-le-mul_right, arith}
use Rattle.std.proofs.lemmas.List.Elements.{All-nil, All-cons}
use Rattle.store.specs.Meaning.{Shown, free}
use Rattle.description.specs.Checks.{Checked, right}
use Rattle.description.specs.declared.part.Part.{Part}
use Rattle.making.specs.declared.fault.Fault.TheVariants.{Room}
use Rattle.making.specs.Making.{Item, Runs, Stops}
use Rattle.making.specs.Loads.{load_list, advance_list}
use Rattle.making.proofs.Bounds.{runs_held, stops_bound, stops_above}
use Rattle.making.specs.Bounds.{load_bound, advance_bound}
use Rattle.making.proofs.Lengths.{load_texts, advance_length}
use Rattle.runs.specs.Systems.{State, Breaking, BreakingFrom}
use Rattle.runs.specs.Search as search
use Rattle.runs.specs.Verdicts.{Safe, Unsafe, Meaning}
use Rattle.runs.specs.Models.{Model, system}
use Rattle.runs.proofs.Verdicts.{verdicts}
use Rattle.runs.proofs.Traces as runs
use Rattle.uses.specs.declared.fault.Fault.TheVariants.{Making}
use Rattle.uses.specs.declared.fault.Fault.TheVariants as fault
use Rattle.uses.specs.Calls.{State as Now, empty, loaded, tell, told, Call, load, advance, trace, inside, answered}
use Rattle.uses.specs.Calls.{Stand, Event, event}
use Rattle.uses.specs.declared.verdict.Verdict.{Verdict}
use Rattle.uses.specs.declared.verdict.Verdict.TheVariants as verdict
use Rattle.uses.specs.Uses.{Step, load_twice, load_wrong, load_full, loads, advance_empty, advance_settled}
use Rattle.uses.specs.Uses.{advance_full, advances, asks, trace_empty, trace_verdict, trace_short, traces}
use Rattle.uses.specs.Uses.{inside_empty, inside_verdict, inside_state, insides, Use, begun, went_on}
use Rattle.uses.specs.Fair.{AllMade, ShortOf, Fair}
use Rattle.uses.specs.Says.{Meant, Says, Accepted}
use Rattle.uses.specs.Promise.{Promised}
use Rattle.uses.proofs.Told.{never, tell_not_empty, tell_safe, tell_open, tell_unsafe}
use Rattle.uses.proofs.Written.{written_at, breaking_like}
use Rattle.uses.proofs.Unchanged.{same_but, same_arrays}
use Rattle.runs.proofs.Models.{closed}
use Rattle.uses.proofs.Insides.{inside_tells}
use Rattle.uses.proofs.Uses.{step_grown, Come, come}

pub short_of :
    {s t : Shown} {l : List Item} {y : Item} (bound : ℕ)
    → Stops s l y t
    → length l ≤ bound
    → ShortOf s t l bound y.part y.place (free t)
short_of {s = s} {y = y} bound q h = record {
  item = y;
  stops = q;
  above = stops_above q;
  part_is = refl;
  place_is = refl;
  units_are = refl;
  few = h;
  uncovered = omega (arith, stops_bound q, mul-le-mul_right s.top h);
}

all_made : {s t : Shown} {l : List Item} (bound : ℕ) → Runs s l t → length l ≤ bound → AllMade s t l bound
all_made bound r h = record { runs = r; held = runs_held r; few = h }

pub load_calls :
    {width : ℕ} {x a p : List ℕ} {m : Model}
    → Checked width x a p (Ok m)
    → length (load_list m) ≤ load_bound m (length a) (length p)
load_calls {m = m} (right d) = load_texts m d.assumption d.property

load_accepted :
    {w v : Stand} {x a p : List ℕ} {r : Verdict}
    → Step w (load x a p (Ok r)) v
    → (m : Model)
    × (v.state ≡ loaded m 0)
    × Checked w.store.vars x a p (Ok m)
    × AllMade w.store v.store (load_list m) (load_bound m (length a) (length p))
load_accepted (loads {a = a} {p = p} {m = m} k r) =
    (m, refl, k, all_made (load_bound m (length a) (length p)) r (load_calls k))

load_room :
    {w v : Stand} {x a p : List ℕ} {q : Part} {l u : ℕ}
    → Step w (load x a p (Err (Making (Room q l u)))) v
    → (m : Model)
    × Checked w.store.vars x a p (Ok m)
    × ShortOf w.store v.store (load_list m) (load_bound m (length a) (length p)) q l u
load_room (load_full {a = a} {p = p} {m = m} k q) =
    (m, k, short_of (load_bound m (length a) (length p)) q (load_calls k))

advance_accepted :
    {w v : Stand} {r : Verdict}
    → Step w (advance (Ok r)) v
    → (m : Model) × (j : ℕ)
    × (w.state ≡ loaded m j)
    × (v.state ≡ loaded m (suc j))
    × AllMade w.store v.store (advance_list m j) (advance_bound m)
advance_accepted (advances {m = m} {j = j} o r) =
    (m, j, refl, refl, all_made (advance_bound m) r (advance_length m j))

advance_room :
    {w v : Stand} {q : Part} {l u : ℕ}
    → Step w (advance (Err (Making (Room q l u)))) v
    → (m : Model) × (j : ℕ)
    × (w.state ≡ loaded m j)
    × ShortOf w.store v.store (advance_list m j) (advance_bound m) q l u
advance_room (advance_full {m = m} {j = j} o q) =
    (m, j, refl, short_of (advance_bound m) q (advance_length m j))

traced :
    (s : Shown) (h : List Event) {w v : Stand} {x y x' y' : List ℕ}
    → Come s h w.state
    → Step w (trace x y x' y' (Ok tt)) v
    → (m : Model) × (j : ℕ)
    × (w.state ≡ loaded m j)
    × Unsafe (system m) j
    × Breaking (system m) j (λ t. get_or x' t 0) (λ t. get_or y' t 0)
traced s h g (traces {m = m} {j = j} {x = x} {y = y} q v o lx ly d) = (
  m,
  j,
  refl,
  ((verdicts (system m) (closed m) j g.reached).unsafely j o).1,
  breaking_like (system m) j q v _ _ (written_at (suc j) q x) (written_at (suc j) v y)
      ((runs.traces (system m) (closed m) j g.reached o).breaking q v d),
)

told_inside :
    (s : Shown) (h : List Event) {w v : Stand} {q : ℕ} {answer : Bool}
    → Come s h w.state
    → Step w (inside q (Ok answer)) v
    → (m : Model) × (j : ℕ)
    × (w.state ≡ loaded m j)
    × Safe (system m) j
    × State (system m) q
    × Decides (not answer) ((d : ℕ) × BreakingFrom (system m) d q)
told_inside s h {q = q} g (insides {m = m} {j = j} o l) =
    let safe = (verdicts (system m) (closed m) j g.reached).safely o in
    (m, j, refl, safe, l, inside_tells (system m) j safe (closed m) q l)

settled :
    (s : Shown) (h : List Event) {w v : Stand}
    → Come s h w.state
    → Step w (advance (Err fault.Settled)) v
    → (m : Model) × (j : ℕ)
    × (w.state ≡ loaded m j)
    × (Safe (system m) j ⊎ Unsafe (system m) j)
settled s h g (advance_settled {m = m} {j = j} n) = (m, j, refl, by (search.verdict (system m) j) refl)
  where
    means : Meaning (system m) j
    means = verdicts (system m) (closed m) j g.reached

    by : (a : search.Verdict) → search.verdict (system m) j ≡ a → Safe (system m) j ⊎ Unsafe (system m) j
    by (search.unsafe d) e = inr (means.unsafely d e).1
    by search.safe e = inl (means.safely e)
    by search.open_yet e = absurd (n e)

not_unsafe :
    (s : Shown) (h : List Event) {w v : Stand} {x y x' y' : List ℕ}
    → Come s h w.state
    → Step w (trace x y x' y' (Err fault.Verdict)) v
    → (m : Model) × (j : ℕ)
    × (w.state ≡ loaded m j)
    × (Unsafe (system m) j → ⊥)
not_unsafe s h g (trace_verdict {m = m} {j = j} n) =
    (m, j, refl, λ u. n ((verdicts (system m) (closed m) j g.reached).exactly u))

not_safe :
    {w v : Stand} {q : ℕ}
    → Step w (inside q (Err fault.Verdict)) v
    → (m : Model) × (j : ℕ)
    × (w.state ≡ loaded m j)
    × (told (loaded m j) ≢ verdict.Safe)
not_safe (inside_verdict {m = m} {j = j} n) = (m, j, refl, λ e. n (tell_safe (search.verdict (system m) j) e))

meant : (m : Model) (j : ℕ) → Meaning (system m) j → Meant m j (told (loaded m j))
meant m j y = record {
  not_empty = tell_not_empty (search.verdict (system m) j);
  safely = λ e. y.safely (tell_safe (search.verdict (system m) j) e);
  unsafely = λ d e. y.unsafely d (tell_unsafe (search.verdict (system m) j) d e);
  exactly = λ f. ap tell (y.exactly f);
  openly = λ e. y.openly (tell_open (search.verdict (system m) j) e);
}

says : (s : Shown) (h : List Event) (st : Now) → Come s h st → Says st (told st)
says s h empty g = refl
says s h (loaded m j) g = meant m j (verdicts (system m) (closed m) j g.reached)

same_answer : {a b : Verdict} → Some a ≡ Some b → a ≡ b
same_answer e = cc

-- what a call answers is the verdict of the state that it leaves
told_after : {w v : Stand} {c : Call} {a : Verdict} → Step w c v → answered c ≡ Some a → told v.state ≡ a
told_after load_twice e = never (cc)
told_after (load_wrong k) e = never (cc)
told_after (load_full k q) e = never (cc)
told_after (loads k r) e = same_answer e
told_after advance_empty e = never (cc)
told_after (advance_settled n) e = never (cc)
told_after (advance_full o q) e = never (cc)
told_after (advances o r) e = same_answer e
told_after asks e = same_answer e
told_after trace_empty e = never (cc)
told_after (trace_verdict n) e = never (cc)
told_after (trace_short o n) e = never (cc)
told_after (traces q v o lx ly d) e = never (cc)
told_after inside_empty e = never (cc)
told_after (inside_verdict n) e = never (cc)
told_after (inside_state o l) e = never (cc)
told_after (insides o l) e = never (cc)

fair_step :
    (s : Shown) (h : List Event) {w v : Stand} {c : Call}
    → Step w c v
    → Come s h w.state
    → Come s (event w c v ∷ h) v.state
    → Fair (event w c v)
fair_step s h {w = w} {v = v} {c = c} k g g' = record {
  step = k;
  grown = step_grown k;
  same_state = λ l a. (same_but k l a).0;
  same_store = λ l a. (same_but k l a).1;
  says = λ r e. subst (Says v.state) (told_after k e) (says s (event w c v ∷ h) v.state g');
  load_accepted = λ x a p r e. load_accepted (subst (λ i. Step w i v) e k);
  load_room = λ x a p q l u e. load_room (subst (λ i. Step w i v) e k);
  advance_accepted = λ r e. advance_accepted (subst (λ i. Step w i v) e k);
  advance_room = λ q l u e. advance_room (subst (λ i. Step w i v) e k);
  traced = λ x y x' y' e. traced s h g (subst (λ i. Step w i v) e k);
  same_arrays = λ x y x' y' r e. same_arrays (subst (λ i. Step w i v) e k);
  insides = λ q r e. told_inside s h g (subst (λ i. Step w i v) e k);
  settled = λ e. settled s h g (subst (λ i. Step w i v) e k);
  not_unsafe = λ x y x' y' e. not_unsafe s h g (subst (λ i. Step w i v) e k);
  not_safe = λ q e. not_safe (subst (λ i. Step w i v) e k);
}

fair : {s : Shown} {h : List Event} {w : Stand} → Use s h w → All Fair h
fair begun = All-nil Fair
fair {s = s} (went_on {history = h} u k) =
    All-cons Fair _ h (fair_step s h k (come u) (come (went_on u k))) (fair u)

accepted : (s : Shown) (h : List Event) (st : Now) → Come s h st → Accepted s h st
accepted s h empty g = (g.loads_are, g.advances_are)
accepted s h (loaded m j) g = (g.loaded_by, sym g.advances_are)

pub promised : Promised
promised s h w u = record {
  fair = fair u;
  accepted = accepted s h w.state (come u);
  says = says s h w.state (come u);
}
