-- What one call of a session gives, where some use led to it.
use Rattle.std.proofs.Common.{◌≡◌, ℕ, suc, ◌^◌, ◌<◌, ◌≤◌, Bool, List, [], ◌++◌, length, Ok, Err, Result, sym, refl, ap₂, subst, arith, MatchResult}
use Rattle.store.specs.Meaning.{Shown}
use Rattle.description.specs.Checks.{Checked, right}
use Rattle.description.specs.declared.fault.Fault.{Fault as Misdescription}
use Rattle.uses.specs.declared.fault.Fault.{Fault as Refusal}
use Rattle.uses.specs.declared.fault.Fault.TheVariants.{Description}
use Rattle.making.specs.Making.{Item, Runs, Stops}
use Rattle.making.specs.Loads.{load_list, advance_list}
use Rattle.runs.specs.Models.{Model, system, Describes}
use Rattle.runs.specs.Search.{unsafe, safe, open_yet, verdict}
use Rattle.runs.specs.Search as search
use Rattle.uses.specs.declared.verdict.Verdict.{Verdict}
use Rattle.uses.specs.Calls.{State, empty, loaded, load, advance, trace, inside, Stand, stand, Event, written}
use Rattle.uses.specs.Uses.{room, Step, load_wrong, load_full, loads, advance_empty, advance_settled, advance_full, advances, trace_verdict, trace_short, traces, inside_verdict, inside_state, insides, Use}
use Rattle.uses.specs.Uses as uses
use Rattle.uses.proofs.Told.{never}
use Rattle.engine.specs.declared.settled.Settled.{Settled}
use Rattle.engine.specs.Keeping.{World, Keeps, Next}
use Rattle.engine.specs.Settled.{Advances, none, more, Undecided, Decided, Stuck, advances_of, verdict_of}
use Rattle.engine.specs.Settling.{Settles}
use Rattle.engine.proofs.Settlings.{last_step}
use Rattle.decide.specs.Outcomes.{Searched, begun, advanced}
use Rattle.decide.specs.Searches.{Come, Ended}

-- what a load of an empty session leaves
pub record Began (s : Shown) (x a p : List ℕ) (v : World) : Type 0 where
  pub model : Model
  pub describes : Describes s.vars x a p model
  pub come : Come s model 0 v

-- why it was refused, and what the store then shows
pub data Unbegun (s : Shown) (x a p : List ℕ) (t : Shown) : Refusal → Type 0 where
  misdescribed : {d : Misdescription} → Checked s.vars x a p (Err d) → t ≡ s → Unbegun s x a p t (Description d)
  no_room : {m : Model} {y : Item} → Describes s.vars x a p m → Stops s (load_list m) y t → Unbegun s x a p t (room y t)

loading : {s : Shown} {x a p : List ℕ} {r : Result Verdict Refusal} {h : List Event} (v : World) (st : State)
    → Step (stand empty s) (load x a p r) (stand st v.store) → Use s h (stand st v.store) → Keeps st v
    → MatchResult r (λ _. Began s x a p v) (Unbegun s x a p v.store)
loading v st (load_wrong k) u k' = misdescribed k refl
loading v st (load_full (right d) q) u k' = no_room d q
loading {h = h} v st (loads {m = m} (right d) q) u k' = record { model = m; describes = d; come = record { past = h; led = u; keeps = k'; searched = begun q } }

pub loaded_by : {x a p : List ℕ} {r : Result Verdict Refusal} (w v : World) → Keeps empty w
    → Next w (load x a p r) v → MatchResult r (λ _. Began w.store x a p v) (Unbegun w.store x a p v.store)
loaded_by w v k n = let z = n w.store [] empty uses.begun k in loading v z.0 (last_step z.1) z.1 z.2

-- the store refused a call of an advance
pub record Short (s : Shown) (m : Model) (t : Shown) (e : Refusal) : Type 0 where
  pub depth : ℕ
  pub item : Item
  pub before : Shown
  pub searched : Searched m s depth before
  pub undecided : verdict (system m) depth ≡ open_yet
  pub stops : Stops before (advance_list m depth) item t
  pub is : e ≡ room item t

same_model : {m m' : Model} {j j' : ℕ} → ◌≡◌ {A = State} (loaded m j) (loaded m' j') → m ≡ m'
same_model e = cc

same_count : {m m' : Model} {j j' : ℕ} → ◌≡◌ {A = State} (loaded m j) (loaded m' j') → j ≡ j'
same_count e = cc

empty_is_not : {X : Type 0} {m : Model} {j : ℕ} → ◌≡◌ {A = State} empty (loaded m j) → X
empty_is_not e = never (cc)

module _ (s : Shown) (m : Model) where
  -- accepted advances are a search
  pub record Going (now : Stand) : Type 0 where
    pub depth : ℕ
    pub is : now.state ≡ loaded m depth
    pub searched : Searched m s depth now.store

  went_on : {before after : Stand} {r : Verdict} → Step before (advance (Ok r)) after → Going before → Going after
  went_on (advances {s = u} {t = t} {m = n} {j = i} o q) g =
      let em : n ≡ m = same_model g.is in
      let ej : i ≡ g.depth = same_count g.is in
      record {
        depth = suc g.depth;
        is = ap₂ (λ n d. loaded n (suc d)) em ej;
        searched = advanced g.searched
            (subst (λ d. verdict (system m) d ≡ open_yet) ej (subst (λ n. verdict (system n) i ≡ open_yet) em o))
            (subst (λ d. Runs u (advance_list m d) t) ej (subst (λ n. Runs u (advance_list n i) t) em q));
      }

  searching : {t : Shown} → Searched m s 0 t → {events : List Event} {now : Stand} → Advances (stand (loaded m 0) t) events now → Going now
  searching f none = record { depth = 0; is = refl; searched = f }
  searching f (more a step) = went_on step (searching f a)

  stopped : {t u : Shown} {e : Refusal} (state after : State) → Step (stand state t) (advance (Err e)) (stand after u) → Undecided state → Going (stand state t) → Short s m u e
  stopped state after advance_empty o g = empty_is_not g.is
  stopped {t = t} {u = u} state after (advance_settled x) o g = absurd (x o)
  stopped {t = t} {u = u} state after (advance_full {m = n} {j = i} {y = y} o' q) o g =
      let em : n ≡ m = same_model g.is in
      let ej : i ≡ g.depth = same_count g.is in
      record {
        depth = g.depth;
        item = y;
        before = t;
        searched = g.searched;
        undecided = subst (λ d. verdict (system m) d ≡ open_yet) ej (subst (λ n. verdict (system n) i ≡ open_yet) em o);
        stops = subst (λ d. Stops t (advance_list m d) y u) ej (subst (λ n. Stops t (advance_list n i) y u) em q);
        is = refl;
      }

  pub settled_by : (r : Result Settled Refusal) (w v : World) → Come s m 0 w → Settles w r v → MatchResult r (λ a. Ended s m a v) (Short s m v.store)
  settled_by r w v c f = by r (f s c.past (loaded m 0) c.led c.keeps)
    where
      by : (r : Result Settled Refusal) → MatchResult r (Decided s c.past (stand (loaded m 0) w.store) v) (Stuck s c.past (stand (loaded m 0) w.store) v)
          → MatchResult r (λ a. Ended s m a v) (Short s m v.store)
      by (Ok a) d =
          let g = searching c.searched d.advanced in
          let em : d.model ≡ m = same_model g.is in
          let ej : advances_of a ≡ g.depth = same_count g.is in
          record {
            come = record {
              past = d.made ++ c.past;
              led = subst (λ n. Use s (d.made ++ c.past) (stand (loaded n (advances_of a)) v.store)) em d.led;
              keeps = subst (λ n. Keeps (loaded n (advances_of a)) v) em d.keeps;
              searched = subst (λ i. Searched m s i v.store) (sym ej) g.searched;
            };
            settled = subst (λ n. verdict (system n) (advances_of a) ≡ verdict_of a) em d.settled;
          }
      by (Err e) d = stopped d.state d.state (last_step d.led) d.undecided (searching c.searched d.advanced)

module _ (s : Shown) (m : Model) (j : ℕ) where
  telling : {t : Shown} {x : Stand} {q : ℕ} {r : Result Bool Refusal} → Step (stand (loaded m j) t) (inside q r) x → verdict (system m) j ≡ safe → q < 2 ^ m.circuit.registers
      → r ≡ Ok (search.inside (system m) j q)
  telling (inside_verdict n) o l = absurd (n o)
  telling (inside_state o' l') o l = absurd (omega arith)
  telling (insides o' l') o l = refl

  pub told_by : {q : ℕ} {r : Result Bool Refusal} (w v : World) → Come s m j w → verdict (system m) j ≡ safe → Next w (inside q r) v → q < 2 ^ m.circuit.registers
      → r ≡ Ok (search.inside (system m) j q)
  told_by w v c o n l = telling (last_step (n s c.past (loaded m j) c.led c.keeps).1) o l

  -- both arrays hold the trace
  pub record Handed (x y x' y' : List ℕ) : Type 0 where
    pub states : ℕ → ℕ
    pub inputs : ℕ → ℕ
    pub trace : search.Trace (system m) j states inputs
    pub states_are : x' ≡ written (suc j) states x
    pub inputs_are : y' ≡ written (suc j) inputs y

  handing : {t : Shown} {z : Stand} {x y x' y' : List ℕ} {r : Result (Unit {0}) Refusal} → Step (stand (loaded m j) t) (trace x y x' y' r) z
      → verdict (system m) j ≡ unsafe j → suc j ≤ length x → suc j ≤ length y → MatchResult r (λ _. Handed x y x' y') (λ _. ⊥)
  handing (trace_verdict n) o lx ly = n o
  handing (trace_short o' n) o lx ly = n lx ly
  handing (traces q v o' lx' ly' d) o lx ly = record { states = q; inputs = v; trace = d; states_are = refl; inputs_are = refl }

  pub handed_by : {x y x' y' : List ℕ} {r : Result (Unit {0}) Refusal} (w v : World) → Come s m j w → verdict (system m) j ≡ unsafe j → Next w (trace x y x' y' r) v
      → suc j ≤ length x → suc j ≤ length y → MatchResult r (λ _. Handed x y x' y') (λ _. ⊥)
  handed_by w v c o n lx ly = handing (last_step (n s c.past (loaded m j) c.led c.keeps).1) o lx ly
