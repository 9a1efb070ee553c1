-- What holds of each state that a use leads to.
use Rattle.std.proofs.Common.{◌≡◌, ℕ, suc, ◌+◌, ◌<◌, ◌≤◌, Bool, true, cond, List, ◌∷◌, count_by, sum_by, Ok}
use Rattle.std.proofs.Common.{sym, refl, ap, ◌∙◌, subst, ⊎_elim, eq-or-lt_of_le, arith}
use Rattle.std.proofs.lemmas.List.Sums.{sum_by-cons}
use Rattle.store.specs.Meaning.{Shown, Grown}
use Rattle.description.specs.Checks.{Checked, right}
use Rattle.making.proofs.Steps.{grown_none, grown_more, runs_grown, stops_grown}
use Rattle.runs.specs.Systems.{System}
use Rattle.runs.specs.Search.{open_yet, verdict, Reached}
use Rattle.runs.specs.Models.{Model, system, Describes}
use Rattle.uses.specs.Calls.{State, empty, loaded, told, Call, load, advance, Stand, stand, Event, event}
use Rattle.uses.specs.Calls.{is_load, is_advance, accepted_loads, accepted_advances}
use Rattle.uses.specs.Uses.{Step, load_twice, load_wrong, load_full, loads, advance_empty, advance_settled}
use Rattle.uses.specs.Uses.{advance_full, advances, asks, trace_empty, trace_verdict, trace_short, traces}
use Rattle.uses.specs.Uses.{inside_empty, inside_verdict, inside_state, insides, Use, begun, went_on}
use Rattle.uses.specs.Says.{OneLoad}

next_reached : (s : System) (j : ℕ) → Reached s j → verdict s j ≡ open_yet → Reached s (suc j)
next_reached s j r o i l =
    ⊎_elim (λ e. subst (λ k. verdict s k ≡ open_yet) (sym e) o) (λ k. r i k) (eq-or-lt_of_le (down l))
  where
    down : i < suc j → i ≤ j
    down l = omega arith

-- no step loses what the store had
pub step_grown : {w v : Stand} {c : Call} → Step w c v → Grown w.store v.store
step_grown load_twice = grown_none
step_grown (load_wrong k) = grown_none
step_grown (load_full k q) = stops_grown q
step_grown (loads k r) = runs_grown r
step_grown advance_empty = grown_none
step_grown (advance_settled n) = grown_none
step_grown (advance_full o q) = stops_grown q
step_grown (advances o r) = runs_grown r
step_grown asks = grown_none
step_grown trace_empty = grown_none
step_grown (trace_verdict n) = grown_none
step_grown (trace_short o n) = grown_none
step_grown (traces q v o lx ly d) = grown_none
step_grown inside_empty = grown_none
step_grown (inside_verdict n) = grown_none
step_grown (inside_state o l) = grown_none
step_grown (insides o l) = grown_none

-- no use does
pub use_grown : {s : Shown} {h : List Event} {w : Stand} → Use s h w → Grown s w.store
use_grown begun = grown_none
use_grown (went_on u s) = grown_more (use_grown u) (step_grown s)

-- the number of variables never changes
use_width : {s : Shown} {h : List Event} {w : Stand} → Use s h w → w.store.vars ≡ s.vars
use_width u = (use_grown u).vars

-- nothing was accepted
pub record Idle (h : List Event) : Type 0 where
  pub loads_are : accepted_loads h ≡ 0
  pub advances_are : accepted_advances h ≡ 0

-- a load was accepted, and the search has come to j, which is the count of the accepted advances
pub record Begun (s : Shown) (h : List Event) (m : Model) (j : ℕ) : Type 0 where
  pub reached : Reached (system m) j
  pub loaded_by : OneLoad s h m
  pub advances_are : j ≡ accepted_advances h

abbrev pub Come : Shown → List Event → State → Type 0
Come s h empty = Idle h
Come s h (loaded m j) = Begun s h m j

-- one event more, by which no load was accepted
still_loaded :
    {s : Shown} {h : List Event} {m : Model} (e : Event)
    → accepted_loads (e ∷ h) ≡ accepted_loads h
    → OneLoad s h m
    → OneLoad s (e ∷ h) m
still_loaded e same l = record {
  event = l.event;
  past = (suc l.past.0, omega (arith, l.past.1), l.past.2);
  file = l.file;
  assumption = l.assumption;
  property = l.property;
  answer = l.answer;
  accepted = l.accepted;
  describes = l.describes;
  only = same ∙ l.only;
}

-- one by which no advance was either
still :
    (s : Shown) (h : List Event) (st : State) (e : Event)
    → accepted_loads (e ∷ h) ≡ accepted_loads h
    → accepted_advances (e ∷ h) ≡ accepted_advances h
    → Come s h st
    → Come s (e ∷ h) st
still s h empty e p q g = record { loads_are = p ∙ g.loads_are; advances_are = q ∙ g.advances_are }
still s h (loaded m j) e p q g = record {
  reached = g.reached;
  loaded_by = still_loaded e p g.loaded_by;
  advances_are = g.advances_are ∙ sym q;
}

counted_more : (p : Event → Bool) (e : Event) (h : List Event) → p e ≡ true → count_by p (e ∷ h) ≡ 1 + count_by p h
counted_more p e h q =
    sum_by-cons (λ x. cond (p x) 1 0) e h ∙ ap (λ b. cond b 1 0 + sum_by (λ x. cond (p x) 1 0) h) q

-- the event of an accepted load
module _ (s : Shown) (h : List Event) (w v : Stand) (file a p : List ℕ) (m : Model) where
  abbrev loading : Event
  loading = event w (load file a p (Ok (told (loaded m 0)))) v

  just_loaded :
      w.store.vars ≡ s.vars
      → Checked w.store.vars file a p (Ok m)
      → accepted_loads h ≡ 0
      → OneLoad s (loading ∷ h) m
  just_loaded e (right d) n = record {
    event = loading;
    past = (0, omega arith, refl);
    file = file;
    assumption = a;
    property = p;
    answer = told (loaded m 0);
    accepted = refl;
    describes = subst (λ i. Describes i file a p m) e d;
    only = counted_more (λ e. is_load e.call) loading h refl ∙ ap (λ n. 1 + n) n;
  }

-- and of an accepted advance
module _ (h : List Event) (w v : Stand) (m : Model) (j : ℕ) where
  abbrev advancing : Event
  advancing = event w (advance (Ok (told (loaded m (suc j))))) v

  just_advanced : j ≡ accepted_advances h → suc j ≡ accepted_advances (advancing ∷ h)
  just_advanced e = omega (arith, e, counted_more (λ e. is_advance e.call) advancing h refl)

come_step :
    (s : Shown) (h : List Event) {w v : Stand} {c : Call}
    → w.store.vars ≡ s.vars
    → Step w c v
    → Come s h w.state
    → Come s (event w c v ∷ h) v.state
come_step s h e (load_twice {m = m} {j = j}) g = still s h (loaded m j) _ refl refl g
come_step s h e (load_wrong k) g = still s h empty _ refl refl g
come_step s h e (load_full k q) g = still s h empty _ refl refl g
come_step s h e (loads {s = u} {t = t} {file = x} {a = a} {p = p} {m = m} k r) g = record {
  reached = λ i l. absurd (omega arith);
  loaded_by = just_loaded s h (stand empty u) (stand (loaded m 0) t) x a p m e k g.loads_are;
  advances_are = sym g.advances_are;
}
come_step s h e advance_empty g = still s h empty _ refl refl g
come_step s h e (advance_settled {m = m} {j = j} n) g = still s h (loaded m j) _ refl refl g
come_step s h e (advance_full {m = m} {j = j} o q) g = still s h (loaded m j) _ refl refl g
come_step s h e (advances {s = u} {t = t} {m = m} {j = j} o r) g = record {
  reached = next_reached (system m) j g.reached o;
  loaded_by = still_loaded _ refl g.loaded_by;
  advances_are = just_advanced h (stand (loaded m j) u) (stand (loaded m (suc j)) t) m j g.advances_are;
}
come_step s h e (asks {st = st}) g = still s h st _ refl refl g
come_step s h e trace_empty g = still s h empty _ refl refl g
come_step s h e (trace_verdict {m = m} {j = j} n) g = still s h (loaded m j) _ refl refl g
come_step s h e (trace_short {m = m} {j = j} o n) g = still s h (loaded m j) _ refl refl g
come_step s h e (traces {m = m} {j = j} q v o lx ly d) g = still s h (loaded m j) _ refl refl g
come_step s h e inside_empty g = still s h empty _ refl refl g
come_step s h e (inside_verdict {m = m} {j = j} n) g = still s h (loaded m j) _ refl refl g
come_step s h e (inside_state {m = m} {j = j} o l) g = still s h (loaded m j) _ refl refl g
come_step s h e (insides {m = m} {j = j} o l) g = still s h (loaded m j) _ refl refl g

pub come : {s : Shown} {h : List Event} {w : Stand} → Use s h w → Come s h w.state
come begun = record { loads_are = refl; advances_are = refl }
come (went_on {history = h} u s) = come_step _ h (use_width u) s (come u)
