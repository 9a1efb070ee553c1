-- Advances up to a settled verdict.
use Rattle.std.proofs.Common.{◌≡◌, ℕ, suc, ◌<◌, ◌≤◌, ◌^◌, List, [], ◌∷◌, ◌++◌, length, Option, None, Some, MatchOption, MatchResult, Result, Ok, Err, sym, refl, ap, ◌∙◌, subst, arith, pow_mono}
use Rattle.store.specs.Meaning.{Shown}
use Rattle.uses.specs.declared.fault.Fault.{Fault}
use Rattle.uses.specs.declared.fault.Fault.TheVariants.{Empty}
use Rattle.runs.specs.Models.{Model, Valid, system}
use Rattle.runs.specs.Search.{unsafe, verdict}
use Rattle.runs.proofs.Verdicts.{verdicts}
use Rattle.uses.specs.declared.verdict.Verdict.{Verdict}
use Rattle.uses.specs.declared.verdict.Verdict.TheVariants as answer
use Rattle.uses.specs.Calls.{State, empty, loaded, Call, advance, Stand, stand, Event, event}
use Rattle.uses.specs.Uses.{Step, advance_empty, advance_settled, advance_full, advances, Use, begun, went_on}
use Rattle.uses.proofs.Told.{never, tell_unsafe}
use Rattle.runs.proofs.Models.{closed}
use Rattle.uses.proofs.Uses.{come}
use Rattle.engine.specs.declared.search.Search.{Search}
use Rattle.engine.specs.declared.settled.Settled.{Settled}
use Rattle.engine.specs.Keeping.{World, Sets, Keeps, Next}
use Rattle.engine.specs.Settled.{Advances, none, more, Undecided, Decided, Stuck}
use Rattle.engine.specs.Settling.{Settles, SettledOn}
use Rattle.engine.proofs.Handing.{depth_is}

-- the latest event of a use was a step
pub last_step : {start : Shown} {before after now : Stand} {call : Call} {history : List Event} → Use start (event before call after ∷ history) now → Step before call after
last_step (went_on u s) = s

-- the depth that is told is the count of the advances
pub is_unsafe : (k : Search) (n d : ℕ) → n ≡ length k.earlier.items → k.last.verdict ≡ answer.Unsafe d → (state : State) (s : Shown)
    → Keeps state (record { store = s; search = Some k }) → (m : Model) × (state ≡ loaded m n) × (verdict (system m) n ≡ unsafe n)
is_unsafe k n d e o empty s h = never (cc)
is_unsafe k n d e o (loaded m j) s h =
    let p : j ≡ n = sym h.count ∙ sym e in
    (m, ap (loaded m) p, subst (λ i. verdict (system m) i ≡ unsafe i) p (depth_is (system m) j d (tell_unsafe (verdict (system m) j) d (sym h.verdict ∙ o))))

-- of an empty session no advance is accepted
still_empty : {s t : Shown} {state : State} {made : List Event} → Advances (stand empty s) made (stand state t) → state ≡ empty
still_empty a = by a refl
  where
    by : {from now : Stand} {made : List Event} → Advances from made now → from.state ≡ empty → now.state ≡ empty
    by none e = e
    by (more a (advances o r)) e = never (let p = by a e in cc)

refused_by_empty : {state state' : State} {s t : Shown} {e : Fault} → Step (stand state s) (advance (Err e)) (stand state' t) → state ≡ empty → e ≡ Empty
refused_by_empty advance_empty p = refl
refused_by_empty (advance_settled n) p = never (cc)
refused_by_empty (advance_full o q) p = never (cc)

-- so it settles on nothing
pub settles_empty : (w v : World) (r : Result Settled Fault) → Settles w r v → Keeps empty w → r ≡ Err Empty
settles_empty w v r f k = by r (f w.store [] empty begun k)
  where
    by : (r : Result Settled Fault) → MatchResult r (Decided w.store [] (stand empty w.store) v) (Stuck w.store [] (stand empty w.store) v)
        → r ≡ Err Empty
    by (Ok a) d = never (let p = still_empty d.advanced in cc)
    by (Err e) d = ap Err (refused_by_empty (last_step d.led) (still_empty d.advanced))

-- what is not settled is open
pub unsettled : (k : Option Search) (r : Option Settled) → ((a : Settled) → r ≡ Some a → ⊥) → SettledOn k r → SettledOn k None
unsettled k None n f = f
unsettled k (Some a) n f = absurd (n a refl)

-- an empty session has settled on nothing
pub not_begun : (o : Option Search) → o ≡ None → SettledOn o None
not_begun o e empty s h = tt
not_begun o e (loaded m j) s h = absurd (subst (λ x. MatchOption x ⊥ (Sets m j s)) e h)

valid_of : (m : Model) (j : ℕ) (s : Shown) (o : Option Search) → MatchOption o ⊥ (Sets m j s) → Valid m
valid_of m j s None k = absurd k
valid_of m j s (Some x) k = k.valid

-- how many advances a state has accepted
abbrev pub count : State → ℕ
count empty = 0
count (loaded m j) = j

module _ (start : Shown) (history : List Event) (from : Stand) where
  -- n advances were accepted
  pub record Going (n : ℕ) (w : World) : Type 0 where
    pub state : State
    pub made : List Event
    pub advanced : Advances from made (stand state w.store)
    pub led : Use start (made ++ history) (stand state w.store)
    pub keeps : Keeps state w
    pub far : n ≤ count state

  one_more : {s : Shown} {r : Result Verdict Fault} {made : List Event} (n : ℕ) (state state' : State) (v : World)
      → Step (stand state s) (advance r) (stand state' v.store)
      → Use start (event (stand state s) (advance r) (stand state' v.store) ∷ (made ++ history)) (stand state' v.store)
      → Keeps state' v
      → Undecided state
      → Advances from made (stand state s)
      → n ≤ count state
      → MatchResult r (λ _. Going (suc n) v) (Stuck start history from v)
  one_more {s} {r} {made} n state state' v advance_empty u k o a l = record { state = empty; store = s; made = made; advanced = a; undecided = o; led = u; keeps = k }
  one_more n state state' v (advance_settled x) u k o a l = absurd (x o)
  one_more {s} {r} {made} n state state' v (advance_full {m = m} {j = j} o' q) u k o a l = record { state = loaded m j; store = s; made = made; advanced = a; undecided = o; led = u; keeps = k }
  one_more {s} {r} {made} n state state' v (advances {t = t} {m = m} {j = j} o' q) u k o a l = record {
    state = loaded m (suc j);
    made = _;
    advanced = more a (advances o' q);
    led = u;
    keeps = k;
    far = omega (arith, l);
  }

  pub goes_on : {r : Result Verdict Fault} (n : ℕ) (w v : World) → (g : Going n w) → Undecided g.state → Next w (advance r) v
      → MatchResult r (λ _. Going (suc n) v) (Stuck start history from v)
  goes_on n w v g o f = let z = f start (g.made ++ history) g.state g.led g.keeps in one_more n g.state z.0 v (last_step z.1) z.1 z.2 o g.advanced g.far

  -- the verdict is settled
  pub decided : (n : ℕ) (w : World) (a : Settled) → Going n w → SettledOn w.search (Some a) → Decided start history from w a
  decided n w a g f =
      let p = f g.state w.store g.keeps in
      record {
        model = p.0;
        made = g.made;
        advanced = subst (λ i. Advances from g.made (stand i w.store)) p.1 g.advanced;
        led = subst (λ i. Use start (g.made ++ history) (stand i w.store)) p.1 g.led;
        keeps = subst (λ i. Keeps i w) p.1 g.keeps;
        settled = p.2;
      }

  -- no search makes so many advances
  pub too_many : (n : ℕ) (w : World) → Going n w → 256 < n → ⊥
  too_many n w g l = by g.state g.led g.keeps g.far
    where
      by : (state : State) → Use start (g.made ++ history) (stand state w.store) → Keeps state w → n ≤ count state → ⊥
      by empty u k f = omega (arith, f, l)
      by (loaded m j) u k f =
          let few = (verdicts (system m) (closed m) j (come u).reached).few in
          let bound : 2 ^ m.circuit.registers ≤ 2 ^ 8 = pow_mono (valid_of m j w.store w.search k).circuit.few_registers in
          omega (arith, few, bound, f, l)
