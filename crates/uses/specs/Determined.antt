-- The rules fix what a call answers, hands back and leaves: by its arguments alone, unless the store had no room,
-- and else by what the store shows after it.
use Rattle.std.specs.Prelude.{◌≡◌, ℕ, Bool, false, List, Result}
use Rattle.store.specs.Meaning.{Shown}
use Rattle.uses.specs.declared.fault.Fault.{Fault}
use Rattle.uses.specs.declared.verdict.Verdict.{Verdict}
use Rattle.uses.specs.Calls.{Call, load, advance, ask, trace, inside, is_full, Stand, Event}
use Rattle.uses.specs.Uses.{Step, Use}

-- the same call with the same arguments
pub data Alike : Call → Call → Type 0 where
  both_load : (file a p : List ℕ) (r r' : Result Verdict Fault) → Alike (load file a p r) (load file a p r')
  both_advance : (r r' : Result Verdict Fault) → Alike (advance r) (advance r')
  both_ask : (r r' : Verdict) → Alike (ask r) (ask r')
  both_trace :
      (x y x₁ y₁ x₂ y₂ : List ℕ) (r r' : Result (Unit {0}) Fault)
      → Alike (trace x y x₁ y₁ r) (trace x y x₂ y₂ r')
  both_inside : (q : ℕ) (r r' : Result Bool Fault) → Alike (inside q r) (inside q r')

-- one answer, one pair of arrays and one state
abbrev pub One : Call → Call → Stand → Stand → Type 0
One call call' after after' = (call ≡ call') × (after.state ≡ after'.state)

-- of two steps from one stand, after any use, with the same call and arguments
pub record Determined : Type 0 where
  -- the store shows the same after both
  pub same_end :
      (start : Shown) (history : List Event) (before after after' : Stand) (call call' : Call)
      → Use start history before
      → Alike call call'
      → Step before call after
      → Step before call' after'
      → after.store ≡ after'.store
      → One call call' after after'
  -- whatever it shows, neither was refused for room
  pub any_end :
      (start : Shown) (history : List Event) (before after after' : Stand) (call call' : Call)
      → Use start history before
      → Alike call call'
      → Step before call after
      → Step before call' after'
      → is_full call ≡ false
      → is_full call' ≡ false
      → One call call' after after'
