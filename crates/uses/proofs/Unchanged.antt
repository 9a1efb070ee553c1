-- What a call leaves as it was.
use Rattle.std.proofs.Common.{◌≡◌, ℕ, false, List, Err, refl}
use Rattle.uses.specs.declared.fault.Fault.{Fault}
use Rattle.uses.specs.Calls.{Call, trace, Stand, is_load, is_advance, is_full}
use Rattle.uses.specs.Uses.{Step, load_twice, load_wrong, load_full, loads, advance_empty, advance_settled}
use Rattle.uses.specs.Uses.{advance_full, advances, asks, trace_empty, trace_verdict, trace_short, traces}
use Rattle.uses.specs.Uses.{inside_empty, inside_verdict, inside_state, insides}
use Rattle.uses.proofs.Told.{never}

-- the session, and the store but for a refusal for room
abbrev Same : Stand → Call → Stand → Type 0
Same w c v = (v.state ≡ w.state) × (is_full c ≡ false → v.store ≡ w.store)

pub same_but :
    {w v : Stand} {c : Call}
    → Step w c v
    → is_load c ≡ false
    → is_advance c ≡ false
    → Same w c v
same_but load_twice l a = (refl, λ f. refl)
same_but (load_wrong k) l a = (refl, λ f. refl)
same_but (load_full k q) l a = (refl, λ f. never (cc))
same_but (loads k r) l a = never (cc)
same_but advance_empty l a = (refl, λ f. refl)
same_but (advance_settled n) l a = (refl, λ f. refl)
same_but (advance_full o q) l a = (refl, λ f. never (cc))
same_but (advances o r) l a = never (cc)
same_but asks l a = (refl, λ f. refl)
same_but trace_empty l a = (refl, λ f. refl)
same_but (trace_verdict n) l a = (refl, λ f. refl)
same_but (trace_short o n) l a = (refl, λ f. refl)
same_but (traces q v o lx ly d) l a = (refl, λ f. refl)
same_but inside_empty l a = (refl, λ f. refl)
same_but (inside_verdict n) l a = (refl, λ f. refl)
same_but (inside_state o l') l a = (refl, λ f. refl)
same_but (insides o l') l a = (refl, λ f. refl)

pub same_arrays :
    {w v : Stand} {x y x' y' : List ℕ} {e : Fault}
    → Step w (trace x y x' y' (Err e)) v
    → (x' ≡ x) × (y' ≡ y)
same_arrays trace_empty = (refl, refl)
same_arrays (trace_verdict n) = (refl, refl)
same_arrays (trace_short o n) = (refl, refl)
