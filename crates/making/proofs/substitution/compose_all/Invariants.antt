use Rattle.std.proofs.Common.{◌≡◌, ℕ, ◌+◌, ◌*◌, ◌<◌, true, false, length}
use Rattle.store.specs.Fun.{Fn}
use Rattle.store.specs.Meaning.{Grown}
use Rattle.description.specs.declared.part.Part.{Part}
use Rattle.runs.specs.Functions.{composed_all}
use Rattle.making.specs.Making.{Runs, Means, Paired}
use Rattle.making.specs.Pieces.{composed_all_list}
use Rattle.making.proofs.substitution.compose_all.Given as goal

abbrev pub invariant-loop-i : goal.invariant-loop-i
invariant-loop-i g l = ((p : Part) (q : ℕ) (x : ℕ → ℕ) (f : Fn) (h : ℕ → Fn)
    → ((i : ℕ) → i < length l.by → l.first + 2 * i ≡ x i)
    → Means (g.S.Store.shows l.initial.store) l.a f
    → Paired (g.S.Store.shows l.initial.store) l.by h (length l.by)
    → ((i : ℕ) → i < length l.by → x i < (g.S.Store.shows l.initial.store).vars)
    → Runs (g.S.Store.shows l.initial.store) (composed_all_list p q x h f l.i) (g.S.Store.shows l.store)
    × Means (g.S.Store.shows l.store) l.f (composed_all x h f l.i))
    × Grown (g.S.Store.shows l.initial.store) (g.S.Store.shows l.store)
    × ((g.S.Store.shows l.initial.store).held l.a ≡ true → (g.S.Store.shows l.store).held l.f ≡ true)
    × ((g.S.Store.shows l.initial.store).held l.a ≡ false → (g.S.Store.shows l.store ≡ g.S.Store.shows l.initial.store) × (l.f ≡ l.a))
