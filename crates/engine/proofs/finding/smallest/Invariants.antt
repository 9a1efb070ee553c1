use Rattle.std.proofs.Common.{◌≡◌, ◌<◌, ℕ, Bool, false}
use Rattle.engine.specs.Questions.{Telling}
use Rattle.engine.proofs.finding.smallest.Given as goal

-- no smaller one was found
abbrev pub invariant-loop-x : goal.invariant-loop-x
invariant-loop-x g l =
    (g.S.Store.shows l.store ≡ g.S.Store.shows l.initial.store)
    × ((f : ℕ → Bool) → Telling g.S.Store.shows (goal.F-post g l.holds) (g.S.Store.shows l.initial.store) l.count f → (x : ℕ) → x < l.x → f x ≡ false)
