use Rattle.std.proofs.Common.{◌≡◌, ℕ, ◌+◌, ◌-◌, ◌≤◌, true}
use Rattle.store.specs.Fun.{Fn}
use Rattle.store.specs.Meaning.{Grown}
use Rattle.description.specs.declared.part.Part.{Part}
use Rattle.runs.specs.Functions.{quantified}
use Rattle.making.specs.Making.{Runs, Means}
use Rattle.making.specs.Pieces.{quantified_list}
use Rattle.making.proofs.inputs.exists_all.Given as goal

abbrev pub invariant-loop-x : goal.invariant-loop-x
invariant-loop-x g l = ((p : Part) (q : ℕ) (f : Fn)
    → Means (g.S.Store.shows l.initial.store) l.a f
    → l.first + l.m ≤ (g.S.Store.shows l.initial.store).vars
    → Runs (g.S.Store.shows l.initial.store) (quantified_list p q l.first f (l.x - l.first)) (g.S.Store.shows l.store)
    × Means (g.S.Store.shows l.store) l.f (quantified l.first f (l.x - l.first)))
    × Grown (g.S.Store.shows l.initial.store) (g.S.Store.shows l.store)
    × ((g.S.Store.shows l.initial.store).held l.a ≡ true → (g.S.Store.shows l.store).held l.f ≡ true)
