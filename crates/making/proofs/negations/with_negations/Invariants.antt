use Rattle.std.proofs.Common.{◌≡◌, ℕ, length}
use Rattle.store.specs.Fun.{Fn}
use Rattle.store.specs.Meaning.{Lawful}
use Rattle.description.specs.declared.part.Part.{Part}
use Rattle.making.specs.Making.{Runs, Numbered, Paired}
use Rattle.making.specs.Pieces.{negations_list}
use Rattle.making.proofs.negations.with_negations.Given as goal

abbrev pub invariant-loop-function : goal.invariant-loop-function
invariant-loop-function g l = (length l.pairs.items ≡ l.function-index) × ((p : Part) (q : ℕ) (f : ℕ → Fn)
    → Lawful (g.S.Store.shows l.initial.store)
    → Numbered (g.S.Store.shows l.initial.store) l.functions f (length l.functions)
    → Runs (g.S.Store.shows l.initial.store) (negations_list p q f l.function-index) (g.S.Store.shows l.store)
    × Lawful (g.S.Store.shows l.store)
    × Paired (g.S.Store.shows l.store) l.pairs.items f l.function-index)
