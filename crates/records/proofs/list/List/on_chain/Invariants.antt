use Rattle.std.proofs.Common.{ℕ, ◌<◌, ◌≤◌}
use Rattle.records.specs.Chains.{Chained}
use Rattle.records.specs.Contents.{entries}
use Rattle.records.specs.Orderly.{filed, Orderly}
use Rattle.records.specs.Placing.{Stands}
use Rattle.records.proofs.list.List.on_chain.Given as goal

-- where an equal entry stands is on what is left of the chain
abbrev pub invariant-loop-at : goal.invariant-loop-at
invariant-loop-at g l = (l.at ≤ filed (entries l.self) l.self.index)
    × (Orderly g.T.PartialEq.eq g.T.Entry.hashed (entries l.self) l.self.index → (k : ℕ) → k < filed (entries l.self) l.self.index
    → Stands g.T.PartialEq.eq (entries l.self) k l.item → Chained l.self.index.links.now l.at k)

abbrev pub decreases-loop-at : goal.decreases-loop-at
decreases-loop-at g l = l.at
