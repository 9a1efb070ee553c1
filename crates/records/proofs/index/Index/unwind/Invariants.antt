use Rattle.std.proofs.Common.{ℕ, ◌<◌, ◌≤◌, length}
use Rattle.records.specs.Chains.{Chained}
use Rattle.records.proofs.index.Index.unwind.Given as goal

abbrev pub invariant-loop-at : goal.invariant-loop-at
invariant-loop-at l = (l.at ≤ length l.self.links.now) × (l.at ≤ l.head)
    × ((k : ℕ) → k < l.kept → k < length l.self.links.now → Chained l.self.links.now l.head k → Chained l.self.links.now l.at k)

abbrev pub decreases-loop-at : goal.decreases-loop-at
decreases-loop-at l = l.at
