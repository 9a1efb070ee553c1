use Rattle.std.proofs.Common.{◌≡◌, ℕ, ◌<◌, ◌≤◌, length, get_or}
use Rattle.records.specs.Chains.{buckets, Unwound}
use Rattle.records.proofs.index.Index.truncate.Given as goal

abbrev pub invariant-loop-b : goal.invariant-loop-b
invariant-loop-b l = (length l.self.heads ≡ buckets) × (l.self.links.now ≡ l.initial.self.links.now)
    × ((j : ℕ) → j < l.b → Unwound l.initial.self.links.now (get_or l.initial.self.heads j 0) l.kept (get_or l.self.heads j 0))
    × ((j : ℕ) → l.b ≤ j → get_or l.self.heads j 0 ≡ get_or l.initial.self.heads j 0)
