use Rattle.std.proofs.Common.{◌≡◌, ◌+◌, ◌-◌, ◌*◌, ◌^◌, ◌<◌}
use Rattle.store.specs.Fun.{Fn}
use Rattle.table.specs.Tables.{packed, Computes}
use Rattle.table.proofs.truths.byte.Given as goal

-- the bits from k on are there
abbrev pub invariant-loop-k : goal.invariant-loop-k
invariant-loop-k g l = record {
  low : l.byte < 2 ^ (8 - l.k);
  made : (f : Fn) → Computes 1024 (goal.F-post g l.f) f → l.byte ≡ packed (8 - l.k) (8 * l.j + l.k) f;
}
