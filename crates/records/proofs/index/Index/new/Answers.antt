use Rattle.std.proofs.Common.{ℕ, replicate, ⊎_elim, arith}
use Rattle.std.proofs.lemmas.List.{get_or-replicate, get_or_past, length-replicate}
use Rattle.std.proofs.lemmas.Bool.{cases_lt}
use Rattle.records.specs.Chains.{buckets}
use Rattle.records.proofs.index.Index.new.Goals as goal

pub returns : goal.returns
returns c b = ⊎_elim
    (λ h. get_or-replicate buckets b 0 0 h)
    (λ h. get_or_past (replicate {A = ℕ} buckets 0) b 0 (omega (arith, length-replicate {A = ℕ} buckets 0)))
    (cases_lt b buckets)
