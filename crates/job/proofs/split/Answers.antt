use Rattle.std.proofs.Common.{◌≡◌, ◌+◌, ◌*◌, length, rules, arith}
use Rattle.std.specs.List.{IsSplitAt}
use Rattle.circuit.specs.Files.{number_at, count}
use Rattle.job.proofs.Splits.{cut}
use Rattle.job.proofs.Joined.{framed_exactly}
use Rattle.job.proofs.split.Goals as goal

pub returns : goal.returns
returns c =
    let h : IsSplitAt c.args.job.now 4 c.in_ok-lengths.lengths.now c.in_ok-lengths.parts.now = search rules in
    let k : IsSplitAt c.in_ok-lengths.parts.now (6 + 4 * count c.in_ok-lengths.parts.now) c.in_ok-circuit.circuit.now c.in_ok-circuit.texts.now = search rules in
    let l : IsSplitAt c.in_ok-circuit.texts.now (number_at c.in_ok-lengths.lengths.now 0) c.in_ok-assumption.assumption.now c.in_ok-assumption.property.now = search rules in
    let e : length c.in_ok-assumption.property.now ≡ number_at c.in_ok-lengths.lengths.now 1 = search rules in
    let answer = cut c.args.job.now _ _ _ _ _ _ h k l e in
    record { parts = framed_exactly c.args.job.now _ answer (λ i. omega (arith, c.type_inv.job i)); answer = answer }
