use Rattle.std.proofs.Common.{ℕ, ◌*◌, ap, rules, arith}
use Rattle.std.proofs.lemmas.List.FromFn.{fill_by_all}
use Rattle.table.specs.Tables.{packed, packed_truths}
use Rattle.table.proofs.Tables.{from_fn_at}
use Rattle.table.proofs.truths.Truths.packed.Goals as goal

pub returns : goal.returns
unfolding packed_truths
returns g c f h z =
    let byte = λ (j : ℕ). packed 8 (8 * j) f in
    ap (λ b. record { bytes = b })
    (fill_by_all byte c.from_fn.result 128 0 c.from_fn.ensures.items.long
    (λ k low. from_fn_at _ _ byte (λ i y q k. search rules) c.from_fn.result 0 128 0 c.from_fn.ensures.items.each k (omega arith) low))
