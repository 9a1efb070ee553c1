use Rattle.std.proofs.Common.{◌≡◌, ◌^◌, ◌<◌, ◌≢◌, rules, sym, refl, ap, subst, arith}
use borrow.Author.Tests.{tests}
use Rattle.std.proofs.lemmas.Iterator.{cases_from_all, YieldsList-from_range}
use Rattle.std.proofs.lemmas.Nat.{one_shl, pow_pos}
use Rattle.table.specs.Tables.{Constant}
use Rattle.table.proofs.Tables.{constant_told}
use Rattle.table.proofs.truths.constant.Goals as goal

pub returns : goal.returns
returns g c f h =
    let n = c.args.n in
    let first = c.f-first.result in
    subst (Constant n f) (sym c.then_some.ensures)
    (constant_told n f first c.all.result (h 0 first (pow_pos n) c.f-first.ensures)
    (cases_from_all _ _ _ (λ w. w < 2 ^ n → f w ≡ first) (λ w. w < 2 ^ n → f w ≢ first) c.all.ensures.ran
    (YieldsList-from_range 1 (2 ^ n) _ (ap (λ e. record { start = 1; end = e }) (one_shl n 32 (omega (arith, c.requires.few)))) refl)
    (λ x q k. search (rules, tests)) (λ x q k. search (rules, tests))))
