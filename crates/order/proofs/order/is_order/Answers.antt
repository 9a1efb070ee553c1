use Rattle.std.proofs.Common.{ℕ, ◌∙◌, ◌-◌, ◌&&◌, eqb, refl, sym, ap, length, rules, arith}
use Rattle.std.proofs.lemmas.Bool.{eq-eqb, ne_eqb}
use Rattle.std.proofs.lemmas.Nat.{one_shl}
use Rattle.store.specs.Fun.{each}
use Rattle.order.specs.Listing.{times, is_order}
use Rattle.order.proofs.Seen.{seen_all}
use Rattle.order.proofs.order.is_order.Goals as goal

pub returns-then-p-from : goal.returns-then-p-from
unfolding is_order
returns-then-p-from c =
    let p = c.args.p.now in
    let n = c.args.n in
    let long = c.if-p-from.true ∙ c.from.ensures in
    ap (λ k. eqb c.seen.result (k - 1)) (one_shl n 32 (omega (arith, c.requires)))
    ∙ seen_all n p c.seen.result c.requires long (search rules) c.seen.ensures
    ∙ sym (ap (λ b. b && each (λ (j : ℕ). eqb (times j p) 1) n) (eq-eqb (length p) n long))

pub returns-else-p-from : goal.returns-else-p-from
unfolding is_order
returns-else-p-from c =
    let no = c.if-p-from.false in
    rw (ne_eqb (length c.args.p.now) c.from.result no, ne_eqb (length c.args.p.now) c.args.n (λ e. no (e ∙ sym c.from.ensures))) refl
