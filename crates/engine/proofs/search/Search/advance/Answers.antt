use Rattle.std.proofs.Common.{◌≡◌, length, refl, sym, subst, ◌∙◌, arith}
use Rattle.uses.specs.declared.fault.Fault.TheVariants.{Making}
use Rattle.uses.specs.Calls.{advance}
use Rattle.engine.specs.Keeping.{searching, Next}
use Rattle.engine.proofs.Advances.{when_settled, when_many, when_full, when_done}
use Rattle.engine.proofs.Keepings.{handed_on}
use Rattle.engine.proofs.search.Search.advance.Goals as goal

pub returns-in_default : goal.returns-in_default
returns-in_default g c = record { next = when_settled (searching (g.S.Store.shows c.args.store.now) c.args.self.now) c.args.self.now refl c.in_default.not-Open; refused = λ _. refl }

pub returns-then-len-eq-MOST_ADVANCES-clause-next : goal.returns-then-len-eq-MOST_ADVANCES-clause-next
returns-then-len-eq-MOST_ADVANCES-clause-next g c =
    let e : length c.args.self.now.earlier.items ≡ 256 = sym c.len.ensures.items ∙ c.if-len-eq-MOST_ADVANCES.true in
    when_many (searching (g.S.Store.shows c.args.store.now) c.args.self.now) c.args.self.now refl (omega arith)

pub returns-in_err-stage-clause-next : goal.returns-in_err-stage-clause-next
returns-in_err-stage-clause-next g c =
    let w = searching (g.S.Store.shows c.args.store.now) c.args.self.now in
    subst (λ r. Next w (advance r) (searching (g.S.Store.shows c.step.new.store) c.args.self.now)) (sym (handed_on c.from_residual.result (Making c.in_err-stage.field-0.0) c.from_residual.ensures.1))
    (when_full w c.args.self.now refl c.in-Open.is (g.S.Store.shows c.step.new.store) c.in_err-stage.field-0.0 c.in_err-stage.ensures)

pub returns-clause-next : goal.returns-clause-next
returns-clause-next g c = when_done (searching (g.S.Store.shows c.args.store.now) c.args.self.now) c.args.self.now refl c.in-Open.is (g.S.Store.shows c.step.new.store) c.in_ok-stage.stage _
    refl (rw c.unwrap.ensures at c.push.ensures.added) refl c.in_ok-stage.ensures
