use Rattle.std.proofs.Common.{◌+◌, ◌<◌, true, false, sym, refl, subst, arith}
use Rattle.making.specs.Making.{ended, went}
use Rattle.making.specs.Ends.{made}
use Rattle.making.specs.Promises.{answered}
use Rattle.making.proofs.Steps.{fix_answers, kept, fresh, ends_here, ends_later, broke, grown_none, grown_more, reply_grown}
use Rattle.making.proofs.Telling.{tells_reply, below, told, leaves, refused_by, accepted}
use Rattle.making.proofs.substitution.cofactors.Goals as goal

pub returns-in_err-low : goal.returns-in_err-low
returns-in_err-low g c = record {
  gives = λ p l f ma li.
      broke c.from_residual.result c.in_err-low.field-0.0 c.from_residual.ensures.1
      (ends_here c.in_err-low.ensures.lawful _ (fix_answers false c.in_err-low.ensures ma li));
  grown = reply_grown c.in_err-low.ensures;
  tells = leaves c.from_residual.result c.in_err-low.field-0.0 c.from_residual.ensures.1 grown_none (λ h. h) (omega arith)
      (tells_reply (c.args.x + 1) c.in_err-low.ensures (below c.args.x _));
  refuses = λ h. refused_by c.from_residual.result c.in_err-low.field-0.0 refl c.from_residual.ensures.1 (c.in_err-low.ensures.number h);
}

pub returns-in_err-high : goal.returns-in_err-high
returns-in_err-high g c = record {
  gives = λ p l f ma li.
      let m1 = fix_answers false c.in_ok-low.ensures ma li in
      broke c.from_residual-in_err-high.result c.in_err-high.field-0.0 c.from_residual-in_err-high.ensures.1
      (ends_later c.in_ok-low.ensures.lawful m1 c.in_ok-low.ensures.after
      (ends_here c.in_err-high.ensures.lawful _ (fix_answers true c.in_err-high.ensures (kept m1.grown ma) (subst (λ n. c.args.x < n) (sym m1.grown.vars) li))));
  grown = grown_more (reply_grown c.in_ok-low.ensures) (reply_grown c.in_err-high.ensures);
  tells =
      let w = reply_grown c.in_ok-low.ensures in
      leaves c.from_residual-in_err-high.result c.in_err-high.field-0.0 c.from_residual-in_err-high.ensures.1 w (λ h. (w.kept c.args.a h).0) (omega arith)
      (tells_reply (c.args.x + 1) c.in_err-high.ensures (below c.args.x _));
  refuses = λ h. accepted _ refl (c.in_ok-low.ensures.number h);
}

pub returns : goal.returns
returns g c = record {
  gives = λ p l f ma li.
      let m1 = fix_answers false c.in_ok-low.ensures ma li in
      let m2 = fix_answers true c.in_ok-high.ensures (kept m1.grown ma) (subst (λ n. c.args.x < n) (sym m1.grown.vars) li) in
      made (went _ c.in_ok-low.ensures.lawful m1 c.in_ok-low.ensures.after (went _ c.in_ok-high.ensures.lawful m2 c.in_ok-high.ensures.after ended)) (kept m2.grown (fresh m1), fresh m2);
  grown = grown_more (reply_grown c.in_ok-low.ensures) (reply_grown c.in_ok-high.ensures);
  tells =
      let low = told (tells_reply (c.args.x + 1) c.in_ok-low.ensures (below c.args.x _)) in
      let high = told (tells_reply (c.args.x + 1) c.in_ok-high.ensures (below c.args.x _)) in
      answered (((reply_grown c.in_ok-high.ensures).kept _ low.1).0, high.1);
  refuses = λ h. accepted _ refl (c.in_ok-low.ensures.number h);
}
