use Rattle.std.proofs.Common.{◌+◌, arith}
use Rattle.std.proofs.lemmas.Bool.{and_from}
use Rattle.making.proofs.Steps.{or_answers, runs_of, ends_after, ends_before, gives_last, broke, grown_none, grown_more, reply_grown}
use Rattle.making.proofs.Telling.{tells_reply, no_variable, told, leaves, finishes}
use Rattle.making.proofs.inputs.exists.Goals as goal

pub returns-in_err-low : goal.returns-in_err-low
returns-in_err-low g c = record {
  gives = λ p l f ma li.
      broke c.from_residual.result c.in_err-low.field-0.0 c.from_residual.ensures.1
      (ends_before _ (c.in_err-low.ensures.gives p l f ma li));
  grown = c.in_err-low.ensures.grown;
  tells = leaves c.from_residual.result c.in_err-low.field-0.0 c.from_residual.ensures.1 grown_none (λ h. h) (omega arith) c.in_err-low.ensures.tells;
}

pub returns : goal.returns
returns g c = record {
  gives = λ p l f ma li.
      let so = runs_of (c.in_ok-low.ensures.gives p l f ma li) in
      ends_after so.0 (gives_last c.or.ensures.lawful c.or.ensures.after _ (or_answers c.or.ensures so.1.0 so.1.1));
  grown = grown_more c.in_ok-low.ensures.grown (reply_grown c.or.ensures);
  tells =
      let halves = told c.in_ok-low.ensures.tells in
      finishes c.or.result c.in_ok-low.ensures.grown (λ h. and_from _ _ halves.0 halves.1) (omega arith)
      (λ b h. h.1) (tells_reply (c.args.x + 1) c.or.ensures no_variable);
}
