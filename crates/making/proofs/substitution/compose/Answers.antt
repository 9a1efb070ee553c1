use Rattle.std.proofs.Common.{◌+◌, refl, arith}
use Rattle.std.proofs.lemmas.Bool.{and_from}
use Rattle.making.proofs.Steps.{and_answers, or_answers, kept, fresh, runs_grown, runs_of, ends_here, ends_later, ends_after, ends_before, gives_last, broke, grown_none, grown_more, reply_grown}
use Rattle.making.proofs.Telling.{tells_reply, no_variable, told, leaves, finishes, refused_by, accepted, held_pair}
use Rattle.making.proofs.substitution.compose.Goals as goal

pub returns-in_err-low : goal.returns-in_err-low
returns-in_err-low g c = record {
  gives = λ p l f h ma mb li.
      broke c.from_residual.result c.in_err-low.field-0.0 c.from_residual.ensures.1
      (ends_before _ (c.in_err-low.ensures.gives p l f ma li));
  grown = c.in_err-low.ensures.grown;
  tells = leaves c.from_residual.result c.in_err-low.field-0.0 c.from_residual.ensures.1 grown_none (λ h. h.0) (omega arith) c.in_err-low.ensures.tells;
  refuses = λ h. refused_by c.from_residual.result c.in_err-low.field-0.0 refl c.from_residual.ensures.1 (c.in_err-low.ensures.refuses h);
}

pub returns-in_err-over : goal.returns-in_err-over
returns-in_err-over g c = record {
  gives = λ p l f h ma mb li.
      let so = runs_of (c.in_ok-low.ensures.gives p l f ma li) in
      broke c.from_residual-in_err-over.result c.in_err-over.field-0.0 c.from_residual-in_err-over.ensures.1
      (ends_after so.0 (ends_here c.in_err-over.ensures.lawful _ (and_answers c.in_err-over.ensures (kept (runs_grown so.0) mb.function) so.1.1)));
  grown = grown_more c.in_ok-low.ensures.grown (reply_grown c.in_err-over.ensures);
  tells =
      let w = c.in_ok-low.ensures.grown in
      let halves = told c.in_ok-low.ensures.tells in
      leaves c.from_residual-in_err-over.result c.in_err-over.field-0.0 c.from_residual-in_err-over.ensures.1 w
      (λ h. and_from _ _ (held_pair w h.1).function halves.1) (omega arith)
      (tells_reply (c.args.x + 1) c.in_err-over.ensures no_variable);
  refuses = λ h. accepted _ refl (c.in_ok-low.ensures.refuses h);
}

pub returns-in_err-under : goal.returns-in_err-under
returns-in_err-under g c = record {
  gives = λ p l f h ma mb li.
      let so = runs_of (c.in_ok-low.ensures.gives p l f ma li) in
      let m3 = and_answers c.in_ok-over.ensures (kept (runs_grown so.0) mb.function) so.1.1 in
      broke c.from_residual-in_err-under.result c.in_err-under.field-0.0 c.from_residual-in_err-under.ensures.1
      (ends_after so.0 (ends_later c.in_ok-over.ensures.lawful m3 c.in_ok-over.ensures.after
      (ends_here c.in_err-under.ensures.lawful _ (and_answers c.in_err-under.ensures (kept m3.grown (kept (runs_grown so.0) mb.negation)) (kept m3.grown so.1.0)))));
  grown = grown_more c.in_ok-low.ensures.grown (grown_more (reply_grown c.in_ok-over.ensures) (reply_grown c.in_err-under.ensures));
  tells =
      let v = reply_grown c.in_ok-over.ensures in
      let w = grown_more c.in_ok-low.ensures.grown v in
      let halves = told c.in_ok-low.ensures.tells in
      leaves c.from_residual-in_err-under.result c.in_err-under.field-0.0 c.from_residual-in_err-under.ensures.1 w
      (λ h. and_from _ _ (held_pair w h.1).negation (v.kept _ halves.0).0) (omega arith)
      (tells_reply (c.args.x + 1) c.in_err-under.ensures no_variable);
  refuses = λ h. accepted _ refl (c.in_ok-low.ensures.refuses h);
}

pub returns : goal.returns
returns g c = record {
  gives = λ p l f h ma mb li.
      let so = runs_of (c.in_ok-low.ensures.gives p l f ma li) in
      let m3 = and_answers c.in_ok-over.ensures (kept (runs_grown so.0) mb.function) so.1.1 in
      let m4 = and_answers c.in_ok-under.ensures (kept m3.grown (kept (runs_grown so.0) mb.negation)) (kept m3.grown so.1.0) in
      ends_after so.0 (ends_later c.in_ok-over.ensures.lawful m3 c.in_ok-over.ensures.after (ends_later c.in_ok-under.ensures.lawful m4 c.in_ok-under.ensures.after
      (gives_last c.or.ensures.lawful c.or.ensures.after _ (or_answers c.or.ensures (kept m4.grown (fresh m3)) (fresh m4)))));
  grown = grown_more c.in_ok-low.ensures.grown (grown_more (reply_grown c.in_ok-over.ensures) (grown_more (reply_grown c.in_ok-under.ensures) (reply_grown c.or.ensures)));
  tells =
      let over = told (tells_reply (c.args.x + 1) c.in_ok-over.ensures no_variable) in
      let under = told (tells_reply (c.args.x + 1) c.in_ok-under.ensures no_variable) in
      let v = grown_more c.in_ok-low.ensures.grown (grown_more (reply_grown c.in_ok-over.ensures) (reply_grown c.in_ok-under.ensures)) in
      finishes c.or.result v (λ h. and_from _ _ ((reply_grown c.in_ok-under.ensures).kept _ over.1).0 under.1) (omega arith)
      (λ b h. h.1) (tells_reply (c.args.x + 1) c.or.ensures no_variable);
  refuses = λ h. accepted _ refl (c.in_ok-low.ensures.refuses h);
}
