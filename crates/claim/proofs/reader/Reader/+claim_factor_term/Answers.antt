use Rattle.std.proofs.Common.{◌<◌, [], ◌∷◌, ◌++◌, length, sym, ap, ◌∙◌, arith, length-append}
use Rattle.claim.specs.Reading.{ahead}
use Rattle.claim.proofs.Lengths.{post_short}
use Rattle.claim.proofs.Steps.{handed_on, reach_trans, fewer, room_left, by_token, as_term, as_claim, stop_term, stop_claim, more_and, more_or, stop_and, stop_or, stop_not, read_not, stop_open, closing, deep_not, deep_open, no_factor, read_constant}
use Rattle.claim.proofs.reader.Reader.+claim_factor_term.Goals as goal

pub claim-returns-in_err-term : goal.claim-returns-in_err-term
claim-returns-in_err-term t c =
    handed_on _ c.from_residual.ensures.1 (stop_claim c.in_err-term.ensures)

pub claim-loop-self-init : goal.claim-loop-self-init
claim-loop-self-init t c = (c.in_ok-term.ensures.follow, as_claim c.in_ok-term.ensures.sofar)

pub claim-term-requires-in-Or : goal.claim-term-requires-in-Or
claim-term-requires-in-Or t c =
    let s = c.loop-self.invariant.1 in
    let some : 0 < length (s.ts ++ ahead c.loop-self.self ∷ []) = simp length-append (omega arith) in
    (omega (arith, fewer (reach_trans s.reach c.pass.ensures) some, c.decreases), tt)

pub claim-returns-in_err-term-2 : goal.claim-returns-in_err-term-2
claim-returns-in_err-term-2 t c =
    let s = c.loop-self.invariant.1 in
    handed_on _ c.from_residual-in_err-term-2.ensures.1 (stop_or s (by_token c.pass.ensures c.in-Or.is) c.in_err-term-2.ensures)

pub claim-write-requires-clause-room : goal.claim-write-requires-clause-room
claim-write-requires-clause-room t c =
    let h = c.in_ok-term-2.ensures.sofar in
    room_left (reach_trans c.pass.ensures h.reach) (omega (arith, post_short h.derived))

pub claim-loop-self-preserved : goal.claim-loop-self-preserved
claim-loop-self-preserved t c =
    let h = c.in_ok-term-2.ensures in
    let w = c.write.ensures.wrote in (
      λ e. h.follow (sym (ap (λ x. x.token) c.write.ensures.ahead) ∙ e),
      more_or c.loop-self.invariant.1 (by_token c.pass.ensures c.in-Or.is) h.sofar w,
    )

pub claim-returns : goal.claim-returns
claim-returns t c = record {
  sofar = c.loop-self.invariant.1;
  follow = (c.loop-self.invariant.0, c.in_default.not-Or);
}

pub factor-returns-in_err-inner-in-Not : goal.factor-returns-in_err-inner-in-Not
factor-returns-in_err-inner-in-Not t c =
    let h = c.in_err-inner-in-Not.ensures in
    handed_on _ c.from_residual.ensures.1 (rw h.0 (deep_not c.args.self.now c.in-Not.is h.1))

pub factor-returns-in_err-factor-in-Not : goal.factor-returns-in_err-factor-in-Not
factor-returns-in_err-factor-in-Not t c =
    let h = c.in_ok-inner-in-Not in
    handed_on _ c.from_residual-in_err-factor-in-Not.ensures.1 (stop_not h.ensures h.inner.few (by_token c.pass.ensures c.in-Not.is) c.in_err-factor-in-Not.ensures)

pub factor-write-requires-clause-room : goal.factor-write-requires-clause-room
factor-write-requires-clause-room t c =
    let h = c.in_ok-factor-in-Not.ensures.sofar in
    room_left (reach_trans c.pass.ensures h.reach) (omega (arith, post_short h.derived))

pub factor-returns-in_err-inner-in-Open : goal.factor-returns-in_err-inner-in-Open
factor-returns-in_err-inner-in-Open t c =
    let h = c.in_err-inner-in-Open.ensures in
    handed_on _ c.from_residual-in_err-inner-in-Open.ensures.1 (rw h.0 (deep_open c.args.self.now c.in-Open.is h.1))

pub factor-returns-in_err-claim-in-Open : goal.factor-returns-in_err-claim-in-Open
factor-returns-in_err-claim-in-Open t c =
    let h = c.in_ok-inner-in-Open in
    handed_on _ c.from_residual-in_err-claim-in-Open.ensures.1 (stop_open h.ensures h.inner.few (by_token c.pass-in-Open.ensures c.in-Open.is) c.in_err-claim-in-Open.ensures)

pub factor-returns-in_ok-factor-in-Not : goal.factor-returns-in_ok-factor-in-Not
factor-returns-in_ok-factor-in-Not t c =
    let h = c.in_ok-inner-in-Not in
    record { sofar = read_not h.ensures h.inner.few (by_token c.pass.ensures c.in-Not.is) c.in_ok-factor-in-Not.ensures.sofar c.write.ensures.wrote; follow = tt }

pub factor-returns-in_ok-claim-in-Open : goal.factor-returns-in_ok-claim-in-Open
factor-returns-in_ok-claim-in-Open t c =
    let h = c.in_ok-inner-in-Open in
    closing c.args.depth.opened c.close.new.self h.ensures h.inner.few (by_token c.pass-in-Open.ensures c.in-Open.is) c.in_ok-claim-in-Open.ensures c.close.result c.close.ensures

pub factor-returns-in-Constant : goal.factor-returns-in-Constant
factor-returns-in-Constant t c = read_constant (by_token c.atom.ensures c.in-Constant.is)

pub factor-returns-in_default : goal.factor-returns-in_default
factor-returns-in_default t c = no_factor c.args.self.now c.in_default.not-Not c.in_default.not-Open c.in_default.not-Constant c.in_default.not-Name

pub term-returns-in_err-factor : goal.term-returns-in_err-factor
term-returns-in_err-factor t c =
    handed_on _ c.from_residual.ensures.1 (stop_term c.in_err-factor.ensures)

pub term-loop-self-init : goal.term-loop-self-init
term-loop-self-init t c = as_term c.in_ok-factor.ensures.sofar

pub term-factor-requires-in-And : goal.term-factor-requires-in-And
term-factor-requires-in-And t c =
    let s = c.loop-self.invariant in
    let some : 0 < length (s.ts ++ ahead c.loop-self.self ∷ []) = simp length-append (omega arith) in
    (omega (arith, fewer (reach_trans s.reach c.pass.ensures) some, c.decreases), tt)

pub term-returns-in_err-factor-2 : goal.term-returns-in_err-factor-2
term-returns-in_err-factor-2 t c =
    let s = c.loop-self.invariant in
    handed_on _ c.from_residual-in_err-factor-2.ensures.1 (stop_and s (by_token c.pass.ensures c.in-And.is) c.in_err-factor-2.ensures)

pub term-write-requires-clause-room : goal.term-write-requires-clause-room
term-write-requires-clause-room t c =
    let h = c.in_ok-factor-2.ensures.sofar in
    room_left (reach_trans c.pass.ensures h.reach) (omega (arith, post_short h.derived))

pub term-loop-self-preserved : goal.term-loop-self-preserved
term-loop-self-preserved t c =
    let h = c.in_ok-factor-2.ensures.sofar in
    more_and c.loop-self.invariant (by_token c.pass.ensures c.in-And.is) h c.write.ensures.wrote

pub term-returns : goal.term-returns
term-returns t c = record {
  sofar = c.loop-self.invariant;
  follow = c.in_default.not-And;
}
