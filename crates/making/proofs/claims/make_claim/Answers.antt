use Rattle.std.proofs.Common.{◌≡◌, [], ◌∷◌, length, drop, sym, ap, ◌∙◌, subst, add-one, arith, drop-cons}
use lib.Seq.{drop-length}
use Rattle.circuit.specs.Netlists.{lines}
use Rattle.circuit.specs.Reading.{netlist}
use Rattle.runs.specs.Valuations.{line_fn, claim_fn}
use Rattle.making.specs.Models.{alone}
use Rattle.making.specs.Pieces.{operators_list}
use Rattle.making.specs.Stacks.{Going}
use Rattle.making.specs.Ends.{made}
use Rattle.making.proofs.Steps.{broke, runs_grown}
use Rattle.making.proofs.Loops.{numbered_kept}
use Rattle.making.proofs.Walking.{going_left, going_start, going_next, going_stop, going_end}
use Rattle.making.proofs.claims.make_claim.Goals as goal

pub loop-code-init : goal.loop-code-init
loop-code-init g c =
    let m = alone (netlist c.args.lines.now.circuit.now) in
    let s = g.S.Store.shows c.args.store.now in
    let cs = c.codes-code-items.result.now in (
      omega (arith, ap length c.new-stack.ensures),
      λ t e k l n.
          subst (λ st. Going m c.args.part s s st cs (operators_list m c.args.part t) (claim_fn m t ∷ [])) (sym c.new-stack.ensures) (going_start m c.args.part s cs t e k l),
    )

pub returns-in_err-number : goal.returns-in_err-number
returns-in_err-number g c t e k l n =
    let m = alone (netlist c.args.lines.now.circuit.now) in
    let v = c.loop-code.invariant.1 t (c.codes-code-items.ensures ∙ e) k l n in
    let v' = going_left (drop-cons _ c.loop-code.code-index _ c.loop-code-test.true) v in
    broke c.from_residual.result c.in_err-number.field-0.0 c.from_residual.ensures.1
    (going_stop m _ _ _ _ _ c.act_on-made.new.stack.items _ _ _ _ v' c.act_on-made.result c.place_at.ensures
    (λ q l fs gs k d a. c.act_on-made.ensures.acts q l fs gs k (numbered_kept c.args.lines.now.numbers.items (line_fn m) (lines m.circuit) (runs_grown v.runs) n) d a)
    c.in_err-number.was)

pub loop-code-preserved : goal.loop-code-preserved
loop-code-preserved g c = (
  omega (arith, c.push.ensures.len, c.act_on-made.ensures.lower, c.loop-code.invariant.0),
  λ t e k l n.
      let m = alone (netlist c.args.lines.now.circuit.now) in
      let v = c.loop-code.invariant.1 t e k l n in
      let v' = going_left (drop-cons _ c.loop-code.code-index _ c.loop-code-test.true) v in
      going_left (ap (λ i. drop i c.codes-code-items.result.now) (sym (add-one c.loop-code.code-index)))
      (going_next m _ _ _ _ _ c.act_on-made.new.stack.items _ _ _ _ v' c.act_on-made.result c.place_at.ensures
      (λ q l fs gs k d a. c.act_on-made.ensures.acts q l fs gs k (numbered_kept c.args.lines.now.numbers.items (line_fn m) (lines m.circuit) (runs_grown v.runs) n) d a)
      c.in_ok-number.was _ c.push.ensures.items),
)

pub returns : goal.returns
returns g c t e k l n =
    let cs = c.codes-code-items.result.now in
    let q : c.loop-code.code-index ≡ length cs = omega arith in
    let v = going_left (ap (λ i. drop i cs) q ∙ drop-length cs) (c.loop-code.invariant.1 t (c.codes-code-items.ensures ∙ e) k l n) in
    let r = going_end _ _ _ _ _ _ _ _ _ v c.pop.ensures.top in
    made r.0 r.1
