use Rattle.std.proofs.Common.{◌≤◌, length, sym, ap, ◌∙◌, subst, arith}
use Rattle.store.specs.Fun.{bit}
use Rattle.circuit.specs.Reading.{netlist}
use Rattle.runs.specs.Functions.{copy}
use Rattle.making.specs.Models.{alone, width}
use Rattle.making.specs.Ends.{made}
use Rattle.making.proofs.Steps.{and_answers, gives_last, ends_here, kept, runs_grown, grown_more, runs_join, runs_of, broke, ends_after, ends_before, ends_refused}
use Rattle.making.proofs.Loops.{paired_kept}
use Rattle.making.proofs.Circuits.{valid_alone}
use Rattle.making.proofs.Starting.{pairs_made, init_means, nexts_mean, nexts_length, loaded}
use Rattle.making.proofs.start.make_start.Goals as goal

pub invariant_of-parts : goal.invariant_of-parts
invariant_of-parts g c =
    let n = netlist c.args.lines.now.circuit.now in
    let ok = valid_alone n c.args.lines.now.circuit.now.sound in
    record {
      inputs = omega (arith, c.inputs-m.ensures, ok.circuit.few_inputs);
      led = c.in_ok-nexts.ensures.each ∙ ap length c.nexts.ensures ∙ nexts_length (alone n) ok _ c.args.lines.now.whole
          ∙ sym (c.in_ok-copies.ensures.each ∙ ap length c.deref.ensures.0 ∙ c.args.lines.now.copied);
    }

pub returns-in_err-set : goal.returns-in_err-set
returns-in_err-set g c p l h q w ln cs mh mq =
    broke c.from_residual.result c.in_err-set.field-0.0 c.from_residual.ensures.1
    (ends_before _ (c.in_err-set.ensures p l h q w mh mq))

pub returns-in_err-met : goal.returns-in_err-met
returns-in_err-met g c p l h q w ln cs mh mq =
    let ok = valid_alone _ c.args.lines.now.circuit.now.sound in
    let r1 = runs_of (c.in_ok-set.ensures p l h q w mh mq) in
    broke c.from_residual-in_err-met.result c.in_err-met.field-0.0 c.from_residual-in_err-met.ensures.1
    (ends_after r1.0 (ends_here c.in_err-met.ensures.lawful _ (and_answers c.in_err-met.ensures r1.1 (kept (runs_grown r1.0) (init_means ok _ ln _ c.init-init.ensures)))))

pub returns-in_err-copies : goal.returns-in_err-copies
returns-in_err-copies g c p l h q w ln cs mh mq =
    let ok = valid_alone _ c.args.lines.now.circuit.now.sound in
    let r1 = runs_of (c.in_ok-set.ensures p l h q w mh mq) in
    let r2 = runs_of (gives_last c.in_ok-met.ensures.lawful c.in_ok-met.ensures.after _ (and_answers c.in_ok-met.ensures r1.1 (kept (runs_grown r1.0) (init_means ok _ ln _ c.init-init.ensures)))) in
    let g2 = grown_more (runs_grown r1.0) (runs_grown r2.0) in
    broke c.from_residual-in_err-copies.result c.in_err-copies.field-0.0 c.from_residual-in_err-copies.ensures.1
    (ends_after r1.0 (ends_after r2.0 (ends_before _ (pairs_made p l (λ i. bit (copy i)) _ _ _ _ g2 c.in_ok-met.ensures.after cs c.args.lines.now.copied c.deref.ensures.0 c.in_err-copies.ensures.negates))))

pub returns-in_err-nexts : goal.returns-in_err-nexts
returns-in_err-nexts g c p l h q w ln cs mh mq =
    let ok = valid_alone _ c.args.lines.now.circuit.now.sound in
    let r1 = runs_of (c.in_ok-set.ensures p l h q w mh mq) in
    let r2 = runs_of (gives_last c.in_ok-met.ensures.lawful c.in_ok-met.ensures.after _ (and_answers c.in_ok-met.ensures r1.1 (kept (runs_grown r1.0) (init_means ok _ ln _ c.init-init.ensures)))) in
    let g2 = grown_more (runs_grown r1.0) (runs_grown r2.0) in
    let r3 = runs_of (pairs_made p l (λ i. bit (copy i)) _ _ _ _ g2 c.in_ok-met.ensures.after cs c.args.lines.now.copied c.deref.ensures.0 c.in_ok-copies.ensures.negates) in
    let g3 = grown_more g2 (runs_grown r3.0) in
    broke c.from_residual-in_err-nexts.result c.in_err-nexts.field-0.0 c.from_residual-in_err-nexts.ensures.1
    (ends_after r1.0 (ends_after r2.0 (ends_after r3.0 (ends_refused (pairs_made p l _ _ _ _ _ g3 r3.1.0 (nexts_mean ok _ ln) (nexts_length _ ok _ c.args.lines.now.whole) c.nexts.ensures c.in_err-nexts.ensures.negates)))))

pub returns : goal.returns
returns g c p l h q w ln cs mh mq =
    let d = alone (netlist c.args.lines.now.circuit.now) in
    let ok = valid_alone _ c.args.lines.now.circuit.now.sound in
    let init = init_means ok _ ln _ c.init-init.ensures in
    let r1 = runs_of (c.in_ok-set.ensures p l h q w mh mq) in
    let r2 = runs_of (gives_last c.in_ok-met.ensures.lawful c.in_ok-met.ensures.after _ (and_answers c.in_ok-met.ensures r1.1 (kept (runs_grown r1.0) init))) in
    let g2 = grown_more (runs_grown r1.0) (runs_grown r2.0) in
    let r3 = runs_of (pairs_made p l (λ i. bit (copy i)) _ _ _ _ g2 c.in_ok-met.ensures.after cs c.args.lines.now.copied c.deref.ensures.0 c.in_ok-copies.ensures.negates) in
    let g3 = grown_more g2 (runs_grown r3.0) in
    let r4 = runs_of (pairs_made p l _ _ _ _ _ g3 r3.1.0 (nexts_mean ok _ ln) (nexts_length _ ok _ c.args.lines.now.whole) c.nexts.ensures c.in_ok-nexts.ensures.negates) in
    let g34 = runs_grown r4.0 in
    let g24 = grown_more (runs_grown r3.0) g34 in
    let g4 = grown_more g3 g34 in
    made (runs_join r1.0 (runs_join r2.0 (runs_join r3.0 r4.0)))
    (loaded d h q _ _ (c.in_ok-copies.ensures.each ∙ ap length c.deref.ensures.0 ∙ c.args.lines.now.copied) c.inputs-m.ensures (subst (λ v. width d ≤ v) (sym g4.vars) w) r4.1.0
    (paired_kept c.in_ok-copies.copies.items _ _ g34 r3.1.1) r4.1.1
    (kept g4 mh) (kept g4 mq) (kept g4 init) (kept (grown_more (runs_grown r2.0) g24) r1.1) (kept g24 r2.1))
