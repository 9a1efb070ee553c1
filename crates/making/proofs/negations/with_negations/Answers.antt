use Rattle.std.proofs.Common.{◌≡◌, suc, ◌+◌, ◌<◌, [], ◌∷◌, ◌++◌, length, get_or, sym, ap, ◌∙◌, subst, add-one, arith}
use Rattle.std.proofs.lemmas.List.{length-append}
use Rattle.store.specs.Meaning.{Lawful}
use Rattle.runs.specs.Functions.{negated}
use Rattle.making.specs.declared.parts.Polarities.{Polarities}
use Rattle.making.specs.Making.{Runs, ended, Paired, at}
use Rattle.making.specs.Pieces.{negations_list}
use Rattle.making.specs.Ends.{made}
use Rattle.making.proofs.Steps.{kept, runs_grown, runs_join, runs_of, broke, ends_after, gives_last, not_answers}
use Rattle.making.proofs.Loops.{ends_upto, paired_more}
use Rattle.making.proofs.negations.with_negations.Goals as goal

pub loop-function-init : goal.loop-function-init
loop-function-init g c = (ap length c.new-pairs.ensures, λ p q f w h. (ended, w, λ i l. absurd (omega arith)))

pub returns-in_err-negation-clause-negates : goal.returns-in_err-negation-clause-negates
returns-in_err-negation-clause-negates g c p q f w h =
    let k = c.loop-function.function-index in
    let r = c.loop-function.invariant.1 p q f w h in
    let n = length c.args.functions.now in
    let lt : k < n = c.loop-function-test.true in
    broke c.from_residual.result c.in_err-negation.field-0.0 c.from_residual.ensures.1
    (ends_upto (λ i. at p q (negated (f i) ∷ [])) (suc k) n lt
    (ends_after r.0 (gives_last c.in_err-negation.ensures.lawful c.in_err-negation.ensures.after _ (not_answers c.in_err-negation.ensures (kept (runs_grown r.0) (h k lt))))))

pub loop-function-preserved : goal.loop-function-preserved
loop-function-preserved g c =
    let k = c.loop-function.function-index in
    let ps = c.loop-function.pairs.items in
    let pair : Polarities = record { function = get_or c.args.functions.now k 0; negation = c.in_ok-negation.negation } in
    let added : c.push.new.self.items ≡ ps ++ pair ∷ [] = rw c.unwrap.ensures at c.push.ensures.added in
    let s = g.S.Store.shows c.args.store.now in
    let u = g.S.Store.shows c.not.new.self in (
      ap length added ∙ length-append ps (pair ∷ []) ∙ ap (λ i. i + 1) c.loop-function.invariant.0,
      λ p q f w h.
          let r = c.loop-function.invariant.1 p q f w h in
          let m = kept (runs_grown r.0) (h k c.loop-function-test.true) in
          let b = runs_of (gives_last c.in_ok-negation.ensures.lawful c.in_ok-negation.ensures.after _ (not_answers c.in_ok-negation.ensures m)) in
          let more = paired_more ps f k pair r.2 (runs_grown b.0) (record { function = kept (runs_grown b.0) m; negation = b.1 }) c.loop-function.invariant.0 in
          subst (λ n. Runs s (negations_list p q f n) u × Lawful u × Paired u c.push.new.self.items f n) (sym (add-one k))
          (runs_join r.0 b.0, c.in_ok-negation.ensures.after, subst (λ xs. Paired u xs f (suc k)) (sym added) more),
    )

pub returns-clause-negates : goal.returns-clause-negates
returns-clause-negates g c p q f w h =
    let s = g.S.Store.shows c.args.store.now in
    let u = g.S.Store.shows c.loop-function.store in
    let n = length c.args.functions.now in
    let e : c.loop-function.function-index ≡ n = omega arith in
    let r = subst (λ n. Runs s (negations_list p q f n) u × Lawful u × Paired u c.loop-function.pairs.items f n) e (c.loop-function.invariant.1 p q f w h) in
    made r.0 (r.1, r.2)
