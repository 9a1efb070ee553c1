use Rattle.std.proofs.Common.{Err, subst}
use Rattle.store.specs.Meaning.{Lawful}
use Rattle.runs.specs.Functions.{both}
use Rattle.making.specs.Making.{Means}
use Rattle.runs.specs.Valuations.{literal_fn}
use Rattle.making.specs.Ends.{Ends, plain}
use Rattle.making.proofs.Steps.{and_answers, gives_last, kept, runs_grown, runs_of, ends_after, ends_before, ends_with, broke}
use Rattle.making.proofs.Literals.{gate_parts}
use Rattle.making.proofs.gates.conjunction.Goals as goal

pub returns-in_err-a : goal.returns-in_err-a
returns-in_err-a g c p l f mx my =
    let x = c.args.gate in
    let s = g.S.Store.shows c.args.store.now in
    let t = g.S.Store.shows c.literal.new.store in
    broke c.from_residual.result c.in_err-a.field-0.0 c.from_residual.ensures.1
    (subst (λ k. Ends plain s t k (λ a. Lawful t × Means t a (both (literal_fn f x.left) (literal_fn f x.right))) (Err c.in_err-a.field-0.0)) (gate_parts p l f x)
    (ends_before _ (c.in_err-a.ensures p l f mx)))

pub returns-in_err-b : goal.returns-in_err-b
returns-in_err-b g c p l f mx my =
    let x = c.args.gate in
    let s = g.S.Store.shows c.args.store.now in
    let t = g.S.Store.shows c.literal-2.new.store in
    let a = runs_of (c.in_ok-a.ensures p l f mx) in
    broke c.from_residual-in_err-b.result c.in_err-b.field-0.0 c.from_residual-in_err-b.ensures.1
    (subst (λ k. Ends plain s t k (λ a. Lawful t × Means t a (both (literal_fn f x.left) (literal_fn f x.right))) (Err c.in_err-b.field-0.0)) (gate_parts p l f x)
    (ends_after a.0 (ends_before _ (c.in_err-b.ensures p l f (kept (runs_grown a.0) my)))))

pub returns : goal.returns
returns g c p l f mx my =
    let x = c.args.gate in
    let s = g.S.Store.shows c.args.store.now in
    let t = g.S.Store.shows c.and.new.self in
    let a = runs_of (c.in_ok-a.ensures p l f mx) in
    let b = runs_of (c.in_ok-b.ensures p l f (kept (runs_grown a.0) my)) in
    subst (λ k. Ends plain s t k (λ a. Lawful t × Means t a (both (literal_fn f x.left) (literal_fn f x.right))) c.and.result) (gate_parts p l f x)
    (ends_after a.0 (ends_after b.0
    (ends_with {Q = λ a. Lawful t × Means t a (both (literal_fn f x.left) (literal_fn f x.right))} (λ _ _ k. (c.and.ensures.after, k))
    (gives_last c.and.ensures.lawful c.and.ensures.after c.and.result (and_answers c.and.ensures (kept (runs_grown b.0) a.1) b.1)))))
