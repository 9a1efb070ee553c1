use Rattle.std.proofs.Common.{◌≡◌, ℕ, suc, ◌+◌, ◌-◌, ◌<◌, Ok, Err, Result, sym, subst, arith}
use Rattle.store.specs.declared.refusal.Refusal.{Refusal}
use Rattle.store.specs.Fun.{Fn}
use Rattle.store.specs.Meaning.{Shown}
use Rattle.description.specs.declared.part.Part.{Part}
use Rattle.runs.specs.Functions.{quantified}
use Rattle.making.specs.Making.{Runs, ended, Means, at}
use Rattle.making.specs.Pieces.{halves_list, quantified_list}
use Rattle.making.specs.Ends.{Ends, made, plain}
use Rattle.making.specs.Promises.{Exists, answered}
use Rattle.making.proofs.Steps.{grown_none, grown_more, runs_grown, runs_of, broke, ends_after}
use Rattle.making.proofs.Loops.{ends_upto}
use Rattle.making.proofs.Telling.{told, leaves}
use Rattle.making.proofs.inputs.exists_all.Goals as goal

-- variable x is given both values in turn k
turn : {s t u : Shown} (p : Part) (q first : ℕ) (f : Fn) (x k a : ℕ) → first + k ≡ x → x < s.vars
    → Runs s (quantified_list p q first f k) t × Means t a (quantified first f k) → (r : Result ℕ Refusal) → Exists t a x r u
    → Ends plain s u (quantified_list p q first f (suc k)) (λ b. Means u b (quantified first f (suc k))) r
turn {s = s} {t = t} {u = u} p q first f x k a e l so r y =
    let w = runs_grown so.0 in
    let y' = subst (λ i. Exists t a i r u) (sym e) y in
    let in-range = subst (λ n. first + k < n) (sym w.vars) (subst (λ i. i < s.vars) (sym e) l) in
    ends_after so.0 (y' p q (quantified first f k) so.1 in-range)

pub loop-x-init : goal.loop-x-init
loop-x-init g c = (
  λ p q f ma li.
      let e : 0 ≡ c.args.first - c.args.first = omega arith in
      let s = g.S.Store.shows c.args.store.now in
      subst (λ k. Runs s (quantified_list p q c.args.first f k) s × Means s c.args.a (quantified c.args.first f k)) e (ended, ma),
  grown_none,
  λ h. h,
)

pub returns-in_err-f : goal.returns-in_err-f
returns-in_err-f g c = record {
  gives = λ p q f ma li.
      let x = c.loop-x.x in
      let first = c.args.first in
      broke c.from_residual.result c.in_err-f.field-0.0 c.from_residual.ensures.1
      (ends_upto (λ j. at p q (halves_list (first + j) (quantified first f j))) (suc (x - first)) c.args.m (omega arith)
      (turn p q first f x (x - first) c.loop-x.f (omega arith) (omega (arith, li)) (c.loop-x.invariant.0 p q f ma li) (Err c.in_err-f.field-0.0) c.in_err-f.ensures.gives));
  grown = grown_more c.loop-x.invariant.1 c.in_err-f.ensures.grown;
  tells =
      leaves c.from_residual.result c.in_err-f.field-0.0 c.from_residual.ensures.1 c.loop-x.invariant.1 c.loop-x.invariant.2 (omega arith) c.in_err-f.ensures.tells;
}

pub loop-x-preserved : goal.loop-x-preserved
loop-x-preserved g c = (
  λ p q f ma li.
      let x = c.loop-x.x in
      let first = c.args.first in
      let s = g.S.Store.shows c.args.store.now in
      let u = g.S.Store.shows c.exists.new.store in
      let e : suc (x - first) ≡ x + 1 - first = omega arith in
      subst (λ k. Runs s (quantified_list p q first f k) u × Means u c.in_ok-f.f (quantified first f k)) e
      (runs_of (turn p q first f x (x - first) c.loop-x.f (omega arith) (omega (arith, li)) (c.loop-x.invariant.0 p q f ma li) (Ok c.in_ok-f.f) c.in_ok-f.ensures.gives)),
  grown_more c.loop-x.invariant.1 c.in_ok-f.ensures.grown,
  λ h. told c.in_ok-f.ensures.tells,
)

pub returns : goal.returns
returns g c = record {
  gives = λ p q f ma li.
      let first = c.args.first in
      let s = g.S.Store.shows c.args.store.now in
      let u = g.S.Store.shows c.loop-x.store in
      let e : c.loop-x.x - first ≡ c.args.m = omega arith in
      let r = subst (λ k. Runs s (quantified_list p q first f k) u × Means u c.loop-x.f (quantified first f k)) e (c.loop-x.invariant.0 p q f ma li) in
      made r.0 r.1;
  grown = c.loop-x.invariant.1;
  tells = answered c.loop-x.invariant.2;
}
