use Rattle.std.proofs.Common.{◌≡◌, ℕ, suc, ◌+◌, ◌*◌, ◌<◌, List, length, get_or, Ok, Err, Result, sym, refl, subst, add-one, arith}
use Rattle.store.specs.declared.refusal.Refusal.{Refusal}
use Rattle.store.specs.Fun.{Fn}
use Rattle.store.specs.Meaning.{Shown}
use Rattle.description.specs.declared.part.Part.{Part}
use Rattle.runs.specs.Functions.{composed, composed_all}
use Rattle.making.specs.declared.parts.Polarities.{Polarities}
use Rattle.making.specs.Making.{Runs, ended, Means, unpaired, Paired, at}
use Rattle.making.specs.Pieces.{composed_list, composed_all_list}
use Rattle.making.specs.Ends.{Ends, made, plain}
use Rattle.making.specs.Promises.{Composes, answered}
use Rattle.making.proofs.Steps.{grown_none, grown_more, runs_grown, runs_of, broke, ends_after}
use Rattle.making.proofs.Loops.{ends_upto, paired_kept}
use Rattle.making.proofs.Telling.{told, leaves, refused_by, accepted, held_pairs, still_unheld, passes_by}
use Rattle.making.proofs.substitution.compose_all.Goals as goal

-- turn k
turn : {s t u : Shown} (p : Part) (q : ℕ) (x : ℕ → ℕ) (f : Fn) (h : ℕ → Fn) (first : ℕ) (bs : List Polarities) (k a : ℕ) → ((i : ℕ) → i < length bs → first + 2 * i ≡ x i)
    → Paired s bs h (length bs) → ((i : ℕ) → i < length bs → x i < s.vars) → k < length bs → Runs s (composed_all_list p q x h f k) t × Means t a (composed_all x h f k)
    → (r : Result ℕ Refusal) → Composes t a (first + 2 * k) (get_or bs k unpaired) r u
    → Ends plain s u (composed_all_list p q x h f (suc k)) (λ b. Means u b (composed_all x h f (suc k))) r
turn {t = t} {u = u} p q x f h first bs k a vs mb li lt so r y =
    let w = runs_grown so.0 in
    ends_after so.0
    (subst (λ i. Ends plain t u (at p q (composed_list i (h k) (composed_all x h f k))) (λ b. Means u b (composed i (h k) (composed_all x h f k))) r) (vs k lt)
    (y p q (composed_all x h f k) (h k) so.1 (paired_kept bs h (length bs) w mb k lt)
    (subst (λ i. i < t.vars) (sym (vs k lt)) (subst (λ n. x k < n) (sym w.vars) (li k lt)))))

pub loop-i-init : goal.loop-i-init
loop-i-init g c = (
  λ p q x f h vs ma mb li.
      (ended, ma),
  grown_none,
  λ h. h,
  λ h. (refl, refl),
)

pub returns-in_err-f : goal.returns-in_err-f
returns-in_err-f g c = record {
  gives = λ p q x f h vs ma mb li.
      let k = c.loop-i.i in
      let bs = c.args.by.now in
      let lt : k < length bs = c.loop-i-test.true in
      broke c.from_residual.result c.in_err-f.field-0.0 c.from_residual.ensures.1
      (ends_upto (λ i. at p q (composed_list (x i) (h i) (composed_all x h f i))) (suc k) (length bs) lt
      (turn p q x f h c.args.first bs k c.loop-i.f vs mb li lt (c.loop-i.invariant.0 p q x f h vs ma mb li) (Err c.in_err-f.field-0.0) c.in_err-f.ensures.gives));
  grown = grown_more c.loop-i.invariant.1 c.in_err-f.ensures.grown;
  tells =
      let w = c.loop-i.invariant.1 in
      let lt : c.loop-i.i < length c.args.by.now = c.loop-i-test.true in
      leaves c.from_residual.result c.in_err-f.field-0.0 c.from_residual.ensures.1 w
      (λ h. (c.loop-i.invariant.2 h.0, held_pairs c.args.by.now w h.1 c.loop-i.i lt)) (omega (arith, lt)) c.in_err-f.ensures.tells;
  passes = λ h.
      let still = c.loop-i.invariant.3 h in
      passes_by c.args.a still.0
      (refused_by c.from_residual.result c.in_err-f.field-0.0 refl c.from_residual.ensures.1 (c.in_err-f.ensures.refuses (still_unheld h still)));
}

pub loop-i-preserved : goal.loop-i-preserved
loop-i-preserved g c = (
  λ p q x f h vs ma mb li.
      let k = c.loop-i.i in
      let s = g.S.Store.shows c.args.store.now in
      let u = g.S.Store.shows c.compose.new.store in
      subst (λ n. Runs s (composed_all_list p q x h f n) u × Means u c.in_ok-f.f (composed_all x h f n)) (sym (add-one k))
      (runs_of (turn p q x f h c.args.first c.args.by.now k c.loop-i.f vs mb li c.loop-i-test.true (c.loop-i.invariant.0 p q x f h vs ma mb li) (Ok c.in_ok-f.f) c.in_ok-f.ensures.gives)),
  grown_more c.loop-i.invariant.1 c.in_ok-f.ensures.grown,
  λ h. told c.in_ok-f.ensures.tells,
  λ h. accepted _ refl (c.in_ok-f.ensures.refuses (still_unheld h (c.loop-i.invariant.3 h))),
)

pub returns : goal.returns
returns g c = record {
  gives = λ p q x f h vs ma mb li.
      let s = g.S.Store.shows c.args.store.now in
      let u = g.S.Store.shows c.loop-i.store in
      let e : c.loop-i.i ≡ length c.args.by.now = omega arith in
      let r = subst (λ n. Runs s (composed_all_list p q x h f n) u × Means u c.loop-i.f (composed_all x h f n)) e (c.loop-i.invariant.0 p q x f h vs ma mb li) in
      made r.0 r.1;
  grown = c.loop-i.invariant.1;
  tells = answered c.loop-i.invariant.2;
  passes = c.loop-i.invariant.3;
}
