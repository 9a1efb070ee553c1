use Rattle.std.proofs.Common.{◌≡◌, ℕ, true, cond, [], Ok, refl, ◌∙◌}
use Rattle.store.specs.Meaning.{Shown, Lawful}
use Rattle.description.specs.declared.part.Part.TheVariants.{Sets}
use Rattle.making.specs.Ends.{Ends, made, plain}
use Rattle.making.specs.Making.{Means, Runs}
use Rattle.making.proofs.Placing.{placed_err, placed_ok, placed_made}
use Rattle.making.proofs.Steps.{ends_before, ends_refused, broke}
use Rattle.making.proofs.Telling.{told_if}
use Rattle.runs.specs.Models.{Model}
use Rattle.runs.specs.Valuations.{back_fn}
use Rattle.engine.specs.Advancing.{Ready}
use Rattle.engine.proofs.Steps.{back_at, last_at, equal_at, lies, backed, settled, grown, met, reached, at_count}
use Rattle.engine.proofs.search.Search.step.Goals as goal
use Rattle.engine.proofs.search.Search.step.Goals.{After-place_at}

-- the calls up to the next set
module _ (g : _) (c : After-place_at g) (m : Model) (d : Ready (g.S.Store.shows c.args.store.now) m c.len-count.result c.args.self.now) where
  abbrev s : Shown
  s = g.S.Store.shows c.args.store.now

  abbrev t : Shown
  t = g.S.Store.shows c.back.new.store

  abbrev i : ℕ
  i = c.len-count.result

  backs : Ends plain s t (back_at m i) (λ a. Means t a (back_fn m i)) c.back.result
  backs = backed m i s c.args.self.now d c.back.result t c.back.ensures.gives

  module _ (a : ℕ) (p : c.place_at.result ≡ Ok a) where
    next : Runs s (back_at m i) t × Means t a (back_fn m i)
    next = placed_ok Sets i c.back.result c.place_at.ensures (lies m i) backs p

    lawful : Lawful t
    lawful = (placed_made (λ b. Lawful t × (t.held b ≡ true)) Sets i c.back.result c.place_at.ensures p (told_if c.back.ensures.behaves.tells)).0

pub returns-in_err-set : goal.returns-in_err-set
returns-in_err-set g c m j e = at_count m _ _ (c.len-count.ensures.items ∙ e.count) e (λ d.
    let i = c.len-count.result in
    broke c.from_residual.result c.in_err-set.field-0.0 c.from_residual.ensures.1
    (ends_before (cond (equal_at m i) [] (last_at m i)) (placed_err Sets i c.back.result c.place_at.ensures (lies m i) (backs g (goal.at.returns-in_err-set g c).After-place_at m d) c.in_err-set.was)))

pub returns-then-set-self : goal.returns-then-set-self
returns-then-set-self g c m j e = at_count m _ _ (c.len-count.ensures.items ∙ e.count) e (λ d.
    let b = (goal.at.returns-then-set-self g c).After-place_at in
    let o = next g b m d c.in_ok-set.set c.in_ok-set.was in
    settled m c.len-count.result _ c.args.self.now d c.in_ok-set.set o.0 o.1 (lawful g b m d c.in_ok-set.set c.in_ok-set.was) c.if-set-self.true)

pub returns-in_err-met : goal.returns-in_err-met
returns-in_err-met g c m j e = at_count m _ _ (c.len-count.ensures.items ∙ e.count) e (λ d.
    let b = (goal.at.returns-in_err-met g c).After-place_at in
    let i = c.len-count.result in
    let a = c.in_ok-set.set in
    let k = c.args.self.now in
    let o = next g b m d a c.in_ok-set.was in
    let l = lawful g b m d a c.in_ok-set.was in
    grown m i _ k d a o.0 o.1 l c.if-set-self.false
    (broke c.from_residual-in_err-met.result c.in_err-met.field-0.0 c.from_residual-in_err-met.ensures.1
    (ends_refused (placed_err Sets i c.and.result c.place_at-else-set-self.ensures (refl, refl, tt) (met m i _ k d a o.0 o.1 l _ c.and.result c.and.ensures) c.in_err-met.was))))

pub returns-in_ok-met : goal.returns-in_ok-met
returns-in_ok-met g c m j e = at_count m _ _ (c.len-count.ensures.items ∙ e.count) e (λ d.
    let b = (goal.at.returns-in_ok-met g c).After-place_at in
    let i = c.len-count.result in
    let a = c.in_ok-set.set in
    let k = c.args.self.now in
    let o = next g b m d a c.in_ok-set.was in
    let l = lawful g b m d a c.in_ok-set.was in
    let p = placed_ok Sets i c.and.result c.place_at-else-set-self.ensures (refl, refl, tt) (met m i _ k d a o.0 o.1 l _ c.and.result c.and.ensures) c.in_ok-met.was in
    grown m i _ k d a o.0 o.1 l c.if-set-self.false
    (made p.0 (reached m i _ k d a o.0 o.1 l c.if-set-self.false c.in_ok-met.met p.0 p.1 c.and.ensures.after _ c.verdict_at-verdict.ensures)))
