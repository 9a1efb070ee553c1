use Rattle.std.proofs.Common.{◌≡◌, ◌+◌, ◌*◌, ◌/◌, ◌^◌, ◌<◌, [], ◌∷◌, length, get_or, sym, refl, ap, ◌∙◌, subst, arith}
use Rattle.std.proofs.Math.Nat.{div-eq_of_lt}
use Rattle.std.proofs.lemmas.List.{append-nil}
use Rattle.store.specs.Fun.{bit}
use mir.Val.{bool_byte}
use Rattle.runs.specs.Models.{Model, system}
use Rattle.engine.proofs.Backwards.{back_one, item_is, one_less, in_all}
use Rattle.engine.proofs.Bits.{one, more, more_below, room}
use Rattle.runs.proofs.Models.{closed}
use Rattle.engine.proofs.Readings.{told_still, refused, next_is}
use Rattle.engine.proofs.search.Search.next_state.Goals as goal
use Rattle.engine.proofs.search.Search.next_state.Goals.{In-Some}
use Rattle.engine.specs.Questions.{Tells, Readable}
use Rattle.runs.specs.Systems.{State, Input}
use Rattle.making.specs.Faults.{Fault}
use Rattle.making.specs.Making.{unpaired}
use Rattle.making.specs.Loads.{registers_of}
use Rattle.std.proofs.Common.{Result, Bool, Ok}

pub loop-bit-init : goal.loop-bit-init
loop-bit-init g c =
    let k = c.args.self.now.parts in
    let e = ap (λ i. i.iter.rest.now) c.into_iter-bit-iterator.ensures.into_iter_gives ∙ ap (λ i. i.rest.now) c.rev-bit-items.ensures.source ∙ c.iter.ensures.rest ∙ c.as_slice.ensures.items in
    let few = c.as_slice.ensures.few in
    let n : length c.into_iter-bit-iterator.result.iter.rest.now ≡ registers_of k = omega (arith, ap length e, k.led) in
    (tt, tt, refl, ([], append-nil _ ∙ e, omega arith), λ m h lq lv. sym (div-eq_of_lt (subst (λ i. (system m).next c.args.step.state c.args.step.input < 2 ^ i) (sym (n ∙ h.registers)) (closed m c.args.step.state c.args.step.input lq lv))))

-- the place of the number that is read, and the bits that were read before it
fits : (g : _) (c : In-Some g) → (length c.next.new.self.iter.rest.now < registers_of c.args.self.now.parts) × (c.loop-bit.next < 128)
fits g c =
    let k = c.args.self.now.parts in
    let d = c.loop-bit.invariant.3 in
    let a = in_all _ _ d.0 _ c.in-Some.bit.now c.in-Some.ensures.steps d.1 in
    let b = k.led in
    let few = c.as_slice.ensures.few in
    let e = ap length c.as_slice.ensures.items in
    (omega arith, room (length d.0) c.loop-bit.next (omega arith) d.2)

told : (g : _) (c : In-Some g) (m : Model) → Readable (g.S.Store.shows c.args.store.now) m c.args.self.now.parts → State (system m) c.args.step.state → Input (system m) c.args.step.input
    → (r : Result Bool Fault) → Tells (g.S.Store.shows c.loop-bit.store) (registers_of c.args.self.now.parts) c.in-Some.bit.now.function c.args.step.state c.args.step.input r
    → r ≡ Ok (bit (length c.next.new.self.iter.rest.now) ((system m).next c.args.step.state c.args.step.input))
told g c m h lq lv r t =
    let k = c.args.self.now.parts in
    let d = c.loop-bit.invariant.3 in
    let i = length c.next.new.self.iter.rest.now in
    let l = (fits g c).0 in
    let a : c.in-Some.bit.now.function ≡ (get_or k.nexts.items i unpaired).function = ap (λ p. p.function) (item_is _ _ d.0 _ _ c.in-Some.ensures.steps d.1 unpaired) in
    next_is _ m k h i _ c.args.step.state c.args.step.input r l a lq lv (told_still _ _ _ _ _ _ _ c.loop-bit.invariant.2 t)

pub overflow_mul-next : goal.overflow_mul-next
overflow_mul-next g c = let p = (fits g c).1 in omega arith

pub returns-in_err-truth-clause-goes : goal.returns-in_err-truth-clause-goes
returns-in_err-truth-clause-goes g c m h lq lv = refused (sym c.in_err-truth.was ∙ told g (goal.at.returns-in_err-truth-clause-goes g c).In-Some m h lq lv _ c.truth.ensures.tells)

pub overflow_add-next : goal.overflow_add-next
overflow_add-next g c = let p = (fits g (goal.at.overflow_add-next g c).In-Some).1 in let b : c.from.result < 2 = rw c.from.ensures (one c.in_ok-truth.field-0) in omega arith

pub loop-bit-preserved : goal.loop-bit-preserved
loop-bit-preserved g c =
    let d = c.loop-bit.invariant.3 in
    let s = c.in-Some.ensures.steps in (
      tt,
      tt,
      c.truth.ensures.same ∙ c.loop-bit.invariant.2,
      (c.in-Some.bit.now ∷ d.0, back_one _ _ d.0 _ _ s d.1, rw c.from.ensures (more_below _ _ c.in_ok-truth.field-0 d.2)),
      λ m h lq lv.
          ap (λ x. 2 * c.loop-bit.next + x) c.from.ensures
          ∙ ap (λ x. 2 * x + bool_byte c.in_ok-truth.field-0) (c.loop-bit.invariant.4 m h lq lv ∙ ap (λ n. (system m).next c.args.step.state c.args.step.input / 2 ^ n) (one_less _ _ d.0 _ c.in-Some.bit.now s d.1))
          ∙ more _ _ c.in_ok-truth.field-0 (sym c.in_ok-truth.was ∙ told g (goal.at.loop-bit-preserved g c).In-Some m h lq lv _ c.truth.ensures.tells),
    )
