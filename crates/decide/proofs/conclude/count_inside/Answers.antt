use mir.Val.{bool_byte}
use Rattle.std.proofs.Common.{◌≡◌, ℕ, ◌+◌, ◌^◌, ◌<◌, ◌≤◌, Bool, true, false, cond, Ok, Err, Result, sym, refl, ap, ◌∙◌, subst, add-one, arith}
use Rattle.uses.specs.declared.fault.Fault.{Fault}
use Rattle.runs.specs.Models.{system}
use Rattle.runs.specs.Search.{inside}
use Rattle.description.proofs.Checks.{never}
use Rattle.engine.proofs.Spreads.{shifted}
use Rattle.engine.specs.Keeping.{world}
use Rattle.decide.specs.Outcomes.{tally}
use Rattle.decide.specs.Searches.{Come}
use Rattle.decide.proofs.Sessions.{told_by}
use Rattle.decide.proofs.conclude.count_inside.Goals as goal

pub loop-q-init : goal.loop-q-init
loop-q-init g c = (refl, omega arith, λ s m j k o e. refl)

refused : {e : Fault} {b : Bool} → ◌≡◌ {A = Result Bool Fault} (Err e) (Ok b) → ⊥
refused t = never (cc)

byte_is : (b : Bool) → bool_byte b ≡ cond b 1 0
byte_is true = refl
byte_is false = refl

counted : (p : ℕ → Bool) (q count n : ℕ) (b : Bool) → count ≡ tally q p → ◌≡◌ {A = Result Bool Fault} (Ok b) (Ok (p q)) → n ≡ bool_byte b → count + n ≡ tally (q + 1) p
counted p q count n b e f d = let h : b ≡ p q = cc in rw add-one (λ i. e i + (d ∙ byte_is b ∙ ap (λ x. cond x 1 0) h) i)

at_most_one : (b : Bool) → bool_byte b ≤ 1
at_most_one true = omega arith
at_most_one false = omega arith

pub loop-q-preserved : goal.loop-q-preserved
loop-q-preserved g c = (
  c.inside.ensures.same ∙ c.loop-q.invariant.0,
  omega (arith, at_most_one c.in_ok-inside.field-0),
  λ s m j k o e.
      let here = subst (Come s m j) (sym c.loop-q.invariant.0) k in
      let l : c.loop-q.q < 2 ^ m.circuit.registers = subst (λ i. c.loop-q.q < 2 ^ i) e (subst (λ i. c.loop-q.q < i) (shifted c.args.registers c.requires) c.loop-q-test.true) in
      let t = told_by s m j _ (world g.S.Store.shows c.inside.new.self) here o c.in_ok-inside.ensures.next l in
      counted (inside (system m) j) c.loop-q.q c.loop-q.count c.from.result c.in_ok-inside.field-0 (c.loop-q.invariant.2 s m j k o e) t c.from.ensures,
)

pub returns-in_err-inside : goal.returns-in_err-inside
returns-in_err-inside g c = record {
  same = c.inside.ensures.same ∙ c.loop-q.invariant.0;
  counts = λ s m j k o e.
      let here = subst (Come s m j) (sym c.loop-q.invariant.0) k in
      let l : c.loop-q.q < 2 ^ m.circuit.registers = subst (λ i. c.loop-q.q < 2 ^ i) e (subst (λ i. c.loop-q.q < i) (shifted c.args.registers c.requires) c.loop-q-test.true) in
      let t = told_by s m j _ (world g.S.Store.shows c.inside.new.self) here o c.in_err-inside.ensures.next l in
      absurd (refused t);
}

pub returns : goal.returns
returns g c = record {
  same = c.loop-q.invariant.0;
  counts = λ s m j k o e.
      let q : c.loop-q.q ≡ 2 ^ m.circuit.registers =
      let p = shifted c.args.registers c.requires in
      let l : c.loop-q.q ≡ 2 ^ c.args.registers = omega arith in l ∙ ap (λ i. 2 ^ i) e in
      ap Ok (c.loop-q.invariant.2 s m j k o e ∙ ap (λ i. tally i (inside (system m) j)) q);
}
