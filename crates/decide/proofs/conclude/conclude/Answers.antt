use Rattle.std.proofs.Common.{◌≡◌, ℕ, Ok, Err, Result, sym, ap, ◌∙◌, subst}
use Rattle.circuit.specs.declared.sizes.Sizes.{Sizes}
use Rattle.uses.specs.declared.fault.Fault.{Fault}
use Rattle.description.proofs.Checks.{never}
use Rattle.engine.specs.Keeping.{world}
use Rattle.decide.specs.declared.report.Report.TheVariants as report
use Rattle.engine.specs.Settled.{advances_of}
use Rattle.decide.specs.Searches.{Ended, Conclusion, is_safe, is_unsafe}
use Rattle.decide.proofs.conclude.conclude.Goals as goal

refused : {e : Fault} {b : ℕ} → ◌≡◌ {A = Result ℕ Fault} (Err e) (Ok b) → ⊥
refused t = never (cc)

same_count : {a b : ℕ} → ◌≡◌ {A = Result ℕ Fault} (Ok a) (Ok b) → a ≡ b
same_count t = cc

pub returns-in_err-inside-in-Safe : goal.returns-in_err-inside-in-Safe
returns-in_err-inside-in-Safe g c = record {
  same = c.count_inside.ensures.same;
  concludes = λ s m k e.
      let n = ap (λ (z : Sizes). z.registers) (c.sizes_at-sizes.ensures ∙ e) in
      let j = c.in-Safe.depth.advances in
      let k' = subst (λ a. Ended s m a (world g.S.Store.shows c.args.session.now)) c.in-Safe.is k in
      absurd (refused (c.in_err-inside-in-Safe.ensures.counts s m j k'.come k'.settled n));
}

pub returns-in_err-trace-in-Unsafe : goal.returns-in_err-trace-in-Unsafe
returns-in_err-trace-in-Unsafe g c = record {
  same = c.read_trace.ensures.same;
  concludes = λ s m k e.
      let k' = subst (λ a. Ended s m a (world g.S.Store.shows c.args.session.now)) c.in-Unsafe.is k in
      absurd (c.in_err-trace-in-Unsafe.ensures.hands_out s m k'.come k'.settled);
}

pub returns-in_ok-inside-in-Safe : goal.returns-in_ok-inside-in-Safe
returns-in_ok-inside-in-Safe g c = record {
  same = c.count_inside.ensures.same;
  concludes = λ s m k e.
      let j = c.in-Safe.depth.advances in
      let z = c.sizes_at-sizes.ensures ∙ e in
      let k' = subst (λ a. Ended s m a (world g.S.Store.shows c.args.session.now)) c.in-Safe.is k in
      let n = same_count (c.in_ok-inside-in-Safe.ensures.counts s m j k'.come k'.settled (ap (λ (z : Sizes). z.registers) z)) in
      subst (λ a. Conclusion m (advances_of a) (report.Safe c.sizes_at-sizes.result j c.in_ok-inside-in-Safe.inside)) (sym c.in-Safe.is)
      (subst (Conclusion m j) (λ i. report.Safe (sym z i) j (sym n i)) (is_safe k'.settled));
}

pub returns-in_ok-trace-in-Unsafe : goal.returns-in_ok-trace-in-Unsafe
returns-in_ok-trace-in-Unsafe g c = record {
  same = c.read_trace.ensures.same;
  concludes = λ s m k e.
      let z = c.sizes_at-sizes.ensures ∙ e in
      let k' = subst (λ a. Ended s m a (world g.S.Store.shows c.args.session.now)) c.in-Unsafe.is k in
      let t = c.in_ok-trace-in-Unsafe.ensures.hands_out s m k'.come k'.settled in
      subst (λ a. Conclusion m (advances_of a) (report.Unsafe c.sizes_at-sizes.result c.in_ok-trace-in-Unsafe.trace)) (sym c.in-Unsafe.is)
      (subst (Conclusion m c.in-Unsafe.depth.advances) (λ i. report.Unsafe (sym z i) c.in_ok-trace-in-Unsafe.trace) (is_unsafe t.0 k'.settled t.1));
}
