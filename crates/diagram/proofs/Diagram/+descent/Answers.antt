use Rattle.std.proofs.Common.{ℕ, Ok, arith}
use Rattle.std.proofs.lemmas.Result.{err_from_is_err_and}
use Rattle.diagram.proofs.Recalling.{recalled, remembered}
use Rattle.diagram.proofs.Twofold.{Halves, low_stops, high_stops, join_under, joined, join_stops}
use Rattle.diagram.proofs.Tasks.{still_posed, still_peak}
use Rattle.diagram.proofs.Diagram.+descent.Goals as goal
use Rattle.diagram.proofs.Diagram.+descent.Goals.{descend-After-expand-variable}

halves : (g : _) (t : ℕ) (c : descend-After-expand-variable g t) → Halves c.args.self.now (g.T.Expand.asks c.args.kind) c.expand-variable.result.0 (g.T.Expand.asks c.expand-variable.result.1) (g.T.Expand.asks c.expand-variable.result.2)
halves g t c = record {
  posed = c.requires.posed;
  settled = c.requires.unsettled;
  first = c.expand-variable.ensures.first;
  low = c.expand-variable.ensures.low;
  high = c.expand-variable.ensures.high;
}

pub descend-number-requires-2 : goal.descend-number-requires-2
descend-number-requires-2 g t c κs within =
    let d = c.args.self.now in
    let e = c.number.new.self in
    let m = c.in_ok-low.ensures in
    let x = m.outcome.parts.ext in
    let task = g.T.Expand.asks c.expand-variable.result.2 in
    let on = c.expand-variable.ensures.high in
    let still = still_peak d e m.vars x task on.posed in
    (omega (arith, m.vars, still, on.under, c.expand-variable.ensures.first, c.requires.unsettled.0, c.decreases), (within, still_posed d e m.vars x task on.posed))

pub descend-returns-in_err-low : goal.descend-returns-in_err-low
descend-returns-in_err-low g t c =
    let p = err_from_is_err_and c.from_residual.result c.from_residual.ensures.1 in
    rw p.1 (low_stops _ _ _ _ _ (halves g t (goal.at.descend-returns-in_err-low g t c).After-expand-variable) c.number.new.self c.in_err-low.field-0.0 p.0 c.in_err-low.ensures)

pub descend-returns-in_err-high : goal.descend-returns-in_err-high
descend-returns-in_err-high g t c =
    let p = err_from_is_err_and c.from_residual-in_err-high.result c.from_residual-in_err-high.ensures.1 in
    rw p.1 (high_stops _ _ _ _ _ (halves g t (goal.at.descend-returns-in_err-high g t c).After-expand-variable) c.number.new.self c.in_ok-low.low c.in_ok-low.ensures
    c.number-2.new.self c.in_err-high.field-0.0 p.0 c.in_err-high.ensures)

pub descend-join-requires-clause-under : goal.descend-join-requires-clause-under
descend-join-requires-clause-under g t c =
    join_under _ _ _ _ _ (halves g t (goal.at.descend-join-requires-clause-under g t c).After-expand-variable) c.number.new.self c.in_ok-low.low c.in_ok-low.ensures
    c.number-2.new.self c.in_ok-high.high c.in_ok-high.ensures

pub descend-returns-in_err-number : goal.descend-returns-in_err-number
descend-returns-in_err-number g t c =
    let p = err_from_is_err_and c.from_residual-in_err-number.result c.from_residual-in_err-number.ensures.1 in
    rw p.1 (join_stops _ _ _ _ _ (halves g t (goal.at.descend-returns-in_err-number g t c).After-expand-variable) c.number.new.self c.in_ok-low.low c.in_ok-low.ensures
    c.number-2.new.self c.in_ok-high.high c.in_ok-high.ensures c.join.new.self c.in_err-number.field-0.0 p.0 c.in_err-number.ensures)

pub descend-returns-in-Some : goal.descend-returns-in-Some
descend-returns-in-Some g t c = recalled c.args.self.now (g.T.Expand.asks c.args.kind) c.in-Some.number c.requires.posed (rw c.task-task.ensures at c.in-Some.ensures)

pub descend-invariant_of-self : goal.descend-invariant_of-self
descend-invariant_of-self g t c =
    let e = c.join.new.self in
    let m = joined _ _ _ _ _ (halves g t (goal.at.descend-invariant_of-self g t c).After-expand-variable) c.number.new.self c.in_ok-low.low c.in_ok-low.ensures
    c.number-2.new.self c.in_ok-high.high c.in_ok-high.ensures e (Ok c.in_ok-number.number) c.in_ok-number.ensures in
    record {
      some = e.some;
      wide = e.wide;
      small = e.small;
      sound = e.sound;
      remembered = ∣ remembered c.args.self.now e (g.T.Expand.asks c.args.kind) c.in_ok-number.number c.remember.new.self c.requires.posed m (rw c.task-task.ensures at c.remember.ensures) ∣₁;
    }

pub descend-returns : goal.descend-returns
descend-returns g t c =
    let m = joined _ _ _ _ _ (halves g t (goal.at.descend-returns g t c).After-expand-variable) c.number.new.self c.in_ok-low.low c.in_ok-low.ensures
    c.number-2.new.self c.in_ok-high.high c.in_ok-high.ensures c.join.new.self (Ok c.in_ok-number.number) c.in_ok-number.ensures in
    record { vars = m.vars; capacity = m.capacity; outcome = m.outcome }
