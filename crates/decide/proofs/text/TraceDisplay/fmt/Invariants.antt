use Rattle.std.proofs.Common.{get_or}
use Rattle.std.specs.Fmt.{IsPlainFormatter, HasWritten}
use Rattle.decide.specs.Traces.{none}
use Rattle.decide.specs.Texts.{steps_before}
use Rattle.decide.proofs.text.TraceDisplay.fmt.Given as goal

-- the steps before t are written
abbrev pub invariant-loop-t : goal.invariant-loop-t
invariant-loop-t g l = IsPlainFormatter l.initial.f
    → HasWritten g.W.Write.write_str_gives l.initial.f (steps_before l.t-counter (λ i. (get_or l.step-items i none).state) (λ i. (get_or l.step-items i none).input)) l.f
