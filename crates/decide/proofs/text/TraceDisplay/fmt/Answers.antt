use Rattle.std.proofs.Common.{◌≡◌, length, get_or, is_ok, ap, subst, add-one, arith}
use Rattle.std.specs.Fmt.{HasWritten}
use Rattle.std.proofs.Output.{writes_in_calls_nil, has_written_append}
use Rattle.decide.specs.Traces.{none}
use Rattle.decide.specs.Texts.{steps_before}
use Rattle.decide.proofs.text.TraceDisplay.fmt.Goals as goal

pub loop-t-init : goal.loop-t-init
loop-t-init g c p = record { wrote = writes_in_calls_nil _ _; plain = p }

pub loop-t-preserved : goal.loop-t-preserved
loop-t-preserved g c p =
    let before = c.loop-t.invariant p in
    let more = c.writeln.ensures.writes before.plain (ap is_ok c.in_ok-writeln.was) in
    rw add-one (has_written_append g.W.Write.write_str_gives _ _ _ _ _ before more)

pub returns-clause-writes : goal.returns-clause-writes
returns-clause-writes g c p o =
    let xs = c.as_slice-step-items.result.now in
    let e : c.loop-t.t-counter ≡ length xs = omega arith in
    let f = subst (λ n. HasWritten g.W.Write.write_str_gives c.args.f.now (steps_before n (λ i. (get_or xs i none).state) (λ i. (get_or xs i none).input)) c.loop-t.f) e (c.loop-t.invariant p) in
    subst (λ xs. HasWritten g.W.Write.write_str_gives c.args.f.now (steps_before (length xs) (λ i. (get_or xs i none).state) (λ i. (get_or xs i none).input)) c.loop-t.f) c.as_slice-step-items.ensures.items f
