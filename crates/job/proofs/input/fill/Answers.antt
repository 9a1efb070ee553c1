use Rattle.std.proofs.Common.{◌≡◌, ◌-◌, ◌≤◌, ◌++◌, length, take, rules, sym, ap, subst, arith}
use Rattle.std.proofs.lemmas.List.{length-append, length-take-le}
use Rattle.std.proofs.KnownBytes.{Consumes-trans}
use Rattle.std.specs.Io.KnownBytes.{Consumes}
use Rattle.job.proofs.Taking.{filled_more}
use Rattle.job.proofs.input.fill.Goals as goal

pub loop-filled-preserved : goal.loop-filled-preserved
loop-filled-preserved g c =
    let room = c.loop-filled.room in
    let filled = c.loop-filled.filled in
    let part = filled_more filled (length room - filled) c.in_ok-count.count room c.read_some.new.room c.loop-filled.invariant.1 c.in_ok-count.ensures.bound.0 in
    (search rules, search rules, subst (Consumes _ _) (sym part) (Consumes-trans _ _ _ _ _ c.loop-filled.invariant.2 c.in_ok-count.ensures.bytes.0))

pub returns-then-count-eq0-clause-most : goal.returns-then-count-eq0-clause-most
returns-then-count-eq0-clause-most g c =
    let filled = take c.loop-filled.filled c.loop-filled.room in
    let read = take c.in_ok-count.count c.read_some.new.room in
    let long : length filled ≤ c.loop-filled.filled = search rules in
    let none : length read ≡ 0 = search rules in
    (filled ++ read, omega (arith, long, none, length-append filled read, c.loop-filled.invariant), Consumes-trans _ _ _ _ _ c.loop-filled.invariant.2 c.in_ok-count.ensures.bytes.0)
