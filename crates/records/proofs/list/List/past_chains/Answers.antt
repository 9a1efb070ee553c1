use Rattle.std.proofs.Common.{length, sym, subst, arith}
use Rattle.records.specs.Contents.{entries}
use Rattle.records.specs.Orderly.{filed}
use Rattle.records.specs.Placing.{Among}
use Rattle.records.proofs.Contents.{found_later, absent_later}
use Rattle.records.proofs.list.List.past_chains.Goals as goal

pub returns-in_err-place : goal.returns-in_err-place
returns-in_err-place g c =
    let xs = entries c.args.self.now in
    let n = c.filed-filed.result in
    subst (λ r. Among g.T.PartialEq.eq xs c.args.item.now (filed xs c.args.self.now.index) (length xs) r) (sym c.from_residual.ensures)
    (λ k h l. absent_later g.T.PartialEq.eq c.as_slice.result.now xs c.as_slice.ensures n (omega (arith, c.filed-filed.ensures)) c.args.item.now c.position.result c.position.ensures c.in_err-place.was k (omega (arith, c.filed-filed.ensures)) l)

pub returns : goal.returns
returns g c =
    let xs = entries c.args.self.now in
    found_later g.T.PartialEq.eq c.as_slice.result.now xs c.as_slice.ensures c.filed-filed.result (omega (arith, c.filed-filed.ensures)) c.args.item.now c.position.result c.position.ensures c.in_ok-place.place c.in_ok-place.was
