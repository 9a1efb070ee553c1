use Rattle.std.proofs.Common.{ℕ, length, Some, None, Option}
use Rattle.records.specs.Contents.{entries}
use Rattle.records.specs.Orderly.{filed}
use Rattle.records.specs.Placing.{Among, Finds}
use Rattle.records.proofs.Order.{is_lowest, stands_nowhere}
use Rattle.records.proofs.list.List.place.Goals as goal

pub returns-in-Some : goal.returns-in-Some
unfolding entries
returns-in-Some g c =
    let l = c.args.self.now in
    let e = c.in-Some.ensures in
    (e, is_lowest g.T.PartialEq.eq g.met.T.Eq.laws g.T.Entry.hashed (entries l) l.index c.args.item.now l.orderly c.in-Some.place e)

pub returns : goal.returns
unfolding entries
returns g c =
    let l = c.args.self.now in
    let xs = entries l in
    let by : (r : Option ℕ) → Among g.T.PartialEq.eq xs c.args.item.now (filed xs l.index) (length xs) r → Finds g.T.PartialEq.eq xs c.args.item.now r = ends in
    by c.past_chains.result c.past_chains.ensures
  where
    ends : (r : Option ℕ) → Among g.T.PartialEq.eq (entries c.args.self.now) c.args.item.now (filed (entries c.args.self.now) c.args.self.now.index) (length (entries c.args.self.now)) r
        → Finds g.T.PartialEq.eq (entries c.args.self.now) c.args.item.now r
    ends (Some k) e = (e, is_lowest g.T.PartialEq.eq g.met.T.Eq.laws g.T.Entry.hashed (entries c.args.self.now) c.args.self.now.index c.args.item.now c.args.self.now.orderly k e)
    ends None e = stands_nowhere g.T.PartialEq.eq (entries c.args.self.now) c.args.item.now (filed (entries c.args.self.now) c.args.self.now.index) c.in_default.ensures e
