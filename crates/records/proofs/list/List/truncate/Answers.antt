use Rattle.std.proofs.Common.{take, refl, ap, ◌∙◌, arith}
use mathlib.Core.Logic.{∥∥₁_map}
use Rattle.records.specs.Contents.{entries, room}
use Rattle.records.proofs.Contents.{shortened}
use Rattle.records.proofs.Order.{orderly_cut}
use Rattle.records.proofs.list.List.truncate.Goals as goal

pub invariant_of-self : goal.invariant_of-self
invariant_of-self g c =
    let l = c.args.self.now in
    let e = ap (λ n. take n l.records.now) c.min-self.ensures ∙ shortened l.records.now l.used c.args.kept in
    record {
      within = omega (arith, l.within, c.min-self.ensures);
      orderly = ∥∥₁_map l.orderly (λ f. orderly_cut g.T.PartialEq.eq g.met.T.Eq.laws g.T.Entry.hashed _ _ f _ _ c.args.kept e c.truncate.ensures);
    }

pub returns : goal.returns
unfolding entries room
returns g c =
    let l = c.args.self.now in
    record {
      entries = ap (λ n. take n l.records.now) c.min-self.ensures ∙ shortened l.records.now l.used c.args.kept;
      room = refl;
    }
