use Rattle.std.proofs.Common.{◌≡◌, ◌∙◌, ap, sym, subst}
use Rattle.store.specs.Meaning.{Lawful}
use Rattle.order.specs.Listing.{order_of}
use Rattle.order.specs.Renaming.{renamed, ordered}
use Rattle.order.proofs.Lists.{permutes_order}
use Rattle.order.proofs.Calls.{order_found, order_fits}
use Rattle.order.proofs.Rename.{reorders}
use Rattle.order.proofs.Layer.new.Goals as goal

pub invariant_of-result : goal.invariant_of-result
invariant_of-result g c =
    let e = c.figures-n.ensures in
    let f = order_fits c.args.p.now _ c.of.result _ c.of.ensures c.unwrap_or_default-order.ensures in
    record { fits = λ some. f some ∙ e.told.variables ∙ ap (λ s. s.vars) (sym e.same) }

pub returns : goal.returns
returns g c =
    let p = c.args.p.now in
    let s = g.S.Store.shows c.args.store in
    let e = c.figures-n.ensures in
    let places = c.unwrap_or_default-order.result.places.items in
    let found = order_found p _ c.of.result _ c.of.ensures c.unwrap_or_default-order.ensures in
    let same = subst (λ n. order_of n places ≡ order_of n p) e.told.variables found in
    record {
      below = e.same;
      order = ap (λ x. order_of x.vars places) e.same ∙ same;
      reorders = reorders _ _ (permutes_order _ places) (subst Lawful (sym e.same) e.told.lawful);
      shows = ap (ordered places) e.same ∙ ap (λ q. renamed q s) same;
    }
