use Rattle.std.proofs.Common.{◌≡◌, ℕ, ◌%◌, ◌<◌, ◌≤◌, length, get_or, zero-add, sym, refl, ap, ◌∙◌, subst, rules, arith}
use Rattle.std.proofs.lemmas.List.{get_or_default}
use Rattle.std.proofs.lemmas.Iterator.{YieldsList-from_range, YieldsList-from_slice, YieldsList-from_zip}
use Rattle.std.proofs.lemmas.Iterator.Consumers.{fold_from_yields_List}
use Rattle.store.specs.Fun.{bit}
use Rattle.order.specs.Listing.{place}
use Rattle.order.specs.Renaming.{placed}
use Rattle.order.proofs.Lists.{place_is, order_below}
use Rattle.order.proofs.Permute.{put, put_is, placed_from}
use Rattle.order.proofs.order.Order.valuation_below.Goals as goal

pub returns : goal.returns
returns c =
    let o = c.args.self.now in
    let xs = o.places.items in
    let w = c.args.w in
    let few : length xs ≤ 24 = omega (arith, ap length c.as_slice.ensures.value, c.as_slice.ensures.fits) in
    let low : (i : ℕ) → i < length xs → place xs i < 32 = λ i h. omega (arith, few, order_below (length xs) xs i h, place_is (length xs) xs o.once (λ _. refl) i) in
    fold_from_yields_List _ (λ (v : ℕ) (q : ℕ × ℕ). put (q.1 % 32) (bit q.0 w) v) w c.fold.result c.fold.ensures.ran
    (YieldsList-from_zip (YieldsList-from_range 0 24 24 (cc) (omega arith)) (YieldsList-from_slice xs (cc)))
    (λ a x b q k. search (rules, put_is))
    ∙ placed_from (place xs) w 0 24 xs few
    (λ i h. subst (λ (k : ℕ). (get_or xs i 0 ≡ place xs k) × (place xs k < 32)) (sym (zero-add i)) (get_or_default xs i 0 i h, low i h))
    ∙ ap (λ k. placed (place xs) k w) (zero-add (length xs))
