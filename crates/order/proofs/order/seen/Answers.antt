use Rattle.std.proofs.Common.{ℕ, ltb, true, ◌||◌, ap, ◌∙◌, rules, arith}
use Rattle.std.proofs.lemmas.Iterator.{YieldsList-from_slice}
use Rattle.std.proofs.lemmas.Iterator.Consumers.{fold_from_yields_List}
use Rattle.store.specs.Fun.{bit}
use Rattle.store.proofs.Word.{bit_past}
use Rattle.order.specs.Listing.{times}
use Rattle.order.proofs.Permute.{put, put_is}
use Rattle.order.proofs.Seen.{bit_seen}
use Rattle.order.proofs.order.seen.Goals as goal

pub returns : goal.returns
returns c j h =
    let xs = c.args.p.now in
    ap (bit j) (fold_from_yields_List _ (λ (v x : ℕ). put x true v) 0 c.fold.result c.fold.ensures.ran (YieldsList-from_slice xs (cc)) (λ a x b q k. search (rules, put_is)))
    ∙ bit_seen xs 0 j h
    ∙ ap (λ b. b || ltb 0 (times j xs)) (bit_past 0 j 0 (omega arith) (omega arith))
