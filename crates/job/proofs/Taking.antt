-- A room that is filled part after part.
use Rattle.std.proofs.Common.{◌≡◌, ℕ, ◌+◌, ◌≤◌, List, ◌++◌, length, take, ap, ap₂, ◌∙◌}
use Rattle.std.proofs.lemmas.List.{take_at, drop_at, length-take-le, take-append-le}
use borrow.Rule.Slice.PartMut.{put_mid, post_of}
use lib.Seq.{take-add}

-- what is filled, and then the front of what was put after it
pub filled_more : (a k n : ℕ) (xs ys : List ℕ) → a ≤ length xs → n ≤ length ys → take (a + n) (put_mid a k xs ys) ≡ take a xs ++ take n ys
filled_more a k n xs ys within fits =
    let after = post_of a k xs in
    let long = length-take-le a xs within in
    take-add a n (put_mid a k xs ys)
    ∙ ap₂ ◌++◌ (take_at (take a xs) (ys ++ after) a long) (ap (take n) (drop_at (take a xs) (ys ++ after) a long) ∙ take-append-le n ys after fits)
