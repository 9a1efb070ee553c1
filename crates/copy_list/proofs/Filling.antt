-- Places that are filled from the start, and blank from there on.
use Rattle.std.proofs.Common.{◌≡◌, ℕ, ◌+◌, ◌-◌, ◌<◌, ◌≤◌, ◌++◌, List, length, drop, replicate, slice_set, subst, sym, ap, ◌∙◌, arith}
use Rattle.std.proofs.Math.Seq.{drop-append_seam}
use Rattle.std.proofs.lemmas.List.{length-append, length-drop, length-replicate, length-set, drop-replicate, drop-set-lt, drop-drop}
use Rattle.copy_list.specs.Lists.{Filled}

pub filled : {A : Type 0} (most : ℕ) (blank : A) (items front places : List A)
    → length items ≤ most
    → front ≡ items
    → places ≡ replicate most blank
    → Filled most blank (length items) (front ++ drop (length items) places)
filled most blank items front places few is blanks =
    subst (λ xs. Filled most blank (length items) (xs ++ drop (length items) places)) (sym is)
    (subst (λ xs. Filled most blank (length items) (items ++ drop (length items) xs)) (sym blanks) (
      few,
      grind (arith, length-append, length-drop, length-replicate, few),
      drop-append_seam items (drop (length items) (replicate most blank)) ∙ drop-replicate (length items) most blank,
    ))

-- one place more is filled
pub filled_more : {A : Type 0} (most : ℕ) (blank : A) (count : ℕ) (places : List A) (item : A)
    → Filled most blank count places
    → count < most
    → Filled most blank (count + 1) (slice_set places count item)
filled_more most blank count places item f room = (
  omega (arith, room),
  length-set places count item ∙ f.1,
  drop-set-lt (count + 1) places count item (omega arith)
      ∙ sym (drop-drop 1 count places)
      ∙ ap (drop 1) f.2
      ∙ drop-replicate 1 (most - count) blank
      ∙ ap (λ k. replicate k blank) (omega arith),
)
