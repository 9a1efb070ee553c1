-- The order that a list keeps: each entry that has a link is on the chain of its bucket, and no two are equal.
use Rattle.std.specs.Prelude.{◌≡◌, ℕ, ◌%◌, ◌<◌, ◌≤◌, min, Bool, true, List, length, Some, slice_index}
use Rattle.std.specs.List.{slice_get}
use Rattle.records.specs.declared.index.Index.{Index}
use Rattle.records.specs.Chains.{buckets, Chained, limit}

-- how many of the entries are on chains; later ones have no link
abbrev pub filed : {T : Type 0} → List T → Index → ℕ
filed xs i = min (limit i) (length xs)

pub record Orderly {T : Type 0} (eq : T → T → Bool) (hash : T → ℕ) (xs : List T) (i : Index) : Type 0 where
  pub below : (b : ℕ) → b < buckets → slice_index i.heads b ≤ filed xs i
  pub chained : (k : ℕ) (x : T)
      → k < filed xs i
      → slice_get xs k ≡ Some x
      → Chained i.links.now (slice_index i.heads (hash x % buckets)) k
  pub once : (j k : ℕ) (x y : T)
      → slice_get xs j ≡ Some x
      → slice_get xs k ≡ Some y
      → eq x y ≡ true
      → j ≡ k
