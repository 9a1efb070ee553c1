-- Chains of places, one a bucket, by links. A head or a link is 1 + a place, or 0 for none.
use Rattle.std.specs.Prelude.{◌≡◌, ℕ, suc, ◌<◌, ◌≤◌, min, ◌≢◌, List, length, slice_index, slice_index_or, slice_set}
use Rattle.records.specs.declared.index.Index.{Index}

-- how many buckets there are
abbrev pub buckets : ℕ
buckets = 16384

-- place k is on the chain from `at`, each link of which goes to an earlier place
pub data Chained (links : List ℕ) : ℕ → ℕ → Type 0 where
  here : {k : ℕ} → Chained links (suc k) k
  there : {i k : ℕ} → slice_index links i ≤ i → Chained links (slice_index links i) k → Chained links (suc i) k

-- how many places can be filed
abbrev pub limit : Index → ℕ
limit x = min (length x.links.now) 65535

-- y is x with the place as the newest of the bucket
pub record Newest (x : Index) (place bucket : ℕ) (y : Index) : Type 0 where
  pub head : slice_index_or y.heads bucket 0 ≡ suc place
  pub others : (b : ℕ) → b ≢ bucket → slice_index y.heads b ≡ slice_index x.heads b
  pub links : y.links.now ≡ slice_set x.links.now place (slice_index x.heads bucket)

-- from r on goes what the chain from a head has of the first `kept` places
pub record Unwound (links : List ℕ) (head kept r : ℕ) : Type 0 where
  pub below : r ≤ kept
  pub lower : r ≤ head
  pub chain : (k : ℕ) → k < kept → k < length links → Chained links head k → Chained links r k

-- y is x with the first `kept` places only
pub record Cut (x : Index) (kept : ℕ) (y : Index) : Type 0 where
  pub links : y.links.now ≡ x.links.now
  pub heads : (b : ℕ) → b < buckets → Unwound x.links.now (slice_index x.heads b) kept (slice_index y.heads b)
