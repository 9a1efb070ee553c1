-- What the record of a number holds, by what the store shows.
use Rattle.std.specs.Prelude.{◌≡◌, ℕ, zero, suc, ◌*◌, ◌/◌, ◌%◌, ◌^◌, ◌<◌, ◌≤◌, true, false}
use Rattle.std.specs.Prelude.{List, length, Some, None, Option, slice_index}
use Rattle.std.specs.List.{slice_get}
use Rattle.store.specs.Fun.{bit}
use Rattle.store.specs.Meaning.{Shown}
use Rattle.table.specs.declared.truths.Truths.{Truths}

-- t is the record of number a
pub record IsRecord (s : Shown) (a : ℕ) (t : Truths) : Type 0 where
  pub own : 2 ≤ a
  pub held : s.held a ≡ true
  pub size : length t.bytes ≡ 128
  -- the value at w is bit w mod 8 of byte w div 8
  pub value : (w : ℕ) → w < 2 ^ s.vars → s.value a w ≡ bit (w % 8) (slice_index t.bytes (w / 8))
  -- and bits from 2^N on are 0
  pub rest : (w : ℕ) → 2 ^ s.vars ≤ w → w < 8 * 128 → bit (w % 8) (slice_index t.bytes (w / 8)) ≡ false

-- the record of number a; or that it has none, since it is not held, or a constant
abbrev pub RecordOf : Shown → ℕ → Option Truths → Type 0
RecordOf s a (Some t) = IsRecord s a t
RecordOf s a None = 2 ≤ a → s.held a ≡ false

-- which of the records xs it is: that at place k is of number k + 2
abbrev pub record_at : List Truths → ℕ → Option Truths
record_at xs zero = None
record_at xs (suc zero) = None
record_at xs (suc (suc k)) = slice_get xs k
