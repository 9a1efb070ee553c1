-- The records of the numbers of a sound list of tables.
use Rattle.std.proofs.Common.{◌≡◌, ℕ, suc, ◌+◌, ◌<◌, true, List, length, get_or, Some, Option, sym, ap, ◌∙◌, subst, ⊎_elim, arith}
use Rattle.std.specs.List.{slice_get}
use Rattle.std.proofs.ByRecursion.{All-get_or}
use Rattle.std.proofs.lemmas.Option.{slice_get-get_or, slice_get_past}
use Rattle.std.proofs.lemmas.Bool.{cases_lt, lt-ltb, le-ltb}
use Rattle.table.specs.declared.truths.Truths.{Truths}
use Rattle.table.specs.Tables.{truth, table}
use Rattle.table.specs.Shows.{kept, shown, sound}
use Rattle.table.specs.Records.{IsRecord, RecordOf}
use Rattle.table.proofs.Tables.{table_past, table_size}
use Rattle.table.proofs.Sound.{sound_tells}

module _ (n : ℕ) (xs : List Truths) (capacity : ℕ) (s : sound n xs ≡ true) where
  kept_record : (k : ℕ) (t : Truths)
      → k < length xs
      → slice_get xs k ≡ Some t
      → t ≡ table n (truth t)
      → IsRecord (shown n xs capacity) (suc (suc k)) t
  kept_record k t h is e = record {
    own = omega arith;
    size = ap (λ u. length u.bytes) e ∙ table_size n (truth t);
    held = lt-ltb (suc (suc k)) (length xs + 2) (omega arith);
    value = λ w _. ap (λ r. kept r w) is;
    rest = λ w past low. ap (λ u. truth u w) e ∙ table_past n (truth t) w past low;
  }

  -- r is what stands at place k
  pub record_told : (a k : ℕ) (r : Option Truths) → a ≡ k + 2 → r ≡ slice_get xs k → RecordOf (shown n xs capacity) a r
  record_told a k r e at = subst (λ (b : ℕ). RecordOf (shown n xs capacity) b r) (sym (e ∙ two)) (⊎_elim
      (λ h. subst (RecordOf (shown n xs capacity) (suc (suc k))) (sym (at ∙ slice_get-get_or xs k none h))
      (kept_record k (get_or xs k none) h (slice_get-get_or xs k none h)
      (All-get_or _ xs k none h ((sound_tells n xs).0 s).0)))
      (λ h. subst (RecordOf (shown n xs capacity) (suc (suc k))) (sym (at ∙ slice_get_past xs k h))
      (λ _. le-ltb (suc (suc k)) (length xs + 2) (omega arith)))
      (cases_lt k (length xs)))
    where
      two : k + 2 ≡ suc (suc k)
      two = omega arith

      none : Truths
      none = table n (λ _. true)
