-- What a look-up answers, and what the list then holds, up to the equality that the entries tell.
use Rattle.std.specs.Prelude.{◌≡◌, ℕ, ◌<◌, ◌≤◌, Bool, true, ◌⊎◌, Some, None, Option, Ok, Err, Result}
use Rattle.std.specs.Prelude.{List, [], ◌∷◌, ◌++◌, length}
use Rattle.std.specs.List.{slice_get}
use Rattle.records.specs.declared.Full.{Full}
use Rattle.std.specs.declared.cmp.PartialEq as eq
use Rattle.records.specs.declared.entry.Entry as entry
use Rattle.records.specs.declared.list.List.{List as Records}
use Rattle.records.specs.Contents.{entries, room}

module _ {T : Type 0} (eq : T → T → Bool) where
  -- an entry equal to x stands at place k
  abbrev pub Stands : List T → ℕ → T → Type 0
  Stands xs k x = (y : T) × (slice_get xs k ≡ Some y) × (eq y x ≡ true)

  -- none stands at one of the first n places
  abbrev pub Absent : List T → ℕ → T → Type 0
  Absent xs n x = (k : ℕ) → k < n → Stands xs k x → ⊥

  -- one stood at place i
  abbrev pub Found : List T → T → ℕ → List T → Type 0
  Found xs x i ys = Stands xs i x × (ys ≡ xs)

  -- x was added at the end, place i, where there was room
  abbrev pub Added : List T → ℕ → T → ℕ → List T → Type 0
  Added xs room x i ys = (i ≡ length xs) × (length xs < room) × (ys ≡ xs ++ x ∷ [])

  -- what the look-up of x in the entries xs answers, by how many there can be, and the entries that then stand, ys:
  -- the lowest place of an equal entry, or where x was added; or that none stands anywhere, and no record is left
  abbrev pub Answers : List T → ℕ → T → Result ℕ Full → List T → Type 0
  Answers xs room x (Ok i) ys = Absent xs i x × (Found xs x i ys ⊎ Added xs room x i ys)
  Answers xs room x (Err _) ys = (length xs ≡ room) × Absent xs (length xs) x × (ys ≡ xs)

  -- a place of an entry equal to x; or that none stands from `low` on and below `high`
  abbrev pub Among : List T → T → ℕ → ℕ → Option ℕ → Type 0
  Among xs x low high (Some i) = Stands xs i x
  Among xs x low high None = (k : ℕ) → low ≤ k → k < high → Stands xs k x → ⊥

  -- the lowest place of an entry equal to x; or that none stands anywhere
  abbrev pub Finds : List T → T → Option ℕ → Type 0
  Finds xs x (Some i) = Stands xs i x × Absent xs i x
  Finds xs x None = Absent xs (length xs) x

-- the list l looks x up, answers r, and is then m
abbrev pub Places : {T : Type 0} {e : entry.Ghosts T} {p : eq.Ghosts T}
    → Records T e p → T → Result ℕ Full → Records T e p → Type 0
Places {p} l x r m = Answers p.eq (entries l) (room l) x r (entries m) × (room m ≡ room l)
