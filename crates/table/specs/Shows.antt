-- What a table store of n variables with the tables xs shows to its user.
use Rattle.std.specs.Prelude.{ℕ, zero, suc, ◌+◌, Bool, true, false, cond, not, ◌&&◌, List, [], ◌∷◌, length, Some, None, Option, nat_lt}
use Rattle.std.specs.List.{slice_get}
use Rattle.std.specs.declared.cmp.PartialEq as eq
use Rattle.records.specs.declared.entry.Entry as entry
use Rattle.records.specs.declared.list.List.{List as Records}
use Rattle.records.specs.Contents.{entries, room}
use Rattle.std.specs.Str.{bytes_eq}
use Rattle.store.specs.Fitting.{fits}
use Rattle.store.specs.Fun.{Fn, each, same}
use Rattle.store.specs.Meaning.{Shown}
use Rattle.table.specs.declared.truths.Truths.{Truths}
use Rattle.table.specs.Tables.{truth, table}

abbrev pub kept : Option Truths → Fn
kept None w = false
kept (Some t) w = truth t w

-- number 0 is false, 1 true, and k + 2 the table at place k
abbrev pub value : List Truths → ℕ → Fn
value xs zero w = false
value xs (suc zero) w = true
value xs (suc (suc k)) w = kept (slice_get xs k) w

-- a price is 1, and 0 for what is held
abbrev pub shown : ℕ → List Truths → ℕ → Shown
shown n xs capacity = record {
  vars = n;
  held = λ a. nat_lt a (length xs + 2);
  value = value xs;
  used = length xs;
  capacity = capacity;
  top = 1;
  tariff = λ held f. cond (held f) 0 1;
}

-- with the tables in a list of records
abbrev pub showing : {e : entry.Ghosts Truths} {p : eq.Ghosts Truths} → ℕ → Records Truths e p → Shown
showing n l = shown n (entries l) (room l)

-- whether each table is that of its function, with the bits from 2^n on 0
abbrev pub exact : ℕ → List Truths → Bool
exact n [] = true
exact n (t ∷ xs) = bytes_eq t.bytes (table n (truth t)).bytes && exact n xs

-- whether no two numbers have the same function
abbrev pub distinct : ℕ → List Truths → Bool
distinct n xs = each (λ b. each (λ a. not (same n (value xs a) (value xs b))) b) (length xs + 2)

unfoldable pub sound : ℕ → List Truths → Bool
sound n xs = exact n xs && distinct n xs

-- whether a table store of n variables can be made over so many records
abbrev pub suits : ℕ → ℕ → Bool
suits n records = fits n 10 records
