-- What a list holds.
use Rattle.std.specs.Prelude.{ℕ, List, length, take}
use Rattle.std.specs.declared.cmp.PartialEq as eq
use Rattle.records.specs.declared.entry.Entry as entry
use Rattle.records.specs.declared.list.List.{List as Records}

-- the entries in use, first to last
unfoldable pub entries : {T : Type 0} {e : entry.Ghosts T} {p : eq.Ghosts T} → Records T e p → List T
entries l = take l.used l.records.now

-- how many entries there can be
unfoldable pub room : {T : Type 0} {e : entry.Ghosts T} {p : eq.Ghosts T} → Records T e p → ℕ
room l = length l.records.now
