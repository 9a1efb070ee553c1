-- The hash of a table, by four of its bytes.
use Rattle.std.specs.Prelude.{ℕ, ◌+◌, ◌*◌, slice_index}
use Rattle.table.specs.declared.truths.Truths.{Truths}

unfoldable pub mixed : Truths → ℕ
mixed t = slice_index t.bytes 0 + 64 * slice_index t.bytes 1 + (91 * slice_index t.bytes 3 + 101 * slice_index t.bytes 127)
