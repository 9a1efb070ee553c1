-- The hash of a node.
use Rattle.std.specs.Prelude.{ℕ, ◌+◌, ◌*◌, ◌/◌, ◌%◌, ◌^◌}
use Rattle.nodes.specs.declared.Node.{Node}

-- its fields side by side, times an odd number near 2^64 by the golden ratio, and of that the highest 16 bits of 64
unfoldable pub mixed : Node → ℕ
mixed x = (x.low + 65536 * x.high + 65536 * 65536 * x.variable) * 0x9e37_79b9_7f4a_7c15 % 2 ^ 64 / 2 ^ 48
