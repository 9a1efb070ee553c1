-- Literals, and their numbers in a file.
use Rattle.std.specs.Prelude.{ℕ, ◌+◌, ◌*◌, ◌/◌, ◌%◌, Bool, cond, ◌==◌}

-- a line or its negation
pub record Literal : Type 0 where
  pub line : ℕ
  pub negated : Bool

-- number 2x is line x, and 2x + 1 is its negation
abbrev pub literal_of : ℕ → Literal
literal_of x = record { line = x / 2; negated = x % 2 == 1 }

abbrev pub literal_number : Literal → ℕ
literal_number x = 2 * x.line + cond x.negated 1 0
