-- What is read of a reader, where the bytes that it has are known.
use Rattle.std.specs.Prelude.{◌≡◌, ℕ, ◌≤◌, List, length, take, drop, IfSome, Option, Some}
use Rattle.std.specs.Io.KnownBytes.{Consumes}

-- the first n bytes of those before were read, or all where there are fewer, and no more were taken
abbrev pub ReadsFirst : ℕ → Option (List ℕ) → List ℕ → Option (List ℕ) → Type 0
ReadsFirst n before read after = IfSome before (λ had. (read ≡ take n had) × (after ≡ Some (drop n had)))

-- no more than n bytes were taken, from the front
abbrev pub TakesAtMost : ℕ → Option (List ℕ) → Option (List ℕ) → Type 0
TakesAtMost n before after = (taken : List ℕ) × (length taken ≤ n) × Consumes before after taken
