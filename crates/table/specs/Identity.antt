-- Two tables are identical exactly if their bytes are equal.
use Rattle.std.specs.Prelude.{◌≡◌, Bool, true, Decides}
use Rattle.std.specs.Str.{bytes_eq}
use Rattle.std.proofs.Common.{ap}
use Rattle.std.proofs.lemmas.Bool.Decides.{Decides-like}
use Rattle.std.proofs.lemmas.Slice.Eq.{bytes_eq-Decides}
use Rattle.table.specs.declared.truths.Truths.{Truths}
use Rattle.table.specs.Hash.{mixed}

-- what their `==` answers
abbrev pub alike : Truths → Truths → Bool
alike a b = bytes_eq a.bytes b.bytes

pub truths_exact : (a b : Truths) → Decides (alike a b) (a ≡ b)
truths_exact a b = Decides-like _ (ap (λ bytes. record { bytes = bytes })) (ap (λ (t : Truths). t.bytes)) (bytes_eq-Decides a.bytes b.bytes)

pub alike_mixed : (a b : Truths) → alike a b ≡ true → mixed a ≡ mixed b
alike_mixed a b e = ap mixed ((truths_exact a b).0 e)
