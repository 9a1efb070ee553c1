-- What a reading answers.
use Rattle.std.specs.Prelude.{◌≡◌, ℕ, ◌≤◌, List, length}
use Rattle.claim.specs.declared.code.Code.{Code}
use Rattle.circuit.specs.declared.sizes.Sizes.{Sizes}
use Rattle.claim.specs.declared.codes.Codes.{Codes}
use Rattle.claim.specs.Grammar.{Tree, post, operators}
use Rattle.claim.specs.Faults.{Read}

-- the codes that are in use
abbrev pub used : Codes → List Code
used c = c.list.items

-- the codes say what the text says
pub record Reads (bs : List ℕ) (z : Sizes) (c : Codes) : Type 0 where
  pub tree : Tree
  pub read : Read bs z tree
  pub codes : used c ≡ post tree
  pub few : length (used c) ≤ length bs
  pub few_operators : operators (used c) ≤ length bs
