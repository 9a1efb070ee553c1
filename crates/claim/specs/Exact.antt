-- Each text is read in one way or refused for one fault, and never both.
use Rattle.std.specs.Prelude.{◌≡◌, ℕ, ◌≤◌, ◌⊎◌, ◌↔◌, List, length}
use Rattle.circuit.specs.declared.sizes.Sizes.{Sizes}
use Rattle.claim.specs.declared.fault.Fault.{Fault}
use Rattle.claim.specs.declared.fault.Fault.TheVariants.{Name, Deep}
use Rattle.claim.specs.Tokens.{Tok, tokens}
use Rattle.claim.specs.Grammar.{Tree, Says}
use Rattle.claim.specs.Faults.{Fails, Read, Refused}
use Rattle.claim.specs.Spelling.{Spelling}
use Rattle.claim.specs.Nesting.{deepest}
use Rattle.claim.specs.Refusals.{FirstFault}

pub record Exact (bs : List ℕ) (z : Sizes) : Type 0 where
  pub spelling : Spelling bs
  -- no token of a derived text is the 17th that opens exactly if at most 16 are open at once
  pub depth : (ts : List Tok) (t : Tree) (d : Says ts t) → (deepest d ≤ 16) ↔ ((p : ℕ) → Fails z ts (Deep p) → ⊥)
  -- within length, names and depth a text is read exactly when the grammar derives its tokens
  pub reads : (t : Tree)
      → Read bs z t
      ↔ ((length bs ≤ 512)
      × Says (tokens 0 0 bs) t
      × ((p : ℕ) → Fails z (tokens 0 0 bs) (Name p) → ⊥)
      × ((p : ℕ) → Fails z (tokens 0 0 bs) (Deep p) → ⊥))
  -- and then no token is at fault
  pub sound : (t : Tree) → Read bs z t → (f : Fault) → Fails z (tokens 0 0 bs) f → ⊥
  -- a text that is not too long is refused for the first fault that its bytes meet
  pub refuses : (f : Fault) → length bs ≤ 512 → Refused bs z f ↔ FirstFault bs z f
  pub one_tree : (t u : Tree) → Read bs z t → Read bs z u → t ≡ u
  pub one_fault : (f g : Fault) → Refused bs z f → Refused bs z g → f ≡ g
  pub not_both : (t : Tree) (f : Fault) → Read bs z t → Refused bs z f → ⊥
  pub always : ((t : Tree) × Read bs z t) ⊎ ((f : Fault) × Refused bs z f)
