-- Where a text is at fault, by its bytes.
use Rattle.std.specs.Prelude.{◌≡◌, ℕ, ◌≤◌, List, [], ◌∷◌, ◌++◌}
use Rattle.circuit.specs.declared.sizes.Sizes.{Sizes}
use Rattle.claim.specs.declared.fault.Fault.{Fault}
use Rattle.claim.specs.declared.fault.Fault.TheVariants.{Claim}
use Rattle.claim.specs.Tokens.{Kind, wrong, end, Tok, tok}
use Rattle.claim.specs.Spelling.{Spells, Stray}
use Rattle.claim.specs.Faults.{AtFault}

-- the first bytes spell the tokens ts, and what then comes at place p is a token that they spell, the end,
-- or neither a space nor a token
pub data Meets (bs : List ℕ) (ts : List Tok) (p : ℕ) : Kind → Type 0 where
  a_token : {k : Kind} (q : ℕ) (cs : List ℕ) → Spells 0 bs (ts ++ tok p k ∷ []) q cs → Meets bs ts p k
  the_end : Spells 0 bs ts p [] → Meets bs ts p end
  no_token : {cs : List ℕ} → Spells 0 bs ts p cs → Stray cs → Meets bs ts p wrong

-- f is why what is met at a place is at fault, nothing that is met sooner is, and there Claim wins
pub record FirstFault (bs : List ℕ) (z : Sizes) (f : Fault) : Type 0 where
  pub before : List Tok
  pub place : ℕ
  pub kind : Kind
  pub met : Meets bs before place kind
  pub why : AtFault z before place kind f
  pub lowest : (ts : List Tok) (p : ℕ) (k : Kind) (g : Fault) → Meets bs ts p k → AtFault z ts p k g → place ≤ p
  pub claim_wins : AtFault z before place kind (Claim place) → f ≡ Claim place
