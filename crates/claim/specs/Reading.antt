-- What the readers promise one another.
use Rattle.std.specs.Prelude.{◌≡◌, ℕ, ◌+◌, ◌≤◌, List, [], ◌++◌, length, Ok, ◌≢◌}
use Rattle.circuit.specs.declared.sizes.Sizes.{Sizes}
use Rattle.claim.specs.declared.code.Code.{Code}
use Rattle.claim.specs.declared.fault.Fault.{Fault}
use Rattle.claim.specs.declared.lexer.Token.{Token}
use Rattle.claim.specs.declared.lexer.Token.TheVariants.{And, Or}
use Rattle.claim.specs.declared.reader.Reader.{Reader}
use Rattle.claim.specs.Tokens.{Tok, tok, tokens}
use Rattle.claim.specs.Seen.{kind_of, left}
use Rattle.claim.specs.Grammar.{Level, claim, term, factor, Tree, Derives, post}
use Rattle.claim.specs.Machine.{want, have, depths, scan, Halts}

-- the token ahead
abbrev pub ahead : Reader → Tok
ahead a = tok a.ahead.place (kind_of a.ahead.token)

-- no token was passed and no code written
pub record Begun (bs : List ℕ) (z : Sizes) (a : Reader) : Type 0 where
  pub text : a.text.now ≡ bs
  pub sizes : a.sizes ≡ z
  pub first : tokens 0 0 bs ≡ left bs a.ahead
  pub none : a.codes.items ≡ []

-- from a to b the tokens ts were passed and the codes cs written
pub record Reach (a b : Reader) (ts : List Tok) (cs : List Code) : Type 0 where
  pub text : b.text.now ≡ a.text.now
  pub sizes : b.sizes ≡ a.sizes
  pub passed : left a.text.now a.ahead ≡ ts ++ left a.text.now b.ahead
  pub far : a.ahead.place + length ts ≤ b.ahead.place
  pub wrote : b.codes.items ≡ a.codes.items ++ cs

-- which counts of `!` may stand just before
abbrev pub Bare : Level → ℕ → Type 0
Bare claim n = n ≡ 0
Bare term n = n ≡ 0
Bare factor n = Unit {0}

-- what does not come next
abbrev pub Follow : Level → Token → Type 0
Follow claim t = (t ≢ And) × (t ≢ Or)
Follow term t = t ≡ And → ⊥
Follow factor t = Unit {0}

-- tokens of one level were read from a to b, with d open before
pub record Sofar (l : Level) (d : ℕ) (a b : Reader) : Type 0 where
  pub ts : List Tok
  pub tree : Tree
  pub reach : Reach a b ts (post tree)
  pub derived : Derives l ts tree
  pub path : (n : ℕ) (r : List ℕ) → n + depths r ≡ d → Bare l n → scan a.sizes (Ok (want n r)) ts ≡ Ok (have r)

pub record Taken (l : Level) (d : ℕ) (a b : Reader) : Type 0 where
  pub sofar : Sofar l d a b
  pub follow : Follow l b.ahead.token

-- the reading stopped at b, whose token is at fault
pub record Stopped (l : Level) (d : ℕ) (a b : Reader) (f : Fault) : Type 0 where
  pub ts : List Tok
  pub cs : List Code
  pub reach : Reach a b ts cs
  pub halts : (n : ℕ) (r : List ℕ) → n + depths r ≡ d → Bare l n → Halts a.sizes (want n r) ts (ahead b) f
