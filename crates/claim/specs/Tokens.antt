-- The tokens of a text. A text is a list of bytes, and a place counts bytes from 0.
use Rattle.std.specs.Prelude.{ℕ, zero, suc, ◌+◌, Bool, true, false, cond, ◌&&◌, List, [], ◌∷◌, length, ◌==◌, nat_le}
use Rattle.circuit.specs.declared.sort.Sort.{Sort}
use Rattle.circuit.specs.declared.sort.Sort.TheVariants.{Register, Input, Gate}

pub data Kind : Type 0 where
  bang : Kind
  amp : Kind
  bar : Kind
  lparen : Kind
  rparen : Kind
  constant : Bool → Kind
  -- a letter and its digits
  name : Sort → List ℕ → Kind
  -- a byte that begins no token, or a letter that lacks a proper number
  wrong : Kind
  -- the end of the text
  end : Kind

pub record Tok : Type 0 where
  pub kind : Kind
  pub place : ℕ

abbrev pub tok : ℕ → Kind → Tok
tok p k = record { kind = k; place = p }

-- what a byte begins: nothing, a token of one byte, or a name
pub data Class : Type 0 where
  space : Class
  mark : Kind → Class
  letter : Sort → Class

abbrev pub class : ℕ → Class
class b =
    cond (b == 32) space (
    cond (b == 33) (mark bang) (
    cond (b == 38) (mark amp) (
    cond (b == 124) (mark bar) (
    cond (b == 40) (mark lparen) (
    cond (b == 41) (mark rparen) (
    cond (b == 48) (mark (constant false)) (
    cond (b == 49) (mark (constant true)) (
    cond (b == 115) (letter Register) (
    cond (b == 118) (letter Input) (
    cond (b == 103) (letter Gate) (
    mark wrong)))))))))))

abbrev pub digit : ℕ → Bool
digit b = nat_le 48 b && nat_le b 57

-- all digits at the front
abbrev pub digits : List ℕ → List ℕ
digits [] = []
digits (b ∷ bs) = cond (digit b) (b ∷ digits bs) []

-- a letter with these digits: one at least, and a leading zero stands alone
abbrev pub name_of : Sort → List ℕ → Kind
name_of s [] = wrong
name_of s (d ∷ []) = name s (d ∷ [])
name_of s (d ∷ e ∷ ds) = cond (d == 48) wrong (name s (d ∷ e ∷ ds))

-- the token that a byte at p begins, if any, in front of those that follow
abbrev pub begun : Class → ℕ → List ℕ → List Tok → List Tok
begun space p ds xs = xs
begun (mark k) p ds xs = tok p k ∷ xs
begun (letter s) p ds xs = tok p (name_of s ds) ∷ xs

-- how many more bytes that token has
abbrev pub more : Class → List ℕ → ℕ
more space ds = 0
more (mark k) ds = 0
more (letter s) ds = length ds

-- the tokens of the bytes from place p on, but for the first n bytes
abbrev pub tokens : ℕ → ℕ → List ℕ → List Tok
tokens n p [] = tok p end ∷ []
tokens zero p (b ∷ bs) = begun (class b) p (digits bs) (tokens (more (class b) (digits bs)) (p + 1) bs)
tokens (suc n) p (b ∷ bs) = tokens n (p + 1) bs
