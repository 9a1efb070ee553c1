-- What the code sees of a text.
use Rattle.std.specs.Prelude.{◌≡◌, ℕ, ◌<◌, ◌≤◌, cond, List, [], ◌∷◌, length, drop, true, ◌≢◌, nat_lt}
use Rattle.std.specs.Str.{all_ascii_digits}
use Rattle.circuit.specs.declared.sort.Sort.{Sort}
use Rattle.claim.specs.declared.lexer.Token.{Token}
use Rattle.claim.specs.declared.lexer.Token.TheVariants.{Not, And, Or, Open, Close, Constant, Name, Wrong, End}
use Rattle.claim.specs.declared.lexer.Class as code
use Rattle.claim.specs.declared.lexer.Class.TheVariants.{Mark, Letter}
use Rattle.claim.specs.declared.lexer.Lexeme.{Lexeme}
use Rattle.claim.specs.Tokens.{Kind, bang, amp, bar, lparen, rparen, constant, name, wrong, end, Tok, tok, Class, mark, letter, tokens}

abbrev pub kind_of : Token → Kind
kind_of Not = bang
kind_of And = amp
kind_of Or = bar
kind_of Open = lparen
kind_of Close = rparen
kind_of (Constant b) = constant b
kind_of (Name s ds) = name s ds.now
kind_of Wrong = wrong
kind_of End = end

abbrev pub class_of : code.Class → Class
class_of (Mark t) = mark (kind_of t)
class_of (Letter s) = letter s

-- the tokens from x on; none comes after the end
abbrev pub left : List ℕ → Lexeme → List Tok
left bs x = tok x.place (kind_of x.token) ∷ cond (nat_lt x.place (length bs)) (tokens 0 x.end (drop x.end bs)) []

-- one digit or more, and nothing else
abbrev pub Numeral : List ℕ → Type 0
Numeral ds = (0 < length ds) × (all_ascii_digits ds ≡ true)

pub record Placed (bs : List ℕ) (x : Lexeme) : Type 0 where
  pub within : x.place ≤ length bs
  pub inner : (x.token ≢ End) → (x.place < x.end) × (x.end ≤ length bs)
  pub last : x.token ≡ End → length bs ≤ x.place
  pub numeral : (s : Sort) (ds : List ℕ) → kind_of x.token ≡ name s ds → Numeral ds

-- x is the first token at or after a place
pub record Lexed (bs : List ℕ) (at : ℕ) (x : Lexeme) : Type 0 where
  pub after : at ≤ x.place
  pub placed : Placed bs x
  pub first : tokens 0 at (drop at bs) ≡ left bs x
