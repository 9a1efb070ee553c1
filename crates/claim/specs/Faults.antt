-- When a text is read, and where it is at fault.
use Rattle.std.specs.Prelude.{◌≡◌, ℕ, ◌+◌, ◌<◌, ◌≤◌, List, [], ◌∷◌, ◌++◌, length}
use Rattle.circuit.specs.declared.sort.Sort.{Sort}
use Rattle.circuit.specs.declared.sizes.Sizes.{Sizes}
use Rattle.claim.specs.declared.fault.Fault.{Fault}
use Rattle.claim.specs.declared.fault.Fault.TheVariants.{Claim, Name, Deep}
use Rattle.claim.specs.Tokens.{Kind, bang, amp, bar, lparen, name, Tok, tok, tokens}
use Rattle.circuit.specs.Netlists.{limit}
use Rattle.claim.specs.Grammar.{factor, Tree, Derives, Says, value, Known}
use Rattle.claim.specs.Spelling.{Spelled}
use Rattle.claim.specs.Nesting.{deepest}

abbrev pub number_of : Fault → ℕ
number_of (Claim p) = 7
number_of (Name p) = 8
number_of (Deep p) = 9

abbrev pub place_of : Fault → ℕ
place_of (Claim p) = p
place_of (Name p) = p
place_of (Deep p) = p

-- some text begins with these tokens
abbrev pub Viable : List Tok → Type 0
Viable ts = (us : List Tok) × (t : Tree) × Says (ts ++ us) t

pub data Opens : Kind → Type 0 where
  opens_not : Opens bang
  opens_paren : Opens lparen

pub data Joins : Kind → Type 0 where
  joins_and : Joins amp
  joins_or : Joins bar

-- these tokens are whole factors, joining operators, and n `!` and `(` besides
pub data Leaves : List Tok → ℕ → Type 0 where
  nothing : Leaves [] 0
  opener : {ts : List Tok} {n : ℕ} {k : Kind} (p : ℕ) → Leaves ts n → Opens k → Leaves (ts ++ tok p k ∷ []) (n + 1)
  joint : {ts : List Tok} {n : ℕ} {k : Kind} (p : ℕ) → Leaves ts n → Joins k → Leaves (ts ++ tok p k ∷ []) n
  ended : {ts us : List Tok} {n : ℕ} {t : Tree} → Leaves ts n → Derives factor us t → Leaves (ts ++ us) n

-- n `!` and `(` are open: their factors have not ended, so no fewer stand besides whole factors
abbrev pub Open : List Tok → ℕ → Type 0
Open ts n = Leaves ts n × ((m : ℕ) → Leaves ts m → n ≤ m)

-- why a token at p, after the tokens ts, is at fault; the first that opens more than 16 is the 17th
pub data AtFault (z : Sizes) (ts : List Tok) (p : ℕ) : Kind → Fault → Type 0 where
  no_claim : {k : Kind} → Viable ts → (Viable (ts ++ tok p k ∷ []) → ⊥) → AtFault z ts p k (Claim p)
  no_such : {s : Sort} {ds : List ℕ} → limit z s ≤ value ds → AtFault z ts p (name s ds) (Name p)
  too_deep : {k : Kind} (n : ℕ) → Opens k → Open (ts ++ tok p k ∷ []) n → 16 < n → AtFault z ts p k (Deep p)

-- one of the tokens is at fault
pub record Fails (z : Sizes) (xs : List Tok) (f : Fault) : Type 0 where
  pub before : List Tok
  pub place : ℕ
  pub kind : Kind
  pub after : List Tok
  pub is : xs ≡ before ++ tok place kind ∷ after
  pub why : AtFault z before place kind f

-- the lowest place wins, then Claim
pub record First (z : Sizes) (xs : List Tok) (f : Fault) : Type 0 where
  pub fails : Fails z xs f
  pub lowest : (g : Fault) → Fails z xs g → place_of f ≤ place_of g
  pub claim_wins : Fails z xs (Claim (place_of f)) → f ≡ Claim (place_of f)

-- the text is read as t: it has at most 512 bytes, they spell tokens that the grammar derives as t,
-- there is what each name names, and at most 16 `!` and `(` are open at once
pub record Read (bs : List ℕ) (z : Sizes) (t : Tree) : Type 0 where
  pub short : length bs ≤ 512
  pub spelling : List Tok
  pub spelled : Spelled bs spelling
  pub derived : Says spelling t
  pub known : Known z t
  pub shallow : deepest derived ≤ 16

pub data Refused (bs : List ℕ) (z : Sizes) : Fault → Type 0 where
  too_long : 512 < length bs → Refused bs z (Claim 512)
  at_fault : {f : Fault} → length bs ≤ 512 → First z (tokens 0 0 bs) f → Refused bs z f
