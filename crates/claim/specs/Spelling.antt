-- How a text is spelled: the bytes that write each token. A place counts bytes from 0.
use Rattle.std.specs.Prelude.{◌≡◌, ◌↔◌, ◌≢◌, ℕ, ◌+◌, ◌≤◌, List, [], ◌∷◌, ◌++◌, codes, length, true, false}
use Rattle.std.specs.List.{AllByRecursion}
use Rattle.circuit.specs.declared.sort.Sort.{Sort}
use Rattle.circuit.specs.declared.sort.Sort.TheVariants.{Register, Input, Gate}
use Rattle.claim.specs.Tokens.{Kind, bang, amp, bar, lparen, rparen, constant, name, wrong, end, Tok, tok, tokens}

-- the tokens of one byte
pub data Mark : List ℕ → Kind → Type 0 where
  is_not : Mark (codes "!") bang
  is_and : Mark (codes "&") amp
  is_or : Mark (codes "|") bar
  is_open : Mark (codes "(") lparen
  is_close : Mark (codes ")") rparen
  is_false : Mark (codes "0") (constant false)
  is_true : Mark (codes "1") (constant true)

-- the letters that a name begins with
pub data Letter : List ℕ → Sort → Type 0 where
  is_register : Letter (codes "s") Register
  is_input : Letter (codes "v") Input
  is_gate : Letter (codes "g") Gate

-- `0` to `9`
abbrev pub Digit : ℕ → Type 0
Digit b = (48 ≤ b) × (b ≤ 57)

-- no digit comes next
abbrev pub NoDigit : List ℕ → Type 0
NoDigit [] = Unit {0}
NoDigit (b ∷ bs) = Digit b → ⊥

-- a decimal number without a leading zero, except `0` alone
pub data Proper : List ℕ → Type 0 where
  zero_alone : Proper (codes "0")
  no_leading_zero : {d : ℕ} {ds : List ℕ} → Digit d → d ≢ 48 → AllByRecursion Digit ds → Proper (d ∷ ds)

-- from place p on the bytes bs write the tokens ts, and from place q on the bytes cs are left
pub data Spells : ℕ → List ℕ → List Tok → ℕ → List ℕ → Type 0 where
  rest : {p : ℕ} {bs : List ℕ} → Spells p bs [] p bs
  space : {p q : ℕ} {bs cs : List ℕ} {ts : List Tok} → Spells (p + 1) bs ts q cs → Spells p (codes " " ++ bs) ts q cs
  mark : {p q : ℕ} {m bs cs : List ℕ} {k : Kind} {ts : List Tok} → Mark m k → Spells (p + 1) bs ts q cs
      → Spells p (m ++ bs) (tok p k ∷ ts) q cs
  -- its number is all digits that follow
  letter : {p q : ℕ} {l ds bs cs : List ℕ} {s : Sort} {ts : List Tok} → Letter l s → Proper ds → NoDigit bs
      → Spells (p + 1 + length ds) bs ts q cs → Spells p (l ++ (ds ++ bs)) (tok p (name s ds) ∷ ts) q cs

-- a whole text
pub data Spelled : List ℕ → List Tok → Type 0 where
  whole : {bs : List ℕ} {ts : List Tok} (q : ℕ) → Spells 0 bs ts q [] → Spelled bs (ts ++ tok q end ∷ [])

-- a byte that begins no token
abbrev pub Strange : ℕ → Type 0
Strange b = (b ∷ [] ≢ codes " ") × ((k : Kind) → Mark (b ∷ []) k → ⊥) × ((s : Sort) → Letter (b ∷ []) s → ⊥)

-- no proper number comes next
abbrev pub NoNumber : List ℕ → Type 0
NoNumber bs = (ds cs : List ℕ) → bs ≡ ds ++ cs → Proper ds → NoDigit cs → ⊥

-- neither a space nor a token comes next
pub data Stray : List ℕ → Type 0 where
  strange : {b : ℕ} {bs : List ℕ} → Strange b → Stray (b ∷ bs)
  no_number : {l bs : List ℕ} {s : Sort} → Letter l s → NoNumber bs → Stray (l ++ bs)

abbrev pub NoneWrong : List Tok → Type 0
NoneWrong ts = AllByRecursion (λ x. x.kind ≢ wrong) ts

-- the tokens of a text are those that it spells, up to the first that is wrong
pub record Spelling (bs : List ℕ) : Type 0 where
  pub right : (ts : List Tok) → Spelled bs ts ↔ ((tokens 0 0 bs ≡ ts) × NoneWrong ts)
  pub first_wrong : (ts : List Tok) (q : ℕ)
      → ((cs : List ℕ) × Spells 0 bs ts q cs × Stray cs)
      ↔ ((us : List Tok) × (tokens 0 0 bs ≡ ts ++ tok q wrong ∷ us) × NoneWrong ts)
  pub one : (ts us : List Tok) → Spelled bs ts → Spelled bs us → ts ≡ us
