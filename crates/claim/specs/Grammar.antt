-- The grammar of claims, over tokens with their places.
use Rattle.std.specs.Prelude.{ℕ, ◌+◌, ◌-◌, ◌*◌, ◌<◌, Bool, List, [], ◌∷◌, ◌++◌}
use Rattle.circuit.specs.declared.sort.Sort.{Sort}
use Rattle.claim.specs.declared.code.Act.{Act}
use Rattle.claim.specs.declared.code.Act.TheVariants.{Constant, Name, Not, And, Or}
use Rattle.claim.specs.declared.code.Code.{Code}
use Rattle.circuit.specs.declared.sizes.Sizes.{Sizes}
use Rattle.circuit.specs.Netlists.{limit}
use Rattle.claim.specs.Tokens.{bang, amp, bar, lparen, rparen, constant, name, end, Tok, tok}

pub data Level : Type 0 where
  claim : Level
  term : Level
  factor : Level

-- what a claim says, each operator and atom with its place
pub data Tree : Type 0 where
  const : ℕ → Bool → Tree
  named : ℕ → Sort → ℕ → Tree
  neg : ℕ → Tree → Tree
  conj : ℕ → Tree → Tree → Tree
  disj : ℕ → Tree → Tree → Tree

-- the number that digits write, after a number n
abbrev pub value_from : ℕ → List ℕ → ℕ
value_from n [] = n
value_from n (d ∷ ds) = value_from (n * 10 + (d - 48)) ds

abbrev pub value : List ℕ → ℕ
value ds = value_from 0 ds

-- these tokens are a claim (a term, a factor) that says this
pub data Derives : Level → List Tok → Tree → Type 0 where
  one_term : {ts : List Tok} {t : Tree} → Derives term ts t → Derives claim ts t
  more_terms : {p : ℕ} {ts us : List Tok} {t u : Tree} → Derives claim ts t → Derives term us u → Derives claim (ts ++ tok p bar ∷ us) (disj p t u)
  one_factor : {ts : List Tok} {t : Tree} → Derives factor ts t → Derives term ts t
  more_factors : {p : ℕ} {ts us : List Tok} {t u : Tree} → Derives term ts t → Derives factor us u → Derives term (ts ++ tok p amp ∷ us) (conj p t u)
  a_not : {p : ℕ} {ts : List Tok} {t : Tree} → Derives factor ts t → Derives factor (tok p bang ∷ ts) (neg p t)
  in_parens : {p : ℕ} (q : ℕ) {ts : List Tok} {t : Tree} → Derives claim ts t → Derives factor (tok p lparen ∷ ts ++ tok q rparen ∷ []) t
  a_constant : {p : ℕ} {b : Bool} → Derives factor (tok p (constant b) ∷ []) (const p b)
  a_name : {p : ℕ} {s : Sort} {ds : List ℕ} → Derives factor (tok p (name s ds) ∷ []) (named p s (value ds))

-- a whole text is a claim and the end
pub data Says : List Tok → Tree → Type 0 where
  a_text : {ts : List Tok} {t : Tree} (p : ℕ) → Derives claim ts t → Says (ts ++ tok p end ∷ []) t

abbrev pub code : Act → ℕ → Code
code a p = record { act = a; place = p }

-- operands first
abbrev pub post : Tree → List Code
post (const p b) = code (Constant b) p ∷ []
post (named p s n) = code (Name s n) p ∷ []
post (neg p t) = post t ++ code Not p ∷ []
post (conj p t u) = post t ++ (post u ++ code And p ∷ [])
post (disj p t u) = post t ++ (post u ++ code Or p ∷ [])

abbrev pub weight : Act → ℕ
weight (Constant b) = 0
weight (Name s n) = 0
weight Not = 1
weight And = 1
weight Or = 1

-- how many codes are operators
abbrev pub operators : List Code → ℕ
operators [] = 0
operators (c ∷ cs) = weight c.act + operators cs

-- there is what each name names
abbrev pub Known : Sizes → Tree → Type 0
Known z (const p b) = Unit {0}
Known z (named p s n) = n < limit z s
Known z (neg p t) = Known z t
Known z (conj p t u) = Known z t × Known z u
Known z (disj p t u) = Known z t × Known z u
