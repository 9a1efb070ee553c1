-- A text that is read has at least as many bytes as codes.
use Rattle.std.proofs.Common.{◌≡◌, ℕ, suc, ◌+◌, ◌≤◌, List, [], ◌∷◌, ◌++◌, length, refl, arith, length-append}
use Rattle.circuit.specs.declared.sort.Sort.{Sort}
use Rattle.circuit.specs.declared.sizes.Sizes.{Sizes}
use Rattle.claim.specs.declared.code.Act.{Act}
use Rattle.claim.specs.declared.code.Act.TheVariants.{Constant, Name, Not, And, Or}
use Rattle.claim.specs.declared.code.Code.{Code}
use Rattle.claim.specs.Tokens.{Kind, Tok, tok, end}
use Rattle.claim.specs.Spelling.{Mark, is_not, is_and, is_or, is_open, is_close, is_false, is_true, Letter, is_register, is_input, is_gate, Spells, rest, space, mark, letter, Spelled, whole}
use Rattle.claim.specs.Grammar.{Level, Tree, Derives, one_term, more_terms, one_factor, more_factors, a_not, in_parens, a_constant, a_name, Says, a_text, post, weight, operators}
use Rattle.claim.specs.Faults.{Read}

-- no more codes than tokens
pub post_short : {l : Level} {ts : List Tok} {t : Tree} → Derives l ts t → length (post t) ≤ length ts
post_short (one_term d) = post_short d
post_short (more_terms d e) = simp length-append (omega (arith, post_short d, post_short e))
post_short (one_factor d) = post_short d
post_short (more_factors d e) = simp length-append (omega (arith, post_short d, post_short e))
post_short (a_not d) = simp length-append (omega (arith, post_short d))
post_short (in_parens q d) = simp length-append (omega (arith, post_short d))
post_short a_constant = omega arith
post_short a_name = omega arith

mark_length : {m : List ℕ} {k : Kind} → Mark m k → length m ≡ 1
mark_length is_not = refl
mark_length is_and = refl
mark_length is_or = refl
mark_length is_open = refl
mark_length is_close = refl
mark_length is_false = refl
mark_length is_true = refl

letter_length : {l : List ℕ} {s : Sort} → Letter l s → length l ≡ 1
letter_length is_register = refl
letter_length is_input = refl
letter_length is_gate = refl

-- no more tokens than bytes
spells_length : {p q : ℕ} {bs cs : List ℕ} {ts : List Tok} → Spells p bs ts q cs → length ts + length cs ≤ length bs
spells_length rest = omega arith
spells_length (space s) = omega (arith, spells_length s)
spells_length (mark {m = m} {bs = bs} h s) = omega (arith, mark_length h, spells_length s, length-append m bs)
spells_length (letter {l = l} {ds = ds} {bs = bs} h n stop s) =
    omega (arith, letter_length h, spells_length s, length-append l (ds ++ bs), length-append ds bs)

spelled_length : {bs : List ℕ} {ts : List Tok} → Spelled bs ts → length ts ≤ suc (length bs)
spelled_length (whole {ts = ts} q s) = omega (arith, spells_length s, length-append ts (tok q end ∷ []))

says_length : {xs : List Tok} {t : Tree} → Says xs t → suc (length (post t)) ≤ length xs
says_length (a_text {ts = ts} p d) = omega (arith, post_short d, length-append ts (tok p end ∷ []))

weight_few : (a : Act) → weight a ≤ 1
weight_few (Constant b) = omega arith
weight_few (Name s n) = omega arith
weight_few Not = omega arith
weight_few And = omega arith
weight_few Or = omega arith

operators_few : (cs : List Code) → operators cs ≤ length cs
operators_few [] = omega arith
operators_few (c ∷ cs) = omega (arith, weight_few c.act, operators_few cs)

module _ {bs : List ℕ} {z : Sizes} {t : Tree} (r : Read bs z t) where
  pub read_length : length (post t) ≤ length bs
  read_length = omega (arith, says_length r.derived, spelled_length r.spelled)

  pub read_operators : operators (post t) ≤ length bs
  read_operators = omega (arith, read_length, operators_few (post t))
