-- How many `!` and `(` are open at once: a `!` until its factor ends, a `(` until its `)`.
use Rattle.std.specs.Prelude.{ℕ, ◌+◌, max, List}
use Rattle.claim.specs.Tokens.{Tok}
use Rattle.claim.specs.Grammar.{Level, Tree, Derives, one_term, more_terms, one_factor, more_factors, a_not}
use Rattle.claim.specs.Grammar.{in_parens, a_constant, a_name, Says, a_text}

abbrev pub nesting : {l : Level} {ts : List Tok} {t : Tree} → Derives l ts t → ℕ
nesting (one_term d) = nesting d
nesting (more_terms d e) = max (nesting d) (nesting e)
nesting (one_factor d) = nesting d
nesting (more_factors d e) = max (nesting d) (nesting e)
nesting (a_not d) = nesting d + 1
nesting (in_parens q d) = nesting d + 1
nesting a_constant = 0
nesting a_name = 0

-- of a whole text
abbrev pub deepest : {ts : List Tok} {t : Tree} → Says ts t → ℕ
deepest (a_text p d) = nesting d
