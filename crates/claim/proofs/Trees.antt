-- The grammar gives each text one tree: a machine that builds it as it goes.
use Rattle.std.proofs.Common.{◌≡◌, ℕ, false, List, [], ◌∷◌, ◌++◌, sym, refl, ap, ◌∙◌}
use Rattle.claim.specs.Tokens.{Kind, bang, amp, bar, lparen, rparen, constant, name, wrong, end, Tok, tok}
use Rattle.claim.specs.Grammar.{Level, claim, term, factor, Tree, const, named, neg, conj, disj, Derives, one_term, more_terms, one_factor, more_factors, a_not, in_parens, a_constant, a_name, Says, a_text, value}

-- what stands to the left of an operand, if anything, with the operator's place
data Side : Type 0 where
  none : Side
  some : Tree → ℕ → Side

abbrev or_of : Side → Tree → Tree
or_of none t = t
or_of (some c p) t = disj p c t

abbrev and_of : Side → Tree → Tree
and_of none t = t
and_of (some c p) t = conj p c t

-- the `!` just before, the nearest first
abbrev not_of : List ℕ → Tree → Tree
not_of [] t = t
not_of (p ∷ ps) t = not_of ps (neg p t)

-- what stands around a factor, within its parentheses
record Around : Type 0 where
  nots : List ℕ
  left_or : Side
  left_and : Side

abbrev around : List ℕ → Side → Side → Around
around n o a = record { nots = n; left_or = o; left_and = a }

data Machine : Type 0 where
  lost : Machine
  wants : Around → List Around → Machine
  has : Side → Tree → List Around → Machine

abbrev feed : Tree → Around → List Around → Machine
feed t x r = has x.left_or (and_of x.left_and (not_of x.nots t)) r

abbrev close : Side → Tree → List Around → Machine
close o t [] = lost
close o t (x ∷ r) = feed (or_of o t) x r

abbrev move : Machine → Kind → ℕ → Machine
move lost k p = lost
move (wants x r) bang p = wants (around (p ∷ x.nots) x.left_or x.left_and) r
move (wants x r) amp p = lost
move (wants x r) bar p = lost
move (wants x r) lparen p = wants (around [] none none) (x ∷ r)
move (wants x r) rparen p = lost
move (wants x r) (constant b) p = feed (const p b) x r
move (wants x r) (name s ds) p = feed (named p s (value ds)) x r
move (wants x r) wrong p = lost
move (wants x r) end p = lost
move (has o t r) bang p = lost
move (has o t r) amp p = wants (around [] o (some t p)) r
move (has o t r) bar p = wants (around [] (some (or_of o t) p) none) r
move (has o t r) lparen p = lost
move (has o t r) rparen p = close o t r
move (has o t r) (constant b) p = lost
move (has o t r) (name s ds) p = lost
move (has o t r) wrong p = lost
move (has o t r) end p = has o t r

abbrev moves : Machine → List Tok → Machine
moves m [] = m
moves m (x ∷ xs) = moves (move m x.kind x.place) xs

moves_append : (m : Machine) (xs ys : List Tok) → moves m (xs ++ ys) ≡ moves (moves m xs) ys
moves_append m [] ys = refl
moves_append m (x ∷ xs) ys = moves_append (move m x.kind x.place) xs ys

-- what reading a claim, a term or a factor comes to
abbrev Comes : Level → List Tok → Tree → Type 0
Comes claim ts t = (r : List Around) → (o : Side) × (u : Tree) × (moves (wants (around [] none none) r) ts ≡ has o u r) × (or_of o u ≡ t)
Comes term ts t = (o : Side) (r : List Around) → moves (wants (around [] o none) r) ts ≡ has o t r
Comes factor ts t = (x : Around) (r : List Around) → moves (wants x r) ts ≡ feed t x r

comes : {l : Level} {ts : List Tok} {t : Tree} → Derives l ts t → Comes l ts t
comes (one_term {t = t} d) = λ r. (none, t, comes d none r, refl)
comes (more_terms {p = p} {ts = ts} {us = us} {t = t} {u = u} d e) = λ r.
    let h = comes d r in
    (some t p, u, moves_append (wants (around [] none none) r) ts (tok p bar ∷ us) ∙ ap (λ m. moves m (tok p bar ∷ us)) h.2 ∙ ap (λ c. moves (wants (around [] (some c p) none) r) us) h.3 ∙ comes e (some t p) r, refl)
comes (one_factor d) = λ o r. comes d (around [] o none) r
comes (more_factors {p = p} {ts = ts} {us = us} {t = t} d e) = λ o r.
    moves_append (wants (around [] o none) r) ts (tok p amp ∷ us) ∙ ap (λ m. moves m (tok p amp ∷ us)) (comes d o r) ∙ comes e (around [] o (some t p)) r
comes (a_not {p = p} d) = λ x r. comes d (around (p ∷ x.nots) x.left_or x.left_and) r
comes (in_parens q {ts = ts} d) = λ x r.
    let h = comes d (x ∷ r) in
    moves_append (wants (around [] none none) (x ∷ r)) ts (tok q rparen ∷ []) ∙ ap (λ m. moves m (tok q rparen ∷ [])) h.2 ∙ ap (λ c. feed c x r) h.3
comes a_constant = λ x r. refl
comes a_name = λ x r. refl

abbrev built : Machine → Tree
built lost = const 0 false
built (wants x r) = const 0 false
built (has o t r) = or_of o t

tree_of : {xs : List Tok} {t : Tree} → Says xs t → built (moves (wants (around [] none none) []) xs) ≡ t
tree_of (a_text {ts = ts} p d) =
    let h = comes d [] in
    ap built (moves_append (wants (around [] none none) []) ts (tok p end ∷ []) ∙ ap (λ m. move m end p) h.2) ∙ h.3

pub one_tree : {xs : List Tok} {t u : Tree} → Says xs t → Says xs u → t ≡ u
one_tree d e = sym (tree_of d) ∙ tree_of e
