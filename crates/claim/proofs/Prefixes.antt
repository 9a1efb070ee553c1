-- What has been run through begins some text, and leaves open what the state says.
use Rattle.std.proofs.Common.{◌≡◌, ℕ, ◌+◌, ◌≤◌, true, List, [], ◌∷◌, ◌++◌, Some, None, Option, sym, refl, ap, ◌∙◌, subst, append_assoc, append-nil, arith}
use Rattle.claim.specs.Tokens.{Kind, bang, amp, bar, lparen, rparen, constant, name, wrong, end, Tok, tok}
use Rattle.claim.specs.Grammar.{Level, claim, factor, Tree, disj, conj, Derives, one_term, more_terms, one_factor, more_factors, a_not, in_parens, a_constant, a_name, Says, a_text}
use Rattle.claim.specs.Faults.{Viable, Opens, opens_not, opens_paren, Joins, joins_and, joins_or, Leaves, nothing, opener, joint, ended, Open}
use Rattle.claim.specs.Machine.{State, want, have, over, depths, deep, next}
use Rattle.claim.proofs.Runs.{start, go, run, run_append, run_none, comes, comes_over}

pub push : (ts : List Tok) (x : Tok) (us : List Tok) → (ts ++ x ∷ []) ++ us ≡ ts ++ x ∷ us
push ts x us = append_assoc ts (x ∷ []) us

-- ts leaves n open, and with any factor it is what P says
abbrev Waits : (List Tok → Type 0) → ℕ → List Tok → Type 0
Waits P n ts = Leaves ts n × ((vs : List Tok) (t : Tree) → Derives factor vs t → P (ts ++ vs))

-- a factor has just ended
abbrev Ended : List ℕ → List Tok → Type 0
Ended [] ts = (t : Tree) × Derives claim ts t
Ended (n ∷ r) ts = (us : List Tok) × (p : ℕ) × (vs : List Tok) × (t : Tree) × (ts ≡ us ++ tok p lparen ∷ vs) × Derives claim vs t × Waits (Ended r) (n + depths r) us

abbrev pub Stands : State → List Tok → Type 0
Stands (want n r) ts = Waits (Ended r) (n + depths r) ts
Stands (have r) ts = Ended r ts
Stands over ts = (t : Tree) × Says ts t

-- whole claims, terms and factors leave nothing more open
leaves_more : {l : Level} {ts us : List Tok} {t : Tree} {n : ℕ} → Derives l us t → Leaves ts n → Leaves (ts ++ us) n
leaves_more (one_term d) h = leaves_more d h
leaves_more {ts = ts} {n = n} (more_terms {p = p} {ts = us} {us = vs} d e) h = subst (λ l. Leaves l n) (push (ts ++ us) (tok p bar) vs ∙ append_assoc ts us (tok p bar ∷ vs)) (leaves_more e (joint p (leaves_more d h) joins_or))
leaves_more (one_factor d) h = ended h d
leaves_more {ts = ts} {n = n} (more_factors {p = p} {ts = us} {us = vs} d e) h = subst (λ l. Leaves l n) (push (ts ++ us) (tok p amp) vs ∙ append_assoc ts us (tok p amp ∷ vs)) (ended (joint p (leaves_more d h) joins_and) e)
leaves_more (a_not d) h = ended h (a_not d)
leaves_more (in_parens q d) h = ended h (in_parens q d)
leaves_more a_constant h = ended h a_constant
leaves_more a_name h = ended h a_name

leaves_ended : (r : List ℕ) (ts : List Tok) → Ended r ts → Leaves ts (depths r)
leaves_ended [] ts (t, d) = leaves_more d nothing
leaves_ended (n ∷ r) ts (us, p, vs, t, e, d, w) =
    subst (Leaves ts) (omega arith) (subst (λ l. Leaves l (n + depths r + 1)) (push us (tok p lparen) vs ∙ sym e) (leaves_more d (opener p w.0 opens_paren)))

-- a claim may go on with an operator and a factor
abbrev Extends : Kind → ℕ → Type 0
Extends k p = (ts vs : List Tok) (t u : Tree) → Derives claim ts t → Derives factor vs u → (w : Tree) × Derives claim (ts ++ tok p k ∷ vs) w

claim_and : (p : ℕ) → Extends amp p
claim_and p ts vs t v (one_term d) f = (_, one_term (more_factors d f))
claim_and p ts vs t v (more_terms {p = q} {ts = us} {us = ws} {t = s} {u = u} d e) f = (disj q s (conj p u v), subst (λ l. Derives claim l (disj q s (conj p u v))) (sym (append_assoc us (tok q bar ∷ ws) (tok p amp ∷ vs))) (more_terms d (more_factors e f)))

claim_or : (p : ℕ) → Extends bar p
claim_or p ts vs t u d f = (disj p t u, more_terms d (one_factor f))

ended_more : (k : Kind) (p : ℕ) → Extends k p → (r : List ℕ) (ts vs : List Tok) (t : Tree) → Ended r ts → Derives factor vs t → Ended r (ts ++ tok p k ∷ vs)
ended_more k p x [] ts vs t h f = x ts vs h.0 t h.1 f
ended_more k p x (n ∷ r) ts vs t h f =
    let c = x h.2 vs h.3 t h.5 f in
    (h.0, h.1, h.2 ++ tok p k ∷ vs, c.0, ap (λ l. l ++ tok p k ∷ vs) h.4 ∙ append_assoc h.0 (tok h.1 lparen ∷ h.2) (tok p k ∷ vs), c.1, h.6)

joined : (k : Kind) (p : ℕ) → Joins k → Extends k p → (r : List ℕ) (ts : List Tok) → Ended r ts → Stands (want 0 r) (ts ++ tok p k ∷ [])
joined k p j x r ts h = (subst (Leaves (ts ++ tok p k ∷ [])) (omega arith) (joint p (leaves_ended r ts h) j), λ vs t d. subst (Ended r) (sym (push ts (tok p k) vs)) (ended_more k p x r ts vs t h d))

closed : (n : ℕ) (r : List ℕ) (ts : List Tok) (q : ℕ) → Ended (n ∷ r) ts → Ended r (ts ++ tok q rparen ∷ [])
closed n r ts q h =
    subst (Ended r) (sym (ap (λ l. l ++ tok q rparen ∷ []) h.4 ∙ append_assoc h.0 (tok h.1 lparen ∷ h.2) (tok q rparen ∷ []))) (h.6.1 (tok h.1 lparen ∷ h.2 ++ tok q rparen ∷ []) h.3 (in_parens q h.5))

abbrev pub On : Option State → (State → Type 0) → Type 0
On None P = Unit {0}
On (Some s) P = P s

stands_next : (s : State) (k : Kind) (p : ℕ) (ts : List Tok) → Stands s ts → On (next s k) (λ u. Stands u (ts ++ tok p k ∷ []))
stands_next (want n r) bang p ts h =
    (subst (Leaves (ts ++ tok p bang ∷ [])) (omega arith) (opener p h.0 opens_not), λ vs t d. subst (Ended r) (sym (push ts (tok p bang) vs)) (h.1 (tok p bang ∷ vs) _ (a_not d)))
stands_next (want n r) amp p ts h = tt
stands_next (want n r) bar p ts h = tt
stands_next (want n r) lparen p ts h =
    (subst (Leaves (ts ++ tok p lparen ∷ [])) (omega arith) (opener p h.0 opens_paren), λ vs t d. (ts, p, vs, t, push ts (tok p lparen) vs, one_term (one_factor d), h))
stands_next (want n r) rparen p ts h = tt
stands_next (want n r) (constant b) p ts h = h.1 _ _ a_constant
stands_next (want n r) (name s ds) p ts h = h.1 _ _ a_name
stands_next (want n r) wrong p ts h = tt
stands_next (want n r) end p ts h = tt
stands_next (have r) bang p ts h = tt
stands_next (have r) amp p ts h = joined amp p joins_and (claim_and p) r ts h
stands_next (have r) bar p ts h = joined bar p joins_or (claim_or p) r ts h
stands_next (have r) lparen p ts h = tt
stands_next (have []) rparen p ts h = tt
stands_next (have (n ∷ r)) rparen p ts h = closed n r ts p h
stands_next (have r) (constant b) p ts h = tt
stands_next (have r) (name s ds) p ts h = tt
stands_next (have r) wrong p ts h = tt
stands_next (have []) end p ts h = (h.0, a_text p h.1)
stands_next (have (n ∷ r)) end p ts h = tt
stands_next over k p ts h = tt

stands_run : (o : Option State) (ts xs : List Tok) → On o (λ s. Stands s ts) → On (run o xs) (λ s. Stands s (ts ++ xs))
stands_run o ts [] h = subst (λ l. On o (λ s. Stands s l)) (sym (append-nil ts)) h
stands_run None ts (x ∷ xs) h = subst (λ o. On o (λ s. Stands s (ts ++ x ∷ xs))) (sym (run_none xs)) tt
stands_run (Some s) ts (x ∷ xs) h = subst (λ l. On (run (next s x.kind) xs) (λ u. Stands u l)) (push ts x xs) (stands_run (next s x.kind) (ts ++ x ∷ []) xs (stands_next s x.kind x.place ts h))

pub stands : (ts : List Tok) (s : State) → run (Some start) ts ≡ Some s → Stands s ts
stands ts s e = subst (λ o. On o (λ u. Stands u ts)) e (stands_run (Some start) [] ts (nothing, λ vs t d. (t, one_term (one_factor d))))

-- close what is open
ended_viable : (r : List ℕ) (ts : List Tok) → Ended r ts → Viable ts
ended_viable [] ts h = (tok 0 end ∷ [], h.0, a_text 0 h.1)
ended_viable (n ∷ r) ts h =
    let v = ended_viable r (ts ++ tok 0 rparen ∷ []) (closed n r ts 0 h) in
    (tok 0 rparen ∷ v.0, v.1, subst (λ l. Says l v.1) (push ts (tok 0 rparen) v.0) v.2)

viable_before : (ts us : List Tok) → Viable (ts ++ us) → Viable ts
viable_before ts us v = (us ++ v.0, v.1, subst (λ l. Says l v.1) (append_assoc ts us v.0) v.2)

stands_viable : (s : State) (ts : List Tok) → Stands s ts → Viable ts
stands_viable (want n r) ts h = viable_before ts (tok 0 (constant true) ∷ []) (ended_viable r _ (h.1 _ _ a_constant))
stands_viable (have r) ts h = ended_viable r ts h
stands_viable over ts h = ([], h.0, subst (λ l. Says l h.0) (sym (append-nil ts)) h.1)

-- a run through ts is what some text begins with
pub viable : (ts : List Tok) (s : State) → run (Some start) ts ≡ Some s → Viable ts
viable ts s e = stands_viable s ts (stands ts s e)

pub not_viable : (ts : List Tok) → run (Some start) ts ≡ None → Viable ts → ⊥
not_viable ts e v =
    let all = run_append (Some start) ts v.0 ∙ ap (λ o. run o v.0) e ∙ run_none v.0 in
    let whole = comes_over v.2 in
    cc

-- no fewer are open than the state says
abbrev AtMost : ℕ → Option State → Type 0
AtMost n o = On o (λ s. deep s ≤ n)

opens_one : {k : Kind} (o : Option State) (n : ℕ) → Opens k → AtMost n o → AtMost (n + 1) (go o k)
opens_one None n x h = tt
opens_one (Some (want m r)) n opens_not h = omega arith
opens_one (Some (want m r)) n opens_paren h = omega arith
opens_one (Some (have r)) n opens_not h = tt
opens_one (Some (have r)) n opens_paren h = tt
opens_one (Some over) n x h = tt

joins_none : {k : Kind} (o : Option State) (n : ℕ) → Joins k → AtMost n o → AtMost n (go o k)
joins_none None n x h = tt
joins_none (Some (want m r)) n joins_and h = tt
joins_none (Some (want m r)) n joins_or h = tt
joins_none (Some (have r)) n joins_and h = omega arith
joins_none (Some (have r)) n joins_or h = omega arith
joins_none (Some over) n x h = tt

-- no factor comes after a factor
run_late : {us : List Tok} {u : Tree} (r : List ℕ) → Derives factor us u → run (Some (have r)) us ≡ None
run_late r (a_not {ts = ts} d) = run_none ts
run_late r (in_parens q {ts = ts} d) = run_none (ts ++ tok q rparen ∷ [])
run_late r a_constant = refl
run_late r a_name = refl

run_past : {us : List Tok} {u : Tree} → Derives factor us u → run (Some over) us ≡ None
run_past (a_not {ts = ts} d) = run_none ts
run_past (in_parens q {ts = ts} d) = run_none (ts ++ tok q rparen ∷ [])
run_past a_constant = refl
run_past a_name = refl

factor_none : (o : Option State) (n : ℕ) {us : List Tok} {u : Tree} → Derives factor us u → AtMost n o → AtMost n (run o us)
factor_none None n {us} d h = subst (AtMost n) (sym (run_none us)) tt
factor_none (Some (want m r)) n d h = subst (AtMost n) (sym (comes d m r)) (omega arith)
factor_none (Some (have r)) n d h = subst (AtMost n) (sym (run_late r d)) tt
factor_none (Some over) n d h = subst (AtMost n) (sym (run_past d)) tt

at_most : {ts : List Tok} {n : ℕ} → Leaves ts n → AtMost n (run (Some start) ts)
at_most nothing = omega arith
at_most (opener {ts = ts} {n = n} {k = k} p h o) = subst (AtMost (n + 1)) (sym (run_append (Some start) ts (tok p k ∷ []))) (opens_one (run (Some start) ts) n o (at_most h))
at_most (joint {ts = ts} {n = n} {k = k} p h j) = subst (AtMost n) (sym (run_append (Some start) ts (tok p k ∷ []))) (joins_none (run (Some start) ts) n j (at_most h))
at_most (ended {ts = ts} {us = us} {n = n} h d) = subst (AtMost n) (sym (run_append (Some start) ts us)) (factor_none (run (Some start) ts) n d (at_most h))

-- a state that still reads says how many are open
pub open_at : (ts : List Tok) (n : ℕ) (r : List ℕ) → run (Some start) ts ≡ Some (want n r) → Open ts (n + depths r)
open_at ts n r e = ((stands ts (want n r) e).0, λ m h. subst (AtMost m) e (at_most h))

-- an opener leads to a state with one more open
pub open_after : {k : Kind} (ts : List Tok) (p : ℕ) (s u : State) → Opens k → run (Some start) ts ≡ Some s → next s k ≡ Some u → Open (ts ++ tok p k ∷ []) (deep s + 1)
open_after ts p (want n r) u opens_not e h = subst (Open (ts ++ tok p bang ∷ [])) (omega arith) (open_at (ts ++ tok p bang ∷ []) (n + 1) r (run_append (Some start) ts (tok p bang ∷ []) ∙ ap (λ o. run o (tok p bang ∷ [])) e))
open_after ts p (want n r) u opens_paren e h = subst (Open (ts ++ tok p lparen ∷ [])) (omega arith) (open_at (ts ++ tok p lparen ∷ []) 0 (n ∷ r) (run_append (Some start) ts (tok p lparen ∷ []) ∙ ap (λ o. run o (tok p lparen ∷ [])) e))
open_after ts p (have r) u opens_not e h = cc
open_after ts p (have r) u opens_paren e h = cc
open_after ts p over u o e h = cc
