-- A text opens at most 16 at once exactly if no token opens the 17th.
use Rattle.std.proofs.Common.{◌≡◌, ◌↔◌, ℕ, ◌+◌, ◌<◌, ◌≤◌, List, [], ◌∷◌, ◌++◌, Some, None, Option, sym, refl, ap, ◌∙◌, subst, ⊎_elim, arith}
use Rattle.std.proofs.lemmas.Bool.{cases_lt}
use Rattle.circuit.specs.declared.sizes.Sizes.{Sizes}
use Rattle.claim.specs.declared.fault.Fault.{Fault}
use Rattle.claim.specs.declared.fault.Fault.TheVariants.{Deep}
use Rattle.claim.specs.Tokens.{Kind, amp, bar, rparen, end, Tok, tok}
use Rattle.claim.specs.Grammar.{Level, Tree, Derives, one_term, more_terms, one_factor, more_factors, a_not, in_parens, a_constant, a_name, Says, a_text}
use Rattle.claim.specs.Faults.{Opens, opens_not, opens_paren, AtFault, no_claim, no_such, too_deep, Fails}
use Rattle.claim.specs.Machine.{State, want, have, over, depths, deep, next}
use Rattle.claim.specs.Reading.{Bare}
use Rattle.claim.specs.Nesting.{nesting, deepest}
use Rattle.claim.proofs.Runs.{start, go, run, run_append, run_none, comes, comes_over}
use Rattle.claim.proofs.Prefixes.{push, On, open_after}

-- each opener comes where fewer than 16 are open
abbrev Shallow : Option State → List Tok → Type 0
Shallow o [] = Unit {0}
Shallow o (x ∷ xs) = (Opens x.kind → On o (λ s. deep s < 16)) × Shallow (go o x.kind) xs

join : (o : Option State) (xs ys : List Tok) → Shallow o xs → Shallow (run o xs) ys → Shallow o (xs ++ ys)
join o [] ys h k = k
join o (x ∷ xs) ys h k = (h.0, join (go o x.kind) xs ys h.1 k)

parts : (o : Option State) (xs ys : List Tok) → Shallow o (xs ++ ys) → Shallow o xs × Shallow (run o xs) ys
parts o [] ys h = (tt, h)
parts o (x ∷ xs) ys h = let r = parts (go o x.kind) xs ys h.1 in ((h.0, r.0), r.1)

-- after what is derived
after_derived : {l : Level} {ts : List Tok} {t : Tree} (n : ℕ) (r : List ℕ) (us : List Tok) → Derives l ts t
    → Shallow (Some (want n r)) ts → Shallow (Some (have r)) us → Shallow (Some (want n r)) (ts ++ us)
after_derived {ts = ts} n r us d h k = join (Some (want n r)) ts us h (subst (λ o. Shallow o us) (sym (comes d n r)) k)

derived_parts : {l : Level} {ts : List Tok} {t : Tree} (n : ℕ) (r : List ℕ) (us : List Tok) → Derives l ts t
    → Shallow (Some (want n r)) (ts ++ us) → Shallow (Some (want n r)) ts × Shallow (Some (have r)) us
derived_parts {ts = ts} n r us d h =
    let k = parts (Some (want n r)) ts us h in (k.0, subst (λ o. Shallow o us) (comes d n r) k.1)

shallow : {l : Level} {ts : List Tok} {t : Tree} (d : Derives l ts t) (n : ℕ) (r : List ℕ)
    → n + depths r + nesting d ≤ 16 → Shallow (Some (want n r)) ts
shallow (one_term d) n r h = shallow d n r h
shallow (more_terms {p = p} {us = us} d e) n r h =
    after_derived n r (tok p bar ∷ us) d (shallow d n r (omega arith)) ((λ o. elim o [ ]), shallow e 0 r (omega arith))
shallow (one_factor d) n r h = shallow d n r h
shallow (more_factors {p = p} {us = us} d e) n r h =
    after_derived n r (tok p amp ∷ us) d (shallow d n r (omega arith)) ((λ o. elim o [ ]), shallow e 0 r (omega arith))
shallow (a_not d) n r h = ((λ o. omega arith), shallow d (n + 1) r (omega arith))
shallow (in_parens q d) n r h =
    ((λ o. omega arith), after_derived 0 (n ∷ r) (tok q rparen ∷ []) d (shallow d 0 (n ∷ r) (omega arith)) ((λ o. elim o [ ]), tt))
shallow a_constant n r h = ((λ o. elim o [ ]), tt)
shallow a_name n r h = ((λ o. elim o [ ]), tt)

nests : {l : Level} {ts : List Tok} {t : Tree} (d : Derives l ts t) (n : ℕ) (r : List ℕ) → Bare l n
    → n + depths r ≤ 16 → Shallow (Some (want n r)) ts → n + depths r + nesting d ≤ 16
nests (one_term d) n r b h s = nests d n r b h s
nests (more_terms {p = p} {us = us} d e) n r b h s =
    let k = derived_parts n r (tok p bar ∷ us) d s in
    omega (arith, nests d n r b h k.0, nests e 0 r refl (omega arith) k.1.1)
nests (one_factor d) n r b h s = nests d n r tt h s
nests (more_factors {p = p} {us = us} d e) n r b h s =
    let k = derived_parts n r (tok p amp ∷ us) d s in
    omega (arith, nests d n r b h k.0, nests e 0 r tt (omega arith) k.1.1)
nests (a_not d) n r b h s =
    let low = s.0 opens_not in
    omega (arith, nests d (n + 1) r tt (omega arith) s.1)
nests (in_parens q d) n r b h s =
    let low = s.0 opens_paren in
    let k = derived_parts 0 (n ∷ r) (tok q rparen ∷ []) d s.1 in
    omega (arith, nests d 0 (n ∷ r) refl (omega arith) k.0)
nests a_constant n r b h s = omega arith
nests a_name n r b h s = omega arith

shallow_text : {xs : List Tok} {t : Tree} (d : Says xs t) → deepest d ≤ 16 → Shallow (Some start) xs
shallow_text (a_text p d) h =
    after_derived 0 [] (tok p end ∷ []) d (shallow d 0 [] (omega arith)) ((λ o. elim o [ ]), tt)

text_nests : {xs : List Tok} {t : Tree} (d : Says xs t) → Shallow (Some start) xs → deepest d ≤ 16
text_nests (a_text p d) s = omega (arith, nests d 0 [] refl (omega arith) (derived_parts 0 [] (tok p end ∷ []) d s).0)

-- a token that a whole run goes through
record Gone (o : Option State) (k : Kind) : Type 0 where
  from : State
  to : State
  was : o ≡ Some from
  goes : next from k ≡ Some to

gone : (o : Option State) (x : Tok) (xs : List Tok) → run o (x ∷ xs) ≡ Some over → Gone o x.kind
gone None x xs e = let n = run_none xs in absurd (cc)
gone (Some s) x xs e = by (next s x.kind) refl e
  where
    by : (m : Option State) → next s x.kind ≡ m → run m xs ≡ Some over → Gone (Some s) x.kind
    by None h k = let n = run_none xs in absurd (cc)
    by (Some u) h k = record { from = s; to = u; was = refl; goes = h }

module _ (z : Sizes) (xs : List Tok) where
  opened : (us vs : List Tok) (x : Tok) → xs ≡ us ++ x ∷ vs → run (Some start) xs ≡ Some over
      → Gone (run (Some start) us) x.kind
  opened us vs x e whole =
      gone (run (Some start) us) x vs
      (sym (run_append (Some start) us (x ∷ vs)) ∙ ap (run (Some start)) (sym e) ∙ whole)

  not_deep : {ts : List Tok} {p : ℕ} {k : Kind} {f : Fault} (q : ℕ) → AtFault z ts p k f → f ≡ Deep q
      → Gone (run (Some start) ts) k → (Opens k → On (run (Some start) ts) (λ s. deep s < 16)) → ⊥
  not_deep q (no_claim v n) e g low = absurd (cc)
  not_deep q (no_such h) e g low = absurd (cc)
  not_deep {ts} {p} q (too_deep n o w l) e g low =
      let few : deep g.from < 16 = subst (λ m. On m (λ s. deep s < 16)) g.was (low o) in
      omega (arith, few, w.1 (deep g.from + 1) (open_after ts p g.from g.to o g.was g.goes).0)

  pub never_deep : {t : Tree} (d : Says xs t) → deepest d ≤ 16 → (q : ℕ) → Fails z xs (Deep q) → ⊥
  never_deep d h q f =
      let x = tok f.place f.kind in
      let at = opened f.before f.after x f.is (comes_over d) in
      let rest = subst (Shallow (Some start)) f.is (shallow_text d h) in
      not_deep q f.why refl at (parts (Some start) f.before (x ∷ f.after) rest).1.0

  -- from any place on
  shallow_from : ((q : ℕ) → Fails z xs (Deep q) → ⊥) → run (Some start) xs ≡ Some over → (us vs : List Tok)
      → xs ≡ us ++ vs → Shallow (run (Some start) us) vs
  shallow_from none whole us [] e = tt
  shallow_from none whole us (x ∷ vs) e =
      let g = opened us vs x e whole in
      let deep_at : 16 ≤ deep g.from → Opens x.kind → Fails z xs (Deep x.place) = λ high o. record {
        before = us;
        place = x.place;
        kind = x.kind;
        after = vs;
        is = e;
        why = too_deep (deep g.from + 1) o (open_after us x.place g.from g.to o g.was g.goes) (omega arith);
      } in
      let few : Opens x.kind → deep g.from < 16 = λ o.
      ⊎_elim (λ lt. lt) (λ high. absurd (none x.place (deep_at high o))) (cases_lt (deep g.from) 16) in
      let later = shallow_from none whole (us ++ x ∷ []) vs (e ∙ sym (push us x vs)) in (
        λ o. subst (λ m. On m (λ s. deep s < 16)) (sym g.was) (few o),
        subst (λ m. Shallow m vs) (run_append (Some start) us (x ∷ [])) later,
      )

  pub depth : {t : Tree} (d : Says xs t) → (deepest d ≤ 16) ↔ ((q : ℕ) → Fails z xs (Deep q) → ⊥)
  depth d = (never_deep d, λ none. text_nests d (shallow_from none (comes_over d) [] xs refl))
