-- A text is read exactly when none of its tokens is at fault.
use Rattle.std.proofs.Common.{◌≡◌, ◌≢◌, ℕ, ◌<◌, ◌≤◌, List, [], ◌∷◌, ◌++◌, length, sym, refl, ◌∙◌, subst, ⊎_elim, arith}
use Rattle.std.specs.List.{AllByRecursion}
use Rattle.std.proofs.lemmas.Bool.{cases_lt}
use Rattle.circuit.specs.declared.sizes.Sizes.{Sizes}
use Rattle.circuit.specs.Netlists.{limit}
use Rattle.claim.specs.declared.fault.Fault.{Fault}
use Rattle.claim.specs.declared.fault.Fault.TheVariants.{Claim, Name, Deep}
use Rattle.claim.specs.Tokens.{Kind, bang, amp, bar, lparen, rparen, constant, name, wrong, end, Tok, tok, tokens}
use Rattle.claim.specs.Spelling.{NoneWrong}
use Rattle.claim.specs.Grammar.{Level, Tree, Derives, one_term, more_terms, one_factor, more_factors, a_not, in_parens, a_constant, a_name, Says, a_text, value, Known}
use Rattle.claim.specs.Nesting.{deepest}
use Rattle.claim.specs.Faults.{Viable, AtFault, no_claim, no_such, too_deep, Fails, Read}
use Rattle.claim.proofs.Each.{all_append, all_parts, all_splits}
use Rattle.claim.proofs.Prefixes.{push}
use Rattle.claim.proofs.Depths.{depth}
use Rattle.claim.proofs.Spellings.{spelling}

pub unfit : {z : Sizes} {ts : List Tok} {p : ℕ} {k : Kind} {f : Fault} (q : ℕ) → AtFault z ts p k f → f ≡ Claim q
    → Viable (ts ++ tok p k ∷ []) → ⊥
unfit q (no_claim v n) e = n
unfit q (no_such h) e = cc
unfit q (too_deep n o h l) e = cc

-- no derived token is wrong
abbrev Right : Tok → Type 0
Right x = x.kind ≢ wrong

none_wrong : {l : Level} {ts : List Tok} {t : Tree} → Derives l ts t → NoneWrong ts
none_wrong (one_term d) = none_wrong d
none_wrong (more_terms {p = p} {ts = ts} {us = us} d e) =
    all_append Right ts (tok p bar ∷ us) (none_wrong d) ((λ w. cc), none_wrong e)
none_wrong (one_factor d) = none_wrong d
none_wrong (more_factors {p = p} {ts = ts} {us = us} d e) =
    all_append Right ts (tok p amp ∷ us) (none_wrong d) ((λ w. cc), none_wrong e)
none_wrong (a_not d) = ((λ w. cc), none_wrong d)
none_wrong (in_parens q {ts = ts} d) =
    ((λ w. cc), all_append Right ts (tok q rparen ∷ []) (none_wrong d) ((λ w. cc), tt))
none_wrong a_constant = ((λ w. cc), tt)
none_wrong a_name = ((λ w. cc), tt)

pub text_right : {xs : List Tok} {t : Tree} → Says xs t → NoneWrong xs
text_right (a_text {ts = ts} p d) = all_append Right ts (tok p end ∷ []) (none_wrong d) ((λ w. cc), tt)

module _ (z : Sizes) where
  -- there is what a token names
  abbrev There : Kind → Type 0
  There (name s ds) = value ds < limit z s
  There _ = Unit {0}

  abbrev Fine : Tok → Type 0
  Fine x = There x.kind

  fine : {l : Level} {ts : List Tok} {t : Tree} → Derives l ts t → Known z t → AllByRecursion Fine ts
  fine (one_term d) k = fine d k
  fine (more_terms {p = p} {ts = ts} {us = us} d e) k =
      all_append Fine ts (tok p bar ∷ us) (fine d k.0) (tt, fine e k.1)
  fine (one_factor d) k = fine d k
  fine (more_factors {p = p} {ts = ts} {us = us} d e) k =
      all_append Fine ts (tok p amp ∷ us) (fine d k.0) (tt, fine e k.1)
  fine (a_not d) k = (tt, fine d k)
  fine (in_parens q {ts = ts} d) k = (tt, all_append Fine ts (tok q rparen ∷ []) (fine d k) (tt, tt))
  fine a_constant k = (tt, tt)
  fine a_name k = (k, tt)

  known : {l : Level} {ts : List Tok} {t : Tree} → Derives l ts t → AllByRecursion Fine ts → Known z t
  known (one_term d) h = known d h
  known (more_terms {p = p} {ts = ts} {us = us} d e) h =
      let k = all_parts Fine ts (tok p bar ∷ us) h in (known d k.0, known e k.1.1)
  known (one_factor d) h = known d h
  known (more_factors {p = p} {ts = ts} {us = us} d e) h =
      let k = all_parts Fine ts (tok p amp ∷ us) h in (known d k.0, known e k.1.1)
  known (a_not d) h = known d h.1
  known (in_parens q {ts = ts} d) h = known d (all_parts Fine ts (tok q rparen ∷ []) h.1).0
  known a_constant h = tt
  known a_name h = h.0

  text_fine : {xs : List Tok} {t : Tree} → Says xs t → Known z t → AllByRecursion Fine xs
  text_fine (a_text {ts = ts} p d) k = all_append Fine ts (tok p end ∷ []) (fine d k) (tt, tt)

  text_known : {xs : List Tok} {t : Tree} → Says xs t → AllByRecursion Fine xs → Known z t
  text_known (a_text {ts = ts} p d) h = known d (all_parts Fine ts (tok p end ∷ []) h).0

  module _ (xs : List Tok) where
    there : ((p : ℕ) → Fails z xs (Name p) → ⊥) → (us : List Tok) (p : ℕ) (k : Kind) (vs : List Tok)
        → xs ≡ us ++ tok p k ∷ vs → There k
    there none us p (name s ds) vs e =
        let at : limit z s ≤ value ds → Fails z xs (Name p) = λ far.
        record { before = us; place = p; kind = name s ds; after = vs; is = e; why = no_such far } in
        ⊎_elim (λ lt. lt) (λ far. absurd (none p (at far))) (cases_lt (value ds) (limit z s))
    there none us p bang vs e = tt
    there none us p amp vs e = tt
    there none us p bar vs e = tt
    there none us p lparen vs e = tt
    there none us p rparen vs e = tt
    there none us p (constant b) vs e = tt
    there none us p wrong vs e = tt
    there none us p end vs e = tt

    not_named : {ts : List Tok} {p : ℕ} {k : Kind} {f : Fault} (q : ℕ) → AtFault z ts p k f → f ≡ Name q → There k → ⊥
    not_named q (no_claim v n) e h = absurd (cc)
    not_named q (no_such far) e h = omega (arith, far, h)
    not_named q (too_deep n o w l) e h = absurd (cc)

    -- what is derived, known and shallow has no fault
    faultless : (t : Tree) (d : Says xs t) → Known z t → deepest d ≤ 16 → (f : Fault) → Fails z xs f → ⊥
    faultless t d k low (Claim q) h =
        unfit q h.why refl
        (h.after, t, subst (λ l. Says l t) (h.is ∙ sym (push h.before (tok h.place h.kind) h.after)) d)
    faultless t d k low (Name q) h =
        not_named q h.why refl
        (all_parts Fine h.before (tok h.place h.kind ∷ h.after) (subst (AllByRecursion Fine) h.is (text_fine d k))).1.0
    faultless t d k low (Deep q) h = (depth z xs d).0 low q h

  module _ (bs : List ℕ) where
    -- and what is derived, within names and depth, is read
    pub read_within : (t : Tree) → length bs ≤ 512 → Says (tokens 0 0 bs) t
        → ((p : ℕ) → Fails z (tokens 0 0 bs) (Name p) → ⊥)
        → ((p : ℕ) → Fails z (tokens 0 0 bs) (Deep p) → ⊥) → Read bs z t
    read_within t short d named low = record {
      short = short;
      spelling = tokens 0 0 bs;
      spelled = ((spelling bs).right (tokens 0 0 bs)).1 (refl, text_right d);
      derived = d;
      known =
          text_known d (all_splits Fine (tokens 0 0 bs) (λ us x vs e.
          there (tokens 0 0 bs) named us x.place x.kind vs e));
      shallow = (depth z (tokens 0 0 bs) d).1 low;
    }

    pub read_by : (t : Tree) → length bs ≤ 512 → Says (tokens 0 0 bs) t
        → ((f : Fault) → Fails z (tokens 0 0 bs) f → ⊥) → Read bs z t
    read_by t short d sound = read_within t short d (λ p. sound (Name p)) (λ p. sound (Deep p))

    module _ (t : Tree) (r : Read bs z t) where
      same : r.spelling ≡ tokens 0 0 bs
      same = sym (((spelling bs).right r.spelling).0 r.spelled).0

      pub read_says : Says (tokens 0 0 bs) t
      read_says = subst (λ l. Says l t) same r.derived

      pub read_sound : (f : Fault) → Fails z (tokens 0 0 bs) f → ⊥
      read_sound f h = faultless r.spelling t r.derived r.known r.shallow f (subst (λ l. Fails z l f) (sym same) h)
