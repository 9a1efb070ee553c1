-- Each text is read in one way or refused for one fault.
use Rattle.std.proofs.Common.{◌≡◌, ℕ, ◌≤◌, ◌⊎◌, List, length, Ok, Err, Result, sym, refl, ap, ◌∙◌, subst, inl, inr, ⊎_elim, arith}
use Rattle.std.proofs.lemmas.Bool.{cases_lt}
use Rattle.circuit.specs.declared.sizes.Sizes.{Sizes}
use Rattle.claim.specs.declared.codes.Codes.{Codes}
use Rattle.claim.specs.declared.fault.Fault.{Fault}
use Rattle.claim.specs.declared.fault.Fault.TheVariants.{Claim, Name, Deep}
use Rattle.claim.specs.Tokens.{Kind, Tok, tok, tokens}
use Rattle.claim.specs.Grammar.{Tree, post}
use Rattle.claim.specs.Faults.{place_of, Opens, AtFault, no_claim, no_such, too_deep, Fails, First, Read, Refused, too_long, at_fault}
use Rattle.claim.specs.Result.{used, Reads}
use Rattle.claim.specs.Refusals.{FirstFault}
use Rattle.claim.specs.Exact.{Exact}
use Rattle.claim.specs.Machine.{State, scan}
use Rattle.claim.proofs.Places.{Rising, rising, same_place}
use Rattle.claim.proofs.Runs.{start, halted}
use Rattle.claim.proofs.Outcomes.{fault_place, Comes, outcome}
use Rattle.claim.proofs.Readings.{read_within, read_says, read_sound}
use Rattle.claim.proofs.Refusals.{met_fails, halt_first, first_from}
use Rattle.claim.proofs.Trees as trees
use Rattle.claim.proofs.Spellings as spellings
use Rattle.claim.proofs.Depths as depths

-- a name is at fault where no opener can be
named_kind : {z : Sizes} {ts : List Tok} {p : ℕ} {k : Kind} {f : Fault} (q : ℕ) → AtFault z ts p k f → f ≡ Name q → Opens k → ⊥
named_kind q (no_claim v n) e o = cc
named_kind q (no_such h) e o = elim o [ ]
named_kind q (too_deep n o h l) e w = cc

opening_kind : {z : Sizes} {ts : List Tok} {p : ℕ} {k : Kind} {f : Fault} (q : ℕ) → AtFault z ts p k f → f ≡ Deep q → Opens k
opening_kind q (no_claim v n) e = cc
opening_kind q (no_such h) e = cc
opening_kind q (too_deep n o h l) e = o

module _ {z : Sizes} {xs : List Tok} (q : ℕ) (rise : Rising q xs) where
  name_or_deep : (m n : ℕ) → Fails z xs (Name m) → Fails z xs (Deep n) → m ≡ n → ⊥
  name_or_deep m n h k e =
      let s = same_place q h.before h.after k.before k.after (tok h.place h.kind) (tok k.place k.kind) (subst (Rising q) h.is rise) (sym h.is ∙ k.is) (sym (fault_place h.why) ∙ e ∙ fault_place k.why) in
      named_kind m h.why refl (subst Opens (sym (ap (λ x. x.kind) s.1)) (opening_kind n k.why refl))

  places : (f g : Fault) → First z xs f → First z xs g → place_of f ≡ place_of g
  places f g h k = let a = h.lowest g k.fails in let b = k.lowest f h.fails in omega arith

  one_first : (f g : Fault) → First z xs f → First z xs g → f ≡ g
  one_first (Claim m) g h k =
      let e = places (Claim m) g h k in
      ap Claim e ∙ sym (k.claim_wins (subst (λ n. Fails z xs (Claim n)) e h.fails))
  one_first (Name m) (Claim n) h k = let e = places (Name m) (Claim n) h k in h.claim_wins (subst (λ n. Fails z xs (Claim n)) (sym e) k.fails) ∙ ap Claim e
  one_first (Name m) (Name n) h k = ap Name (places (Name m) (Name n) h k)
  one_first (Name m) (Deep n) h k = absurd (name_or_deep m n h.fails k.fails (places (Name m) (Deep n) h k))
  one_first (Deep m) (Claim n) h k = let e = places (Deep m) (Claim n) h k in h.claim_wins (subst (λ n. Fails z xs (Claim n)) (sym e) k.fails) ∙ ap Claim e
  one_first (Deep m) (Name n) h k = absurd (name_or_deep n m k.fails h.fails (sym (places (Deep m) (Name n) h k)))
  one_first (Deep m) (Deep n) h k = ap Deep (places (Deep m) (Deep n) h k)

module _ (bs : List ℕ) (z : Sizes) where
  not_both : (t : Tree) (f : Fault) → Read bs z t → Refused bs z f → ⊥
  not_both t f r (too_long h) = omega (arith, r.short)
  not_both t f r (at_fault short first) = read_sound z bs t r f first.fails

  one_fault : (f g : Fault) → Refused bs z f → Refused bs z g → f ≡ g
  one_fault f g (too_long h) (too_long k) = refl
  one_fault f g (too_long h) (at_fault short k) = absurd (omega arith)
  one_fault f g (at_fault short h) (too_long k) = absurd (omega arith)
  one_fault f g (at_fault short h) (at_fault s k) = one_first 0 (rising 0 0 bs) f g h k

  either : (r : Result State Fault) → Comes z bs r → ((t : Tree) × Read bs z t) ⊎ ((f : Fault) × Refused bs z f)
  either (Ok u) h = inl h
  either (Err f) h = inr (f, h)

  module _ (short : length bs ≤ 512) where
    to_first : (f : Fault) → Refused bs z f → FirstFault bs z f
    to_first f r = by (scan z (Ok start) (tokens 0 0 bs)) refl
      where
        by : (s : Result State Fault) → scan z (Ok start) (tokens 0 0 bs) ≡ s → FirstFault bs z f
        by (Ok u) e = let t = outcome z bs short (Ok u) e in absurd (not_both t.0 f t.1 r)
        by (Err g) e =
            ⊎_elim (λ w. cc)
            (λ h. subst (FirstFault bs z) (one_fault g f (outcome z bs short (Err g) e) r) (halt_first z bs g h))
            (halted z (Ok start) (tokens 0 0 bs) g e)

    from_refused : (f g : Fault) → FirstFault bs z f → Refused bs z g → Refused bs z f
    from_refused f g h (too_long l) = absurd (omega (arith, l, short))
    from_refused f g h (at_fault s first) = at_fault short (first_from z bs h (to_first g (at_fault s first)) first)

    from_first : (f : Fault) → FirstFault bs z f → Refused bs z f
    from_first f h = by (scan z (Ok start) (tokens 0 0 bs)) refl
      where
        by : (s : Result State Fault) → scan z (Ok start) (tokens 0 0 bs) ≡ s → Refused bs z f
        by (Ok u) e =
            let t = outcome z bs short (Ok u) e in
            absurd (read_sound z bs t.0 t.1 f (met_fails z bs h.met h.why))
        by (Err g) e = from_refused f g h (outcome z bs short (Err g) e)

  pub exact : Exact bs z
  exact = record {
    spelling = spellings.spelling bs;
    depth = λ ts t d. depths.depth z ts d;
    reads = λ t. (
      (λ r. (r.short, read_says z bs t r, (λ p. read_sound z bs t r (Name p)), λ p. read_sound z bs t r (Deep p))),
      λ h. read_within z bs t h.0 h.1 h.2 h.3,
    );
    sound = λ t r f h. read_sound z bs t r f h;
    refuses = λ f short. (to_first short f, from_first short f);
    one_tree = λ t u r s. trees.one_tree (read_says z bs t r) (read_says z bs u s);
    one_fault = one_fault;
    not_both = not_both;
    always = ⊎_elim (λ long. inr (Claim 512, too_long long)) (λ short. either _ (outcome z bs short (scan z (Ok start) (tokens 0 0 bs)) refl)) (cases_lt 512 (length bs));
  }

  -- a reading's codes are those of the tree that the text is read as
  pub answered : (c : Codes) → Reads bs z c → (t : Tree) → Read bs z t → used c ≡ post t
  answered c a t r = a.codes ∙ ap post (exact.one_tree a.tree t a.read r)
