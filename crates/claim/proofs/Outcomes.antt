-- What the machine finds, said of the text.
use Rattle.std.proofs.Common.{◌≡◌, ℕ, zero, suc, ◌+◌, ◌≤◌, List, [], ◌∷◌, ◌++◌, length, Some, Ok, Err, Result, sym, refl, ap, ◌∙◌, subst, ⊎_elim, arith}
use Rattle.std.proofs.lemmas.Bool.{cases_lt}
use Rattle.circuit.specs.declared.sizes.Sizes.{Sizes}
use Rattle.claim.specs.declared.fault.Fault.{Fault}
use Rattle.claim.specs.declared.fault.Fault.TheVariants.{Claim}
use Rattle.claim.specs.Tokens.{Kind, end, Tok, tok, Class, space, mark, letter, class, digits, begun, more, tokens}
use Rattle.claim.specs.Grammar.{Tree, Says}
use Rattle.claim.specs.Faults.{place_of, Viable, AtFault, no_claim, no_such, too_deep, Fails, First, Read, Refused, at_fault}
use Rattle.claim.specs.Machine.{State, want, have, over, deep, next, step, after, scan}
use Rattle.claim.proofs.Places.{Rising, rising, same_place, sooner}
use Rattle.claim.proofs.Runs.{start, run, run_append, scan_run, known, few_open, Passed, passed, unknown, too_many, Why, stuck, flawed, why, halted}
use Rattle.claim.proofs.Readings.{unfit, read_by}
use Rattle.claim.proofs.Prefixes.{stands, viable, not_viable, open_after}

pub fault_place : {z : Sizes} {ts : List Tok} {p : ℕ} {k : Kind} {f : Fault} → AtFault z ts p k f → place_of f ≡ p
fault_place (no_claim v n) = refl
fault_place (no_such h) = refl
fault_place (too_deep n o h l) = refl

module _ (z : Sizes) where
  moved : (ts : List Tok) (s : State) (x : Tok) → scan z (Ok start) ts ≡ Ok s → run (Some start) (ts ++ x ∷ []) ≡ next s x.kind
  moved ts s x e = run_append (Some start) ts (x ∷ []) ∙ ap (λ o. run o (x ∷ [])) (scan_run z (Ok start) ts s e)

  -- what was passed is not at fault
  clean : {f : Fault} {k : Kind} (ts : List Tok) (p : ℕ) → Passed z ts (tok p k) → AtFault z ts p k f → ⊥
  clean ts p h (no_claim v n) = n (viable _ h.to (moved ts h.from _ h.before ∙ h.moves))
  clean ts p h (no_such {s = s} {ds = ds} far) = omega (arith, far, known z h.from p s ds h.sound)
  clean ts p h (too_deep n o w l) = omega (arith, few_open z h.from p o h.sound, w.1 (deep h.from + 1) (open_after ts p h.from h.to o (scan_run z (Ok start) ts h.from h.before) h.moves).0)

  pub sound : (xs : List Tok) (u : State) → scan z (Ok start) xs ≡ Ok u → (f : Fault) → Fails z xs f → ⊥
  sound xs u e f h = clean h.before h.place (passed z h.before (tok h.place h.kind) h.after u (subst (λ l. scan z (Ok start) l ≡ Ok u) h.is e)) h.why

  -- a token that halts the machine is at fault
  module _ (ts : List Tok) (s : State) (before : scan z (Ok start) ts ≡ Ok s) where
    pub faulty : {f : Fault} {k : Kind} (p : ℕ) → Why z s p k f → AtFault z ts p k f
    faulty {k = k} p (stuck n) = no_claim (viable ts s (scan_run z (Ok start) ts s before)) (not_viable (ts ++ tok p k ∷ []) (moved ts s (tok p k) before ∙ n))
    faulty p (flawed u m (unknown far)) = no_such far
    faulty p (flawed u m (too_many o many)) = too_deep (deep s + 1) o (open_after ts p s u o (scan_run z (Ok start) ts s before) m) (omega arith)

    -- and if no claim can have it there, that is its fault
    claim_first : {f : Fault} {k : Kind} (p : ℕ) → Why z s p k f → (Viable (ts ++ tok p k ∷ []) → ⊥) → f ≡ Claim p
    claim_first p (stuck n) v = refl
    claim_first {k = k} p (flawed u m h) v = absurd (v (viable (ts ++ tok p k ∷ []) u (moved ts s (tok p k) before ∙ m)))

    -- it is the first
    pub first : (xs us : List Tok) (x : Tok) (f : Fault) (q : ℕ) → Rising q xs → xs ≡ ts ++ x ∷ us → step z s x ≡ Err f → First z xs f
    first xs us x f q rise is stops =
        let w = why z s x f stops in
        let at = fault_place (faulty x.place w) in
        record {
          fails = record { before = ts; place = x.place; kind = x.kind; after = us; is = is; why = faulty x.place w };
          lowest = λ g h. ⊎_elim
              (λ lt.
              let y = tok h.place h.kind in
              let m = sooner q h.before h.after ts us y x (subst (Rising q) h.is rise) (sym h.is ∙ is) (omega (arith, lt, at, fault_place h.why)) in
              absurd (clean h.before h.place (passed z h.before y m.0 s (subst (λ l. scan z (Ok start) l ≡ Ok s) m.1 before)) h.why))
              (λ le. le) (cases_lt (place_of g) (place_of f));
          claim_wins = λ h.
              let y = tok h.place h.kind in
              let m = same_place q h.before h.after ts us y x (subst (Rising q) h.is rise) (sym h.is ∙ is) (sym (fault_place h.why) ∙ at) in
              claim_first x.place w (λ v. unfit (place_of f) h.why refl (subst Viable (λ i. sym m.0 i ++ sym m.1 i ∷ []) v)) ∙ ap Claim (sym at);
        }

  -- a text that the machine goes through ends it
  ended_over : (p : ℕ) (r : Result State Fault) (u : State) → after z r (tok p end) ≡ Ok u → u ≡ over
  ended_over p (Err f) u e = cc
  ended_over p (Ok (want n r)) u e = cc
  ended_over p (Ok (have [])) u e = cc
  ended_over p (Ok (have (n ∷ r))) u e = cc
  ended_over p (Ok over) u e = cc

  begun_over : (c : Class) (p : ℕ) (ds : List ℕ) (xs : List Tok) (u : State) → ((r : Result State Fault) → scan z r xs ≡ Ok u → u ≡ over) → (r : Result State Fault) → scan z r (begun c p ds xs) ≡ Ok u → u ≡ over
  begun_over space p ds xs u h r e = h r e
  begun_over (mark k) p ds xs u h r e = h _ e
  begun_over (letter s) p ds xs u h r e = h _ e

  scan_over : (n p : ℕ) (bs : List ℕ) (r : Result State Fault) (u : State) → scan z r (tokens n p bs) ≡ Ok u → u ≡ over
  scan_over n p [] r u e = ended_over p r u e
  scan_over zero p (b ∷ bs) r u e = begun_over (class b) p (digits bs) _ u (λ q. scan_over (more (class b) (digits bs)) (p + 1) bs q u) r e
  scan_over (suc n) p (b ∷ bs) r u e = scan_over n (p + 1) bs r u e

  -- what comes of a text
  abbrev pub Comes : List ℕ → Result State Fault → Type 0
  Comes bs (Ok u) = (t : Tree) × Read bs z t
  Comes bs (Err f) = Refused bs z f

  pub outcome : (bs : List ℕ) → length bs ≤ 512 → (r : Result State Fault) → scan z (Ok start) (tokens 0 0 bs) ≡ r → Comes bs r
  outcome bs short (Ok u) e =
      let o = scan_over 0 0 bs (Ok start) u e in
      let t = stands (tokens 0 0 bs) over (scan_run z (Ok start) (tokens 0 0 bs) over (e ∙ ap Ok o)) in
      (t.0, read_by z bs t.0 short t.1 (sound (tokens 0 0 bs) u e))
  outcome bs short (Err f) e =
      ⊎_elim (λ g. cc)
      (λ h. at_fault short (first h.ts h.from h.before (tokens 0 0 bs) h.us h.x f 0 (rising 0 0 bs) h.is h.stops))
      (halted z (Ok start) (tokens 0 0 bs) f e)

  -- a text that the machine goes through is read as what the grammar derives
  pub read_run : (bs : List ℕ) (t : Tree) → length bs ≤ 512 → Says (tokens 0 0 bs) t → scan z (Ok start) (tokens 0 0 bs) ≡ Ok over → Read bs z t
  read_run bs t short d e = read_by z bs t short d (sound (tokens 0 0 bs) over e)
