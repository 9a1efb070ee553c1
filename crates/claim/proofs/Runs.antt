-- The machine over many tokens.
use Rattle.std.proofs.Common.{◌≡◌, ℕ, ◌+◌, ◌<◌, ◌≤◌, cond, ltb, ◌⊎◌, List, [], ◌∷◌, ◌++◌, Some, None, Ok, Err, Option, Result, sym, refl, ap, ◌∙◌, subst, inl, inr, ⊎_elim, arith}
use Rattle.std.proofs.lemmas.Bool.Decides.{nat_tests}
use Rattle.circuit.specs.declared.sort.Sort.{Sort}
use Rattle.circuit.specs.declared.sizes.Sizes.{Sizes}
use Rattle.claim.specs.declared.fault.Fault.{Fault}
use Rattle.claim.specs.declared.fault.Fault.TheVariants.{Claim, Name, Deep}
use Rattle.claim.specs.Tokens.{Kind, bang, amp, bar, lparen, rparen, constant, name, wrong, end, Tok, tok}
use Rattle.circuit.specs.Netlists.{limit}
use Rattle.claim.specs.Grammar.{Level, Tree, Derives, one_term, more_terms, one_factor, more_factors, a_not, in_parens, a_constant, a_name, Says, a_text, value}
use Rattle.claim.specs.Faults.{Opens, opens_not, opens_paren}
use Rattle.claim.specs.Machine.{State, want, have, over, deep, next, flaw, judged, step, after, scan}

abbrev pub start : State
start = want 0 []

-- by the grammar alone
abbrev pub go : Option State → Kind → Option State
go None k = None
go (Some s) k = next s k

abbrev pub run : Option State → List Tok → Option State
run o [] = o
run o (x ∷ xs) = run (go o x.kind) xs

pub run_append : (o : Option State) (xs ys : List Tok) → run o (xs ++ ys) ≡ run (run o xs) ys
run_append o [] ys = refl
run_append o (x ∷ xs) ys = run_append (go o x.kind) xs ys

pub run_none : (xs : List Tok) → run None xs ≡ None
run_none [] = refl
run_none (x ∷ xs) = run_none xs

-- what is derived is run through
pub comes : {l : Level} {ts : List Tok} {t : Tree} → Derives l ts t → (n : ℕ) (r : List ℕ) → run (Some (want n r)) ts ≡ Some (have r)
comes (one_term d) n r = comes d n r
comes (more_terms {p = p} {ts = ts} {us = us} d e) n r = run_append (Some (want n r)) ts (tok p bar ∷ us) ∙ ap (λ o. run o (tok p bar ∷ us)) (comes d n r) ∙ comes e 0 r
comes (one_factor d) n r = comes d n r
comes (more_factors {p = p} {ts = ts} {us = us} d e) n r = run_append (Some (want n r)) ts (tok p amp ∷ us) ∙ ap (λ o. run o (tok p amp ∷ us)) (comes d n r) ∙ comes e 0 r
comes (a_not d) n r = comes d (n + 1) r
comes (in_parens q {ts = ts} d) n r = run_append (Some (want 0 (n ∷ r))) ts (tok q rparen ∷ []) ∙ ap (λ o. run o (tok q rparen ∷ [])) (comes d 0 (n ∷ r))
comes a_constant n r = refl
comes a_name n r = refl

pub comes_over : {xs : List Tok} {t : Tree} → Says xs t → run (Some start) xs ≡ Some over
comes_over (a_text {ts = ts} p d) = run_append (Some start) ts (tok p end ∷ []) ∙ ap (λ o. run o (tok p end ∷ [])) (comes d 0 [])

below : (a b : ℕ) (f : Fault) → cond (ltb a b) None (Some f) ≡ None → a < b
below a b f e = grind (arith, nat_tests)

pub known : (z : Sizes) (s : State) (p : ℕ) (l : Sort) (ds : List ℕ) → flaw z s (name l ds) p ≡ None → value ds < limit z l
known z s p l ds e = below (value ds) (limit z l) (Name p) e

-- with the checks
module _ (z : Sizes) where
  pub scan_append : (r : Result State Fault) (xs ys : List Tok) → scan z r (xs ++ ys) ≡ scan z (scan z r xs) ys
  scan_append r [] ys = refl
  scan_append r (x ∷ xs) ys = scan_append (after z r x) xs ys

  abbrev reached : Result State Fault → Option State
  reached (Ok s) = Some s
  reached (Err f) = None

  unjudged : (m : Option State) (f : Option Fault) (p : ℕ) (xs : List Tok) (u : State) → run (reached (judged m f p)) xs ≡ Some u → run m xs ≡ Some u
  unjudged None f p xs u e = e
  unjudged (Some s) None p xs u e = e
  unjudged (Some s) (Some f) p xs u e = let n = run_none xs in cc

  pub scan_run : (r : Result State Fault) (xs : List Tok) (u : State) → scan z r xs ≡ Ok u → run (reached r) xs ≡ Some u
  scan_run r [] u e = ap reached e
  scan_run (Ok s) (x ∷ xs) u e = unjudged (next s x.kind) (flaw z s x.kind x.place) x.place xs u (scan_run (step z s x) xs u e)
  scan_run (Err f) (x ∷ xs) u e = scan_run (Err f) xs u e

  scan_err : (f : Fault) (xs : List Tok) → scan z (Err f) xs ≡ Err f
  scan_err f [] = refl
  scan_err f (x ∷ xs) = scan_err f xs

  was_ok : (r : Result State Fault) (xs : List Tok) (u : State) → scan z r xs ≡ Ok u → (s : State) × (r ≡ Ok s)
  was_ok (Ok s) xs u e = (s, refl)
  was_ok (Err f) xs u e = let n = scan_err f xs in cc

  judged_ok : (m : Option State) (g : Option Fault) (p : ℕ) (s : State) → judged m g p ≡ Ok s → (m ≡ Some s) × (g ≡ None)
  judged_ok None g p s e = cc
  judged_ok (Some m) None p s e = (cc, refl)
  judged_ok (Some m) (Some g) p s e = cc

  -- a token that was passed
  pub record Passed (ts : List Tok) (x : Tok) : Type 0 where
    pub from : State
    pub to : State
    pub before : scan z (Ok start) ts ≡ Ok from
    pub moves : next from x.kind ≡ Some to
    pub sound : flaw z from x.kind x.place ≡ None

  pub passed : (ts : List Tok) (x : Tok) (us : List Tok) (u : State) → scan z (Ok start) (ts ++ x ∷ us) ≡ Ok u → Passed ts x
  passed ts x us u e = by (scan z (Ok start) ts) refl (sym (scan_append (Ok start) ts (x ∷ us)) ∙ e)
    where
      by : (r : Result State Fault) → scan z (Ok start) ts ≡ r → scan z r (x ∷ us) ≡ Ok u → Passed ts x
      by (Ok s) h k =
          let w = was_ok (step z s x) us u k in
          let j = judged_ok (next s x.kind) (flaw z s x.kind x.place) x.place w.0 w.1 in
          record { from = s; to = w.0; before = h; moves = j.0; sound = j.1 }
      by (Err f) h k = let n = scan_err f us in cc

  -- why a token is no claim's, or at fault otherwise
  pub data Flawed (s : State) (p : ℕ) : Kind → Fault → Type 0 where
    unknown : {l : Sort} {ds : List ℕ} → limit z l ≤ value ds → Flawed s p (name l ds) (Name p)
    too_many : {k : Kind} → Opens k → 16 ≤ deep s → Flawed s p k (Deep p)

  pub data Why (s : State) (p : ℕ) : Kind → Fault → Type 0 where
    stuck : {k : Kind} → next s k ≡ None → Why s p k (Claim p)
    flawed : {k : Kind} {f : Fault} (u : State) → next s k ≡ Some u → Flawed s p k f → Why s p k f

  opening : {k : Kind} (s : State) (p : ℕ) (f : Fault) → Opens k → cond (ltb (deep s) 16) None (Some (Deep p)) ≡ Some f → Flawed s p k f
  opening {k} s p f o e = let g : (Deep p ≡ f) × (16 ≤ deep s) = grind (arith, nat_tests) in subst (Flawed s p k) g.0 (too_many o g.1)

  naming : (s : State) (p : ℕ) (f : Fault) (l : Sort) (ds : List ℕ) → cond (ltb (value ds) (limit z l)) None (Some (Name p)) ≡ Some f → Flawed s p (name l ds) f
  naming s p f l ds e = let g : (Name p ≡ f) × (limit z l ≤ value ds) = grind (arith, nat_tests) in subst (Flawed s p (name l ds)) g.0 (unknown g.1)

  flaws : (s : State) (p : ℕ) (k : Kind) (f : Fault) → flaw z s k p ≡ Some f → Flawed s p k f
  flaws s p bang f e = opening s p f opens_not e
  flaws s p amp f e = cc
  flaws s p bar f e = cc
  flaws s p lparen f e = opening s p f opens_paren e
  flaws s p rparen f e = cc
  flaws s p (constant b) f e = cc
  flaws s p (name l ds) f e = naming s p f l ds e
  flaws s p wrong f e = cc
  flaws s p end f e = cc

  pub why : (s : State) (x : Tok) (f : Fault) → step z s x ≡ Err f → Why s x.place x.kind f
  why s x f e = by (next s x.kind) (flaw z s x.kind x.place) refl refl e
    where
      by : (m : Option State) (g : Option Fault) → next s x.kind ≡ m → flaw z s x.kind x.place ≡ g → judged m g x.place ≡ Err f → Why s x.place x.kind f
      by None g h k e = let c : Claim x.place ≡ f = cc in subst (Why s x.place x.kind) c (stuck h)
      by (Some u) None h k e = cc
      by (Some u) (Some g) h k e = flawed u h (flaws s x.place x.kind f (cc))

  -- a passed opener leaves at most 16 open, and a passed name is known
  pub few_open : {k : Kind} (s : State) (p : ℕ) → Opens k → flaw z s k p ≡ None → deep s < 16
  few_open s p opens_not e = below (deep s) 16 (Deep p) e
  few_open s p opens_paren e = below (deep s) 16 (Deep p) e

  -- where a scan halts
  pub record Halted (r : Result State Fault) (xs : List Tok) (f : Fault) : Type 0 where
    pub ts : List Tok
    pub x : Tok
    pub us : List Tok
    pub is : xs ≡ ts ++ x ∷ us
    pub from : State
    pub before : scan z r ts ≡ Ok from
    pub stops : step z from x ≡ Err f

  pub halted : (r : Result State Fault) (xs : List Tok) (f : Fault) → scan z r xs ≡ Err f → (r ≡ Err f) ⊎ Halted r xs f
  halted r [] f e = inl e
  halted (Ok s) (x ∷ xs) f e = ⊎_elim (λ g. inr (record { ts = []; x = x; us = xs; is = refl; from = s; before = refl; stops = g })) (λ h. inr (record { ts = x ∷ h.ts; x = h.x; us = h.us; is = ap (λ l. x ∷ l) h.is; from = h.from; before = h.before; stops = h.stops })) (halted (step z s x) xs f e)
  halted (Err g) (x ∷ xs) f e = inl (sym (scan_err g xs) ∙ e)
