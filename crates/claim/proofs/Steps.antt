-- How what one reader read joins what another did.
use Rattle.std.proofs.Common.{◌≡◌, ℕ, ◌+◌, ◌-◌, ◌*◌, ◌<◌, ◌≤◌, Bool, List, [], ◌∷◌, ◌++◌, length, None, Ok, Err, Result, sym, refl, ap, ◌∙◌, subst, append_assoc, append-nil, arith, length-append, Bor, MatchResult, IsErrAnd}
use Rattle.std.proofs.lemmas.Bool.Decides.{nat_tests}
use Rattle.circuit.specs.declared.sort.Sort.{Sort}
use Rattle.claim.specs.declared.code.Act.TheVariants as act
use Rattle.claim.specs.declared.code.Code.{Code}
use Rattle.circuit.specs.declared.sizes.Sizes.{Sizes}
use Rattle.claim.specs.declared.fault.Fault.{Fault}
use Rattle.claim.specs.declared.fault.Fault.TheVariants as fault
use Rattle.claim.specs.declared.lexer.Token.{Token}
use Rattle.claim.specs.declared.lexer.Token.TheVariants.{Not, And, Or, Open, Close, Constant, Name, Wrong, End}
use Rattle.claim.specs.declared.reader.Reader.{Reader}
use Rattle.claim.specs.Tokens.{Kind, bang, amp, bar, lparen, rparen, constant, name, Tok, tok}
use Rattle.claim.specs.Seen.{kind_of, left}
use Rattle.circuit.specs.Netlists.{limit}
use Rattle.claim.specs.Grammar.{Level, claim, term, factor, const, named, neg, conj, disj, one_term, more_terms, one_factor, more_factors, a_not, in_parens, a_constant, a_name, value, code, post}
use Rattle.claim.specs.Machine.{State, want, have, depths, next, flaw, judged, step, scan}
use Rattle.claim.specs.Reading.{ahead, Reach, Bare, Sofar, Taken, Stopped}
use Rattle.claim.proofs.Runs.{scan_append}

-- what a `?` hands on
pub handed_on : {l : Level} {d : ℕ} {a b : Reader} {e : Fault} (r : Result (Unit {0}) Fault) → IsErrAnd r (λ f. f ≡ e) → Stopped l d a b e → MatchResult r (λ _. Taken l d a b) (λ f. Stopped l d a b f)
handed_on (Ok x) h s = absurd h
handed_on {l} {d} {a} {b} (Err f) h s = subst (Stopped l d a b) (sym h) s

pub reach_none : {a : Reader} → Reach a a [] []
reach_none {a} = record { text = refl; sizes = refl; passed = refl; far = omega arith; wrote = sym (append-nil a.codes.items) }

pub reach_trans : {a b c : Reader} {ts us : List Tok} {cs ds : List Code} → Reach a b ts cs → Reach b c us ds → Reach a c (ts ++ us) (cs ++ ds)
reach_trans {a} {b} {c} {ts} {us} {cs} {ds} r s = record {
  text = s.text ∙ r.text;
  sizes = s.sizes ∙ r.sizes;
  passed = r.passed ∙ ap (λ l. ts ++ l) (subst (λ t. left t b.ahead ≡ us ++ left t c.ahead) r.text s.passed) ∙ sym (append_assoc ts us (left a.text.now c.ahead));
  far = omega (arith, r.far, s.far, length-append ts us);
  wrote = s.wrote ∙ ap (λ l. l ++ ds) r.wrote ∙ append_assoc a.codes.items cs ds;
}

-- the bytes left fall with each token
pub fewer : {a b : Reader} {ts : List Tok} {cs : List Code} → Reach a b ts cs → 0 < length ts → 3 * (length b.text.now - b.ahead.place) + 3 ≤ 3 * (length a.text.now - a.ahead.place)
fewer {b = b} r some = omega (arith, b.placed.within, ap length r.text, r.far)

-- a token was passed for the code to write
pub room_left : {a b : Reader} {ts : List Tok} {cs : List Code} → Reach a b ts cs → length cs < length ts → length b.codes.items < b.ahead.place
room_left {a} {cs = cs} r few = omega (arith, a.fits, simp length-append at (ap length r.wrote), r.far)

-- the token that was passed is known
pub by_token : {a b : Reader} {t : Token} {cs : List Code} → Reach a b (ahead a ∷ []) cs → a.ahead.token ≡ t → Reach a b (tok a.ahead.place (kind_of t) ∷ []) cs
by_token {a} {b} {cs = cs} r e = subst (λ t. Reach a b (tok a.ahead.place (kind_of t) ∷ []) cs) e r

module _ {d : ℕ} {a b : Reader} where
  pub as_term : Sofar factor d a b → Sofar term d a b
  as_term s = record { ts = s.ts; tree = s.tree; reach = s.reach; derived = one_factor s.derived; path = λ n r e base. s.path n r e tt }

  pub as_claim : Sofar term d a b → Sofar claim d a b
  as_claim s = record { ts = s.ts; tree = s.tree; reach = s.reach; derived = one_term s.derived; path = s.path }

  pub stop_term : {f : Fault} → Stopped factor d a b f → Stopped term d a b f
  stop_term s = record { ts = s.ts; cs = s.cs; reach = s.reach; halts = λ n r e base. s.halts n r e tt }

  pub stop_claim : {f : Fault} → Stopped term d a b f → Stopped claim d a b f
  stop_claim s = record { ts = s.ts; cs = s.cs; reach = s.reach; halts = s.halts }

-- two scans, with the same sizes, one after the other
chain : (z y : Sizes) (s m : State) (q : Result State Fault) (ts us : List Tok) → scan z (Ok s) ts ≡ Ok m → y ≡ z → scan y (Ok m) us ≡ q → scan z (Ok s) (ts ++ us) ≡ q
chain z y s m q ts us e same f = scan_append z (Ok s) ts us ∙ ap (λ r. scan z r us) e ∙ subst (λ z. scan z (Ok m) us ≡ q) same f

-- an operator and what follows it
module _ {d p : ℕ} {a b c e f : Reader} where
  pub more_and : Sofar term d a b → Reach b c (tok p amp ∷ []) [] → Sofar factor d c e → Reach e f [] (code act.And p ∷ []) → Sofar term d a f
  more_and s r t w = record {
    ts = s.ts ++ tok p amp ∷ t.ts;
    tree = conj p s.tree t.tree;
    reach = subst (λ l. Reach a f (s.ts ++ tok p amp ∷ l) (post (conj p s.tree t.tree))) (append-nil t.ts) (reach_trans s.reach (reach_trans r (reach_trans t.reach w)));
    derived = more_factors s.derived t.derived;
    path = λ n o len base. chain _ _ _ _ _ s.ts (tok p amp ∷ t.ts) (s.path n o len base) (r.sizes ∙ s.reach.sizes) (t.path 0 o (omega arith) tt);
  }

  pub more_or : Sofar claim d a b → Reach b c (tok p bar ∷ []) [] → Sofar term d c e → Reach e f [] (code act.Or p ∷ []) → Sofar claim d a f
  more_or s r t w = record {
    ts = s.ts ++ tok p bar ∷ t.ts;
    tree = disj p s.tree t.tree;
    reach = subst (λ l. Reach a f (s.ts ++ tok p bar ∷ l) (post (disj p s.tree t.tree))) (append-nil t.ts) (reach_trans s.reach (reach_trans r (reach_trans t.reach w)));
    derived = more_terms s.derived t.derived;
    path = λ n o len base. chain _ _ _ _ _ s.ts (tok p bar ∷ t.ts) (s.path n o len base) (r.sizes ∙ s.reach.sizes) (t.path 0 o (omega arith) refl);
  }

-- a stop after more was read: `!` before and the counts at `(` are then those of g and h
module _ {l m : Level} {d e : ℕ} {a b c : Reader} {f : Fault} {ts : List Tok} {cs : List Code} (g : ℕ → ℕ) (h : ℕ → List ℕ → List ℕ) (r : Reach a b ts cs)
    (here : (n : ℕ) (o : List ℕ) → n + depths o ≡ d → Bare l n → scan a.sizes (Ok (want n o)) ts ≡ Ok (want (g n) (h n o)))
    (len : (n : ℕ) (o : List ℕ) → n + depths o ≡ d → Bare l n → g n + depths (h n o) ≡ e)
    (bare : (n : ℕ) → Bare l n → Bare m (g n)) where
  stop_later : Stopped m e b c f → Stopped l d a c f
  stop_later s = record {
    ts = ts ++ s.ts;
    cs = cs ++ s.cs;
    reach = reach_trans r s.reach;
    halts = λ n o x y.
        let u = s.halts (g n) (h n o) (len n o x y) (bare n y) in
        (u.0, chain _ _ _ _ _ ts s.ts (here n o x y) r.sizes u.1, subst (λ z. step z u.0 (ahead c) ≡ Err f) r.sizes u.2);
  }

module _ {d p : ℕ} {a b c e : Reader} {f : Fault} where
  pub stop_and : Sofar term d a b → Reach b c (tok p amp ∷ []) [] → Stopped factor d c e f → Stopped term d a e f
  stop_and s r t = stop_later (λ n. 0) (λ n o. o) (reach_trans s.reach r) (λ n o x y. chain _ _ _ _ _ s.ts (tok p amp ∷ []) (s.path n o x y) refl refl) (λ n o x y. omega arith) (λ n y. tt) t

  pub stop_or : Sofar claim d a b → Reach b c (tok p bar ∷ []) [] → Stopped term d c e f → Stopped claim d a e f
  stop_or s r t = stop_later (λ n. 0) (λ n o. o) (reach_trans s.reach r) (λ n o x y. chain _ _ _ _ _ s.ts (tok p bar ∷ []) (s.path n o x y) refl refl) (λ n o x y. omega arith) (λ n y. refl) t

-- the check of the depth, passed or not
open_step : (z : Sizes) (n p : ℕ) (o : List ℕ) → n + depths o < 16 → (step z (want n o) (tok p bang) ≡ Ok (want (n + 1) o)) × (step z (want n o) (tok p lparen) ≡ Ok (want 0 (n ∷ o)))
open_step z n p o low = (grind (arith, nat_tests), grind (arith, nat_tests))

deep_step : (z : Sizes) (n p : ℕ) (o : List ℕ) → 16 ≤ n + depths o → (step z (want n o) (tok p bang) ≡ Err (fault.Deep p)) × (step z (want n o) (tok p lparen) ≡ Err (fault.Deep p))
deep_step z n p o high = (grind (arith, nat_tests), grind (arith, nat_tests))

pub stuck_step : (z : Sizes) (s : State) (x : Tok) → next s x.kind ≡ None → step z s x ≡ Err (fault.Claim x.place)
stuck_step z s x e = ap (λ m. judged m (flaw z s x.kind x.place) x.place) e

-- tokens that cannot come next
abbrev pub Unclosed : List ℕ → Token → Type 0
Unclosed [] t = t ≡ End → ⊥
Unclosed (n ∷ o) t = t ≡ Close → ⊥

pub refuses_have : (o : List ℕ) (t : Token) → (t ≡ And → ⊥) → (t ≡ Or → ⊥) → Unclosed o t → next (have o) (kind_of t) ≡ None
refuses_have o Not a b c = refl
refuses_have o And a b c = absurd (a refl)
refuses_have o Or a b c = absurd (b refl)
refuses_have o Open a b c = refl
refuses_have [] Close a b c = refl
refuses_have (n ∷ o) Close a b c = absurd (c refl)
refuses_have o (Constant v) a b c = refl
refuses_have o (Name s ds) a b c = refl
refuses_have o Wrong a b c = refl
refuses_have [] End a b c = absurd (c refl)
refuses_have (n ∷ o) End a b c = refl

refuses_want : (n : ℕ) (o : List ℕ) (t : Token) → (t ≡ Not → ⊥) → (t ≡ Open → ⊥) → ((b : Bool) → t ≡ Constant b → ⊥) → ((s : Sort) (ds : Bor (List ℕ)) → t ≡ Name s ds → ⊥) → next (want n o) (kind_of t) ≡ None
refuses_want n o Not a b c d = absurd (a refl)
refuses_want n o And a b c d = refl
refuses_want n o Or a b c d = refl
refuses_want n o Open a b c d = absurd (b refl)
refuses_want n o Close a b c d = refl
refuses_want n o (Constant v) a b c d = absurd (c v refl)
refuses_want n o (Name s ds) a b c d = absurd (d s ds refl)
refuses_want n o Wrong a b c d = refl
refuses_want n o End a b c d = refl

-- factors that open something, with i open within
module _ {d i p : ℕ} {a b : Reader} (up : i ≡ d + 1) (low : i ≤ 16) where
  module _ (r : Reach a b (tok p bang ∷ []) []) where
    pub stop_not : {c : Reader} {f : Fault} → Stopped factor i b c f → Stopped factor d a c f
    stop_not s = stop_later (λ n. n + 1) (λ n o. o) r (λ n o x y. (open_step a.sizes n p o (omega arith)).0) (λ n o x y. omega arith) (λ n y. tt) s

    pub read_not : {c e : Reader} → Sofar factor i b c → Reach c e [] (code act.Not p ∷ []) → Sofar factor d a e
    read_not {c} {e} s w = record {
      ts = tok p bang ∷ s.ts;
      tree = neg p s.tree;
      reach = subst (λ l. Reach a e (tok p bang ∷ l) (post (neg p s.tree))) (append-nil s.ts) (reach_trans r (reach_trans s.reach w));
      derived = a_not s.derived;
      path = λ n o x y. chain _ _ (want n o) _ _ (tok p bang ∷ []) s.ts (open_step a.sizes n p o (omega arith)).0 r.sizes (s.path (n + 1) o (omega arith) tt);
    }

  module _ (r : Reach a b (tok p lparen ∷ []) []) where
    opened : (n : ℕ) (o : List ℕ) → n + depths o ≡ d → scan a.sizes (Ok (want n o)) (tok p lparen ∷ []) ≡ Ok (want 0 (n ∷ o))
    opened n o x = (open_step a.sizes n p o (omega arith)).1

    within : {c : Reader} → (s : Sofar claim i b c) (n : ℕ) (o : List ℕ) → n + depths o ≡ d → scan a.sizes (Ok (want n o)) (tok p lparen ∷ s.ts) ≡ Ok (have (n ∷ o))
    within s n o x = chain _ _ (want n o) _ _ (tok p lparen ∷ []) s.ts (opened n o x) r.sizes (s.path 0 (n ∷ o) (omega arith) refl)

    pub stop_open : {c : Reader} {f : Fault} → Stopped claim i b c f → Stopped factor d a c f
    stop_open s = stop_later (λ n. 0) (λ n o. n ∷ o) r (λ n o x y. opened n o x) (λ n o x y. omega arith) (λ n y. refl) s

    read_parens : {c e : Reader} {q : ℕ} → Sofar claim i b c → Reach c e (tok q rparen ∷ []) [] → Sofar factor d a e
    read_parens {c} {e} {q} s w = record {
      ts = tok p lparen ∷ s.ts ++ tok q rparen ∷ [];
      tree = s.tree;
      reach = subst (λ l. Reach a e (tok p lparen ∷ s.ts ++ tok q rparen ∷ []) l) (append-nil (post s.tree)) (reach_trans r (reach_trans s.reach w));
      derived = in_parens q s.derived;
      path = λ n o x y. chain _ _ (want n o) _ _ (tok p lparen ∷ s.ts) (tok q rparen ∷ []) (within s n o x) refl refl;
    }

    -- no `)` where the claim ended
    stop_close : {c : Reader} (s : Taken claim i b c) → (c.ahead.token ≡ Close → ⊥) → Stopped factor d a c (fault.Claim c.ahead.place)
    stop_close {c} s other = record {
      ts = tok p lparen ∷ s.sofar.ts;
      cs = post s.sofar.tree;
      reach = reach_trans r s.sofar.reach;
      halts = λ n o x y. (have (n ∷ o), within s.sofar n o x, stuck_step a.sizes (have (n ∷ o)) (ahead c) (refuses_have (n ∷ o) c.ahead.token s.follow.0 s.follow.1 other));
    }

pub closing : {i p : ℕ} {a b c : Reader} (d : ℕ) (e : Reader) → i ≡ d + 1 → i ≤ 16 → Reach a b (tok p lparen ∷ []) [] → Taken claim i b c → (q : Result (Unit {0}) Fault)
    → MatchResult q (λ _. Reach c e (tok c.ahead.place rparen ∷ []) []) (λ f. (f ≡ fault.Claim c.ahead.place) × (c.ahead.token ≡ Close → ⊥) × (e ≡ c)) → MatchResult q (λ _. Taken factor d a e) (λ f. Stopped factor d a e f)
closing d e up low r s (Ok u) w = record { sofar = read_parens up low r s.sofar w; follow = tt }
closing {a = a} {c = c} d e up low r s (Err f) w = subst (λ g. Stopped factor d a e g) (sym w.0) (subst (λ v. Stopped factor d a v (fault.Claim c.ahead.place)) (sym w.2) (stop_close up low r s w.1))

-- a fault at the token ahead
module _ {d : ℕ} (a : Reader) where
  stop_here : {f : Fault} → ((n : ℕ) (o : List ℕ) → n + depths o ≡ d → step a.sizes (want n o) (ahead a) ≡ Err f) → Stopped factor d a a f
  stop_here h = record { ts = []; cs = []; reach = reach_none; halts = λ n o x y. (want n o, refl, h n o x) }

  at_kind : {f : Fault} {k : Kind} → kind_of a.ahead.token ≡ k → ((n : ℕ) (o : List ℕ) → n + depths o ≡ d → step a.sizes (want n o) (tok a.ahead.place k) ≡ Err f) → Stopped factor d a a f
  at_kind {f} e h = stop_here (λ n o x. subst (λ k. step a.sizes (want n o) (tok a.ahead.place k) ≡ Err f) (sym e) (h n o x))

  pub deep_not : a.ahead.token ≡ Not → d ≡ 16 → Stopped factor d a a (fault.Deep a.ahead.place)
  deep_not e full = at_kind (ap kind_of e) (λ n o x. (deep_step a.sizes n a.ahead.place o (omega arith)).0)

  pub deep_open : a.ahead.token ≡ Open → d ≡ 16 → Stopped factor d a a (fault.Deep a.ahead.place)
  deep_open e full = at_kind (ap kind_of e) (λ n o x. (deep_step a.sizes n a.ahead.place o (omega arith)).1)

  pub no_factor : (a.ahead.token ≡ Not → ⊥) → (a.ahead.token ≡ Open → ⊥) → ((b : Bool) → a.ahead.token ≡ Constant b → ⊥) → ((s : Sort) (ds : Bor (List ℕ)) → a.ahead.token ≡ Name s ds → ⊥) → Stopped factor d a a (fault.Claim a.ahead.place)
  no_factor m p c s = stop_here (λ n o x. stuck_step a.sizes (want n o) (ahead a) (refuses_want n o a.ahead.token m p c s))

  pub no_name : (s : Sort) (ds : List ℕ) → kind_of a.ahead.token ≡ name s ds → limit a.sizes s ≤ value ds → Stopped factor d a a (fault.Name a.ahead.place)
  no_name s ds e far = at_kind e (λ n o x. grind (arith, nat_tests))

-- atoms
pub read_constant : {d p : ℕ} {b : Bool} {a c : Reader} → Reach a c (tok p (constant b) ∷ []) (code (act.Constant b) p ∷ []) → Taken factor d a c
read_constant {p = p} {b = b} r = record { sofar = record { ts = tok p (constant b) ∷ []; tree = const p b; reach = r; derived = a_constant; path = λ n o x y. refl }; follow = tt }

pub read_name : {d : ℕ} {a c : Reader} (s : Sort) (ds : List ℕ) (n : ℕ) → kind_of a.ahead.token ≡ name s ds → n ≡ value ds → n < limit a.sizes s → Reach a c (ahead a ∷ []) (code (act.Name s n) a.ahead.place ∷ []) → Taken factor d a c
read_name {d} {a} {c} s ds n e is low r = record {
  sofar = record {
    ts = tok a.ahead.place (name s ds) ∷ [];
    tree = named a.ahead.place s (value ds);
    reach = subst (λ k. Reach a c (tok a.ahead.place k ∷ []) (code (act.Name s (value ds)) a.ahead.place ∷ [])) e (subst (λ m. Reach a c (ahead a ∷ []) (code (act.Name s m) a.ahead.place ∷ [])) is r);
    derived = a_name;
    path = λ m o x y. grind (arith, nat_tests);
  };
  follow = tt;
}
