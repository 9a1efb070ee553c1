-- The tokens of a text are those that its bytes spell.
use Rattle.std.proofs.Common.{◌≡◌, ◌≢◌, ℕ, zero, suc, ◌+◌, ◌≤◌, Bool, true, false, cond, ◌⊎◌, List, [], ◌∷◌, ◌++◌, length, sym, refl, ap, ◌∙◌, subst, inl, inr, ⊎_elim, add-zero, arith, length-append}
use Rattle.std.specs.List.{AllByRecursion}
use Rattle.std.proofs.lemmas.Bool.{cases_eq}
use Rattle.std.proofs.lemmas.Bool.Decides.{nat_tests}
use Rattle.circuit.specs.declared.sort.Sort.{Sort}
use Rattle.circuit.specs.declared.sort.Sort.TheVariants.{Register, Input, Gate}
use Rattle.claim.specs.Tokens.{Kind, bang, amp, bar, lparen, rparen, constant, name, wrong, end, Tok, tok, Class, class, digit, digits, name_of, begun, more, tokens}
use Rattle.claim.specs.Tokens as lex
use Rattle.claim.proofs.Each.{all_append}
use Rattle.claim.specs.Spelling.{Mark, is_not, is_and, is_or, is_open, is_close, is_false, is_true, Letter, is_register, is_input, is_gate, Digit, NoDigit, Proper, zero_alone, no_leading_zero, Spells, rest, space, mark, letter, Spelled, whole, Strange, NoNumber, Stray, strange, no_number, NoneWrong, Spelling}

-- the digits at the front
is_digit : (b : ℕ) → Digit b → digit b ≡ true
is_digit b h = grind (arith, nat_tests)

not_digit : (b : ℕ) → (Digit b → ⊥) → digit b ≡ false
not_digit b h = grind (arith, nat_tests)

no_digits : (bs : List ℕ) → NoDigit bs → digits bs ≡ []
no_digits [] h = refl
no_digits (b ∷ bs) h = ap (λ t. cond t (b ∷ digits bs) []) (not_digit b h)

all_front : (ds bs : List ℕ) → AllByRecursion Digit ds → NoDigit bs → digits (ds ++ bs) ≡ ds
all_front [] bs h n = no_digits bs n
all_front (d ∷ ds) bs h n =
    ap (λ t. cond t (d ∷ digits (ds ++ bs)) []) (is_digit d h.0) ∙ ap (λ l. d ∷ l) (all_front ds bs h.1 n)

proper_digits : {ds : List ℕ} → Proper ds → AllByRecursion Digit ds
proper_digits zero_alone = ((omega arith, omega arith), tt)
proper_digits (no_leading_zero h n a) = (h, a)

proper_front : {ds : List ℕ} (bs : List ℕ) → Proper ds → NoDigit bs → digits (ds ++ bs) ≡ ds
proper_front {ds} bs h n = all_front ds bs (proper_digits h) n

proper_name : (s : Sort) {ds : List ℕ} → Proper ds → name_of s ds ≡ name s ds
proper_name s zero_alone = refl
proper_name s (no_leading_zero {d = d} {ds = []} h n a) = refl
proper_name s (no_leading_zero {d = d} {ds = e ∷ ds} h n a) = grind (arith, nat_tests)

past : (n p : ℕ) (ds bs : List ℕ) → n ≡ length ds → tokens n p (ds ++ bs) ≡ tokens 0 (p + n) bs
past zero p [] bs e = ap (λ q. tokens 0 q bs) (sym (add-zero p))
past zero p (d ∷ ds) bs e = absurd (omega arith)
past (suc n) p [] bs e = absurd (omega arith)
past (suc n) p (d ∷ ds) bs e =
    let f : p + 1 + n ≡ p + suc n = omega arith in past n (p + 1) ds bs (omega arith) ∙ ap (λ q. tokens 0 q bs) f

-- a letter's token
abbrev lettered : ℕ → Sort → List ℕ → List Tok
lettered p s bs = tok p (name_of s (digits bs)) ∷ tokens (length (digits bs)) (p + 1) bs

after_letter : {l : List ℕ} {s : Sort} → Letter l s → (p : ℕ) (bs : List ℕ) → tokens 0 p (l ++ bs) ≡ lettered p s bs
after_letter is_register p bs = refl
after_letter is_input p bs = refl
after_letter is_gate p bs = refl

after_mark : {m : List ℕ} {k : Kind} → Mark m k → (p : ℕ) (bs : List ℕ)
    → tokens 0 p (m ++ bs) ≡ tok p k ∷ tokens 0 (p + 1) bs
after_mark is_not p bs = refl
after_mark is_and p bs = refl
after_mark is_or p bs = refl
after_mark is_open p bs = refl
after_mark is_close p bs = refl
after_mark is_false p bs = refl
after_mark is_true p bs = refl

named_token : (p : ℕ) (s : Sort) (ds bs : List ℕ) → Proper ds → NoDigit bs
    → lettered p s (ds ++ bs) ≡ tok p (name s ds) ∷ tokens 0 (p + 1 + length ds) bs
named_token p s ds bs h n =
    let e = proper_front bs h n in
    (λ i. tok p (name_of s (e i)) ∷ tokens (length (e i)) (p + 1) (ds ++ bs))
    ∙ (λ i. tok p (proper_name s h i) ∷ past (length ds) (p + 1) ds bs refl i)

-- what is spelled are the tokens
pub spells_tokens : {p q : ℕ} {bs cs : List ℕ} {ts : List Tok} → Spells p bs ts q cs
    → tokens 0 p bs ≡ ts ++ tokens 0 q cs
spells_tokens rest = refl
spells_tokens (space s) = spells_tokens s
spells_tokens (mark {p = p} {bs = bs} {k = k} m s) = after_mark m p bs ∙ ap (λ l. tok p k ∷ l) (spells_tokens s)
spells_tokens (letter {p = p} {ds = ds} {bs = bs} {s = k} l h n s) =
    after_letter l p (ds ++ bs) ∙ named_token p k ds bs h n ∙ ap (λ xs. tok p (name k ds) ∷ xs) (spells_tokens s)

abbrev Right : Tok → Type 0
Right x = x.kind ≢ wrong

right_mark : {m : List ℕ} {k : Kind} → Mark m k → k ≢ wrong
right_mark is_not e = cc
right_mark is_and e = cc
right_mark is_or e = cc
right_mark is_open e = cc
right_mark is_close e = cc
right_mark is_false e = cc
right_mark is_true e = cc

none_wrong : {p q : ℕ} {bs cs : List ℕ} {ts : List Tok} → Spells p bs ts q cs → NoneWrong ts
none_wrong rest = tt
none_wrong (space s) = none_wrong s
none_wrong (mark m s) = (right_mark m, none_wrong s)
none_wrong (letter l h n s) = ((λ e. cc), none_wrong s)

-- the digits at the front, and what follows
record Front (bs ds : List ℕ) : Type 0 where
  after : List ℕ
  is : bs ≡ ds ++ after
  stops : NoDigit after
  all : AllByRecursion Digit ds

digit_is : (b : ℕ) → digit b ≡ true → Digit b
digit_is b e = grind (arith, nat_tests)

no_digit_is : (b : ℕ) → digit b ≡ false → Digit b → ⊥
no_digit_is b e h = let f = is_digit b h in cc

front : (bs : List ℕ) → Front bs (digits bs)
front [] = record { after = []; is = refl; stops = tt; all = tt }
front (b ∷ bs) = by (digit b) refl (front bs)
  where
    by : (t : Bool) → digit b ≡ t → Front bs (digits bs) → Front (b ∷ bs) (cond t (b ∷ digits bs) [])
    by true e f = record { after = f.after; is = ap (λ l. b ∷ l) f.is; stops = f.stops; all = (digit_is b e, f.all) }
    by false e f = record { after = b ∷ bs; is = refl; stops = no_digit_is b e; all = tt }

-- digits are a proper number or none
no_empty : Proper [] → ⊥
no_empty h = elim h [ ]

first_not_zero : {d e : ℕ} {ds : List ℕ} → Proper (d ∷ e ∷ ds) → d ≢ 48
first_not_zero (no_leading_zero h n a) = n

wrong_name : (s : Sort) (d e : ℕ) (ds : List ℕ) → d ≡ 48 → name_of s (d ∷ e ∷ ds) ≡ wrong
wrong_name s d e ds h = grind (arith, nat_tests)

proper_or_not : (ds : List ℕ) → AllByRecursion Digit ds
    → Proper ds ⊎ ((Proper ds → ⊥) × ((s : Sort) → name_of s ds ≡ wrong))
proper_or_not [] a = inr (no_empty, λ s. refl)
proper_or_not (d ∷ []) a =
    inl (⊎_elim (λ e. subst (λ x. Proper (x ∷ [])) (sym e) zero_alone) (λ n. no_leading_zero a.0 n tt) (cases_eq d 48))
proper_or_not (d ∷ e ∷ ds) a =
    ⊎_elim (λ z. inr ((λ h. first_not_zero h z), λ s. wrong_name s d e ds z))
    (λ n. inl (no_leading_zero a.0 n a.1))
    (cases_eq d 48)

no_proper : (bs : List ℕ) → (Proper (digits bs) → ⊥) → NoNumber bs
no_proper bs n ds cs e h stop = n (subst Proper (sym (ap digits e ∙ proper_front cs h stop)) h)

-- a byte
data View (b : ℕ) : Type 0 where
  a_space : b ≡ 32 → View b
  a_mark : (k : Kind) → Mark (b ∷ []) k → View b
  a_letter : (s : Sort) → Letter (b ∷ []) s → View b
  a_stranger : Strange b → View b

some_mark : (c : ℕ) (k : Kind) → Mark (c ∷ []) k → (b : ℕ) → b ≡ c → View b
some_mark c k m b e = a_mark k (subst (λ x. Mark (x ∷ []) k) (sym e) m)

some_letter : (c : ℕ) (s : Sort) → Letter (c ∷ []) s → (b : ℕ) → b ≡ c → View b
some_letter c s l b e = a_letter s (subst (λ x. Letter (x ∷ []) s) (sym e) l)

module _ (b : ℕ) (n33 : b ≢ 33) (n38 : b ≢ 38) (n124 : b ≢ 124) (n40 : b ≢ 40) (n41 : b ≢ 41) (n48 : b ≢ 48)
    (n49 : b ≢ 49) where
  no_mark : {m : List ℕ} (k : Kind) → Mark m k → b ∷ [] ≡ m → ⊥
  no_mark k is_not e = n33 (cc)
  no_mark k is_and e = n38 (cc)
  no_mark k is_or e = n124 (cc)
  no_mark k is_open e = n40 (cc)
  no_mark k is_close e = n41 (cc)
  no_mark k is_false e = n48 (cc)
  no_mark k is_true e = n49 (cc)

  module _ (n115 : b ≢ 115) (n118 : b ≢ 118) (n103 : b ≢ 103) where
    no_letter : {l : List ℕ} (s : Sort) → Letter l s → b ∷ [] ≡ l → ⊥
    no_letter s is_register e = n115 (cc)
    no_letter s is_input e = n118 (cc)
    no_letter s is_gate e = n103 (cc)

    stranger : b ≢ 32 → Strange b
    stranger n32 = ((λ e. n32 (cc)), (λ k m. no_mark k m refl), λ s l. no_letter s l refl)

view : (b : ℕ) → View b
view b =
    ⊎_elim a_space (λ n32.
    ⊎_elim (some_mark 33 bang is_not b) (λ n33.
    ⊎_elim (some_mark 38 amp is_and b) (λ n38.
    ⊎_elim (some_mark 124 bar is_or b) (λ n124.
    ⊎_elim (some_mark 40 lparen is_open b) (λ n40.
    ⊎_elim (some_mark 41 rparen is_close b) (λ n41.
    ⊎_elim (some_mark 48 (constant false) is_false b) (λ n48.
    ⊎_elim (some_mark 49 (constant true) is_true b) (λ n49.
    ⊎_elim (some_letter 115 Register is_register b) (λ n115.
    ⊎_elim (some_letter 118 Input is_input b) (λ n118.
    ⊎_elim (some_letter 103 Gate is_gate b) (λ n103.
    a_stranger (stranger b n33 n38 n124 n40 n41 n48 n49 n115 n118 n103 n32)
    ) (cases_eq b 103)) (cases_eq b 118)) (cases_eq b 115)) (cases_eq b 49)) (cases_eq b 48)) (cases_eq b 41))
    (cases_eq b 40)) (cases_eq b 124)) (cases_eq b 38)) (cases_eq b 33)) (cases_eq b 32)

-- a text is spelled to its end, or to where neither a space nor a token comes next
pub record Split (p : ℕ) (bs : List ℕ) : Type 0 where
  pub ts : List Tok
  pub q : ℕ
  pub cs : List ℕ
  pub spells : Spells p bs ts q cs
  pub ends : (cs ≡ []) ⊎ Stray cs

abbrev Later : ℕ → Type 0
Later k = (p : ℕ) (bs : List ℕ) → length bs ≤ k → Split p bs

split_letter : (k p : ℕ) (l bs : List ℕ) (s : Sort) → Letter l s → length bs ≤ k → Later k → Split p (l ++ bs)
split_letter k p l bs s h few later = by (front bs) (proper_or_not (digits bs) (front bs).all)
  where
    by : Front bs (digits bs)
        → Proper (digits bs) ⊎ ((Proper (digits bs) → ⊥) × ((s : Sort) → name_of s (digits bs) ≡ wrong))
        → Split p (l ++ bs)
    by f (inl proper) =
        let short : length f.after ≤ k = omega (arith, few, ap length f.is, length-append (digits bs) f.after) in
        let r = later (p + 1 + length (digits bs)) f.after short in
        record {
          ts = tok p (name s (digits bs)) ∷ r.ts;
          q = r.q;
          cs = r.cs;
          spells =
              subst (λ x. Spells p (l ++ x) (tok p (name s (digits bs)) ∷ r.ts) r.q r.cs) (sym f.is)
              (letter h proper f.stops r.spells);
          ends = r.ends;
        }
    by f (inr none) =
        record { ts = []; q = p; cs = l ++ bs; spells = rest; ends = inr (no_number h (no_proper bs none.0)) }

split_byte : (k p b : ℕ) (bs : List ℕ) → View b → length bs ≤ k → Later k → Split p (b ∷ bs)
split_byte k p b bs (a_space e) few later =
    let r = later (p + 1) bs few in
    let here = subst (λ x. Spells p (x ∷ bs) r.ts r.q r.cs) (sym e) (space r.spells) in
    record { ts = r.ts; q = r.q; cs = r.cs; spells = here; ends = r.ends }
split_byte k p b bs (a_mark m h) few later =
    let r = later (p + 1) bs few in
    record { ts = tok p m ∷ r.ts; q = r.q; cs = r.cs; spells = mark h r.spells; ends = r.ends }
split_byte k p b bs (a_letter s h) few later = split_letter k p (b ∷ []) bs s h few later
split_byte k p b bs (a_stranger h) few later =
    record { ts = []; q = p; cs = b ∷ bs; spells = rest; ends = inr (strange h) }

pub split : (k p : ℕ) (bs : List ℕ) → length bs ≤ k → Split p bs
split k p [] few = record { ts = []; q = p; cs = []; spells = rest; ends = inl refl }
split zero p (b ∷ bs) few = absurd (omega arith)
split (suc k) p (b ∷ bs) few = split_byte k p b bs (view b) (omega arith) (λ q cs h. split k q cs h)

-- where neither a space nor a token comes next, the token is wrong
wrong_byte : (b : ℕ) → Strange b → class b ≡ lex.mark wrong
wrong_byte b h =
    let n32 : b ≢ 32 = λ e. h.0 (ap (λ x. x ∷ []) e) in
    let n33 : b ≢ 33 = λ e. h.1 bang (subst (λ x. Mark (x ∷ []) bang) (sym e) is_not) in
    let n38 : b ≢ 38 = λ e. h.1 amp (subst (λ x. Mark (x ∷ []) amp) (sym e) is_and) in
    let n124 : b ≢ 124 = λ e. h.1 bar (subst (λ x. Mark (x ∷ []) bar) (sym e) is_or) in
    let n40 : b ≢ 40 = λ e. h.1 lparen (subst (λ x. Mark (x ∷ []) lparen) (sym e) is_open) in
    let n41 : b ≢ 41 = λ e. h.1 rparen (subst (λ x. Mark (x ∷ []) rparen) (sym e) is_close) in
    let n48 : b ≢ 48 = λ e. h.1 (constant false) (subst (λ x. Mark (x ∷ []) (constant false)) (sym e) is_false) in
    let n49 : b ≢ 49 = λ e. h.1 (constant true) (subst (λ x. Mark (x ∷ []) (constant true)) (sym e) is_true) in
    let n115 : b ≢ 115 = λ e. h.2 Register (subst (λ x. Letter (x ∷ []) Register) (sym e) is_register) in
    let n118 : b ≢ 118 = λ e. h.2 Input (subst (λ x. Letter (x ∷ []) Input) (sym e) is_input) in
    let n103 : b ≢ 103 = λ e. h.2 Gate (subst (λ x. Letter (x ∷ []) Gate) (sym e) is_gate) in
    grind (arith, nat_tests)

module _ (q : ℕ) where
  wrong_letter : (bs : List ℕ) (s : Sort) → NoNumber bs → Front bs (digits bs) → name_of s (digits bs) ≡ wrong
  wrong_letter bs s none f =
      ⊎_elim (λ proper. absurd (none (digits bs) f.after f.is proper f.stops)) (λ h. h.1 s) (proper_or_not (digits bs) f.all)

  pub stray_token : {cs : List ℕ} → Stray cs → (us : List Tok) × (tokens 0 q cs ≡ tok q wrong ∷ us)
  stray_token (strange {b = b} {bs = bs} h) =
      (_, ap (λ c. begun c q (digits bs) (tokens (more c (digits bs)) (q + 1) bs)) (wrong_byte b h))
  stray_token (no_number {l = l} {bs = bs} {s = s} h none) =
      (_, after_letter h q bs ∙ ap (λ k. tok q k ∷ tokens (length (digits bs)) (q + 1) bs) (wrong_letter bs s none (front bs)))

one_wrong : (ts us : List Tok) (q : ℕ) → NoneWrong (ts ++ tok q wrong ∷ us) → ⊥
one_wrong [] us q h = h.0 refl
one_wrong (t ∷ ts) us q h = one_wrong ts us q h.1

same_first : (ts us xs ys : List Tok) (p q : ℕ) → NoneWrong ts → NoneWrong xs
    → ts ++ tok p wrong ∷ us ≡ xs ++ tok q wrong ∷ ys → (ts ≡ xs) × (p ≡ q)
same_first [] us [] ys p q h k e = let same : tok p wrong ≡ tok q wrong = cc in (refl, ap (λ x. x.place) same)
same_first [] us (x ∷ xs) ys p q h k e = let same : x ≡ tok p wrong = cc in absurd (k.0 (ap (λ x. x.kind) same))
same_first (t ∷ ts) us [] ys p q h k e = let same : t ≡ tok q wrong = cc in absurd (h.0 (ap (λ x. x.kind) same))
same_first (t ∷ ts) us (x ∷ xs) ys p q h k e =
    let hd : t ≡ x = cc in
    let tl : ts ++ tok p wrong ∷ us ≡ xs ++ tok q wrong ∷ ys = cc in
    let i = same_first ts us xs ys p q h.1 k.1 tl in
    ((λ j. hd j ∷ i.0 j), i.1)

no_end_wrong : (q : ℕ) → NoneWrong (tok q end ∷ [])
no_end_wrong q = ((λ e. cc), tt)

module _ (bs : List ℕ) where
  ended : (ts : List Tok) (q : ℕ) (cs : List ℕ) → Spells 0 bs ts q cs → cs ≡ [] → tokens 0 0 bs ≡ ts ++ tok q end ∷ []
  ended ts q cs s e = spells_tokens s ∙ ap (λ l. ts ++ tokens 0 q l) e

  right_to : {ts : List Tok} → Spelled bs ts → (tokens 0 0 bs ≡ ts) × NoneWrong ts
  right_to (whole {ts = ts} q s) = (spells_tokens s, all_append Right ts (tok q end ∷ []) (none_wrong s) (no_end_wrong q))

  right_from : (ts : List Tok) → tokens 0 0 bs ≡ ts → NoneWrong ts → Spelled bs ts
  right_from ts e n = by (split (length bs) 0 bs (omega arith))
    where
      by : Split 0 bs → Spelled bs ts
      by r = ⊎_elim
          (λ none.
          let all = whole r.q (subst (Spells 0 bs r.ts r.q) none r.spells) in
          subst (Spelled bs) (sym (ended r.ts r.q r.cs r.spells none) ∙ e) all)
          (λ stray.
          let w = stray_token r.q stray in
          let is = sym e ∙ spells_tokens r.spells ∙ ap (λ l. r.ts ++ l) w.1 in
          absurd (one_wrong r.ts w.0 r.q (subst NoneWrong is n)))
          r.ends

  wrong_from : (ts us : List Tok) (q : ℕ) → tokens 0 0 bs ≡ ts ++ tok q wrong ∷ us → NoneWrong ts
      → (cs : List ℕ) × Spells 0 bs ts q cs × Stray cs
  wrong_from ts us q e n = by (split (length bs) 0 bs (omega arith))
    where
      by : Split 0 bs → (cs : List ℕ) × Spells 0 bs ts q cs × Stray cs
      by r = ⊎_elim
          (λ none.
          let right = all_append Right r.ts (tok r.q end ∷ []) (none_wrong r.spells) (no_end_wrong r.q) in
          absurd (one_wrong ts us q (subst NoneWrong (sym (ended r.ts r.q r.cs r.spells none) ∙ e) right)))
          (λ stray.
          let w = stray_token r.q stray in
          let is = sym (spells_tokens r.spells ∙ ap (λ l. r.ts ++ l) w.1) ∙ e in
          let same = same_first r.ts w.0 ts us r.q q (none_wrong r.spells) n is in
          (r.cs, subst (λ x. Spells 0 bs x q r.cs) same.0 (subst (λ x. Spells 0 bs r.ts x r.cs) same.1 r.spells), stray))
          r.ends

  pub spelling : Spelling bs
  spelling = record {
    right = λ ts. (right_to, λ h. right_from ts h.0 h.1);
    first_wrong = λ ts q. (
      (λ h. let w = stray_token q h.2 in (w.0, spells_tokens h.1 ∙ ap (λ l. ts ++ l) w.1, none_wrong h.1)),
      λ h. wrong_from ts h.0 q h.1 h.2,
    );
    one = λ ts us h k. sym (right_to h).0 ∙ (right_to k).0;
  }
