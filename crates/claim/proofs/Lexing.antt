-- What one byte is of the tokens.
use Rattle.std.proofs.Common.{◌≡◌, ℕ, zero, suc, ◌+◌, ◌-◌, ◌<◌, ◌≤◌, ◌==◌, Bool, true, false, cond, List, [], ◌∷◌, length, get_or, take, drop, sym, refl, ap, ◌∙◌, add-zero, arith, length-drop, drop-drop, ◌≢◌}
use Rattle.std.specs.List.{take_while, prefix_len}
use Rattle.std.specs.Char.{is_ascii_digit}
use Rattle.std.specs.Str.{all_ascii_digits}
use Rattle.std.proofs.lemmas.List.Sums.{take_while-cons, prefix_len_stops, prefix_len-le-length}
use Rattle.std.proofs.lemmas.List.Folds.{length-prefix_len}
use Rattle.std.proofs.lemmas.List.{at_drop_more, at_drop_all, take_rest, get_or-drop}
use Rattle.std.proofs.lemmas.Bool.{and_from, cond_below, cond_above}
use Rattle.std.proofs.lemmas.Bool.Decides.{nat_tests}
use Rattle.circuit.specs.declared.sort.Sort.{Sort}
use Rattle.claim.specs.declared.lexer.Token.{Token}
use Rattle.claim.specs.declared.lexer.Token.TheVariants.{End}
use Rattle.claim.specs.Seen.{kind_of, Numeral, Lexed}
use Rattle.claim.specs.Tokens.{name, end, tok, Class, mark, letter, class, digit, digits, name_of, begun, more, tokens}

-- the digits at the front
digits_front : (bs : List ℕ) → take_while is_ascii_digit bs ≡ digits bs
digits_front [] = refl
digits_front (b ∷ bs) = take_while-cons is_ascii_digit b bs ∙ ap (λ ds. cond (digit b) (b ∷ ds) []) (digits_front bs)

skip : (n p : ℕ) (bs : List ℕ) → n ≤ length bs → tokens n p bs ≡ tokens 0 (p + n) (drop n bs)
skip zero p bs h = ap (λ q. tokens 0 q bs) (sym (add-zero p))
skip (suc n) p [] h = absurd (omega arith)
skip (suc n) p (b ∷ bs) h = let e : p + 1 + n ≡ p + suc n = omega arith in skip n (p + 1) bs (omega arith) ∙ ap (λ q. tokens 0 q (drop n bs)) e

-- no byte begins the end
no_end : (b : ℕ) → mark end ≡ class b → ⊥
no_end b e = grind (arith, nat_tests)

not_end : (s : Sort) (ds : List ℕ) → end ≡ name_of s ds → ⊥
not_end s [] e = cc
not_end s (d ∷ []) e = cc
not_end s (d ∷ c ∷ ds) e = grind (arith, nat_tests)

-- nor a name
no_name : (b : ℕ) (s : Sort) (ds : List ℕ) → mark (name s ds) ≡ class b → ⊥
no_name b s ds e = grind (arith, nat_tests)

more_digits : (b : ℕ) (ds : List ℕ) (t : Bool) → digit b ≡ t → all_ascii_digits ds ≡ true → all_ascii_digits (cond t (b ∷ ds) []) ≡ true
more_digits b ds true e a = and_from _ _ e a
more_digits b ds false e a = refl

all_digits : (bs : List ℕ) → all_ascii_digits (digits bs) ≡ true
all_digits [] = refl
all_digits (b ∷ bs) = more_digits b (digits bs) (digit b) refl (all_digits bs)

numeral_of : (s u : Sort) (ds es : List ℕ) → all_ascii_digits ds ≡ true → name_of s ds ≡ name u es → Numeral es
numeral_of s u [] es a e = absurd cc
numeral_of s u (d ∷ []) es a e =
    let same : d ∷ [] ≡ es = cc in
    (omega (arith, ap length same), sym (ap all_ascii_digits same) ∙ a)
numeral_of s u (d ∷ c ∷ ds) es a e =
    let same : d ∷ c ∷ ds ≡ es = grind (arith, nat_tests) in
    (omega (arith, ap length same), sym (ap all_ascii_digits same) ∙ a)

-- the spaces at the front
spaces : (bs : List ℕ) (q : ℕ) → tokens 0 q bs ≡ tokens 0 (q + prefix_len (λ b. b == 32) bs) (drop (prefix_len (λ b. b == 32) bs) bs)
spaces [] q = ap (λ n. tokens 0 n []) (sym (add-zero q))
spaces (b ∷ bs) q = by (b == 32) refl (spaces bs (q + 1))
  where
    by : (t : Bool) → b == 32 ≡ t → tokens 0 (q + 1) bs ≡ tokens 0 (q + 1 + prefix_len (λ b. b == 32) bs) (drop (prefix_len (λ b. b == 32) bs) bs) → tokens 0 q (b ∷ bs) ≡ tokens 0 (q + prefix_len (λ b. b == 32) (b ∷ bs)) (drop (prefix_len (λ b. b == 32) (b ∷ bs)) (b ∷ bs))
    by true e h = rw e (h ∙ (let k : q + 1 + prefix_len (λ b. b == 32) bs ≡ q + (1 + prefix_len (λ b. b == 32) bs) = omega arith in λ i. tokens 0 (k i) (drop-drop (prefix_len (λ b. b == 32) bs) 1 (b ∷ bs) i)))
    by false e h =
        let k : prefix_len (λ b. b == 32) (b ∷ bs) ≡ 0 = ap (λ t. cond t (1 + prefix_len (λ b. b == 32) bs) 0) e in
        sym (ap (λ n. tokens 0 (q + n) (drop n (b ∷ bs))) k ∙ ap (λ n. tokens 0 n (b ∷ bs)) (add-zero q))

module _ (bs : List ℕ) (at k : ℕ) (count : k ≡ prefix_len (λ b. b == 32) (take (length bs - at) (drop at bs))) where
  counted : k ≡ prefix_len (λ b. b == 32) (drop at bs)
  counted = count ∙ ap (prefix_len (λ b. b == 32)) (take_rest bs at)

  pub past_spaces : tokens 0 at (drop at bs) ≡ tokens 0 (at + k) (drop (at + k) bs)
  past_spaces = spaces (drop at bs) at ∙ ap (λ n. tokens 0 (at + n) (drop n (drop at bs))) (sym counted) ∙ ap (tokens 0 (at + k)) (drop-drop k at bs)

  pub no_space : at + k < length bs → get_or bs (at + k) 0 ≢ 32
  no_space inside same =
      let stop = prefix_len_stops (λ b. b == 32) (drop at bs) 0 (omega (arith, counted, length-drop at bs)) in
      let here : get_or bs (at + k) 0 == 32 ≡ false = ap (λ b. b == 32) (sym (get_or-drop at bs k 0) ∙ ap (λ n. get_or (drop at bs) n 0) counted) ∙ stop in
      grind (arith, nat_tests)

-- the first token, by the class of its byte
module _ (bs : List ℕ) (at p : ℕ) (after : at ≤ p) (inside : p < length bs) (sofar : tokens 0 at (drop at bs) ≡ tokens 0 p (drop p bs)) where
  here : {c : Class} → c ≡ class (get_or bs p 0) → tokens 0 at (drop at bs) ≡ begun c p (digits (drop (p + 1) bs)) (tokens (more c (digits (drop (p + 1) bs))) (p + 1) (drop (p + 1) bs))
  here e = sofar ∙ at_drop_more (tokens 0 p) bs p 0 inside ∙ ap (λ c. begun c p (digits (drop (p + 1) bs)) (tokens (more c (digits (drop (p + 1) bs))) (p + 1) (drop (p + 1) bs))) (sym e)

  lexed : (t : Token) (e : ℕ) → p < e → e ≤ length bs → (t ≡ End → ⊥) → ((s : Sort) (ds : List ℕ) → kind_of t ≡ name s ds → Numeral ds) → tokens 0 at (drop at bs) ≡ tok p (kind_of t) ∷ tokens 0 e (drop e bs) → Lexed bs at (record { token = t; place = p; end = e })
  lexed t e lo hi n m f = record {
    after = after;
    placed = record { within = omega arith; inner = λ _. (lo, hi); last = λ i. absurd (n i); numeral = m };
    first = f ∙ ap (λ xs. tok p (kind_of t) ∷ xs) (cond_below p (length bs) (tokens 0 e (drop e bs)) [] inside);
  }

  pub lexed_mark : (t : Token) → mark (kind_of t) ≡ class (get_or bs p 0) → Lexed bs at (record { token = t; place = p; end = p + 1 })
  lexed_mark t e = lexed t (p + 1) (omega arith) (omega arith) (λ i. no_end (get_or bs p 0) (ap (λ t. mark (kind_of t)) (sym i) ∙ e)) (λ s ds i. absurd (no_name (get_or bs p 0) s ds (ap mark (sym i) ∙ e))) (here e)

  pub lexed_name : (t : Token) (s : Sort) (n : ℕ) → letter s ≡ class (get_or bs p 0) → n ≡ prefix_len is_ascii_digit (take (length bs - (p + 1)) (drop (p + 1) bs)) → kind_of t ≡ name_of s (take (p + 1 + n - (p + 1)) (drop (p + 1) bs)) → Lexed bs at (record { token = t; place = p; end = p + 1 + n })
  lexed_name t s n e count k =
      let xs = drop (p + 1) bs in
      let all : n ≡ prefix_len is_ascii_digit xs = count ∙ ap (prefix_len is_ascii_digit) (take_rest bs (p + 1)) in
      let cut : p + 1 + n - (p + 1) ≡ n = omega arith in
      let is : digits xs ≡ take (p + 1 + n - (p + 1)) xs = sym (ap (λ m. take m xs) (cut ∙ all) ∙ digits_front xs) in
      let len : length (digits xs) ≡ n = ap length (sym (digits_front xs)) ∙ length-prefix_len is_ascii_digit xs ∙ sym all in
      let short : n ≤ length xs = omega (arith, all, prefix_len-le-length is_ascii_digit xs) in
      lexed t (p + 1 + n) (omega arith) (omega (arith, short, length-drop (p + 1) bs)) (λ i. not_end s (take (p + 1 + n - (p + 1)) xs) (ap kind_of (sym i) ∙ k))
      (λ u es i. numeral_of s u (take (p + 1 + n - (p + 1)) xs) es (sym (ap all_ascii_digits is) ∙ all_digits xs) (sym k ∙ i))
      (here e ∙ ap (λ m. tok p (name_of s (digits xs)) ∷ tokens m (p + 1) xs) len ∙ (λ i. tok p (name_of s (is i)) ∷ skip n (p + 1) xs short i) ∙ (λ i. tok p (sym k i) ∷ tokens 0 (p + 1 + n) (drop-drop n (p + 1) bs i)))

pub lexed_end : (bs : List ℕ) (at p : ℕ) → at ≤ p → p ≤ length bs → length bs ≤ p → tokens 0 at (drop at bs) ≡ tokens 0 p (drop p bs) → Lexed bs at (record { token = End; place = p; end = p })
lexed_end bs at p after within out sofar = record {
  after = after;
  placed = record { within = within; inner = λ more. absurd (more refl); last = λ _. out; numeral = λ s ds i. absurd cc };
  first = sofar ∙ at_drop_all (tokens 0 p) bs p out ∙ ap (λ xs. tok p end ∷ xs) (cond_above p (length bs) _ [] [] out refl);
}
