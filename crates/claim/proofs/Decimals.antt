-- Proper numbers are the decimal spellings of their values.
use Rattle.std.proofs.Common.{◌≡◌, ℕ, zero, suc, ◌+◌, ◌-◌, ◌*◌, ◌/◌, ◌%◌, ◌^◌, ◌<◌, ◌≤◌, List, [], ◌∷◌, ◌++◌, sym, refl, ap, ◌∙◌, subst, ⊎_elim, append_assoc, append-nil, arith}
use Rattle.std.specs.List.{AllByRecursion}
use Rattle.std.specs.Fmt.{decimal}
use Rattle.std.proofs.lemmas.Bool.{cases_eq, cases_lt}
use Rattle.std.proofs.lemmas.Fmt.{decimal_by_steps_wide}
use Rattle.claim.specs.Grammar.{value, value_from}
use Rattle.claim.specs.Spelling.{Digit, Proper, zero_alone, no_leading_zero}
use Rattle.claim.proofs.Each.{all_append}
use Rattle.claim.specs.Decimals.{Written, one_digit, more_digits, Decimals}

value_append : (n : ℕ) (ds es : List ℕ) → value_from n (ds ++ es) ≡ value_from (value_from n ds) es
value_append n [] es = refl
value_append n (d ∷ ds) es = value_append (n * 10 + (d - 48)) ds es

value_of : {n : ℕ} {ds : List ℕ} → Written n ds → value ds ≡ n
value_of (one_digit {d = d} h) = omega arith
value_of (more_digits {n = n} {d = d} {ds = ds} some w h) =
    value_append 0 ds ((48 + d) ∷ []) ∙ omega (arith, value_of w)

-- the parts of ten times a number and a digit
same_digit : (n m c d : ℕ) → c < 10 → d < 10 → n * 10 + c ≡ m * 10 + d → (n ≡ m) × (c ≡ d)
same_digit n m c d h k e = (omega arith, omega arith)

by_value : {n m : ℕ} {ds es : List ℕ} → Written n ds → Written m es → n ≡ m → ds ≡ es
by_value (one_digit h) (one_digit k) e = ap (λ d. (48 + d) ∷ []) e
by_value (one_digit h) (more_digits some v k) e = absurd (omega arith)
by_value (more_digits some w h) (one_digit k) e = absurd (omega arith)
by_value (more_digits {n = n} {d = c} some w h) (more_digits {n = m} {d = d} more v k) e =
    let s = same_digit n m c d h k e in
    let t = by_value w v s.0 in
    λ i. t i ++ ((48 + s.1 i) ∷ [])

-- a number of more than one digit, from its parts
by_parts : (n : ℕ) (ds : List ℕ) → 10 ≤ n → Written (n / 10) ds → Written n (ds ++ (48 + n % 10) ∷ [])
by_parts n ds big w =
    let is : n / 10 * 10 + n % 10 ≡ n = omega arith in
    subst (λ x. Written x (ds ++ (48 + n % 10) ∷ [])) is (more_digits (omega arith) w (omega arith))

write : (k n : ℕ) → n ≤ k → (ds : List ℕ) × Written n ds
write zero n h = (_, one_digit (omega arith))
write (suc k) n h =
    ⊎_elim (λ small. (_, one_digit small)) (λ big. by big (write k (n / 10) (omega arith))) (cases_lt n 10)
  where
    by : 10 ≤ n → (ds : List ℕ) × Written (n / 10) ds → (ds : List ℕ) × Written n ds
    by big w = (_, by_parts n w.0 big w.1)

-- more digits after a number
goes_on : (n : ℕ) (es ds : List ℕ) → 0 < n → Written n es → AllByRecursion Digit ds
    → Written (value_from n ds) (es ++ ds)
goes_on n es [] some w a = subst (Written n) (sym (append-nil es)) w
goes_on n es (d ∷ ds) some w a =
    let low : d - 48 < 10 = omega (arith, a.0.1) in
    let is : 48 + (d - 48) ≡ d = omega (arith, a.0.0) in
    let v = more_digits some w low in
    subst (Written (value_from (n * 10 + (d - 48)) ds)) (append_assoc es (d ∷ []) ds)
    (goes_on (n * 10 + (d - 48)) (es ++ d ∷ []) ds (omega arith)
    (subst (λ x. Written (n * 10 + (d - 48)) (es ++ x ∷ [])) is v) a.1)

proper_written : {ds : List ℕ} → Proper ds → Written (value ds) ds
proper_written zero_alone = one_digit (omega arith)
proper_written (no_leading_zero {d = d} {ds = ds} h n a) =
    let low : d - 48 < 10 = omega (arith, h.1) in
    let is : 48 + (d - 48) ≡ d = omega (arith, h.0) in
    let first : 0 * 10 + (d - 48) ≡ d - 48 = omega arith in
    let one = subst (λ x. Written (d - 48) (x ∷ [])) is (one_digit low) in
    goes_on (0 * 10 + (d - 48)) (d ∷ []) ds (omega (arith, h.0, n)) (subst (λ x. Written x (d ∷ [])) (sym first) one) a

-- a digit after a number that is not 0
longer : (n c : ℕ) (ds : List ℕ) → Proper ds → value ds ≡ n → 0 < n → Digit c → Proper (ds ++ c ∷ [])
longer n c ds zero_alone e some h = absurd (omega arith)
longer n c ds (no_leading_zero {d = d} {ds = es} k m a) e some h =
    no_leading_zero k m (all_append Digit es (c ∷ []) a (h, tt))

written_proper : {n : ℕ} {ds : List ℕ} → Written n ds → Proper ds
written_proper (one_digit {d = d} h) =
    ⊎_elim (λ z. subst (λ x. Proper ((48 + x) ∷ [])) (sym z) zero_alone)
    (λ m. no_leading_zero (omega arith, omega arith) (λ e. m (omega arith)) tt)
    (cases_eq d 0)
written_proper (more_digits {n = n} {d = d} {ds = ds} some w h) =
    longer n (48 + d) ds (written_proper w) (value_of w) some (omega arith, omega arith)

printed : (n : ℕ) → n < 10 ^ 64 → Written n (decimal n)
printed n h = decimal_by_steps_wide Written (λ n low. one_digit low) by_parts n h

pub decimals : Decimals
decimals = record {
  written = λ n. let w = write n n (omega arith) in (w.0, w.1, λ es v. by_value v w.1 refl);
  value_of = λ n ds w. value_of w;
  proper = λ ds. (proper_written, written_proper);
  printed = printed;
}
