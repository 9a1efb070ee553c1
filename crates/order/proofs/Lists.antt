-- A list that holds each number below n once is a permutation of these.
use Rattle.std.proofs.Common.{◌≡◌, ℕ, zero, suc, ◌+◌, ◌<◌, ◌≤◌, true, false, ◌&&◌, cond, eqb, ltb, List, [], ◌∷◌, length, get_or, Decides, count_by, sym, refl, ap, ◌∙◌, subst, ⊎_elim, arith}
use Rattle.std.proofs.lemmas.List.{get_or_default, get_or_past}
use Rattle.std.proofs.lemmas.List.Sums.{sum_by-cons, count_by-le-length}
use Rattle.std.proofs.lemmas.Bool.{cases_eq, eq-eqb, ne_eqb, lt-ltb, le-ltb, cases_lt, cases_Bool, and_from, and_parts, ltb-true, and_left, and_right, cond-true, cond-false}
use Rattle.std.proofs.lemmas.Bool.Decides.{Decides-below_and, Decides-eqb, Decides-and, nat_tests}
use Rattle.store.specs.Fun.{each}
use Rattle.order.specs.Listing.{times, is_order, order_of, place, Fits}
use Rattle.order.specs.Facts.{Permutes}

-- what the test tells
pub is_order_tells : (n : ℕ) (xs : List ℕ) → Decides (is_order n xs) ((length xs ≡ n) × ((j : ℕ) → j < n → times j xs ≡ 1))
unfolding is_order
is_order_tells n xs = Decides-and _ _ (Decides-eqb (length xs) n)
    (Decides-below_and (λ j. eqb (times j xs) 1) (λ j. times j xs ≡ 1) (each (λ j. eqb (times j xs) 1)) (λ j. Decides-eqb (times j xs) 1) refl (λ _. refl) n)

pub short : (n : ℕ) (xs : List ℕ) → is_order n xs ≡ true → n ≤ 24 → 24 < length xs → ⊥
short n xs e h l = omega (arith, ((is_order_tells n xs).0 e).0)

-- an order is one of as many variables as it is long
pub order_itself : (n : ℕ) (xs ys : List ℕ) → is_order n xs ≡ true → ys ≡ xs → is_order (length ys) ys ≡ true
order_itself n xs ys e h = subst (λ (zs : List ℕ). is_order (length zs) zs ≡ true) (sym h) (ap (λ k. is_order k xs) ((is_order_tells n xs).0 e).0 ∙ e)

-- the first entry of a list, counted
pub times_cons : (j x : ℕ) (xs : List ℕ) → times j (x ∷ xs) ≡ cond (eqb x j) 1 0 + times j xs
times_cons j x xs = sum_by-cons (λ y. cond (eqb y j) 1 0) x xs

found : (xs : List ℕ) (j : ℕ) → 1 ≤ times j xs → (i : ℕ) × ((i < length xs) × (get_or xs i 0 ≡ j))
found [] j h = absurd (omega arith)
found (x ∷ xs) j h = ⊎_elim
    (λ e. (0, (omega arith, e)))
    (λ d. let s : times j (x ∷ xs) ≡ 0 + times j xs = times_cons j x xs ∙ rw (ne_eqb x j d) refl in
    let r = found xs j (omega arith) in (suc r.0, (omega (arith, r.1.0), r.1.1)))
    (cases_eq x j)

there : (xs : List ℕ) (i : ℕ) → i < length xs → 1 ≤ times (get_or xs i 0) xs
there [] i h = absurd (omega arith)
there (x ∷ xs) zero h = let s : times x (x ∷ xs) ≡ 1 + times x xs = times_cons x x xs ∙ rw (eq-eqb x x refl) refl in omega arith
there (x ∷ xs) (suc i) h = let s = times_cons (get_or xs i 0) x xs in let r = there xs i (omega arith) in omega arith

-- two places of one number
twice : (xs : List ℕ) (i j : ℕ) → i < length xs → j < length xs → get_or xs i 0 ≡ get_or xs j 0 → times (get_or xs j 0) xs ≤ 1 → i ≡ j
twice [] i j h l e t = absurd (omega arith)
twice (x ∷ xs) zero zero h l e t = refl
twice (x ∷ xs) zero (suc j) h l e t =
    let s : times (get_or xs j 0) (x ∷ xs) ≡ 1 + times (get_or xs j 0) xs = times_cons (get_or xs j 0) x xs ∙ rw (eq-eqb x (get_or xs j 0) e) refl in
    let r = there xs j (omega arith) in absurd (omega arith)
twice (x ∷ xs) (suc i) zero h l e t =
    let s : times x (x ∷ xs) ≡ 1 + times x xs = times_cons x x xs ∙ rw (eq-eqb x x refl) refl in
    let r : 1 ≤ times x xs = subst (λ (y : ℕ). 1 ≤ times y xs) e (there xs i (omega arith)) in absurd (omega arith)
twice (x ∷ xs) (suc i) (suc j) h l e t =
    let s = times_cons (get_or xs j 0) x xs in
    ap suc (twice xs i j (omega arith) (omega arith) e (omega arith))

pub order_there : (n : ℕ) (xs : List ℕ) (i : ℕ) → is_order n xs ≡ true → i < n → order_of n xs i ≡ get_or xs i 0
order_there n xs i e h = cond-true _ (get_or xs i 0) i (and_from _ _ e (lt-ltb i n h))

-- a list that is no order leaves each variable in its place
pub order_none : (n : ℕ) (xs : List ℕ) → is_order n xs ≡ false → (i : ℕ) → order_of n xs i ≡ i
order_none n xs e i = cond-false _ (get_or xs i 0) i (and_left _ _ e)

pub order_past : (n : ℕ) (xs : List ℕ) (i : ℕ) → n ≤ i → order_of n xs i ≡ i
order_past n xs i h = cond-false _ (get_or xs i 0) i (and_right _ _ (le-ltb i n h))

-- the empty list leaves each variable in its place
pub order_empty : (n i : ℕ) → order_of n [] i ≡ i
order_empty n i = cond-false _ 0 i (⊎_elim
    (λ y. let q = and_parts (is_order n []) (ltb i n) y in absurd (omega (arith, ((is_order_tells n []).0 q.0).0, ltb-true i n q.1)))
    (λ z. z)
    (cases_Bool (is_order n [] && ltb i n)))

-- the places of an order of all variables, or of none, are the order of these variables that it gives
pub place_is : (n : ℕ) (xs : List ℕ) → is_order (length xs) xs ≡ true → Fits n xs → (i : ℕ) → place xs i ≡ order_of n xs i
place_is n [] o f i = sym (order_empty n i)
place_is n (x ∷ xs) o f i =
    let ys = x ∷ xs in
    let l : length ys ≡ n = f (omega arith) in
    ⊎_elim
    (λ h. get_or_default ys i i 0 (omega arith) ∙ sym (order_there n ys i (subst (λ k. is_order k ys ≡ true) l o) h))
    (λ h. get_or_past ys i i (omega arith) ∙ sym (order_past n ys i h))
    (cases_lt i n)

-- how many entries are below n
abbrev small : ℕ → List ℕ → ℕ
small n xs = count_by (λ x. ltb x n) xs

small_cons : (n x : ℕ) (xs : List ℕ) → small n (x ∷ xs) ≡ cond (ltb x n) 1 0 + small n xs
small_cons n x xs = sum_by-cons (λ y. cond (ltb y n) 1 0) x xs

small_none : (xs : List ℕ) → small 0 xs ≡ 0
small_none [] = refl
small_none (x ∷ xs) =
    let s : small 0 (x ∷ xs) ≡ 0 + small 0 xs = small_cons 0 x xs ∙ rw (le-ltb x 0 (omega arith)) refl in
    omega (arith, small_none xs)

one_more : (x n : ℕ) → cond (ltb x (suc n)) 1 0 ≡ cond (eqb x n) 1 0 + cond (ltb x n) 1 0
one_more x n = grind (arith, nat_tests)

small_suc : (n : ℕ) (xs : List ℕ) → small (suc n) xs ≡ times n xs + small n xs
small_suc n [] = refl
small_suc n (x ∷ xs) =
    omega (arith, small_cons (suc n) x xs, small_cons n x xs, times_cons n x xs, one_more x n, small_suc n xs)

small_all : (n : ℕ) (xs : List ℕ) → ((j : ℕ) → j < n → times j xs ≡ 1) → small n xs ≡ n
small_all zero xs h = small_none xs
small_all (suc n) xs h = omega (arith, small_suc n xs, h n (omega arith), small_all n xs (λ j l. h j (omega arith)))

all_small : (n : ℕ) (xs : List ℕ) (i : ℕ) → length xs ≤ small n xs → i < length xs → get_or xs i 0 < n
all_small n [] i h l = absurd (omega arith)
all_small n (x ∷ xs) zero h l = ⊎_elim (λ y. y)
    (λ z. let s : small n (x ∷ xs) ≡ 0 + small n xs = small_cons n x xs ∙ rw (le-ltb x n z) refl in absurd (omega (arith, count_by-le-length (λ y. ltb y n) xs)))
    (cases_lt x n)
all_small n (x ∷ xs) (suc i) h l =
    let c : cond (ltb x n) 1 0 ≤ 1 = grind (arith, nat_tests) in
    all_small n xs i (omega (arith, small_cons n x xs)) (omega arith)

permutes_list : (n : ℕ) (xs : List ℕ) → is_order n xs ≡ true → Permutes n (λ i. get_or xs i 0)
permutes_list n xs e =
    let t = (is_order_tells n xs).0 e in
    let s = small_all n xs t.1 in
    record {
      within = λ i h. all_small n xs i (omega arith) (omega arith);
      once = λ i j h l q. twice xs i j (omega arith) (omega arith) q (omega (arith, t.1 (get_or xs j 0) (all_small n xs j (omega arith) (omega arith))));
      each = λ j h. let f = found xs j (omega (arith, t.1 j h)) in (f.0, (omega (arith, f.1.0), f.1.1));
    }

-- what a list gives is an order
pub permutes_order : (n : ℕ) (xs : List ℕ) → Permutes n (order_of n xs)
permutes_order n xs = ⊎_elim
    (λ e. let o = permutes_list n xs e in
    let is : (i : ℕ) → i < n → order_of n xs i ≡ get_or xs i 0 = λ i h. order_there n xs i e h in
    record {
      within = λ i h. rw (is i h) (o.within i h);
      once = λ i j h l q. o.once i j h l (sym (is i h) ∙ q ∙ is j l);
      each = λ j h. let f = o.each j h in (f.0, (f.1.0, is f.0 f.1.0 ∙ f.1.1));
    })
    (λ e. let is = order_none n xs e in
    record {
      within = λ i h. rw (is i) h;
      once = λ i j h l q. sym (is i) ∙ q ∙ is j;
      each = λ j h. (j, (h, is j));
    })
    (cases_Bool (is_order n xs))

pub order_below : (n : ℕ) (xs : List ℕ) (i : ℕ) → i < n → order_of n xs i < n
order_below n xs i h = (permutes_order n xs).within i h

small_least : (n : ℕ) (xs : List ℕ) → ((j : ℕ) → j < n → 1 ≤ times j xs) → n ≤ small n xs
small_least zero xs h = omega arith
small_least (suc n) xs h = omega (arith, small_suc n xs, h n (omega arith), small_least n xs (λ j l. h j (omega arith)))

-- a list of no more entries than n in which no number below n is missing has each once
ones_small : (n : ℕ) (xs : List ℕ) → ((j : ℕ) → j < n → 1 ≤ times j xs) → small n xs ≤ n → (j : ℕ) → j < n → times j xs ≡ 1
ones_small zero xs h l j i = absurd (omega arith)
ones_small (suc n) xs h l j i =
    let below : (k : ℕ) → k < n → 1 ≤ times k xs = λ k m. h k (omega arith) in
    let least = small_least n xs below in
    let more = small_suc n xs in
    let here = h n (omega arith) in
    ⊎_elim
    (λ e. let last : times n xs ≡ 1 = omega arith in subst (λ (k : ℕ). times k xs ≡ 1) (sym e) last)
    (λ d. ones_small n xs below (omega arith) j (omega arith))
    (cases_eq j n)

pub ones : (n : ℕ) (xs : List ℕ) → length xs ≡ n → ((j : ℕ) → j < n → 1 ≤ times j xs) → (j : ℕ) → j < n → times j xs ≡ 1
ones n xs e h = ones_small n xs h (omega (arith, count_by-le-length (λ y. ltb y n) xs))

-- a list of n entries that has each number below n once has no other
pub no_other : (n : ℕ) (xs : List ℕ) → length xs ≡ n → ((j : ℕ) → j < n → times j xs ≡ 1) → (k : ℕ) → n ≤ k → times k xs ≡ 0
no_other n xs e h k l = ⊎_elim
    (λ some. let f = found xs k some in
    absurd (omega (arith, f.1.1, all_small n xs f.0 (omega (arith, small_all n xs h)) f.1.0)))
    (λ none. omega arith)
    (cases_lt 0 (times k xs))
