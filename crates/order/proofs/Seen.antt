-- The numbers of a list, as the bits of a word.
use Rattle.std.proofs.Common.{◌≡◌, ℕ, zero, suc, ◌+◌, ◌-◌, ◌/◌, ◌%◌, ◌^◌, ◌<◌, ◌≤◌, Bool, true, false, ◌||◌, eqb, ltb, List, [], ◌∷◌, length, sym, refl, ap, ◌∙◌, ⊎_elim, pow-suc, arith}
use Rattle.std.specs.List.{fold}
use Rattle.std.proofs.lemmas.Bool.{cases_eq, cases_lt, eq-eqb, ne_eqb, ltb-true, lt-ltb, le-ltb, cond-true, cond-false}
use Rattle.std.proofs.lemmas.Bool.Decides.{same_from_decides, Decides-eqb, Decides-like, Decides-below_and}
use Rattle.std.proofs.lemmas.Nat.{pow_pos, pow_below}
use Rattle.store.specs.Fun.{bit, fixed, each}
use Rattle.store.proofs.Bit.{bit_fixed_same, bit_fixed_other}
use Rattle.store.proofs.Word.{bit_past}
use Rattle.order.specs.Listing.{times}
use Rattle.order.proofs.Bits.{bit_ext}
use Rattle.order.proofs.Lists.{times_cons, ones, no_other}
use Rattle.order.proofs.Permute.{put}

bit_put : (x j : ℕ) (v : ℕ) → (x ≡ j → ⊥) → bit j (put x true v) ≡ bit j v
bit_put x j v d = ⊎_elim
    (λ h. ap (bit j) (cond-true _ (fixed x true v) v (lt-ltb x 32 h)) ∙ bit_fixed_other j x true v (λ e. d (sym e)))
    (λ h. ap (bit j) (cond-false _ (fixed x true v) v (le-ltb x 32 h)))
    (cases_lt x 32)

-- a bit is set where its number is in the list, or it was set before
pub bit_seen : (xs : List ℕ) (v j : ℕ) → j < 32 → bit j (fold (λ v x. put x true v) v xs) ≡ (bit j v || ltb 0 (times j xs))
bit_seen [] v j h = or_none (bit j v)
  where
    or_none : (b : Bool) → b ≡ (b || false)
    or_none true = refl
    or_none false = refl
bit_seen (x ∷ xs) v j h = bit_seen xs (put x true v) j h ∙ ⊎_elim
    (λ e.
    let here : bit j (put x true v) ≡ true =
    ap (λ k. bit j (put k true v)) e ∙ ap (bit j) (cond-true _ (fixed j true v) v (lt-ltb j 32 h)) ∙ bit_fixed_same j true v in
    let count : times j (x ∷ xs) ≡ 1 + times j xs = times_cons j x xs ∙ rw (eq-eqb x j e) refl in
    let some : ltb 0 (times j (x ∷ xs)) ≡ true = lt-ltb 0 _ (omega arith) in
    rw (here, some) (sym (or_some (bit j v))))
    (λ d.
    let none = cond-false {A = ℕ} (eqb x j) 1 0 (ne_eqb x j d) in
    let count : times j (x ∷ xs) ≡ times j xs = omega (arith, times_cons j x xs, none) in
    rw (bit_put x j v d, count) refl)
    (cases_eq x j)
  where
    or_some : (b : Bool) → (b || true) ≡ true
    or_some true = refl
    or_some false = refl

bit_low : (n k : ℕ) → k < n → bit k (2 ^ n - 1) ≡ true
bit_low zero k h = absurd (omega arith)
bit_low (suc n) zero h =
    let p = pow-suc 2 n in
    let q = pow_pos n in
    let odd : (2 ^ suc n - 1) % 2 ≡ 1 = omega arith in
    ap (λ r. eqb r 1) odd
bit_low (suc n) (suc k) h =
    let p = pow-suc 2 n in
    let half : (2 ^ suc n - 1) / 2 ≡ 2 ^ n - 1 = omega arith in
    ap (bit k) half ∙ bit_low n k (omega arith)

-- a list of n entries has each number below n once just where the word of its numbers has the lowest n bits alone
pub seen_all : (n : ℕ) (xs : List ℕ) (word : ℕ) → n ≤ 24 → length xs ≡ n → word < 2 ^ 32 → ((j : ℕ) → j < 32 → bit j word ≡ ltb 0 (times j xs))
    → eqb word (2 ^ n - 1) ≡ each (λ j. eqb (times j xs) 1) n
seen_all n xs word few e fits b = same_from_decides _ _
    (Decides-like (eqb word (2 ^ n - 1)) all_seen is_low (Decides-eqb word (2 ^ n - 1)))
    (Decides-below_and (λ j. eqb (times j xs) 1) (λ j. times j xs ≡ 1) (each (λ j. eqb (times j xs) 1)) (λ j. Decides-eqb (times j xs) 1) refl (λ _. refl) n)
  where
    all_seen : word ≡ 2 ^ n - 1 → (j : ℕ) → j < n → times j xs ≡ 1
    all_seen w = ones n xs e (λ j h. ltb-true 0 _ (sym (b j (omega arith)) ∙ ap (bit j) w ∙ bit_low n j h))

    is_low : ((j : ℕ) → j < n → times j xs ≡ 1) → word ≡ 2 ^ n - 1
    is_low h =
        let below = pow_below n 32 (omega arith) in
        bit_ext 32 word (2 ^ n - 1) fits (omega (arith, below)) (λ k l. b k l ∙ ⊎_elim
        (λ i. let once = h k i in lt-ltb 0 (times k xs) (omega arith) ∙ sym (bit_low n k i))
        (λ i. ap (ltb 0) (no_other n xs e h k i) ∙ sym (bit_past n k (2 ^ n - 1) (omega (arith, pow_pos n)) i))
        (cases_lt k n))
