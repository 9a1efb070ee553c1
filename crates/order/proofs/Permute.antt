-- Valuations under a permutation of the variables.
use Rattle.std.proofs.Common.{◌≡◌, ℕ, zero, suc, ◌+◌, ◌%◌, mod-eq_of_lt, add-zero, add-one, List, length, get_or, ◌^◌, ◌<◌, ◌≤◌, Bool, cond, ltb, [], ◌∷◌, sym, ap, ap₂, ◌∙◌, subst, ⊎_elim, arith}
use Rattle.std.proofs.lemmas.Bool.{cases_eq, cases_lt, lt-ltb, le-ltb, cond-true, cond-false}
use Rattle.std.specs.List.{range_with_len, fold, zip}
use Rattle.store.specs.Fun.{Fn, bit, fixed, fix, Same}
use Rattle.store.proofs.Bit.{bit_fixed_same, bit_fixed_other, fixed_lt}
use Rattle.order.specs.Renaming.{placed, taken, above, below}
use Rattle.order.specs.Facts.{Permutes, Places, StandsFor}
use Rattle.order.proofs.Bits.{bit_ext, fixed_ge}

-- what `with_bit` answers
abbrev pub put : ℕ → Bool → ℕ → ℕ
put i t v = cond (ltb i 32) (fixed i t v) v

pub put_is : {j i : ℕ} {t u : Bool} (v r : ℕ) → j ≡ i → t ≡ u → (j < 32 → r ≡ fixed j t v) → (32 ≤ j → r ≡ v) → r ≡ put i u v
put_is {j} {i} {t} {u} v r e b within past = ⊎_elim
    (λ h. within h ∙ sym (cond-true _ (fixed j t v) v (lt-ltb j 32 h)))
    (λ h. past h ∙ sym (cond-false _ (fixed j t v) v (le-ltb j 32 h)))
    (cases_lt j 32)
    ∙ ap₂ (λ k c. put k c v) e b

-- the valuation below, made bit after bit from bit j on: xs has the p(i) that are left
pub placed_from : (p : ℕ → ℕ) (w j m : ℕ) (xs : List ℕ) → length xs ≤ m → ((i : ℕ) → i < length xs → (get_or xs i 0 ≡ p (j + i)) × (p (j + i) < 32))
    → fold (λ v q. put (q.1 % 32) (bit q.0 w) v) (placed p j w) (zip (range_with_len j m) xs) ≡ placed p (j + length xs) w
placed_from p w j zero [] l h = ap (λ k. placed p k w) (sym (add-zero j))
placed_from p w j (suc m) [] l h = ap (λ k. placed p k w) (sym (add-zero j))
placed_from p w j zero (x ∷ xs) l h = absurd (omega arith)
placed_from p w j (suc m) (x ∷ xs) l h =
    let here = h 0 (omega arith) in
    let is : x ≡ p j = here.0 ∙ ap p (add-zero j) in
    let low : p j < 32 = subst (λ (k : ℕ). p k < 32) (add-zero j) here.1 in
    let whole : x % 32 ≡ p j = ap (λ k. k % 32) is ∙ mod-eq_of_lt low in
    let put_here : put (x % 32) (bit j w) (placed p j w) ≡ placed p (suc j) w =
    ap (λ k. put k (bit j w) (placed p j w)) whole ∙ cond-true _ (fixed (p j) (bit j w) (placed p j w)) (placed p j w) (lt-ltb (p j) 32 low) in
    let then : (i : ℕ) → j + suc i ≡ suc j + i = λ i. omega arith in
    ap₂ (λ v k. fold (λ v q. put (q.1 % 32) (bit q.0 w) v) v (zip (range_with_len k m) xs)) put_here (add-one j)
    ∙ placed_from p w (suc j) m xs (omega arith)
    (λ i s. subst (λ (k : ℕ). (get_or xs i 0 ≡ p k) × (p k < 32)) (then i) (h (suc i) (omega arith)))
    ∙ ap (λ k. placed p k w) (sym (then (length xs)))

bit_taken : (p : ℕ → ℕ) (m i v : ℕ) → i < m → bit i (taken p m v) ≡ bit (p i) v
bit_taken p zero i v h = absurd (omega arith)
bit_taken p (suc m) i v h = ⊎_elim
    (λ e. subst (λ (k : ℕ). bit k (taken p (suc m) v) ≡ bit (p k) v) (sym e) (bit_fixed_same m (bit (p m) v) (taken p m v)))
    (λ d. bit_fixed_other i m (bit (p m) v) (taken p m v) d ∙ bit_taken p m i v (omega arith))
    (cases_eq i m)

pub taken_lt : (p : ℕ → ℕ) (n m v : ℕ) → m ≤ n → v < 2 ^ n → taken p m v < 2 ^ n
taken_lt p n zero v h l = l
taken_lt p n (suc m) v h l = fixed_lt n m (bit (p m) v) (taken p m v) h (taken_lt p n m v (omega arith) l)

module _ (n : ℕ) (p : ℕ → ℕ) (o : Permutes n p) where
  bit_placed : (m i w : ℕ) → m ≤ n → i < m → bit (p i) (placed p m w) ≡ bit i w
  bit_placed zero i w h l = absurd (omega arith)
  bit_placed (suc m) i w h l = ⊎_elim
      (λ e. subst (λ (k : ℕ). bit (p k) (placed p (suc m) w) ≡ bit k w) (sym e) (bit_fixed_same (p m) (bit m w) (placed p m w)))
      (λ d. bit_fixed_other (p i) (p m) (bit m w) (placed p m w) (λ q. d (o.once i m (omega arith) h q)) ∙ bit_placed m i w (omega arith) (omega arith))
      (cases_eq i m)

  pub placed_lt : (m w : ℕ) → m ≤ n → w < 2 ^ n → placed p m w < 2 ^ n
  placed_lt zero w h l = l
  placed_lt (suc m) w h l = fixed_lt n (p m) (bit m w) (placed p m w) (o.within m h) (placed_lt m w (omega arith) l)

  pub placed_ge : (m w : ℕ) → m ≤ n → 2 ^ n ≤ w → 2 ^ n ≤ placed p m w
  placed_ge zero w h l = l
  placed_ge (suc m) w h l = fixed_ge n (p m) (bit m w) (placed p m w) (o.within m h) (placed_ge m w (omega arith) l)

  -- a valuation below is known by the bits p(i)
  bits_below : (u v : ℕ) → u < 2 ^ n → v < 2 ^ n → ((i : ℕ) → i < n → bit (p i) u ≡ bit (p i) v) → u ≡ v
  bits_below u v h l e = bit_ext n u v h l
      (λ j m. let t = o.each j m in subst (λ (k : ℕ). bit k u ≡ bit k v) t.1.1 (e t.0 t.1.0))

  placed_is : (w v : ℕ) → w < 2 ^ n → v < 2 ^ n → ((i : ℕ) → i < n → bit i w ≡ bit (p i) v) → placed p n w ≡ v
  placed_is w v h l e = bits_below (placed p n w) v (placed_lt n w (omega arith) h) l (λ i m. bit_placed n i w (omega arith) m ∙ e i m)

  -- each valuation is one below, and each below is one above
  pub places_placed : (w : ℕ) → Places n p w (placed p n w)
  places_placed w i l = sym (bit_placed n i w (omega arith) l)

  pub places_taken : (v : ℕ) → Places n p (taken p n v) v
  places_taken v i l = bit_taken p n i v l

  placed_taken : (v : ℕ) → v < 2 ^ n → placed p n (taken p n v) ≡ v
  placed_taken v h = placed_is (taken p n v) v (taken_lt p n n v (omega arith) h) h (places_taken v)

  pub above_stands : (g : Fn) → StandsFor n p (above p n g) g
  above_stands g w v h l e = ap g (placed_is w v h l e)

  pub below_stands : (f : Fn) → StandsFor n p f (below p n f)
  below_stands f w v h l e = ap f (bit_ext n w (taken p n v) h (taken_lt p n n v (omega arith) l) (λ i m. e i m ∙ sym (bit_taken p n i v m)))

  -- what stands for g is g as it stands above
  pub stands_above : (f g : Fn) → StandsFor n p f g → Same n f (above p n g)
  stands_above f g s w h = s w (placed p n w) h (placed_lt n w (omega arith) h) (places_placed w)

  pub stands_below : (f g : Fn) → StandsFor n p f g → Same n (below p n f) g
  stands_below f g s v h = s (taken p n v) v (taken_lt p n n v (omega arith) h) h (places_taken v)

  pub above_same : (f g : Fn) → Same n f g → Same n (above p n f) (above p n g)
  above_same f g e w h = e (placed p n w) (placed_lt n w (omega arith) h)

  pub above_back : (f g : Fn) → Same n (above p n f) (above p n g) → Same n f g
  above_back f g e v h = ap f (sym (placed_taken v h)) ∙ e (taken p n v) (taken_lt p n n v (omega arith) h) ∙ ap g (placed_taken v h)

  -- a fixed variable
  pub fix_stands : (i : ℕ) (t : Bool) (f g : Fn) → i < n → StandsFor n p f g → StandsFor n p (fix i t f) (fix (p i) t g)
  fix_stands i t f g h s w v l m e = s (fixed i t w) (fixed (p i) t v) (fixed_lt n i t w h l) (fixed_lt n (p i) t v (o.within i h) m)
      (λ k q. ⊎_elim
      (λ a. subst (λ (j : ℕ). bit j (fixed i t w) ≡ bit (p j) (fixed (p i) t v)) (sym a) (bit_fixed_same i t w ∙ sym (bit_fixed_same (p i) t v)))
      (λ d. bit_fixed_other k i t w d ∙ e k q ∙ sym (bit_fixed_other (p k) (p i) t v (λ b. d (o.once k i q h b))))
      (cases_eq k i))
