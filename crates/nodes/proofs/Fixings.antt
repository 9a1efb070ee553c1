-- The functions that arise by fixing the first variables.
use Rattle.std.proofs.Common.{◌≡◌, ℕ, zero, suc, ◌+◌, ◌^◌, ◌<◌, ◌≤◌, Bool, true, false, length, sym, refl, ap, ◌∙◌, subst, inl, inr, ⊎_elim, pow-suc, arith}
use Rattle.std.proofs.lemmas.List.{length-append}
use Rattle.std.proofs.lemmas.Bool.{cases_lt}
use Rattle.store.specs.Fun.{Fn, bit, fixed, fix, Same}
use Rattle.store.proofs.Bit.{fixed_lt, fixed_own}
use Rattle.store.proofs.Same.{same_sym, same_trans}
use Rattle.nodes.specs.Price.{fixings}
use Rattle.nodes.specs.Growth.{In, Splits, choose}
use Rattle.nodes.proofs.Pigeon.{in_left, in_right, in_parts}

pub fixings_length : (m i : ℕ) (f : Fn) → length (fixings m i f) + 1 ≡ 2 ^ m
fixings_length zero i f = refl
fixings_length (suc m) i f =
    let a = fixings_length m (suc i) (fix i false f) in
    let b = fixings_length m (suc i) (fix i true f) in
    let c = length-append (fixings m (suc i) (fix i false f)) (fixings m (suc i) (fix i true f)) in
    omega (arith, pow-suc 2 m)

module _ (n : ℕ) where
  pub fix_same : (i : ℕ) (t : Bool) (f g : Fn) → i < n → Same n f g → Same n (fix i t f) (fix i t g)
  fix_same i t f g h e w l = e (fixed i t w) (fixed_lt n i t w h l)

  -- what arises with the next variable fixed
  in_half : (t : Bool) (m i : ℕ) (f k : Fn) → In (Same n) k (fixings m (suc i) (fix i t f)) → In (Same n) k (fixings (suc m) i f)
  in_half false m i f k h = inr (in_left (Same n) k _ _ h)
  in_half true m i f k h = inr (in_right (Same n) k (fixings m (suc i) (fix i false f)) _ h)

  pub fixings_like : (m i : ℕ) (f g k : Fn) → i + m ≤ n → Same n f g → In (Same n) k (fixings m i f) → In (Same n) k (fixings m i g)
  fixings_like zero i f g k h e j = j
  fixings_like (suc m) i f g k h e (inl r) = inl (same_trans n k f g r e)
  fixings_like (suc m) i f g k h e (inr j) =
      let side : (t : Bool) → In (Same n) k (fixings m (suc i) (fix i t f)) → In (Same n) k (fixings (suc m) i g) = λ t a.
      in_half t m i g k (fixings_like m (suc i) (fix i t f) (fix i t g) k (omega arith) (fix_same i t f g (omega arith) e) a) in
      ⊎_elim (side false) (side true) (in_parts (Same n) k (fixings m (suc i) (fix i false f)) _ j)

  -- what arises from a half arises from the whole
  pub split_in : (v : ℕ) (f : Fn) (h : Bool → Fn) (t : Bool) (k : Fn) → Splits n v f h
      → ((m i : ℕ) → i + m ≡ n → i ≤ suc v → In (Same n) k (fixings m i (h t)))
      → (m i : ℕ) → i + m ≡ n → i ≤ v → In (Same n) k (fixings m i f)
  split_in v f h t k s a zero i e l = absurd (omega (arith, s.below))
  split_in v f h t k s a (suc m) i e l =
      in_half t m i f k (⊎_elim
      (λ lt. fixings_like m (suc i) f (fix i t f) k (omega arith) (same_sym n _ _ (s.free i t lt)) (split_in v f h t k s a m (suc i) (omega arith) (omega arith)))
      (λ ge. let q : i ≡ v = omega arith in
      fixings_like m (suc i) (h t) (fix i t f) k (omega arith) (subst (λ (j : ℕ). Same n (h t) (fix j t f)) (sym q) (same_sym n _ _ (s.half t))) (a m (suc i) (omega arith) (omega arith)))
      (cases_lt i v))

  -- a function is among its own fixings
  pub self_in : (f k : Fn) (m i : ℕ) → 0 < m → Same n k f → In (Same n) k (fixings m i f)
  self_in f k zero i h e = absurd (omega arith)
  self_in f k (suc m) i h e = inl e

  -- f by its two halves
  pub halves : (v : ℕ) (f : Fn) (h : Bool → Fn) → Splits n v f h → Same n f (choose v h)
  halves v f h s w l = ap f (sym (fixed_own v w)) ∙ s.half (bit v w) w l
