-- A list that grows by the parts of f alone, until it has f, grows by the price of f.
use Rattle.std.proofs.Common.{◌≡◌, ℕ, zero, suc, ◌+◌, ◌-◌, ◌<◌, ◌≤◌, Bool, true, false, not, List, [], ◌∷◌, length, Decides, filter, sym, refl, ap, subst, inl, inr, ⊎_elim, arith}
use Rattle.std.specs.List.{AllByRecursion as All}
use Rattle.std.proofs.ByRecursion.{All-append}
use Rattle.std.proofs.lemmas.Bool.{cases_lt, cases_Bool, and_parts, and_from, or_from, or_cases, not-true, not_from_false}
use Rattle.std.proofs.lemmas.Bool.Decides.{not_from_Decides}
use Rattle.store.specs.Fun.{Fn, fix, Same, same}
use Rattle.store.proofs.Same.{same_sym, same_trans, decides_same}
use Rattle.nodes.specs.declared.Node.{Node}
use Rattle.nodes.specs.Graph.{node, child, value, top, Sound}
use Rattle.nodes.specs.Price.{fixings, distinct, constant, wanted, cost}
use Rattle.nodes.specs.Growth.{In, Ext, Halved}
use Rattle.nodes.proofs.Values.{top_node}
use Rattle.nodes.proofs.Canon.{canon}
use Rattle.nodes.proofs.Extend.{value_ext, ext_refl}
use Rattle.nodes.proofs.Fixings.{fix_same, self_in}
use Rattle.nodes.proofs.Halving.{halved_child, halved_self}
use Rattle.nodes.proofs.Pigeon.{Apart, pigeon, in_kept, all_kept, all_map, all_distinct, in_distinct, distinct_apart}

-- g is the function of a number
abbrev pub Held : ℕ → List Node → Fn → Type 0
Held n xs g = (a : ℕ) × (a < length xs + 2) × Same n (value xs a) g

-- the functions of the m numbers from a on
abbrev run : List Node → ℕ → ℕ → List Fn
run xs a zero = []
run xs a (suc m) = value xs a ∷ run xs (suc a) m

run_length : (xs : List Node) (a m : ℕ) → length (run xs a m) ≡ m
run_length xs a zero = refl
run_length xs a (suc m) = ap suc (run_length xs (suc a) m)

in_run : (n : ℕ) (xs : List Node) (f : Fn) (b a m : ℕ) → a ≤ b → b < a + m → Same n f (value xs b) → In (Same n) f (run xs a m)
in_run n xs f b a zero h l e = absurd (omega arith)
in_run n xs f b a (suc m) h l e = ⊎_elim
    (λ lt. inr (in_run n xs f b (suc a) m (omega arith) (omega arith) e))
    (λ ge. let q : b ≡ a = omega arith in inl (subst (λ (c : ℕ). Same n f (value xs c)) q e))
    (cases_lt a b)

run_in : (n : ℕ) (xs : List Node) (f : Fn) (a m : ℕ) → In (Same n) f (run xs a m) → (b : ℕ) × (a ≤ b) × (b < a + m) × Same n f (value xs b)
run_in n xs f a zero i = absurd i
run_in n xs f a (suc m) (inl e) = (a, omega arith, omega arith, e)
run_in n xs f a (suc m) (inr i) =
    let t = run_in n xs f (suc a) m i in
    (t.0, omega (arith, t.1), omega (arith, t.2), t.3)

all_run : (P : Fn → Type 0) (xs : List Node) (a m : ℕ) → ((b : ℕ) → a ≤ b → b < a + m → P (value xs b)) → All P (run xs a m)
all_run P xs a zero h = tt
all_run P xs a (suc m) h = (h a (omega arith) (omega arith), all_run P xs (suc a) m (λ b l u. h b (omega arith) (omega arith)))

module _ (n : ℕ) (ys : List Node) (s : Sound n ys) where
  run_apart : (a m : ℕ) → a + m ≤ length ys + 2 → Apart (Same n) (run ys a m)
  run_apart a zero h = tt
  run_apart a (suc m) h = (
    (λ i. let t = run_in n ys (value ys a) (suc a) m i in
        let e : a ≡ t.0 = canon n ys s a t.0 (omega arith) (omega (arith, t.2)) t.3 in
        omega (arith, t.1)),
    run_apart (suc a) m (omega arith),
  )

  -- a number with its first variable fixed is a number
  fixed_number : (b i : ℕ) (t : Bool) → i < n → b < length ys + 2 → i ≤ top n ys b → (c : ℕ) × Halved n ys b i t c
  fixed_number zero i t h l u = (0, halved_self n ys s 0 i t h)
  fixed_number (suc zero) i t h l u = (1, halved_self n ys s 1 i t h)
  fixed_number (suc (suc k)) i t h l u = ⊎_elim
      (λ lt. (suc (suc k), halved_self n ys s (suc (suc k)) i t (omega (arith, lt, top_node n ys k (omega arith)))))
      (λ ge. let u' : i ≤ (node ys k).variable = omega (arith, u, top_node n ys k (omega arith)) in
      let q : i ≡ (node ys k).variable = omega arith in
      (child (node ys k) t, subst (λ (j : ℕ). Halved n ys (suc (suc k)) j t (child (node ys k) t)) (sym q) (halved_child n ys s k t (omega arith))))
      (cases_lt i (node ys k).variable)

  -- what arises from a number is a number
  closed : (m i b : ℕ) (f : Fn) → i + m ≤ n → b < length ys + 2 → i ≤ top n ys b → Same n (value ys b) f → All (Held n ys) (fixings m i f)
  closed zero i b f h l u e = tt
  closed (suc m) i b f h l u e =
      let side : (t : Bool) → All (Held n ys) (fixings m (suc i) (fix i t f)) = λ t.
      let c = fixed_number b i t (omega arith) l u in
      closed m (suc i) c.0 (fix i t f) (omega arith) (c.1.held l) c.1.under (same_trans n _ _ _ (same_sym n _ _ c.1.means) (fix_same n i t (value ys b) f (omega arith) e)) in
      ((b, l, e), All-append (Held n ys) (fixings m (suc i) (fix i false f)) (fixings m (suc i) (fix i true f)) (side false) (side true))

  -- a number from 2 on is no constant
  no_constant : (b : ℕ) → 2 ≤ b → b < length ys + 2 → (g : Fn) → Same n (value ys b) g → constant n g ≡ false
  no_constant b h l g e = or_from _ _
      (⊎_elim (λ t. absurd (let q : b ≡ 0 = canon n ys s b 0 l (omega arith) (same_trans n _ _ _ e ((decides_same n g (λ _. false)).0 t)) in omega arith)) (λ t. t) (cases_Bool (same n g (λ _. false))))
      (⊎_elim (λ t. absurd (let q : b ≡ 1 = canon n ys s b 1 l (omega arith) (same_trans n _ _ _ e ((decides_same n g (λ _. true)).0 t)) in omega arith)) (λ t. t) (cases_Bool (same n g (λ _. true))))

module _ (n : ℕ) (xs ys : List Node) (sx : Sound n xs) (sy : Sound n ys) (e : Ext xs ys)
    (held : Fn → Bool) (tells : (g : Fn) → Decides (held g) (Held n xs g)) (f : Fn) where
  news : List Fn
  news = run ys (length xs + 2) (length ys - length xs)

  -- an old number's function, in the longer list
  old : (a : ℕ) → a < length xs + 2 → Same n (value ys a) (value xs a)
  old a h w l = value_ext n xs ys sx e a w h

  pub at_least : ((b : ℕ) → length xs + 2 ≤ b → b < length ys + 2 → In (Same n) (value ys b) (fixings n 0 f)) → length ys ≤ length xs + cost n held f
  unfolding cost news
  at_least parts =
      let p = pigeon (Same n) (same_sym n) (same_trans n) news (distinct (same n) (filter (wanted n held) (fixings n 0 f)))
      (run_apart n ys sy (length xs + 2) (length ys - length xs) (omega (arith, e.longer)))
      (all_run _ ys (length xs + 2) (length ys - length xs) (λ b l u.
      let u' : b < length ys + 2 = omega (arith, e.longer) in
      in_distinct (Same n) (same_sym n) (same_trans n) (same n) (decides_same n) (value ys b) (filter (wanted n held) (fixings n 0 f))
      (in_kept (Same n) (wanted n held) (value ys b) (fixings n 0 f)
      (λ g q. and_from _ _ (not_from_false _ (no_constant n ys sy b (omega arith) u' g q))
      (not_from_false _ (⊎_elim
      (λ t. let a = (tells g).0 t in
      let z : b ≡ a.0 = canon n ys sy b a.0 u' (omega (arith, a.1, e.longer)) (same_trans n _ _ _ q (same_trans n _ _ _ (same_sym n _ _ a.2) (same_sym n _ _ (old a.0 a.1)))) in
      absurd (omega (arith, a.1)))
      (λ t. t) (cases_Bool (held g)))))
      (parts b l u')))) in
      omega (arith, run_length ys (length xs + 2) (length ys - length xs), e.longer)

  pub at_most : (r : ℕ) → r < length ys + 2 → Same n (value ys r) f → length xs + cost n held f ≤ length ys
  unfolding cost news
  at_most r l m =
      let p = pigeon (Same n) (same_sym n) (same_trans n) (distinct (same n) (filter (wanted n held) (fixings n 0 f))) news
      (distinct_apart (Same n) (same_sym n) (same_trans n) (same n) (decides_same n) (filter (wanted n held) (fixings n 0 f)))
      (all_distinct (same n) _ (filter (wanted n held) (fixings n 0 f))
      (all_map (λ g. Held n ys g × (wanted n held g ≡ true)) (λ g. In (Same n) g news)
      (λ g h.
      let a = h.0 in
      let nh = not-true (held g) (and_parts (not (constant n g)) (not (held g)) h.1).1 in
      ⊎_elim
      (λ lt. absurd (not_from_Decides (held g) (tells g) nh (a.0, lt, same_trans n _ _ _ (same_sym n _ _ (old a.0 lt)) a.2)))
      (λ ge. in_run n ys g a.0 (length xs + 2) (length ys - length xs) ge (omega (arith, a.1, e.longer)) (same_sym n _ _ a.2))
      (cases_lt a.0 (length xs + 2)))
      (filter (wanted n held) (fixings n 0 f))
      (all_kept (wanted n held) (Held n ys) (fixings n 0 f) (closed n ys sy n 0 r f (omega arith) l (omega arith) m)))) in
      omega (arith, run_length ys (length xs + 2) (length ys - length xs), e.longer)

in_pos : {A : Type 0} (R : A → A → Type 0) (x : A) (ys : List A) → In R x ys → 0 < length ys
in_pos R x [] i = absurd i
in_pos R x (y ∷ ys) i = omega arith

-- a price is 0 exactly if the function is held
module _ (n : ℕ) (xs : List Node) (s : Sound n xs) (some : 1 ≤ n) (held : Fn → Bool) (tells : (g : Fn) → Decides (held g) (Held n xs g)) (f : Fn) where
  pub held_free : held f ≡ true → cost n held f ≡ 0
  held_free h =
      let t = (tells f).0 h in
      let p = at_most n xs xs s s (ext_refl xs) held tells f t.0 t.1 t.2 in
      omega arith

  -- a constant is held
  constant_held : (g : Fn) → constant n g ≡ true → Held n xs g
  constant_held g e = ⊎_elim
      (λ t. (0, omega arith, same_sym n _ _ ((decides_same n g (λ _. false)).0 t)))
      (λ t. (1, omega arith, same_sym n _ _ ((decides_same n g (λ _. true)).0 t)))
      (or_cases _ _ e)

  pub free_held : cost n held f ≡ 0 → held f ≡ true
  unfolding cost
  free_held z = ⊎_elim (λ t. t)
      (λ no_f.
      let none : (g : Fn) → Same n f g → Held n xs g → ⊥ = λ g e h. not_from_Decides (held f) (tells f) no_f (h.0, h.1, same_trans n _ _ _ h.2 (same_sym n _ _ e)) in
      let i = in_distinct (Same n) (same_sym n) (same_trans n) (same n) (decides_same n) f (filter (wanted n held) (fixings n 0 f))
      (in_kept (Same n) (wanted n held) f (fixings n 0 f)
      (λ g e. and_from _ _
      (not_from_false _ (⊎_elim (λ t. absurd (none g e (constant_held g t))) (λ t. t) (cases_Bool (constant n g))))
      (not_from_false _ (⊎_elim (λ t. absurd (none g e ((tells g).0 t))) (λ t. t) (cases_Bool (held g)))))
      (self_in n f f n 0 some (λ w _. refl))) in
      let p = in_pos (Same n) f (distinct (same n) (filter (wanted n held) (fixings n 0 f))) i in
      absurd (omega arith))
      (cases_Bool (held f))
