-- Lists without repeats, compared by length.
use Rattle.std.proofs.Common.{◌≡◌, suc, ◌≤◌, Bool, true, false, cond, ◌⊎◌, List, [], ◌∷◌, ◌++◌, length, Decides, filter, sym, refl, ap, inl, inr, zero-le, arith}
use Rattle.std.specs.List.{AllByRecursion as All}
use Rattle.std.proofs.lemmas.Bool.{cond_both, true≢false}
use Rattle.std.proofs.lemmas.Bool.Decides.{Decides-or, not_from_Decides}
use Rattle.nodes.specs.Growth.{In}
use Rattle.nodes.specs.Price.{has, distinct}

module _ {A : Type 0} (R : A → A → Type 0) where
  abbrev pub Apart : List A → Type 0
  Apart [] = Unit {0}
  Apart (x ∷ xs) = (In R x xs → ⊥) × Apart xs

  pub in_left : (x : A) (xs ys : List A) → In R x xs → In R x (xs ++ ys)
  in_left x [] ys i = absurd i
  in_left x (y ∷ xs) ys (inl r) = inl r
  in_left x (y ∷ xs) ys (inr i) = inr (in_left x xs ys i)

  pub in_right : (x : A) (xs ys : List A) → In R x ys → In R x (xs ++ ys)
  in_right x [] ys i = i
  in_right x (y ∷ xs) ys i = inr (in_right x xs ys i)

  pub in_parts : (x : A) (xs ys : List A) → In R x (xs ++ ys) → In R x xs ⊎ In R x ys
  in_parts x [] ys i = inr i
  in_parts x (y ∷ xs) ys (inl r) = inl (inl r)
  in_parts x (y ∷ xs) ys (inr i) = elim (in_parts x xs ys i) [ inl j ↦ inl (inr j) | inr j ↦ inr j ]

  -- an entry that passes the test is kept
  pub in_kept : (p : A → Bool) (x : A) (xs : List A) → ((y : A) → R x y → p y ≡ true) → In R x xs → In R x (filter p xs)
  in_kept p x [] h i = absurd i
  in_kept p x (y ∷ xs) h (inl r) = rw (h y r) (inl r)
  in_kept p x (y ∷ xs) h (inr i) =
      cond_both (p y) _ _ (In R x) (λ _. inr (in_kept p x xs h i)) (λ _. in_kept p x xs h i)

pub all_kept : {A : Type 0} (p : A → Bool) (P : A → Type 0) (xs : List A) → All P xs → All (λ x. P x × (p x ≡ true)) (filter p xs)
all_kept p P [] a = tt
all_kept p P (x ∷ xs) a =
    cond_both (p x) _ _ (All (λ x. P x × (p x ≡ true))) (λ e. ((a.0, e), all_kept p P xs a.1)) (λ _. all_kept p P xs a.1)

pub all_map : {A : Type 0} (P Q : A → Type 0) → ((x : A) → P x → Q x) → (xs : List A) → All P xs → All Q xs
all_map P Q h [] a = tt
all_map P Q h (x ∷ xs) a = (h x a.0, all_map P Q h xs a.1)

pub all_distinct : {A : Type 0} (r : A → A → Bool) (P : A → Type 0) (xs : List A) → All P xs → All P (distinct r xs)
all_distinct r P [] a = tt
all_distinct r P (x ∷ xs) a =
    cond_both (has r x xs) _ _ (All P) (λ _. all_distinct r P xs a.1) (λ _. (a.0, all_distinct r P xs a.1))

module _ {A : Type 0} (R : A → A → Type 0) (r_sym : (x y : A) → R x y → R y x) (r_trans : (x y z : A) → R x y → R y z → R x z) where
  pub in_like : (x y : A) (xs : List A) → R x y → In R y xs → In R x xs
  in_like x y [] e i = absurd i
  in_like x y (z ∷ xs) e (inl r) = inl (r_trans x y z e r)
  in_like x y (z ∷ xs) e (inr i) = inr (in_like x y xs e i)

  without : (x : A) (ys : List A) → In R x ys →
      (zs : List A) × (length ys ≡ suc (length zs)) × ((z : A) → In R z ys → (R x z → ⊥) → In R z zs)
  without x [] i = absurd i
  without x (y ∷ ys) (inl r) =
      (ys, refl, (λ z j d. elim j [ inl q ↦ absurd (d (r_trans x y z r (r_sym z y q))) | inr k ↦ k ]))
  without x (y ∷ ys) (inr i) =
      let t = without x ys i in
      (y ∷ t.0, ap suc t.1, (λ z j d. elim j [ inl q ↦ inl q | inr k ↦ inr (t.2 z k d) ]))

  -- each of xs is in zs too
  moved : (x : A) (xs ys zs : List A) → ((z : A) → In R z ys → (R x z → ⊥) → In R z zs)
      → (In R x xs → ⊥) → All (λ y. In R y ys) xs → All (λ y. In R y zs) xs
  moved x [] ys zs m d a = tt
  moved x (y ∷ xs) ys zs m d a = (m y a.0 (λ r. d (inl r)), moved x xs ys zs m (λ i. d (inr i)) a.1)

  pub pigeon : (xs ys : List A) → Apart R xs → All (λ x. In R x ys) xs → length xs ≤ length ys
  pigeon [] ys p a = zero-le
  pigeon (x ∷ xs) ys p a =
      let t = without x ys a.0 in
      let i = pigeon xs t.0 p.1 (moved x xs ys t.0 t.2 p.0 a.1) in
      omega (arith, t.1)

  module _ (r : A → A → Bool) (r_decides : (x y : A) → Decides (r x y) (R x y)) where
    has_decides : (x : A) (xs : List A) → Decides (has r x xs) (In R x xs)
    has_decides x [] = ((λ e. true≢false (sym e)), (λ i. absurd i))
    has_decides x (y ∷ ys) = Decides-or (r x y) (has r x ys) (r_decides x y) (has_decides x ys)

    distinct_in : (x : A) (xs : List A) → In R x (distinct r xs) → In R x xs
    distinct_in x [] i = absurd i
    distinct_in x (y ∷ ys) i = go (distinct_in x ys) (has r y ys) i
      where
        go : (In R x (distinct r ys) → In R x ys) → (b : Bool) → In R x (cond b (distinct r ys) (y ∷ distinct r ys)) → In R x (y ∷ ys)
        go ih true j = inr (ih j)
        go ih false (inl q) = inl q
        go ih false (inr j) = inr (ih j)

    pub in_distinct : (x : A) (xs : List A) → In R x xs → In R x (distinct r xs)
    in_distinct x [] i = absurd i
    in_distinct x (y ∷ ys) (inl q) =
        cond_both (has r y ys) _ _ (In R x)
        (λ e. in_distinct x ys (in_like x y ys q ((has_decides y ys).0 e)))
        (λ _. inl q)
    in_distinct x (y ∷ ys) (inr i) =
        cond_both (has r y ys) _ _ (In R x) (λ e. in_distinct x ys i) (λ _. inr (in_distinct x ys i))

    pub distinct_apart : (xs : List A) → Apart R (distinct r xs)
    distinct_apart [] = tt
    distinct_apart (x ∷ xs) =
        cond_both (has r x xs) _ _ (Apart R) (λ _. distinct_apart xs)
        (λ e. ((λ i. not_from_Decides (has r x xs) (has_decides x xs) e (distinct_in x xs i)), distinct_apart xs))

-- each entry of a list is in it
pub all_in : {A : Type 0} (R : A → A → Type 0) → ((x : A) → R x x) → (xs : List A) → All (λ x. In R x xs) xs
all_in R r [] = tt
all_in R r (x ∷ xs) = (inl (r x), all_map (λ y. In R y xs) (λ y. In R y (x ∷ xs)) (λ y i. inr i) xs (all_in R r xs))
