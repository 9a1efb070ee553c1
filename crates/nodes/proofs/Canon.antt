-- Numbers with equal functions are equal.
use Rattle.std.proofs.Common.{◌≡◌, ℕ, zero, suc, ◌+◌, ◌<◌, Bool, true, false, List, length, sym, refl, ap, ◌∙◌, inl, inr, arith}
use Rattle.std.proofs.lemmas.Nat.{pow_pos}
use Rattle.std.proofs.lemmas.Bool.{cases_order, true≢false, false≢true}
use Rattle.store.specs.Fun.{Same}
use Rattle.store.proofs.Bit.{fixed_lt}
use Rattle.store.proofs.Same.{same_sym}
use Rattle.nodes.specs.declared.Node.{Node}
use Rattle.nodes.specs.Graph.{node, child, value, top, Fit, Sound}
use Rattle.nodes.proofs.Values.{top_node, value_free, value_child}

node_path : (x y : Node) → x.variable ≡ y.variable → x.low ≡ y.low → x.high ≡ y.high → x ≡ y
node_path x y p q r = λ i. record { variable = p i; low = q i; high = r i }

module _ (n : ℕ) (xs : List Node) (s : Sound n xs) where
  -- a node is no function whose variables all lie below its own
  apart : (k b : ℕ) → k < length xs → b < length xs + 2 → (node xs k).variable < top n xs b
      → ((c : ℕ) → c < suc (suc k) → Same n (value xs c) (value xs b) → c ≡ b)
      → Same n (value xs (suc (suc k))) (value xs b) → ⊥
  apart k b h l u ih e = f.differ (child_is false ∙ sym (child_is true))
    where
      f : Fit n xs k (node xs k)
      f = s.fit k h

      child_is : (t : Bool) → child (node xs k) t ≡ b
      child_is t = let c = f.earlier t in
          ih (child (node xs k) t) (omega arith)
          (λ w lt. sym (value_child n xs s k w t h) ∙ e _ (fixed_lt n _ t w f.below lt) ∙ value_free n xs s b _ w t l u)

  canon_in : (m a b : ℕ) → a + b < m → a < length xs + 2 → b < length xs + 2 → Same n (value xs a) (value xs b) → a ≡ b
  canon_in zero a b h p q e = absurd (omega arith)
  canon_in (suc m) zero zero h p q e = refl
  canon_in (suc m) (suc zero) (suc zero) h p q e = refl
  canon_in (suc m) zero (suc zero) h p q e = absurd (false≢true (e 0 (pow_pos n)))
  canon_in (suc m) (suc zero) zero h p q e = absurd (true≢false (e 0 (pow_pos n)))
  canon_in (suc m) zero (suc (suc k)) h p q e =
      absurd (apart k 0 (omega arith) p (s.fit k (omega arith)).below (λ c l y. canon_in m c 0 (omega arith) (omega arith) p y) (same_sym n _ _ e))
  canon_in (suc m) (suc zero) (suc (suc k)) h p q e =
      absurd (apart k 1 (omega arith) p (s.fit k (omega arith)).below (λ c l y. canon_in m c 1 (omega arith) (omega arith) p y) (same_sym n _ _ e))
  canon_in (suc m) (suc (suc j)) zero h p q e =
      absurd (apart j 0 (omega arith) q (s.fit j (omega arith)).below (λ c l y. canon_in m c 0 (omega arith) (omega arith) q y) e)
  canon_in (suc m) (suc (suc j)) (suc zero) h p q e =
      absurd (apart j 1 (omega arith) q (s.fit j (omega arith)).below (λ c l y. canon_in m c 1 (omega arith) (omega arith) q y) e)
  canon_in (suc m) (suc (suc j)) (suc (suc k)) h p q e =
      let a = suc (suc j) in
      let b = suc (suc k) in
      let jl : j < length xs = omega arith in
      let kl : k < length xs = omega arith in
      let fj = s.fit j jl in
      let fk = s.fit k kl in
      elim (cases_order (node xs j).variable (node xs k).variable) [
        | inl v ↦
            let children : (t : Bool) → child (node xs j) t ≡ child (node xs k) t = λ t.
            let cj = fj.earlier t in
            let ck = fk.earlier t in
            canon_in m (child (node xs j) t) (child (node xs k) t) (omega arith) (omega arith) (omega arith)
            (λ w l. sym (value_child n xs s j w t jl) ∙ e _ (fixed_lt n _ t w fj.below l) ∙ rw v (value_child n xs s k w t kl)) in
            ap (λ i. suc (suc i)) (s.once j k jl kl (node_path _ _ v (children false) (children true)))
        | inr d ↦ elim d [
          | inl u ↦ absurd (apart j b jl q (omega (arith, u, top_node n xs k kl)) (λ c l y. canon_in m c b (omega arith) (omega arith) q y) e)
          | inr u ↦ absurd (apart k a kl p (omega (arith, u, top_node n xs j jl)) (λ c l y. canon_in m c a (omega arith) (omega arith) p y) (same_sym n _ _ e))
        ]
      ]

  pub canon : (a b : ℕ) → a < length xs + 2 → b < length xs + 2 → Same n (value xs a) (value xs b) → a ≡ b
  canon a b = canon_in (suc (a + b)) a b (omega arith)
