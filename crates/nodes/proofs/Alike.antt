-- Equal functions have equal prices.
use Rattle.std.proofs.Common.{◌≡◌, ℕ, ◌≤◌, Bool, true, false, not, ◌&&◌, ◌||◌, filter, sym, refl, ◌∙◌, ap₂, arith}
use Rattle.std.proofs.lemmas.Bool.Decides.{same_from_decides, Decides-like}
use Rattle.store.specs.Fun.{Fn, Same, same}
use Rattle.store.proofs.Same.{same_sym, same_trans, decides_same}
use Rattle.nodes.specs.Price.{fixings, distinct, wanted, cost}
use Rattle.nodes.specs.Growth.{In}
use Rattle.nodes.proofs.Fixings.{fixings_like}
use Rattle.nodes.proofs.Pigeon.{pigeon, in_kept, all_kept, all_map, all_in, all_distinct, in_distinct, distinct_apart}

module _ (n : ℕ) (held : Fn → Bool) (held_like : (f g : Fn) → Same n f g → held f ≡ held g) where
  same_like : (f g k : Fn) → Same n f g → same n f k ≡ same n g k
  same_like f g k e = same_from_decides (same n f k) (same n g k)
      (Decides-like (same n f k) (same_trans n _ _ _ (same_sym n _ _ e)) (same_trans n _ _ _ e) (decides_same n f k)) (decides_same n g k)

  wanted_like : (f g : Fn) → Same n f g → wanted n held f ≡ wanted n held g
  wanted_like f g e = ap₂ (λ a b. not a && not b) (ap₂ ◌||◌ (same_like f g (λ _. false) e) (same_like f g (λ _. true) e)) (held_like f g e)

  cost_le_like : (f g : Fn) → Same n f g → cost n held f ≤ cost n held g
  unfolding cost
  cost_le_like f g e =
      pigeon (Same n) (same_sym n) (same_trans n) _ _
      (distinct_apart (Same n) (same_sym n) (same_trans n) (same n) (decides_same n) (filter (wanted n held) (fixings n 0 f)))
      (all_distinct (same n) _ (filter (wanted n held) (fixings n 0 f))
      (all_map (λ x. In (Same n) x (fixings n 0 f) × (wanted n held x ≡ true)) (λ x. In (Same n) x (distinct (same n) (filter (wanted n held) (fixings n 0 g))))
      (λ x h. in_distinct (Same n) (same_sym n) (same_trans n) (same n) (decides_same n) x (filter (wanted n held) (fixings n 0 g))
      (in_kept (Same n) (wanted n held) x (fixings n 0 g) (λ y q. sym (wanted_like x y q) ∙ h.1) (fixings_like n n 0 f g x (omega arith) e h.0)))
      (filter (wanted n held) (fixings n 0 f))
      (all_kept (wanted n held) (λ x. In (Same n) x (fixings n 0 f)) (fixings n 0 f) (all_in (Same n) (λ x w _. refl) (fixings n 0 f)))))

  pub cost_like : (f g : Fn) → Same n f g → cost n held f ≡ cost n held g
  cost_like f g e = omega (arith, cost_le_like f g e, cost_le_like g f (same_sym n f g e))
