-- What is known of prices.
use Rattle.std.proofs.Common.{◌≡◌, ℕ, zero, suc, Bool, true, false, ◌⊎◌, [], refl, ap, ◌∙◌, inl, inr, arith}
use Rattle.std.proofs.lemmas.Bool.Decides.{Decides-like, Decides-or, same_from_decides}
use Rattle.store.specs.Fun.{Fn, Same, same}
use Rattle.store.specs.Meaning.{holds, price}
use Rattle.store.proofs.Same.{same_sym, decides_same}
use Rattle.nodes.specs.Price.{constant, cost}
use Rattle.nodes.specs.Shows.{shown}
use Rattle.nodes.specs.Facts.{pairs, pairs_price, FairPrices}
use Rattle.nodes.proofs.Laws.{tells, cost_le}
use Rattle.nodes.proofs.Paid.{Held, held_free, free_held}

-- with no nodes just the constants are held
empty_holds : (n c : ℕ) (g : Fn) → holds (shown n [] c) g ≡ constant n g
empty_holds n c g = same_from_decides (holds (shown n [] c) g) (constant n g) (tells n [] c (omega arith) g)
    (Decides-like (constant n g) there back (Decides-or (same n g (λ _. false)) (same n g (λ _. true)) (decides_same n g (λ _. false)) (decides_same n g (λ _. true))))
  where
    there : Same n g (λ _. false) ⊎ Same n g (λ _. true) → Held n [] g
    there (inl e) = (0, omega arith, same_sym n _ _ e)
    there (inr e) = (1, omega arith, same_sym n _ _ e)

    back : Held n [] g → Same n g (λ _. false) ⊎ Same n g (λ _. true)
    back (zero, h, e) = inl (same_sym n _ _ e)
    back (suc zero, h, e) = inr (same_sym n _ _ e)
    back (suc (suc k), h, e) = absurd (omega arith)

pub empty_price : (n c : ℕ) (f : Fn) → price (shown n [] c) f ≡ cost n (constant n) f
empty_price n c f = ap (λ (held : Fn → Bool). cost n held f) (λ i g. empty_holds n c g i)

counted : cost 4 (constant 4) (pairs 0 1 2 3) ≡ 6
unfolding cost
counted = refl

pub pairs_cost_six : (c : ℕ) → pairs_price c ≡ 6
pairs_cost_six c = empty_price 4 c (pairs 0 1 2 3) ∙ counted

pub fair_prices : FairPrices
fair_prices n xs c some few s f =
    let t = tells n xs c few in
    (cost_le n (holds (shown n xs c)) f, free_held n xs s some (holds (shown n xs c)) t f, held_free n xs s some (holds (shown n xs c)) t f)
