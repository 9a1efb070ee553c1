-- What is known of prices.
use Rattle.std.specs.Prelude.{◌≡◌, ℕ, ◌-◌, ◌^◌, ◌≤◌, true, ◌&&◌, List, [], length}
use Rattle.store.specs.Fun.{Fn, bit, eqv}
use Rattle.store.specs.Meaning.{holds, price}
use Rattle.nodes.specs.declared.Node.{Node}
use Rattle.nodes.specs.Graph.{Sound}
use Rattle.nodes.specs.Shows.{shown}

-- (a = b) and (c = d)
abbrev pub pairs : ℕ → ℕ → ℕ → ℕ → Fn
pairs a b c d w = eqv (bit a w) (bit b w) && eqv (bit c w) (bit d w)

-- in an empty store, with the variables in the order a, b, c, d
abbrev pub pairs_price : ℕ → ℕ
pairs_price capacity = price (shown 4 [] capacity) (pairs 0 1 2 3)

-- no price exceeds the top price, and a price is 0 exactly if the function is held
abbrev pub FairPrices : Type 0
FairPrices = (n : ℕ) (xs : List Node) (capacity : ℕ) → 1 ≤ n → length xs ≤ 65534 → Sound n xs → (f : Fn)
    → (price (shown n xs capacity) f ≤ 2 ^ n - 1)
    × (price (shown n xs capacity) f ≡ 0 → holds (shown n xs capacity) f ≡ true)
    × (holds (shown n xs capacity) f ≡ true → price (shown n xs capacity) f ≡ 0)
