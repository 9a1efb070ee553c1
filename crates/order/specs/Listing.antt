-- Lists that hold each variable once.
use Rattle.std.specs.Prelude.{◌≡◌, ℕ, ◌<◌, Bool, cond, ◌&&◌, List, length, Ok, Err, count_by, Result, ◌==◌, nat_eq, nat_lt, slice_index, slice_index_or}
use Rattle.store.specs.declared.refusal.Unfit.{Unfit}
use Rattle.store.specs.declared.refusal.Unfit.TheVariants.{Order}
use Rattle.store.specs.Fun.{each}

-- how often j stands in the list
abbrev pub times : ℕ → List ℕ → ℕ
times j xs = count_by (λ x. nat_eq x j) xs

-- whether the list holds each number below n once, and no other
unfoldable pub is_order : ℕ → List ℕ → Bool
is_order n xs = length xs == n && each (λ j. nat_eq (times j xs) 1) n

-- the order of n variables that the list gives, and 0 to n - 1 if it gives none
abbrev pub order_of : ℕ → List ℕ → ℕ → ℕ
order_of n xs i = cond (is_order n xs && nat_lt i n) (slice_index xs i) i

-- what stands at place i of the list, and i itself past its end
abbrev pub place : List ℕ → ℕ → ℕ
place xs i = slice_index_or xs i i

-- the list has n entries, or none
abbrev pub Fits : ℕ → List ℕ → Type 0
Fits n xs = 0 < length xs → length xs ≡ n

abbrev pub verdict : Bool → Result (Unit {0}) Unfit
verdict b = cond b (Ok tt) (Err Order)
