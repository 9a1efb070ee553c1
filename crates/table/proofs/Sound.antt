-- Lists of tables of which no two numbers have the same function.
use Rattle.std.proofs.Common.{◌≡◌, ℕ, zero, suc, ◌+◌, ◌<◌, ◌≤◌, true, not, List, [], ◌∷◌, ◌++◌, length, Some, Decides, sym, refl, ap, ◌∙◌, ⊎_elim, arith}
use Rattle.std.specs.List.{AllByRecursion as All, slice_get}
use Rattle.std.specs.Str.{bytes_eq}
use Rattle.std.proofs.lemmas.Nat.{pow_pos}
use Rattle.std.proofs.ByRecursion.{All-push, Decides-by_and}
use Rattle.std.proofs.lemmas.List.{length_push}
use Rattle.std.proofs.lemmas.Bool.{cases_lt, false≢true}
use Rattle.std.proofs.lemmas.Bool.Decides.{Decides-and, Decides-not, Decides-below_and}
use Rattle.store.specs.Fun.{Fn, Same, same, each}
use Rattle.store.proofs.Same.{decides_same, same_sym}
use Rattle.table.specs.declared.truths.Truths.{Truths}
use Rattle.table.specs.Identity.{truths_exact}
use Rattle.table.specs.Tables.{truth, table}
use Rattle.table.specs.Shows.{kept, value, exact, distinct, sound}
use Rattle.table.proofs.Tables.{truth_table, table_same}

-- each table is that of its function
abbrev pub Exact : ℕ → List Truths → Type 0
Exact n xs = All (λ t. t ≡ table n (truth t)) xs

-- no two numbers have the same function
abbrev pub Distinct : ℕ → List Truths → Type 0
Distinct n xs = (b : ℕ) → b < length xs + 2 → (a : ℕ) → a < b → Same n (value xs a) (value xs b) → ⊥

decides_exact : (n : ℕ) (xs : List Truths) → Decides (exact n xs) (Exact n xs)
decides_exact n xs = Decides-by_and (λ t. bytes_eq t.bytes (table n (truth t)).bytes) (λ t. t ≡ table n (truth t)) (exact n)
    (λ t. truths_exact t (table n (truth t)))
    refl (λ _ _. refl) xs

decides_distinct : (n : ℕ) (xs : List Truths) → Decides (distinct n xs) (Distinct n xs)
decides_distinct n xs =
    Decides-below_and _ (λ b. (a : ℕ) → a < b → Same n (value xs a) (value xs b) → ⊥) (each (λ b. each (λ a. not (same n (value xs a) (value xs b))) b))
    (λ b. Decides-below_and _ (λ a. Same n (value xs a) (value xs b) → ⊥) (each (λ a. not (same n (value xs a) (value xs b))))
    (λ a. Decides-not _ (decides_same n (value xs a) (value xs b))) refl (λ _. refl) b)
    refl (λ _. refl) (length xs + 2)

pub sound_tells : (n : ℕ) (xs : List Truths) → Decides (sound n xs) (Exact n xs × Distinct n xs)
unfolding sound
sound_tells n xs = Decides-and _ _ (decides_exact n xs) (decides_distinct n xs)

-- false is not true
pub sound_empty : (n : ℕ) → sound n [] ≡ true
sound_empty n = (sound_tells n []).1 (tt, apart)
  where
    apart : Distinct n []
    apart zero h a l e = absurd (omega arith)
    apart (suc zero) h zero l e = false≢true (e 0 (pow_pos n))
    apart (suc zero) h (suc a) l e = absurd (omega arith)
    apart (suc (suc b)) h a l e = absurd (omega arith)

nth_left : (xs ys : List Truths) (k : ℕ) → k < length xs → slice_get (xs ++ ys) k ≡ slice_get xs k
nth_left [] ys k h = absurd (omega arith)
nth_left (x ∷ xs) ys zero h = refl
nth_left (x ∷ xs) ys (suc k) h = nth_left xs ys k (omega arith)

nth_seam : (xs : List Truths) (x : Truths) → slice_get (xs ++ x ∷ []) (length xs) ≡ Some x
nth_seam [] x = refl
nth_seam (y ∷ xs) x = nth_seam xs x

-- earlier numbers keep their functions, and the new one has the new
pub value_left : (xs ys : List Truths) (a : ℕ) → a < length xs + 2 → value (xs ++ ys) a ≡ value xs a
value_left xs ys zero h = refl
value_left xs ys (suc zero) h = refl
value_left xs ys (suc (suc k)) h = ap kept (nth_left xs ys k (omega arith))

pub value_seam : (xs : List Truths) (x : Truths) → value (xs ++ x ∷ []) (length xs + 2) ≡ truth x
value_seam xs x =
    let e : length xs + 2 ≡ suc (suc (length xs)) = omega arith in
    ap (value (xs ++ x ∷ [])) e ∙ ap kept (nth_seam xs x)

-- a table of a function that is under no number can be added
pub sound_push : (n : ℕ) (xs : List Truths) (f : Fn) → n ≤ 10 → sound n xs ≡ true → ((a : ℕ) → a < length xs + 2 → Same n (value xs a) f → ⊥)
    → sound n (xs ++ table n f ∷ []) ≡ true
sound_push n xs f few s new =
    let t = (sound_tells n xs).0 s in
    let x = table n f in
    let ys = xs ++ x ∷ [] in
    let l = length_push xs x in
    let m = truth_table n f few in
    (sound_tells n ys).1 (
      All-push _ xs x t.0 (table_same n f (truth x) (same_sym n _ _ m)),
      λ b h a less e. ⊎_elim
          (λ old. t.1 b old a less
          (λ w q. ap (λ (g : Fn). g w) (sym (value_left xs (x ∷ []) a (omega arith))) ∙ e w q ∙ ap (λ (g : Fn). g w) (value_left xs (x ∷ []) b old)))
          (λ here. let is : b ≡ length xs + 2 = omega arith in
          new a (omega arith)
          (λ w q. ap (λ (g : Fn). g w) (sym (value_left xs (x ∷ []) a (omega arith))) ∙ e w q ∙ ap (λ (k : ℕ). value ys k w) is
          ∙ ap (λ (g : Fn). g w) (value_seam xs x) ∙ m w q))
          (cases_lt b (length xs + 2)),
    )
