-- Lists that are made in a loop.
use Rattle.std.proofs.Common.{◌≡◌, ℕ, zero, suc, ◌<◌, ◌≤◌, List, [], ◌∷◌, ◌++◌, length, get_or, Err, sym, ap, ◌∙◌, subst, ⊎_elim, eq-or-lt_of_le, arith}
use Rattle.std.proofs.Math.Seq.{get_or-append_seam}
use Rattle.std.proofs.lemmas.List.{get_or_append_left}
use Rattle.store.specs.Fun.{Fn}
use Rattle.store.specs.Meaning.{Shown, Grown}
use Rattle.making.specs.declared.parts.Polarities.{Polarities}
use Rattle.making.specs.Making.{Item, upto, Stops, Means, Numbered, Polar, unpaired, Paired}
use Rattle.making.specs.Ends.{Ends, stuck}
use Rattle.making.proofs.Steps.{stops_before, kept}

stops_upto : {s t : Shown} {x : Item} (F : ℕ → List Item) (k n : ℕ) → k ≤ n → Stops s (upto k F) x t → Stops s (upto n F) x t
stops_upto {s = s} {t = t} {x = x} F k zero h q = subst (λ i. Stops s (upto i F) x t) e q
  where
    e : k ≡ 0
    e = omega arith
stops_upto {s = s} {t = t} {x = x} F k (suc n) h q =
    ⊎_elim (λ e. subst (λ i. Stops s (upto i F) x t) e q) (λ l. stops_before (F n) (stops_upto F k n (down l) q)) (eq-or-lt_of_le h)
  where
    down : k < suc n → k ≤ n
    down l = omega arith

-- a refusal in turn k - 1 of n
pub ends_upto : {X Y E : Type 0} {room : Item → ℕ → E} {P : X → Type 0} {Q : Y → Type 0} {s t : Shown} (F : ℕ → List Item) (k n : ℕ) {e : E} → k ≤ n
    → Ends room s t (upto k F) P (Err e) → Ends room s t (upto n F) Q (Err e)
ends_upto F k n h (stuck y q w) = stuck y (stops_upto F k n h q) w

pub numbered_kept : {s t : Shown} (ns : List ℕ) (f : ℕ → Fn) (n : ℕ) → Grown s t → Numbered s ns f n → Numbered t ns f n
numbered_kept ns f n g h i l = kept g (h i l)

pub paired_kept : {s t : Shown} (ps : List Polarities) (f : ℕ → Fn) (n : ℕ) → Grown s t → Paired s ps f n → Paired t ps f n
paired_kept ps f n g h i l = let p = h i l in record { function = kept g p.function; negation = kept g p.negation }

-- one thing more
one_more : {X : Type 0} (P : X → Fn → Type 0) (xs : List X) (d : X) (f : ℕ → Fn) (n : ℕ) (c : X) → length xs ≡ n → ((i : ℕ) → i < n → P (get_or xs i d) (f i))
    → P c (f n) → (i : ℕ) → i < suc n → P (get_or (xs ++ c ∷ []) i d) (f i)
one_more P xs d f n c e h m i l =
    ⊎_elim
    (λ k. subst (λ j. P (get_or (xs ++ c ∷ []) j d) (f j)) (sym k)
    (subst (λ a. P a (f n)) (sym (ap (λ j. get_or (xs ++ c ∷ []) j d) (sym e) ∙ get_or-append_seam xs c [] d)) m))
    (λ k. subst (λ a. P a (f i)) (sym (get_or_append_left xs (c ∷ []) d i (subst (λ j. i < j) (sym e) k))) (h i k))
    (eq-or-lt_of_le (down l))
  where
    down : i < suc n → i ≤ n
    down k = omega arith

pub numbered_more : {t u : Shown} (ns : List ℕ) (f : ℕ → Fn) (n c : ℕ) → Numbered t ns f n → Grown t u → Means u c (f n) → length ns ≡ n
    → Numbered u (ns ++ c ∷ []) f (suc n)
numbered_more {u = u} ns f n c h g m e = one_more (Means u) ns 0 f n c e (numbered_kept ns f n g h) m

pub paired_more : {t u : Shown} (ps : List Polarities) (f : ℕ → Fn) (n : ℕ) (c : Polarities) → Paired t ps f n → Grown t u → Polar u c (f n) → length ps ≡ n
    → Paired u (ps ++ c ∷ []) f (suc n)
paired_more {u = u} ps f n c h g m e = one_more (Polar u) ps unpaired f n c e (paired_kept ps f n g h) m
