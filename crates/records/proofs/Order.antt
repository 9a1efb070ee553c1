-- How a list stays orderly, and what that tells of a look-up.
use Rattle.std.proofs.Common.{◌≡◌, ℕ, suc, ◌+◌, ◌%◌, ◌<◌, ◌≤◌, min, Bool, true, ◌≢◌, List, [], ◌∷◌, ◌++◌, length, get_or, take, set, Some, None, sym, ap, ◌∙◌, subst, ⊎_elim, arith}
use mathlib.Core.HLevel.{Π_prop, ⊥_prop}
use mathlib.Core.Logic.{∥∥₁_elim}
use Rattle.std.specs.List.{slice_get}
use Rattle.std.specs.Cmp.{IsEquivalence}
use Rattle.std.proofs.lemmas.Nat.{mod_below}
use Rattle.std.proofs.lemmas.List.{length-take, length_push, length-set, get_or-set_same}
use Rattle.std.proofs.lemmas.Bool.{cases_eq, cases_lt}
use Rattle.records.specs.declared.index.Index.{Index}
use Rattle.records.specs.Chains.{buckets, Chained, here, there, Cut, limit, Newest}
use Rattle.records.specs.Orderly.{filed, Orderly}
use Rattle.records.specs.Placing.{Stands, Absent, Among}
use Rattle.records.proofs.Chains.{chained-kept}
use Rattle.records.proofs.Contents.{stands_below, stands_in_front, stands_pushed}

pub absent_prop : {T : Type 0} (eq : T → T → Bool) (xs : List T) (n : ℕ) (x : T) → IsProp (Absent eq xs n x)
absent_prop eq xs n x = Π_prop (λ _. Π_prop (λ _. Π_prop (λ _. ⊥_prop)))

module _ {T : Type 0} (eq : T → T → Bool) (laws : IsEquivalence eq) (hash : T → ℕ) (xs : List T) (i : Index) (f : Orderly eq hash xs i) where
  -- the one place of an equal entry is the lowest
  pub lowest : (n : ℕ) (x : T) → Stands eq xs n x → Absent eq xs n x
  lowest n x (y, p, e) k h (z, q, d) = omega (arith, f.once k n z y q p (laws.congr z x y d ∙ laws.symm x y ∙ e))

  module _ (ys : List T) (j : Index) where
    pub orderly_cut : (kept : ℕ) → ys ≡ take kept xs → Cut i kept j → Orderly eq hash ys j
    orderly_cut kept e c =
        let n : length ys ≡ min kept (length xs) = ap length e ∙ length-take kept xs in
        let s : limit j ≡ limit i = ap (λ (ls : List ℕ). min (length ls) 65535) c.links in
        let back : (k : ℕ) (x : T) → slice_get ys k ≡ Some x → slice_get xs k ≡ Some x = λ k x p. stands_in_front kept xs k x (ap (λ (zs : List T). slice_get zs k) (sym e) ∙ p) in
        record {
          below = λ b h. let u = c.heads b h in let v = f.below b h in omega (arith, u.below, u.lower);
          chained = λ k x h p.
              let b = mod_below (hash x) buckets (omega arith) in
              subst (λ (ls : List ℕ). Chained ls (get_or j.heads (hash x % buckets) 0) k) (sym c.links)
              ((c.heads (hash x % buckets) b).chain k (omega arith) (omega arith) (f.chained k x (omega arith) (back k x p)));
          once = λ k m x y p q e. f.once k m x y (back k x p) (back m y q) e;
        }

    module _ (x : T) (e : ys ≡ xs ++ x ∷ []) (absent : Absent eq xs (length xs) x) where
      -- what stands in the longer list
      stood : (k : ℕ) (y : T) → slice_get ys k ≡ Some y → slice_get (xs ++ x ∷ []) k ≡ Some y
      stood k y p = ap (λ (zs : List T). slice_get zs k) (sym e) ∙ p

      -- an entry that stood equals none that is equal to x
      new_to : (k : ℕ) (y z : T) → slice_get xs k ≡ Some y → x ≡ z → eq y z ≡ true → ⊥
      new_to k y z old new e = absurd (absent k (stands_below xs k y old) (y, old, ap (eq y) new ∙ e))

      twice : (k m : ℕ) (y z : T) → slice_get ys k ≡ Some y → slice_get ys m ≡ Some z → eq y z ≡ true → k ≡ m
      twice k m y z p q e = ⊎_elim
          (λ old. ⊎_elim
          (λ old'. f.once k m y z old old' e)
          (λ new. absurd (new_to k y z old new.1 e))
          (stands_pushed xs x m z (stood m z q)))
          (λ new. ⊎_elim
          (λ old. absurd (new_to m z y old new.1 (laws.symm z y ∙ e)))
          (λ new'. new.0 ∙ sym new'.0)
          (stands_pushed xs x m z (stood m z q)))
          (stands_pushed xs x k y (stood k y p))

      longer : length ys ≡ length xs + 1
      longer = ap length e ∙ length_push xs x

      old_below : (k : ℕ) (y : T) → slice_get xs k ≡ Some y → k < limit i → k < filed xs i
      old_below k y p h = omega (arith, stands_below xs k y p)

      -- the entry is past the end of the links
      pub orderly_past : j ≡ i → limit i ≤ length xs → Orderly eq hash ys j
      orderly_past same past =
          let s : limit j ≡ limit i = ap limit same in
          record {
            below = λ b h. omega (arith, f.below b h, longer, ap (λ (m : Index). get_or m.heads b 0) same);
            chained = λ k y h p. ⊎_elim
                (λ old. subst (λ (m : Index). Chained m.links.now (get_or m.heads (hash y % buckets) 0) k) (sym same) (f.chained k y (old_below k y old (omega arith)) old))
                (λ new. absurd (omega (arith, new.0)))
                (stands_pushed xs x k y (stood k y p));
            once = twice;
          }

      module _ (c : Newest i (length xs) (hash x % buckets) j) (fits : length xs < limit i) where
        -- the head of the entry's bucket before
        head : ℕ
        head = get_or i.heads (hash x % buckets) 0

        -- the chain of the entry's bucket begins with its place and goes on as it was
        longer_chain : (k : ℕ) (y : T) → hash y % buckets ≡ hash x % buckets → slice_get (xs ++ x ∷ []) k ≡ Some y
            → Chained (set i.links.now (length xs) head) (suc (length xs)) k
        unfolding head
        longer_chain k y q p =
            let ls = i.links.now in
            let u = length xs in
            let low = f.below (hash x % buckets) (mod_below (hash x) buckets (omega arith)) in
            let g = get_or-set_same ls u head 0 (omega arith) in
            ⊎_elim
            (λ old. there (omega arith) (subst (λ (n : ℕ). Chained (set ls u head) n k) (sym g)
            (chained-kept ls u head (omega arith) (subst (λ (n : ℕ). Chained ls (get_or i.heads n 0) k) q (f.chained k y (old_below k y old (omega (arith, stands_below xs k y old))) old)))))
            (λ new. subst (λ (n : ℕ). Chained (set ls u head) (suc n) k) new.0 here)
            (stands_pushed xs x k y p)

        -- another chain is as it was
        other_chain : (k : ℕ) (y : T) → hash y % buckets ≢ hash x % buckets → slice_get (xs ++ x ∷ []) k ≡ Some y
            → Chained (set i.links.now (length xs) head) (get_or i.heads (hash y % buckets) 0) k
        other_chain k y q p =
            let low = f.below (hash y % buckets) (mod_below (hash y) buckets (omega arith)) in
            ⊎_elim
            (λ old. chained-kept i.links.now (length xs) head (omega arith)
            (f.chained k y (old_below k y old (omega (arith, stands_below xs k y old))) old))
            (λ new. absurd (q (ap (λ z. hash z % buckets) (sym new.1))))
            (stands_pushed xs x k y p)

        -- the entry has a link
        pub orderly_more : Orderly eq hash ys j
        unfolding head
        orderly_more =
            let s : limit j ≡ limit i = ap (λ (ls : List ℕ). min (length ls) 65535) c.links ∙ ap (λ n. min n 65535) (length-set _ _ _) in
            record {
              below = λ b h. ⊎_elim
                  (λ q. omega (arith, longer, ap (λ n. get_or j.heads n 0) q, c.head))
                  (λ q. omega (arith, longer, f.below b h, c.others b q))
                  (cases_eq b (hash x % buckets));
              chained = λ k y h p. subst (λ (ls : List ℕ). Chained ls (get_or j.heads (hash y % buckets) 0) k) (sym c.links) (⊎_elim
                  (λ q. subst (λ (n : ℕ). Chained (set i.links.now (length xs) head) n k) (sym (ap (λ n. get_or j.heads n 0) q ∙ c.head)) (longer_chain k y q (stood k y p)))
                  (λ q. subst (λ (n : ℕ). Chained (set i.links.now (length xs) head) n k) (sym (c.others (hash y % buckets) q)) (other_chain k y q (stood k y p)))
                  (cases_eq (hash y % buckets) (hash x % buckets)));
              once = twice;
            }

-- the one place that was found
pub is_lowest : {T : Type 0} (eq : T → T → Bool) → IsEquivalence eq → (hash : T → ℕ) (xs : List T) (i : Index) (x : T) → ∥ Orderly eq hash xs i ∥₁ → (k : ℕ)
    → Stands eq xs k x → Absent eq xs k x
is_lowest eq laws hash xs i x o k e = ∥∥₁_elim o (absent_prop eq xs k x) (λ f. lowest eq laws hash xs i f k x e)

-- an equal entry stands among the first places, or among the others
pub stands_nowhere : {T : Type 0} (eq : T → T → Bool) (xs : List T) (x : T) (n : ℕ) → Among eq xs x 0 n None → Among eq xs x n (length xs) None → Absent eq xs (length xs) x
stands_nowhere eq xs x n below past k l = ⊎_elim (λ h. below k (omega arith) h) (λ h. past k h l) (cases_lt k n)
