-- What the entries in use are, in the records, and where an entry stands.
use Rattle.std.proofs.Common.{◌≡◌, ℕ, zero, suc, ◌+◌, ◌-◌, ◌<◌, ◌≤◌, Bool, false, min, ◌⊎◌, List, [], ◌∷◌, ◌++◌, length, get_or, take, drop, set, Some, None, Option, position, sym, refl, ap, ◌∙◌, inl, inr, ⊎_elim, arith}
use Rattle.std.specs.List.{slice_get, position_or_len}
use Rattle.std.proofs.lemmas.List.{length-take, length-drop, get_or-drop, take-take, take_all, take_more_set}
use Rattle.std.proofs.lemmas.Option.{slice_get_past, slice_get-get_or, get_or_from_slice_get}
use Rattle.std.proofs.lemmas.List.Quantifiers.{position-Some}
use Rattle.std.proofs.lemmas.List.Sums.{fails_before_first}
use Rattle.std.proofs.lemmas.Bool.{cases_lt, lt-ltb, both_ways}
use Rattle.std.specs.declared.cmp.PartialEq as eq
use Rattle.records.specs.declared.entry.Entry as entry
use Rattle.records.specs.declared.list.List.{List as Records}
use Rattle.records.specs.Contents.{entries, room}
use Rattle.records.specs.Placing.{Stands}

module _ {T : Type 0} (records : List T) (used : ℕ) where
  pub shortened : (kept : ℕ) → take (min used kept) records ≡ take kept (take used records)
  shortened kept = ⊎_elim
      (λ less. let e : min used kept ≡ used = omega arith in
      let l = length-take used records in
      rw e (sym (take_all kept (take used records) (omega arith))))
      (λ more. let e : min used kept ≡ kept = omega arith in rw e (sym (take-take kept used records more)))
      (cases_lt used kept)

  pub pushed : (x : T) → length (take used records) < length records
      → take (length (take used records) + 1) (set records (length (take used records)) x) ≡ take used records ++ x ∷ []
  pushed x h =
      let l = length-take used records in
      let e : length (take used records) ≡ used = omega arith in
      rw e (take_more_set records used x (omega arith))

pub entries_fit : {T : Type 0} {e : entry.Ghosts T} {p : eq.Ghosts T} (l : Records T e p) → length (entries l) ≤ room l
unfolding entries room
entries_fit l = let n = length-take l.used l.records.now in omega arith

-- where an entry stands
module _ {T : Type 0} where
  pub stands_below : (xs : List T) (k : ℕ) (x : T) → slice_get xs k ≡ Some x → k < length xs
  stands_below xs k x e = ⊎_elim (λ h. h) (λ h. let p = slice_get_past xs k h in let z : ◌≡◌ {A = ℕ} 0 1 = cc in absurd (omega arith)) (cases_lt k (length xs))

  pub stands_in_front : (n : ℕ) (xs : List T) (k : ℕ) (x : T) → slice_get (take n xs) k ≡ Some x → slice_get xs k ≡ Some x
  stands_in_front zero xs k x e = let z : ◌≡◌ {A = ℕ} 0 1 = cc in absurd (omega arith)
  stands_in_front (suc n) [] k x e = e
  stands_in_front (suc n) (y ∷ ys) zero x e = e
  stands_in_front (suc n) (y ∷ ys) (suc k) x e = stands_in_front n ys k x e

  pub stands_pushed : (xs : List T) (y : T) (k : ℕ) (x : T) → slice_get (xs ++ y ∷ []) k ≡ Some x → (slice_get xs k ≡ Some x) ⊎ ((k ≡ length xs) × (y ≡ x))
  stands_pushed [] y zero x e = inr (refl, cc)
  stands_pushed [] y (suc k) x e = inl e
  stands_pushed (z ∷ zs) y zero x e = inl e
  stands_pushed (z ∷ zs) y (suc k) x e = ⊎_elim inl (λ p. inr (ap suc p.0, p.1)) (stands_pushed zs y k x e)

-- a test that no entry passes
passes_none : {T : Type 0} (p : T → Bool) (xs : List T) (k : ℕ) (d : T) → position p xs ≡ None → k < length xs → p (get_or xs k d) ≡ false
passes_none p xs k d e h = fails_before_first p xs k d (⊎_elim
    (λ low. let t = lt-ltb _ _ low in absurd (cc))
    (λ past. omega arith)
    (cases_lt (position_or_len p xs) (length xs)))

-- an entry that equals x, among those from place n on
module _ {T : Type 0} (eq : T → T → Bool) (zs xs : List T) (is : zs ≡ xs) (n : ℕ) (low : n ≤ length xs) (x : T) where
  abbrev later : List T
  later = take (length zs - n) (drop n zs)

  later_is : later ≡ drop n xs
  later_is = take_all (length zs - n) (drop n zs) (omega (arith, length-drop n zs)) ∙ ap (drop n) is

  module _ (r : Option ℕ) (e : r ≡ position (λ y. eq y x) later) where
    placed : r ≡ position (λ y. eq y x) (drop n xs)
    placed = e ∙ ap (position (λ y. eq y x)) later_is

    pub found_later : (i : ℕ) → r ≡ Some i → Stands eq xs (n + i) x
    found_later i s =
        let p = position-Some (λ y. eq y x) (drop n xs) i x (sym placed ∙ s) in (
          get_or xs (n + i) x,
          slice_get-get_or xs (n + i) x (omega (arith, p.0, length-drop n xs)),
          sym (ap (λ y. eq y x) (get_or-drop n xs i x)) ∙ p.1,
        )

    pub absent_later : r ≡ None → (k : ℕ) → n ≤ k → k < length xs → Stands eq xs k x → ⊥
    absent_later s k h l (y, p, t) =
        let q : n + (k - n) ≡ k = omega arith in
        let m = passes_none (λ y. eq y x) (drop n xs) (k - n) x (sym placed ∙ s) (omega (arith, length-drop n xs)) in
        both_ways _ m (ap (λ y. eq y x) (get_or-drop n xs (k - n) x ∙ ap (λ j. get_or xs j x) q ∙ get_or_from_slice_get xs k y x p) ∙ t)
