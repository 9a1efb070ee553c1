-- A function that is made over the tables xs, by what its look-up answers.
use Rattle.std.proofs.Common.{◌≡◌, ℕ, zero, suc, ◌+◌, ◌<◌, ◌≤◌, Bool, true, false, List, [], ◌∷◌, ◌++◌, length, get_or, Some, None, Ok, Err, Result, MatchResult, IsErrAnd, sym, refl, ap, ◌∙◌, subst, ⊎_elim, arith}
use mir.Val.{bool_byte}
use Rattle.std.specs.List.{slice_get}
use Rattle.std.proofs.ByRecursion.{All-get_or}
use Rattle.std.proofs.lemmas.List.{length_push}
use Rattle.std.proofs.lemmas.Result.{err_from_is_err_and}
use Rattle.std.proofs.lemmas.Option.{slice_get-get_or, slice_get_within}
use Rattle.std.proofs.lemmas.Bool.{lt-ltb, ltb-true, not-true, both_ways}
use Rattle.std.proofs.lemmas.Bool.Decides.{Decides-not}
use Rattle.records.specs.declared.Full.{Full}
use Rattle.records.specs.declared.list.List.{List as Records}
use Rattle.records.specs.Contents.{entries, room}
use Rattle.records.specs.Placing.{Stands, Absent, Places, Answers as LookedUp}
use Rattle.records.proofs.Contents.{entries_fit}
use Rattle.store.specs.declared.refusal.Refusal.{Refusal}
use Rattle.store.specs.declared.refusal.Refusal.TheVariants.{Room}
use Rattle.store.specs.Fun.{Fn, Same}
use Rattle.store.specs.Meaning.{Made, holds}
use Rattle.store.specs.Calls.{Answers}
use Rattle.store.proofs.Same.{holds_tells, same_refl, same_sym}
use Rattle.store.proofs.Making.{made_of}
use Rattle.table.specs.declared.Table.{Table}
use Rattle.table.specs.declared.truths.Truths.{Truths}
use Rattle.table.specs.Identity.{alike, truths_exact}
use Rattle.table.specs.Tables.{truth, table, Constant}
use Rattle.table.specs.Store.{shows}
use Rattle.table.specs.Shows.{kept, value, shown, sound}
use Rattle.table.proofs.Tables.{truth_table, table_same}
use Rattle.table.proofs.Sound.{sound_tells, sound_push, value_left, value_seam}
use Rattle.table.proofs.Lawful.{free_of, price_one, lawful_shown}

-- the answer to a making call, by where its table is placed
abbrev pub reply : Result ℕ Full → Result ℕ Refusal
reply (Ok k) = Ok (k + 2)
reply (Err _) = Err (Room 0)

abbrev pub Narrow : Result ℕ Refusal → Type 0
Narrow (Ok a) = a < 65536
Narrow (Err _) = Unit {0}

-- the reply by what a `map_err` of the look-up answers
abbrev pub numbered : Result ℕ Refusal → Result ℕ Refusal
numbered (Ok k) = Ok (k + 2)
numbered (Err e) = Err e

pub replied : {P : Full → Refusal → Type 0} → (p : Result ℕ Full) (q : Result ℕ Refusal) → MatchResult p (λ k. q ≡ Ok k) (λ s. IsErrAnd q (P s))
    → ((s : Full) (e : Refusal) → P s e → e ≡ Room 0) → reply p ≡ numbered q
replied (Ok k) q h is = ap numbered (sym h)
replied (Err s) q h is = let e = err_from_is_err_and q h in ap Err (sym (is s e.0 e.2)) ∙ ap numbered (sym e.1)

-- an entry that equals t is t itself
stands : (xs : List Truths) (k : ℕ) (t : Truths) → Stands alike xs k t → slice_get xs k ≡ Some t
stands xs k t (y, p, e) = p ∙ ap Some ((truths_exact y t).0 e)

absent : (xs : List Truths) (n : ℕ) (t : Truths) → Absent alike xs n t → (k : ℕ) → k < n → slice_get xs k ≡ Some t → ⊥
absent xs n t a k h p = a k h (t, p, (truths_exact t t).1 refl)

module _ (n : ℕ) (xs : List Truths) (capacity : ℕ) (few : n ≤ 10) (fits : length xs ≤ capacity) (small : capacity ≤ 65534) (s : sound n xs ≡ true) (f : Fn) where
  -- f is held under the number a
  made_held : (a : ℕ) → a < length xs + 2 → Same n (value xs a) f → Made (shown n xs capacity) (shown n xs capacity) f a
  made_held a h e =
      let l = lawful_shown n xs capacity few fits small s in
      let held = lt-ltb a (length xs + 2) h in
      let free = free_of n xs capacity f ((holds_tells (shown n xs capacity) f).1 (a, omega arith, (held, e))) in
      made_of _ _ f a l l
      (record { vars = refl; capacity = refl; top = refl; tariff = refl; kept = λ b q. (q, same_refl n _) })
      held e (omega (arith, free)) (λ _. refl)

  -- a constant is under its own number
  pub made_constant : (b : Bool) → Same n f (λ _. b) → Made (shown n xs capacity) (shown n xs capacity) f (bool_byte b)
  made_constant true e = made_held 1 (omega arith) (same_sym n _ _ e)
  made_constant false e = made_held 0 (omega arith) (same_sym n _ _ e)

  module _ (mixed : (b : Bool) → Same n f (λ _. b) → ⊥) where
    -- f is under no number, if its table stands at no place
    under_none : ((k : ℕ) → k < length xs → slice_get xs k ≡ Some (table n f) → ⊥) → (a : ℕ) → a < length xs + 2 → Same n (value xs a) f → ⊥
    under_none absent zero h e = mixed false (same_sym n _ _ e)
    under_none absent (suc zero) h e = mixed true (same_sym n _ _ e)
    under_none absent (suc (suc k)) h e =
        let x = table n f in
        let low : k < length xs = omega arith in
        let at = slice_get-get_or xs k x low in
        let y = get_or xs k x in
        let own = All-get_or (λ t. t ≡ table n (truth t)) xs k x low ((sound_tells n xs).0 s).0 in
        let means : Same n (truth y) f = λ w q. sym (ap (λ o. kept o w) at) ∙ e w q in
        absent k low (at ∙ ap Some (own ∙ table_same n (truth y) f means))

    not_held : ((k : ℕ) → k < length xs → slice_get xs k ≡ Some (table n f) → ⊥) → holds (shown n xs capacity) f ≡ false
    not_held absent = not-true _ ((Decides-not _ (holds_tells (shown n xs capacity) f)).1
        (λ t. under_none absent t.0 (ltb-true t.0 (length xs + 2) t.2.0) t.2.1))

    sound_placed : (p : Result ℕ Full) (ys : List Truths) → LookedUp alike xs capacity (table n f) p ys → sound n ys ≡ true
    sound_placed (Ok k) ys h = ⊎_elim
        (λ found. subst (λ (zs : List Truths). sound n zs ≡ true) (sym found.1) s)
        (λ added. subst (λ (zs : List Truths). sound n zs ≡ true) (sym added.2)
        (sound_push n xs f few s (under_none (λ j low. absent xs k (table n f) h.0 j (omega (arith, added.0))))))
        h.1
    sound_placed (Err _) ys h = subst (λ (zs : List Truths). sound n zs ≡ true) (sym h.2) s

    narrow_placed : (p : Result ℕ Full) (ys : List Truths) → LookedUp alike xs capacity (table n f) p ys → Narrow (reply p)
    narrow_placed (Ok k) ys h = ⊎_elim (λ found. omega (arith, slice_get_within xs k _ (stands xs k (table n f) found.0))) (λ added. omega (arith, added.0, added.1)) h.1
    narrow_placed (Err _) ys h = tt

    made_found : (k : ℕ) → slice_get xs k ≡ Some (table n f) → Made (shown n xs capacity) (shown n xs capacity) f (k + 2)
    made_found k e =
        let i : k + 2 ≡ suc (suc k) = omega arith in
        made_held (k + 2) (omega (arith, slice_get_within xs k _ e))
        (λ w q. ap (λ (a : ℕ). value xs a w) i ∙ ap (λ o. kept o w) e ∙ truth_table n f few w q)

    made_added : length xs < capacity → ((k : ℕ) → k < length xs → slice_get xs k ≡ Some (table n f) → ⊥)
        → Made (shown n xs capacity) (shown n (xs ++ table n f ∷ []) capacity) f (length xs + 2)
    made_added room absent =
        let x = table n f in
        let l = length_push xs x in
        let none = not_held absent in
        made_of _ _ f (length xs + 2) (lawful_shown n xs capacity few fits small s)
        (lawful_shown n (xs ++ x ∷ []) capacity few (omega arith) small (sound_push n xs f few s (under_none absent)))
        (record {
          vars = refl;
          capacity = refl;
          top = refl;
          tariff = refl;
          kept = λ b q. let low = ltb-true b (length xs + 2) q in (lt-ltb b _ (omega arith), λ w _. ap (λ (g : Fn). g w) (value_left xs (x ∷ []) b low));
        })
        (lt-ltb _ _ (omega arith))
        (λ w q. ap (λ (g : Fn). g w) (value_seam xs x) ∙ truth_table n f few w q)
        (omega (arith, price_one n xs capacity f none))
        (λ y. absurd (both_ways _ none y))

    placed_answers : (p : Result ℕ Full) (ys : List Truths) → LookedUp alike xs capacity (table n f) p ys → Answers (shown n xs capacity) (shown n ys capacity) f (reply p)
    placed_answers (Ok k) ys h = ⊎_elim
        (λ found. subst (λ (zs : List Truths). Made (shown n xs capacity) (shown n zs capacity) f (k + 2)) (sym found.1) (made_found k (stands xs k (table n f) found.0)))
        (λ added. subst (λ (zs : List Truths). Made (shown n xs capacity) (shown n zs capacity) f (k + 2)) (sym added.2)
        (subst (λ (a : ℕ). Made (shown n xs capacity) (shown n (xs ++ table n f ∷ []) capacity) f (a + 2)) (sym added.0)
        (made_added added.1 (λ j low. absent xs k (table n f) h.0 j (omega (arith, added.0))))))
        h.1
    placed_answers (Err _) ys h =
        (ap (λ zs. shown n zs capacity) h.2, omega (arith, price_one n xs capacity f (not_held (absent xs (length xs) (table n f) h.1)), h.0), omega (arith, h.0))

-- what is then so of a store d whose list has become m, by the look-up of x, the table of f, which is no constant
module _ (d : Table) (m : Records Truths _ _) (f : Fn) (x : Truths) (is : x ≡ table d.n f) (mixed : Constant d.n f None) (p : Result ℕ Full) (h : Places d.list x p m) where
  looked : LookedUp alike (entries d.list) (room d.list) (table d.n f) p (entries m)
  looked = subst (λ (t : Truths). LookedUp alike (entries d.list) (room d.list) t p (entries m)) is h.0

  pub sound_after : sound d.n (entries m) ≡ true
  sound_after = sound_placed d.n (entries d.list) (room d.list) d.few (entries_fit d.list) d.small d.apart f mixed p (entries m) looked

  pub narrow_after : Narrow (reply p)
  narrow_after = narrow_placed d.n (entries d.list) (room d.list) d.few (entries_fit d.list) d.small d.apart f mixed p (entries m) looked

  pub answers_after : Answers (shows d) (shown d.n (entries m) (room m)) f (reply p)
  answers_after =
      subst (λ (k : ℕ). Answers (shows d) (shown d.n (entries m) k) f (reply p)) (sym h.1)
      (placed_answers d.n (entries d.list) (room d.list) d.few (entries_fit d.list) d.small d.apart f mixed p (entries m) looked)
