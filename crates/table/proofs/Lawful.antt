-- What a table store shows is lawful.
use Rattle.std.proofs.Common.{◌≡◌, ℕ, ◌+◌, ◌≤◌, true, false, cond, List, [], length, refl, ap, ⊎_elim, arith}
use Rattle.std.proofs.lemmas.Bool.{cases_Bool, cases_order, cond-true, cond-false, cond_both, lt-ltb, ltb-true}
use Rattle.store.specs.Fun.{Fn}
use Rattle.store.specs.Meaning.{Lawful, Fresh, holds, price}
use Rattle.store.proofs.Same.{holds_like, same_refl, same_sym}
use Rattle.records.specs.Contents.{entries, room}
use Rattle.records.proofs.Contents.{entries_fit}
use Rattle.table.specs.declared.Table.{Table}
use Rattle.table.specs.Store.{shows}
use Rattle.table.specs.declared.truths.Truths.{Truths}
use Rattle.table.specs.Shows.{shown, sound}
use Rattle.table.proofs.Sound.{sound_tells, sound_empty}

module _ (n : ℕ) (xs : List Truths) (capacity : ℕ) where
  pub free_of : (f : Fn) → holds (shown n xs capacity) f ≡ true → price (shown n xs capacity) f ≡ 0
  free_of f h = cond-true _ 0 1 h

  pub price_one : (f : Fn) → holds (shown n xs capacity) f ≡ false → price (shown n xs capacity) f ≡ 1
  price_one f h = cond-false _ 0 1 h

  pub lawful_shown : n ≤ 10 → length xs ≤ capacity → capacity ≤ 65534 → sound n xs ≡ true → Lawful (shown n xs capacity)
  lawful_shown few fits small s =
      let s' = shown n xs capacity in
      let apart = ((sound_tells n xs).0 s).1 in
      record {
        few = omega arith;
        within = fits;
        narrow = λ a h. omega (arith, ltb-true a (length xs + 2) h);
        no = (lt-ltb 0 (length xs + 2) (omega arith), same_refl n _);
        yes = (lt-ltb 1 (length xs + 2) (omega arith), same_refl n _);
        apart = λ a b ha hb e. ⊎_elim (λ q. q)
            (λ d. ⊎_elim
            (λ less. absurd (apart b (ltb-true b (length xs + 2) hb) a less e))
            (λ more. absurd (apart a (ltb-true a (length xs + 2) ha) b more (same_sym n _ _ e)))
            d)
            (cases_order a b);
        alike = λ f g e. ap (λ b. cond b 0 1) (holds_like s' f g e);
        bounded = λ f. cond_both (holds s' f) 0 1 (λ k. k ≤ 1) (λ _. omega arith) (λ _. omega arith);
        gratis = free_of;
        priced = λ f z. ⊎_elim (λ y. y) (λ no. absurd (omega (arith, price_one f no))) (cases_Bool (holds s' f));
      }

pub fresh_shown : (n capacity : ℕ) → Fresh (shown n [] capacity)
fresh_shown n capacity = record { held = λ a. refl; used = refl }

pub lawful_empty : (n capacity : ℕ) → n ≤ 10 → capacity ≤ 65534 → Lawful (shown n [] capacity)
lawful_empty n capacity few small = lawful_shown n [] capacity few (omega arith) small (sound_empty n)

pub lawful_table : (d : Table) → Lawful (shows d)
lawful_table d = lawful_shown d.n (entries d.list) (room d.list) d.few (entries_fit d.list) d.small d.apart
