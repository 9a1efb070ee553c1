-- The memo stays right: where nothing is remembered, where the nodes grow, and where a task that was made is remembered.
use Rattle.std.proofs.Common.{◌≡◌, ℕ, zero, suc, ◌+◌, ◌<◌, ◌≤◌, ◌⊎◌, List, [], ◌∷◌, length, get_or, set, replicate, sym, refl, ◌∙◌, subst, inl, inr, ⊎_elim, arith}
use mathlib.Core.HLevel.{Π_prop}
use mathlib.Core.Bool.{Bool-set}
use mathlib.Core.Logic.{∥∥₁_elim}
use native.Mathlib.Bridge.{le_prop}
use Rattle.std.proofs.lemmas.Bool.{lt-ltb, and_from}
use Rattle.store.specs.Tasks.{Posed}
use Rattle.nodes.specs.declared.Node.{Node}
use Rattle.nodes.specs.Graph.{Sound}
use Rattle.nodes.specs.Growth.{Ext}
use Rattle.nodes.specs.Shows.{shown}
use Rattle.nodes.proofs.Extend.{top_ext, value_ext}
use Rattle.diagram.specs.declared.memo.Memo.{Memo}
use Rattle.store.specs.declared.task.Task.{Task}
use Rattle.diagram.specs.Remembered.{key, place, word, task_of, number_of, all_blank, slot, updated, Settles, RightSlot, Right}
use Rattle.diagram.proofs.Words.{task_in, number_in}
use Rattle.diagram.proofs.Grown.{grown_posed, grown_peak, grown_asked}

module _ (n : ℕ) (xs : List Node) (c : ℕ) where
  -- that a memo is right can be shown in one way at most, so it comes out of a ghost field
  slot_prop : (a : ℕ) → IsProp (RightSlot n xs c a)
  slot_prop a p q i = record {
    posed = (Bool-set _ _ p.posed.0 q.posed.0 i, Bool-set _ _ p.posed.1 q.posed.1 i);
    settles = (
      le_prop p.settles.0 q.settles.0 i,
      le_prop p.settles.1 q.settles.1 i,
      Π_prop (λ w. Π_prop (λ _. Bool-set _ _)) p.settles.2 q.settles.2 i,
    );
  }

  pub right_out : (memo : Memo) → ∥ Right n xs c memo ∥₁ → Right n xs c memo
  right_out memo h = ∥∥₁_elim h (λ p q i. record { at = Π_prop (λ k. slot_prop (slot memo k)) p.at q.at i }) (λ r. r)

  blank_right_slot : RightSlot n xs c 0
  blank_right_slot =
      let held = lt-ltb 0 (length xs + 2) (omega arith) in
      record {
        posed = (and_from _ _ held held, refl);
        settles = (omega arith, omega arith, (λ w _. refl));
      }

  -- a list of blanks has blanks alone
  blanks : (m k : ℕ) → get_or {A = ℕ} (replicate m 0) k 0 ≡ 0
  blanks zero k = refl
  blanks (suc m) zero = refl
  blanks (suc m) (suc k) = blanks m k

  pub blank_right : (memo : Memo) → memo ≡ all_blank → Right n xs c memo
  unfolding all_blank
  blank_right memo e = subst (Right n xs c) (sym e) (record { at = λ k. subst (RightSlot n xs c) (sym (blanks 8192 k)) blank_right_slot })

  -- a slot after a write is what was written or what was there
  written : (l : List ℕ) (i a k : ℕ) → (get_or (set l i a) k 0 ≡ a) ⊎ (get_or (set l i a) k 0 ≡ get_or l k 0)
  written [] i a k = inr refl
  written (x ∷ l) zero a zero = inl refl
  written (x ∷ l) zero a (suc k) = inr refl
  written (x ∷ l) (suc i) a zero = inr refl
  written (x ∷ l) (suc i) a (suc k) = written l i a k

  module _ (wide : n ≤ 24) (few : length xs ≤ 65534) (task : Task) (r : ℕ) (posed : Posed (shown n xs c) task) where
    -- the word of a task is right exactly if its number is there for it
    word_right : Settles n xs c task r → RightSlot n xs c (word task r)
    word_right q =
        let l : r < 65536 = omega (arith, q.0) in
        let t = task_in n xs c wide few task r posed l in
        record {
          posed = subst (Posed (shown n xs c)) (sym t) posed;
          settles = subst (λ u. Settles n xs c u (number_of (word task r))) (sym t) (subst (Settles n xs c task) (sym (number_in task r l)) q);
        }

    pub settles_word : r < 65536 → RightSlot n xs c (word task r) → Settles n xs c task r
    settles_word l h =
        subst (Settles n xs c task) (number_in task r l) (subst (λ u. Settles n xs c u (number_of (word task r))) (task_in n xs c wide few task r posed l) h.settles)

    pub updated_right : (memo : Memo) → Right n xs c memo → Settles n xs c task r → Right n xs c (updated memo task r)
    updated_right memo h q = record {
      at = λ k. ⊎_elim (λ e. subst (RightSlot n xs c) (sym e) (word_right q)) (λ e. subst (RightSlot n xs c) (sym e) (h.at k)) (written memo.slots (place (key task)) (word task r) k);
    }

-- numbers keep their functions as the nodes grow
pub grown_right : (n : ℕ) (xs ys : List Node) (b c : ℕ) (memo : Memo) → Sound n xs → Ext xs ys → Right n xs b memo → Right n ys c memo
grown_right n xs ys b c memo s x h = record { at = λ k. go (slot memo k) (h.at k) }
  where
    go : (a : ℕ) → RightSlot n xs b a → RightSlot n ys c a
    go a h =
        let q = h.settles in
        record {
          posed = grown_posed n n xs ys b c s refl x (task_of a) h.posed;
          settles = (
            omega (arith, x.longer, q.0),
            omega (arith, grown_peak n n xs ys b c s refl x (task_of a) h.posed, top_ext n xs ys x (number_of a) q.0, q.1),
            λ w l. value_ext n xs ys s x (number_of a) w q.0 ∙ q.2 w l ∙ sym (grown_asked n n xs ys b c s refl x (task_of a) h.posed w),
          );
        }
