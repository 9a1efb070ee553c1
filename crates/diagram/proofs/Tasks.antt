-- The numbers of a task, and what they give it.
use Rattle.std.proofs.Common.{◌≡◌, ℕ, zero, suc, ◌+◌, ◌<◌, ◌≤◌, Bool, not, length, Some, None, Option, SomeIff, ◌-◌, sym, refl, ap, ◌∙◌, ap₂, inl, inr, arith}
use Rattle.std.proofs.lemmas.Bool.{ltb-true, lt-ltb, and_from}
use Rattle.store.specs.Tasks.{applied, asked, Posed}
use Rattle.store.specs.Fun.{fix, fixed, Same}
use Rattle.store.proofs.Bit.{bit_fixed_other, fixed_lt, fixed_comm}
use Rattle.nodes.specs.Graph.{value, top}
use Rattle.nodes.specs.Growth.{Ext, Halved, Splits}
use Rattle.nodes.proofs.Reading.{reads}
use Rattle.nodes.proofs.Values.{value_free}
use Rattle.diagram.specs.declared.Diagram.{Diagram}
use Rattle.store.specs.declared.task.Op.{Op}
use Rattle.store.specs.declared.task.Task.{Task}
use Rattle.store.specs.declared.task.Task.TheVariants.{Variable, Not, Both, Cofactor}
use Rattle.diagram.specs.Asked.{peak, Before}
use Rattle.diagram.specs.Making.{Settled, HalvedTask}
use Rattle.diagram.specs.Plain.{Plain}
use Rattle.diagram.specs.Shows.{listed, capacity, showing}
use Rattle.diagram.proofs.Fields.{sound_of}
use Rattle.diagram.proofs.Grown.{Number, number, both_held, grown_posed, grown_peak, grown_asked}

-- in a diagram that has grown, a task asks for the same
module _ (d e : Diagram) (vars : e.n ≡ d.n) (x : Ext (listed d) (listed e)) where
  pub still_posed : (task : Task) → Posed (showing d) task → Posed (showing e) task
  still_posed = grown_posed d.n e.n (listed d) (listed e) (capacity d) (capacity e) (sound_of d) vars x

  pub still_peak : (task : Task) → Posed (showing d) task → peak e.n (listed e) task ≡ peak d.n (listed d) task
  still_peak = grown_peak d.n e.n (listed d) (listed e) (capacity d) (capacity e) (sound_of d) vars x

  pub still_asked : (task : Task) → Posed (showing d) task → (w : ℕ) → asked (showing e) task w ≡ asked (showing d) task w
  still_asked = grown_asked d.n e.n (listed d) (listed e) (capacity d) (capacity e) (sound_of d) vars x

module _ (d : Diagram) where
  free_number : (a j : ℕ) (t : Bool) → Number (listed d) a → j < top d.n (listed d) a → (w : ℕ) → value (listed d) a (fixed j t w) ≡ value (listed d) a w
  free_number a j t h l w = value_free d.n (listed d) (sound_of d) a j w t (number (listed d) a h) l

  -- a task asks for a function that does not depend on the variables above its operands
  free_task : (task : Task) (v j : ℕ) (t : Bool) → Posed (showing d) task → v ≤ peak d.n (listed d) task → Before v task → j < v
      → Same d.n (fix j t (asked (showing d) task)) (asked (showing d) task)
  free_task (Variable i) v j t p u b l w _ = bit_fixed_other i j t w (λ e. omega arith)
  free_task (Not a) v j t p u b l w _ = ap not (free_number a j t p.0 (omega arith) w)
  free_task (Both op a c) v j t p u b l w _ = let q = both_held d.n (capacity d) (listed d) op a c p in
      ap₂ (applied op) (free_number a j t q.0 (omega arith) w) (free_number c j t q.1 (omega arith) w)
  free_task (Cofactor a i s) v j t p u b l w _ =
      ap (value (listed d) a) (fixed_comm i j s t w (λ e. omega arith)) ∙ free_number a j t p.0 (omega arith) (fixed i s w)

  -- and is halved by its first variable
  pub splits_task : (task : Task) (v : ℕ) → Posed (showing d) task → v < d.n → v ≤ peak d.n (listed d) task → Before v task
      → (half : Bool → Task) → ((t : Bool) → HalvedTask d task v t (half t)) → Splits d.n v (asked (showing d) task) (λ t. asked (showing d) (half t))
  splits_task task v p below u b half h =
      record { below = below; half = λ t. (h t).means; free = λ j t l. free_task task v j t p u b l }

  held_number : (a v : ℕ) (t : Bool) (r : ℕ) → Number (listed d) a → Halved d.n (listed d) a v t r → Number (listed d) r
  held_number a v t r n h = lt-ltb r (length (listed d) + 2) (h.held (number (listed d) a n))

  -- the halves of a task, of which the operands are halved
  pub half_not : (a v : ℕ) (t : Bool) (r : ℕ) → Posed (showing d) (Not a) → Halved d.n (listed d) a v t r → HalvedTask d (Not a) v t (Not r)
  half_not a v t r p h = record { posed = (held_number a v t r p.0 h, refl); under = h.under; means = λ w lt. ap not (h.means w lt) }

  pub half_both : (op : Op) (a b v : ℕ) (t : Bool) (r s : ℕ) → Posed (showing d) (Both op a b) → Halved d.n (listed d) a v t r → Halved d.n (listed d) b v t s
      → HalvedTask d (Both op a b) v t (Both op r s)
  half_both op a b v t r s p h k =
      let q = both_held d.n (capacity d) (listed d) op a b p in
      record {
        posed = (and_from _ _ (held_number a v t r q.0 h) (held_number b v t s q.1 k), refl);
        under = let l = h.under in let m = k.under in omega arith;
        means = λ w lt. ap₂ (applied op) (h.means w lt) (k.means w lt);
      }

  pub half_cofactor : (a i : ℕ) (s : Bool) (v : ℕ) (t : Bool) (r : ℕ) → Posed (showing d) (Cofactor a i s) → v < i → Halved d.n (listed d) a v t r
      → HalvedTask d (Cofactor a i s) v t (Cofactor r i s)
  half_cofactor a i s v t r p l h = record {
    posed = (held_number a v t r p.0 h, p.1);
    under = h.under;
    means = λ w lt. ap (value (listed d) a) (fixed_comm i v s t w (λ e. omega arith)) ∙ h.means (fixed i s w) (fixed_lt d.n i s w (ltb-true i d.n p.1) lt);
  }

  -- what a number that is no constant has on top
  pub inner_top : (a : ℕ) → Number (listed d) a → 2 ≤ a → top d.n (listed d) a < d.n
  inner_top zero h l = absurd (omega arith)
  inner_top (suc zero) h l = absurd (omega arith)
  inner_top (suc (suc k)) h l = let r = reads d.n (listed d) (sound_of d) k (omega (arith, number (listed d) (suc (suc k)) h)) in omega (arith, r.variable, r.below)

  pub settled_both : (op : Op) (a b : ℕ) (r : Option ℕ) → Posed (showing d) (Both op a b) → Plain op a b r → Settled d (Both op a b) r
  settled_both op a b None p q = let l = inner_top a (both_held d.n (capacity d) (listed d) op a b p).0 q.0 in (omega arith, tt)
  settled_both op a b (Some r) p (inl e, m) = let h = number (listed d) a (both_held d.n (capacity d) (listed d) op a b p).0 in (omega arith, omega (arith, ap (top d.n (listed d)) e), (λ w _. m (listed d) w))
  settled_both op a b (Some r) p (inr e, m) = let h = number (listed d) b (both_held d.n (capacity d) (listed d) op a b p).1 in (omega arith, omega (arith, ap (top d.n (listed d)) e), (λ w _. m (listed d) w))

  pub settled_not : (a : ℕ) (r : Option ℕ) → Posed (showing d) (Not a) → SomeIff r (a ≤ 1) (1 - a) → Settled d (Not a) r
  settled_not a None p q = (inner_top a p.0 (omega (arith, q)), tt)
  settled_not zero (Some r) p q = rw q.1 (omega arith, omega arith, λ w _. refl)
  settled_not (suc zero) (Some r) p q = rw q.1 (omega arith, omega arith, λ w _. refl)
  settled_not (suc (suc a)) (Some r) p q = absurd (omega (arith, q.0))

  -- where the fixed variable is not below the top of the operand, its half is the cofactor
  pub settled_cofactor : (a i : ℕ) (t : Bool) (r : ℕ) → Posed (showing d) (Cofactor a i t) → Halved d.n (listed d) a i t r → Settled d (Cofactor a i t) (Some r)
  settled_cofactor a i t r p h = (h.held (number (listed d) a p.0), h.lower, λ w l. sym (h.means w l))
