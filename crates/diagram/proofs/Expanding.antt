-- Each kind of task is halved by what is read of its operands.
use Rattle.std.proofs.Common.{◌≡◌, ℕ, ◌<◌, Bool, None, min, arith}
use Rattle.store.specs.Tasks.{Posed}
use Rattle.store.specs.declared.task.Op.{Op}
use Rattle.store.specs.declared.task.Task.TheVariants.{Not, Both, Cofactor}
use Rattle.diagram.specs.declared.Diagram.{Diagram}
use Rattle.diagram.specs.declared.numbers.Operand.{Operand}
use Rattle.diagram.specs.Making.{Settled, HalvedTask}
use Rattle.diagram.specs.Operands.{operand, half}
use Rattle.diagram.specs.Shows.{listed, showing}
use Rattle.diagram.proofs.Operands.{top_read, half_read}
use Rattle.diagram.proofs.Tasks.{half_not, half_both, half_cofactor}

module _ (d : Diagram) (a : ℕ) (o : Operand) (e : o ≡ operand d.n (listed d) a) (v : ℕ) where
  pub expands_not : v ≡ o.node.variable → Posed (showing d) (Not a) → Settled d (Not a) None
      → (t : Bool) (r : ℕ) → r ≡ half o v t → HalvedTask d (Not a) v t (Not r)
  expands_not first p u t r h = half_not d a v t r p (half_read d a o e v t r h (omega (arith, top_read d a o e, first, u.0)) (omega (arith, first)))

  pub expands_cofactor : (i : ℕ) (s : Bool) → v ≡ o.node.variable → Posed (showing d) (Cofactor a i s) → Settled d (Cofactor a i s) None
      → (t : Bool) (r : ℕ) → r ≡ half o v t → HalvedTask d (Cofactor a i s) v t (Cofactor r i s)
  expands_cofactor i s first p u t r h =
      let q = top_read d a o e in
      half_cofactor d a i s v t r p (omega (arith, q, first, u.1)) (half_read d a o e v t r h (omega (arith, q, first, u.0)) (omega (arith, first)))

  pub expands_both : (op : Op) (b : ℕ) (o₂ : Operand) → o₂ ≡ operand d.n (listed d) b → v ≡ min o.node.variable o₂.node.variable
      → Posed (showing d) (Both op a b) → Settled d (Both op a b) None
      → (t : Bool) (r s : ℕ) → r ≡ half o v t → s ≡ half o₂ v t → HalvedTask d (Both op a b) v t (Both op r s)
  expands_both op b o₂ e₂ first p u t r s h k =
      let below : v < d.n = omega (arith, top_read d a o e, top_read d b o₂ e₂, first, u.0) in
      half_both d op a b v t r s p (half_read d a o e v t r h below (omega (arith, first))) (half_read d b o₂ e₂ v t s k below (omega (arith, first)))
