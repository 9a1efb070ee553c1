-- What is read of the operands of a task.
use Rattle.std.proofs.Common.{◌≡◌, ℕ, ◌<◌, ◌≤◌, Bool, Some, None, Option, unwrap_or, refl, ap, ◌∙◌, ⊎_elim, arith}
use Rattle.std.proofs.lemmas.Bool.{cases_eq, eq-eqb, ne_eqb}
use Rattle.nodes.specs.declared.Node.{Node}
use Rattle.nodes.specs.Graph.{node_under, top, variable_or}
use Rattle.nodes.specs.Growth.{Halved}
use Rattle.nodes.proofs.Halving.{halved_self}
use Rattle.diagram.specs.declared.Diagram.{Diagram}
use Rattle.diagram.specs.declared.numbers.Operand.{Operand}
use Rattle.diagram.specs.Operands.{leaf, operand, half}
use Rattle.diagram.specs.Shows.{listed}
use Rattle.diagram.proofs.Fields.{sound_of, read_of}

top_or_leaf : (n a : ℕ) (x : Option Node) → (unwrap_or x (leaf n a)).variable ≡ variable_or n x
top_or_leaf n a None = refl
top_or_leaf n a (Some x) = refl

module _ (d : Diagram) (a : ℕ) where
  half_or_leaf : (x : Option Node) → x ≡ node_under (listed d) a → (v : ℕ) (t : Bool) → v < d.n → v ≤ variable_or d.n x
      → Halved d.n (listed d) a v t (half (record { number = a; node = unwrap_or x (leaf d.n a) }) v t)
  half_or_leaf None e v t below over =
      let bare = ap (variable_or d.n) e in
      let other = ne_eqb d.n v (λ q. omega arith) in
      rw other (halved_self d.n (listed d) (sound_of d) a v t (omega (arith, bare)))
  half_or_leaf (Some x) e v t below over =
      let r = read_of d a x e in
      ⊎_elim
      (λ q. rw (eq-eqb x.variable v q, ← q) (r.half t))
      (λ q. rw (ne_eqb x.variable v q) (halved_self d.n (listed d) (sound_of d) a v t (omega (arith, r.variable, q))))
      (cases_eq x.variable v)

  module _ (o : Operand) (e : o ≡ operand d.n (listed d) a) where
    pub top_read : o.node.variable ≡ top d.n (listed d) a
    top_read = ap (λ (o : Operand). o.node.variable) e ∙ top_or_leaf d.n a (node_under (listed d) a)

    pub half_read : (v : ℕ) (t : Bool) (r : ℕ) → r ≡ half o v t → v < d.n → v ≤ o.node.variable → Halved d.n (listed d) a v t r
    half_read v t r is below over =
        rw (is, e) (half_or_leaf (node_under (listed d) a) refl v t below (omega (arith, top_read)))
