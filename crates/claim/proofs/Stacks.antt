-- The codes of a tree, run over a stack, leave what the tree comes to on top.
use Rattle.std.proofs.Common.{◌≡◌, ℕ, ◌≤◌, List, [], ◌∷◌, ◌++◌, length, refl, ap, ◌∙◌, arith}
use Rattle.claim.specs.declared.code.Act.{Act}
use Rattle.claim.specs.declared.code.Act.TheVariants.{Constant, Name, Not, And, Or}
use Rattle.claim.specs.declared.code.Code.{Code}
use Rattle.claim.specs.Grammar.{Tree, const, named, neg, conj, disj, code, post}
use Rattle.claim.specs.Truth.{Ops, fold, Stacked, short, stack, apply, on, exec, arity}

module _ {A : Type 0} (o : Ops A) where
  exec_append : (cs ds : List Code) (s : Stacked A) → exec o (cs ++ ds) s ≡ exec o ds (exec o cs s)
  exec_append [] ds s = refl
  exec_append (c ∷ cs) ds s = exec_append cs ds (on o s c)

  exec_two : (t u : List Code) (c : Code) (x y : A) (s : List A) → exec o t (stack s) ≡ stack (x ∷ s) → exec o u (stack (x ∷ s)) ≡ stack (y ∷ x ∷ s) → exec o (t ++ (u ++ c ∷ [])) (stack s) ≡ on o (stack (y ∷ x ∷ s)) c
  exec_two t u c x y s e f = exec_append t (u ++ c ∷ []) (stack s) ∙ ap (exec o (u ++ c ∷ [])) e ∙ exec_append u (c ∷ []) (stack (x ∷ s)) ∙ ap (λ r. on o r c) f

  pub exec_post : (t : Tree) (s : List A) → exec o (post t) (stack s) ≡ stack (fold o t ∷ s)
  exec_post (const p b) s = refl
  exec_post (named p k n) s = refl
  exec_post (neg p t) s = exec_append (post t) (code Not p ∷ []) (stack s) ∙ ap (λ r. on o r (code Not p)) (exec_post t s)
  exec_post (conj p t u) s = exec_two (post t) (post u) (code And p) (fold o t) (fold o u) s (exec_post t s) (exec_post u (fold o t ∷ s))
  exec_post (disj p t u) s = exec_two (post t) (post u) (code Or p) (fold o t) (fold o u) s (exec_post t s) (exec_post u (fold o t ∷ s))

  exec_short : (cs : List Code) → exec o cs short ≡ short
  exec_short [] = refl
  exec_short (c ∷ cs) = exec_short cs

  -- where the run comes to a stack, each operator has its operands
  pub enough : (p : ℕ) (a : Act) (s : List A) (cs : List Code) (u : List A) → exec o cs (apply o p a s) ≡ stack u → arity a ≤ length s
  enough p (Constant b) s cs u e = omega arith
  enough p (Name k n) s cs u e = omega arith
  enough p Not [] cs u e = let f = exec_short cs in cc
  enough p Not (x ∷ s) cs u e = omega arith
  enough p And [] cs u e = let f = exec_short cs in cc
  enough p And (x ∷ []) cs u e = let f = exec_short cs in cc
  enough p And (x ∷ y ∷ s) cs u e = omega arith
  enough p Or [] cs u e = let f = exec_short cs in cc
  enough p Or (x ∷ []) cs u e = let f = exec_short cs in cc
  enough p Or (x ∷ y ∷ s) cs u e = omega arith
