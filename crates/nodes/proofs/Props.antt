-- That a list is sound can be shown in one way at most, so it comes out of a ghost field.
use mathlib.Core.HLevel.{Π_prop, ⊥_prop}
use mathlib.Core.Logic.{∥∥₁_elim}
use Rattle.std.proofs.Common.{ℕ, List, [], arith}
use native.Mathlib.Bridge.{le_prop}
use native.Mathlib.Nat.{ℕ_set}
use Rattle.nodes.specs.declared.Node.{Node}
use Rattle.nodes.specs.Graph.{node, Fit, Sound}

fit_prop : (n : ℕ) (xs : List Node) (k : ℕ) (x : Node) → IsProp (Fit n xs k x)
fit_prop n xs k x p q i = record {
  below = le_prop p.below q.below i;
  earlier = Π_prop (λ _. le_prop) p.earlier q.earlier i;
  under = Π_prop (λ _. le_prop) p.under q.under i;
  differ = Π_prop (λ _. ⊥_prop) p.differ q.differ i;
}

sound_prop : (n : ℕ) (xs : List Node) → IsProp (Sound n xs)
sound_prop n xs p q i = record {
  fit = Π_prop (λ k. Π_prop (λ _. fit_prop n xs k (node xs k))) p.fit q.fit i;
  once = Π_prop (λ j. Π_prop (λ k. Π_prop (λ _. Π_prop (λ _. Π_prop (λ _. ℕ_set j k))))) p.once q.once i;
}

pub sound_out : (n : ℕ) (xs : List Node) → ∥ Sound n xs ∥₁ → Sound n xs
sound_out n xs h = ∥∥₁_elim h (sound_prop n xs) (λ s. s)

pub sound_none : (n : ℕ) → Sound n []
sound_none n = record { fit = λ k h. absurd (omega arith); once = λ j k h _ _. absurd (omega arith) }
