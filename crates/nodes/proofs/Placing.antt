-- What the look-up of a node does to the nodes.
use Rattle.std.proofs.Common.{◌≡◌, ℕ, ◌+◌, ◌<◌, ◌≤◌, cond, List, [], ◌∷◌, ◌++◌, length, Ok, Err, Result, sym, ◌∙◌, subst, ⊎_elim, arith}
use Rattle.std.proofs.lemmas.Option.{slice_get-get_or, slice_get_within, get_or_from_slice_get}
use Rattle.records.specs.Placing.{Stands, Absent, Answers}
use Rattle.records.specs.declared.Full.{Full}
use Rattle.store.specs.Fun.{Fn}
use Rattle.nodes.specs.declared.Node.{Node}
use Rattle.nodes.specs.Graph.{node, blank, value, Fit, Sound}
use Rattle.nodes.specs.Growth.{Ext, Built, Short, choose}
use Rattle.nodes.specs.Identity.{alike, node_exact}
use Rattle.nodes.proofs.Build.{join_found, join_added, join_full, join_sound}
use Rattle.nodes.proofs.Extend.{ext_refl, push_ext}

-- an entry that equals x is x itself
stands : (xs : List Node) (i : ℕ) (x : Node) → Stands alike xs i x → (i < length xs) × (node xs i ≡ x)
stands xs i x (y, p, e) = (slice_get_within xs i y p, get_or_from_slice_get xs i y blank p ∙ (node_exact y x).0 e)

absent : (xs : List Node) (x : Node) → Absent alike xs (length xs) x → (k : ℕ) → k < length xs → node xs k ≡ x → ⊥
absent xs x a k h e = a k h (node xs k, slice_get-get_or xs k blank h, (node_exact (node xs k) x).1 e)

-- the nodes that were there stay where they were
pub placed_ext : (xs : List Node) (room : ℕ) (x : Node) (r : Result ℕ Full) (ys : List Node) → Answers alike xs room x r ys → Ext xs ys
placed_ext xs room x (Ok i) ys p = ⊎_elim
    (λ found. subst (Ext xs) (sym found.1) (ext_refl xs))
    (λ added. subst (Ext xs) (sym added.2) (push_ext xs x))
    p.1
placed_ext xs room x (Err _) ys p = subst (Ext xs) (sym p.2) (ext_refl xs)

pub placed_low : (xs : List Node) (room : ℕ) (x : Node) (i : ℕ) (ys : List Node) → length xs ≤ room → Answers alike xs room x (Ok i) ys → i < room
placed_low xs room x i ys l p = ⊎_elim (λ found. omega (arith, (stands xs i x found.0).0)) (λ added. omega (arith, added.0, added.1)) p.1

-- x may stand at the next place
module _ (n : ℕ) (xs : List Node) (room : ℕ) (s : Sound n xs) (x : Node) (f : Fit n xs (length xs) x) where
  abbrev made : Fn
  made = choose x.variable (λ t. value xs (cond t x.high x.low))

  pub placed_sound : (r : Result ℕ Full) (ys : List Node) → Answers alike xs room x r ys → Sound n ys
  placed_sound (Ok i) ys p = ⊎_elim
      (λ found. subst (Sound n) (sym found.1) s)
      (λ added. subst (Sound n) (sym added.2)
      (join_sound n xs s x.variable x.low x.high f.below f.earlier f.under f.differ (absent xs x (λ k low. p.0 k (omega (arith, added.0))))))
      p.1
  placed_sound (Err _) ys p = subst (Sound n) (sym p.2) s

  pub placed_built : (i : ℕ) (ys : List Node) → Answers alike xs room x (Ok i) ys → Built n xs ys x.variable made (i + 2)
  placed_built i ys p = ⊎_elim
      (λ found. let at = stands xs i x found.0 in
      subst (λ (zs : List Node). Built n xs zs x.variable made (i + 2)) (sym found.1) (join_found n xs s x.variable x.low x.high f.below f.earlier f.under i at.0 at.1))
      (λ added. subst (λ (zs : List Node). Built n xs zs x.variable made (i + 2)) (sym added.2)
      (subst (λ (k : ℕ). Built n xs (xs ++ x ∷ []) x.variable made (k + 2)) (sym added.0)
      (join_added n xs s x.variable x.low x.high f.below f.earlier f.under f.differ (absent xs x (λ k low. p.0 k (omega (arith, added.0)))))))
      p.1

  pub full_short : (ys : List Node) → Answers alike xs room x (Err record {}) ys → Ext xs ys × Short n xs room x.variable made
  full_short ys p = (
    placed_ext xs room x (Err record {}) ys p,
    subst (λ (c : ℕ). Short n xs c x.variable made) p.0 (join_full n xs s x.variable x.low x.high f.below f.earlier f.under f.differ (absent xs x p.1)),
  )
