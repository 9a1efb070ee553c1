-- The function of a number, by its node.
use Rattle.std.proofs.Common.{◌≡◌, ℕ, zero, suc, ◌+◌, ◌<◌, ◌≤◌, Bool, true, false, eqb, List, length, None, unwrap_or, sym, refl, ap, ◌∙◌, arith}
use Rattle.std.proofs.lemmas.Option.{slice_get-get_or, slice_get_past, unwrap_or-slice_get}
use Rattle.std.proofs.lemmas.Bool.{ne_eqb}
use Rattle.store.specs.Fun.{bit, fixed}
use Rattle.store.proofs.Bit.{bit_fixed_same, bit_fixed_other}
use Rattle.nodes.specs.declared.Node.{Node}
use Rattle.nodes.specs.Graph.{blank, node, node_under, child, truth, value, variable_or, top, Sound}

pub top_node : (n : ℕ) (xs : List Node) (k : ℕ) → k < length xs → top n xs (suc (suc k)) ≡ (node xs k).variable
top_node n xs k h = ap (variable_or n) (slice_get-get_or xs k blank h)

no_child : (t : Bool) → child blank t ≡ 0
no_child true = refl
no_child false = refl

-- a number that has no node is false, unless it is 1
pub value_bare : (xs : List Node) (a w : ℕ) → node_under xs a ≡ None → value xs a w ≡ eqb a 1
value_bare xs zero w e = refl
value_bare xs (suc zero) w e = refl
value_bare xs (suc (suc k)) w e =
    let is : node xs k ≡ blank = sym (unwrap_or-slice_get xs k blank) ∙ ap (λ o. unwrap_or o blank) e in
    ap (λ x. truth (suc k) xs (child x (bit x.variable w)) w) is ∙ ap (λ a. truth (suc k) xs a w) (no_child (bit 0 w))
    ∙ sym (ne_eqb (suc (suc k)) 1 (λ q. omega arith))

pub value_past : (xs : List Node) (a w : ℕ) → length xs + 2 ≤ a → value xs a w ≡ false
value_past xs zero w h = absurd (omega arith)
value_past xs (suc zero) w h = absurd (omega arith)
value_past xs (suc (suc k)) w h = value_bare xs (suc (suc k)) w (slice_get_past xs k (omega arith)) ∙ ne_eqb (suc (suc k)) 1 (λ q. omega arith)

module _ (n : ℕ) (xs : List Node) (s : Sound n xs) where
  steps : (m j a w : ℕ) → a < length xs + 2 → a ≤ m → a ≤ j → truth m xs a w ≡ truth j xs a w
  steps m j zero w h p q = refl
  steps m j (suc zero) w h p q = refl
  steps zero j (suc (suc k)) w h p q = absurd (omega arith)
  steps (suc m) zero (suc (suc k)) w h p q = absurd (omega arith)
  steps (suc m) (suc j) (suc (suc k)) w h p q =
      let c = (s.fit k (omega arith)).earlier (bit (node xs k).variable w) in
      steps m j (child (node xs k) (bit (node xs k).variable w)) w (omega arith) (omega arith) (omega arith)

  -- a node's value is that of a child
  pub value_node : (k w : ℕ) → k < length xs → value xs (suc (suc k)) w ≡ value xs (child (node xs k) (bit (node xs k).variable w)) w
  value_node k w h =
      let b = child (node xs k) (bit (node xs k).variable w) in
      let c = (s.fit k h).earlier (bit (node xs k).variable w) in
      steps (suc k) b b w (omega arith) (omega arith) (omega arith)

  -- a number does not depend on a variable above its top
  free_in : (m a v w : ℕ) (t : Bool) → a < length xs + 2 → v < top n xs a → truth m xs a (fixed v t w) ≡ truth m xs a w
  free_in m zero v w t h q = refl
  free_in m (suc zero) v w t h q = refl
  free_in zero (suc (suc k)) v w t h q = refl
  free_in (suc m) (suc (suc k)) v w t h q =
      let x = node xs k in
      let f = s.fit k (omega arith) in
      let q' : v < x.variable = omega (arith, q, top_node n xs k (omega arith)) in
      let c = f.earlier (bit x.variable w) in
      let u = f.under (bit x.variable w) in
      ap (λ b. truth m xs (child x b) (fixed v t w)) (bit_fixed_other x.variable v t w (λ e. omega arith))
      ∙ free_in m (child x (bit x.variable w)) v w t (omega arith) (omega arith)

  pub value_free : (a v w : ℕ) (t : Bool) → a < length xs + 2 → v < top n xs a → value xs a (fixed v t w) ≡ value xs a w
  value_free a v w t h q = free_in a a v w t h q

  -- a node with its own variable fixed is a child
  pub value_child : (k w : ℕ) (t : Bool) → k < length xs → value xs (suc (suc k)) (fixed (node xs k).variable t w) ≡ value xs (child (node xs k) t) w
  value_child k w t h =
      let x = node xs k in
      let f = s.fit k h in
      let c = f.earlier t in
      value_node k (fixed x.variable t w) h
      ∙ ap (λ b. value xs (child x b) (fixed x.variable t w)) (bit_fixed_same x.variable t w)
      ∙ value_free (child x t) x.variable w t (omega arith) (f.under t)
