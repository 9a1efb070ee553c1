-- A number with a variable fixed that is not below its top.
use Rattle.std.proofs.Common.{ℕ, suc, ◌+◌, ◌<◌, Bool, List, length, sym, ◌∙◌, ⊎_elim, arith}
use Rattle.std.proofs.lemmas.Bool.{cases_lt}
use Rattle.store.specs.Fun.{fixed}
use Rattle.nodes.specs.declared.Node.{Node}
use Rattle.nodes.specs.Graph.{node, child, top, Sound}
use Rattle.nodes.specs.Growth.{Halved}
use Rattle.nodes.proofs.Values.{top_node, value_past, value_free, value_child}

module _ (n : ℕ) (xs : List Node) (s : Sound n xs) where
  pub halved_child : (k : ℕ) (t : Bool) → k < length xs → Halved n xs (suc (suc k)) (node xs k).variable t (child (node xs k) t)
  halved_child k t h =
      let f = s.fit k h in
      let e = f.earlier t in
      let u = f.under t in
      record { held = λ _. omega arith; under = u; lower = omega (arith, top_node n xs k h); means = λ w _. value_child n xs s k w t h }

  pub halved_self : (a v : ℕ) (t : Bool) → v < top n xs a → Halved n xs a v t a
  halved_self a v t u = record {
    held = λ h. h;
    under = u;
    lower = omega arith;
    means = λ w _. ⊎_elim
        (λ h. value_free n xs s a v w t h u)
        (λ h. value_past xs a (fixed v t w) h ∙ sym (value_past xs a w h))
        (cases_lt a (length xs + 2));
  }
