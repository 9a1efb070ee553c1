-- A number that is no constant, and its node.
use Rattle.std.proofs.Common.{◌≡◌, ℕ, suc, ◌<◌, Bool, List, length, arith}
use Rattle.store.specs.Fun.{bit}
use Rattle.nodes.specs.declared.Node.{Node}
use Rattle.nodes.specs.Graph.{node, child, value, top, Sound}
use Rattle.nodes.specs.Growth.{Halved}
use Rattle.nodes.proofs.Halving.{halved_child}
use Rattle.nodes.proofs.Values.{top_node, value_node}

-- x is the node of number a
pub record Reads (n : ℕ) (xs : List Node) (a : ℕ) (x : Node) : Type 0 where
  pub variable : top n xs a ≡ x.variable
  pub below : x.variable < n
  pub less : (t : Bool) → child x t < a
  pub picks : (w : ℕ) → value xs a w ≡ value xs (child x (bit x.variable w)) w
  pub half : (t : Bool) → Halved n xs a x.variable t (child x t)

pub reads : (n : ℕ) (xs : List Node) → Sound n xs → (k : ℕ) → k < length xs → Reads n xs (suc (suc k)) (node xs k)
reads n xs s k h =
    let f = s.fit k h in
    record {
      variable = top_node n xs k h;
      below = f.below;
      less = λ t. let l = f.earlier t in omega arith;
      picks = λ w. value_node n xs s k w h;
      half = λ t. halved_child n xs s k t h;
    }
