-- How the parts of a function add up while it is built.
use Rattle.std.proofs.Common.{◌≡◌, ℕ, suc, ◌+◌, ◌<◌, ◌≤◌, Bool, true, false, cond, List, [], ◌∷◌, ◌++◌, length, sym, refl, ap, ◌∙◌, subst, ⊎_elim, arith}
use Rattle.std.proofs.lemmas.List.{length_push}
use Rattle.std.proofs.lemmas.Bool.{cases_lt}
use Rattle.store.specs.Fun.{Fn, bit, Same}
use Rattle.store.proofs.Same.{same_sym, same_trans}
use Rattle.nodes.specs.declared.Node.{Node}
use Rattle.nodes.specs.Graph.{node, child, value, top, Sound}
use Rattle.nodes.specs.Growth.{Parts, Built, Short, Splits, choose}
use Rattle.nodes.proofs.Extend.{ext_refl, ext_trans, value_ext, push_ext, node_last, push_sound}
use Rattle.nodes.proofs.Fixings.{fixings_like, split_in, self_in, halves}
use Rattle.nodes.proofs.Pigeon.{in_like}
use Rattle.nodes.proofs.Values.{top_node, value_node}

module _ (n : ℕ) where
  parts_none : (xs : List Node) (v : ℕ) (f : Fn) → Parts n xs xs v f
  parts_none xs v f = record { ext = ext_refl xs; part = λ b l u m i e h. absurd (omega arith) }

  parts_weaker : (xs ys : List Node) (u v : ℕ) (f : Fn) → v ≤ u → Parts n xs ys u f → Parts n xs ys v f
  parts_weaker xs ys u v f h p = record { ext = p.ext; part = λ b l k m i e q. p.part b l k m i e (omega arith) }

  parts_like : (xs ys : List Node) (v : ℕ) (f g : Fn) → Same n f g → Parts n xs ys v f → Parts n xs ys v g
  parts_like xs ys v f g s p = record {
    ext = p.ext;
    part = λ b l k m i e q. fixings_like n m i f g (value ys b) (omega arith) s (p.part b l k m i e q);
  }

  -- the parts of a half are parts of the whole
  parts_half : (xs ys : List Node) (v : ℕ) (f : Fn) (h : Bool → Fn) (t : Bool) → Splits n v f h → Parts n xs ys (suc v) (h t) → Parts n xs ys v f
  parts_half xs ys v f h t s p = record {
    ext = p.ext;
    part = λ b l k m i e q. split_in n v f h t (value ys b) s (p.part b l k) m i e q;
  }

  parts_join : (xs ys zs : List Node) (v : ℕ) (f : Fn) → Sound n ys → Parts n xs ys v f → Parts n ys zs v f → Parts n xs zs v f
  parts_join xs ys zs v f s p q = record {
    ext = ext_trans xs ys zs p.ext q.ext;
    part = λ b l k m i e h. ⊎_elim
        (λ lt. in_like (Same n) (same_sym n) (same_trans n) (value zs b) (value ys b) _
        (λ w _. value_ext n ys zs s q.ext b w lt) (p.part b l lt m i e h))
        (λ ge. q.part b ge k m i e h)
        (cases_lt b (length ys + 2));
  }

  -- a function that is there already
  pub built_there : (xs : List Node) (v : ℕ) (f : Fn) (r : ℕ) → r < length xs + 2 → v ≤ top n xs r → Same n (value xs r) f → Built n xs xs v f r
  built_there xs v f r h u e = record { parts = parts_none xs v f; held = h; under = u; means = e }

  -- a node over numbers of xs
  module _ (xs : List Node) (s : Sound n xs) (v l h : ℕ) (below : v < n) (held : (t : Bool) → cond t h l < length xs + 2)
      (under : (t : Bool) → v < top n xs (cond t h l)) where
    abbrev either : Bool → Fn
    either t = value xs (cond t h l)

    abbrev new : Node
    new = record { variable = v; low = l; high = h }

    pub join_same : l ≡ h → Built n xs xs v (choose v either) l
    join_same e = built_there xs v _ l (held false) (let u = under false in omega arith) (λ w _. ap (λ a. value xs a w) (go (bit v w)))
      where
        go : (t : Bool) → l ≡ cond t h l
        go true = e
        go false = refl

    pub join_found : (k : ℕ) → k < length xs → node xs k ≡ new → Built n xs xs v (choose v either) (k + 2)
    join_found k lt e = let q : suc (suc k) ≡ k + 2 = omega arith in
        subst (Built n xs xs v (choose v either)) q
        (built_there xs v _ (suc (suc k)) (omega arith) (omega (arith, top_node n xs k lt, ap (λ (x : Node). x.variable) e))
        (λ w _. value_node n xs s k w lt ∙ ap (λ (x : Node). value xs (child x (bit x.variable w)) w) e))

    module _ (differ : l ≡ h → ⊥) (absent : (k : ℕ) → k < length xs → node xs k ≡ new → ⊥) where
      abbrev more : List Node
      more = xs ++ new ∷ []

      pub join_sound : Sound n more
      join_sound = push_sound n xs new s (record { below = below; earlier = held; under = under; differ = differ }) absent

      more_means : Same n (value more (suc (suc (length xs)))) (choose v either)
      more_means w _ =
          value_node n more join_sound (length xs) w (omega (arith, length_push xs new))
          ∙ ap (λ (x : Node). value more (child x (bit x.variable w)) w) (node_last xs new)
          ∙ value_ext n xs more s (push_ext xs new) (cond (bit v w) h l) w (held (bit v w))

      more_parts : Parts n xs more v (choose v either)
      more_parts = record {
        ext = push_ext xs new;
        part = λ b g k m i e q.
            let z : b ≡ suc (suc (length xs)) = omega (arith, length_push xs new) in
            self_in n _ (value more b) m i (omega arith) (subst (λ (c : ℕ). Same n (value more c) (choose v either)) (sym z) more_means);
      }

      pub join_added : Built n xs more v (choose v either) (length xs + 2)
      join_added = let q : suc (suc (length xs)) ≡ length xs + 2 = omega arith in
          subst (Built n xs more v (choose v either)) q (record {
            parts = more_parts;
            held = omega (arith, length_push xs new);
            under = omega (arith, top_node n more (length xs) (omega (arith, length_push xs new)), ap (λ (x : Node). x.variable) (node_last xs new));
            means = more_means;
          })

      pub join_full : Short n xs (length xs) v (choose v either)
      join_full = (more, join_sound, more_parts, omega (arith, length_push xs new))

  pub built_weaker : (xs ys : List Node) (u v : ℕ) (f : Fn) (r : ℕ) → v ≤ u → Built n xs ys u f r → Built n xs ys v f r
  built_weaker xs ys u v f r h b = record { parts = parts_weaker xs ys u v f h b.parts; held = b.held; under = omega (arith, b.under); means = b.means }

  pub built_like : (xs ys : List Node) (v : ℕ) (f g : Fn) (r : ℕ) → Same n f g → Built n xs ys v f r → Built n xs ys v g r
  built_like xs ys v f g r e b = record { parts = parts_like xs ys v f g e b.parts; held = b.held; under = b.under; means = same_trans n _ _ _ b.means e }

  pub short_weaker : (xs : List Node) (c u v : ℕ) (f : Fn) → v ≤ u → Short n xs c u f → Short n xs c v f
  short_weaker xs c u v f h t = (t.0, t.1, parts_weaker xs t.0 u v f h t.2, t.3)

  pub short_like : (xs : List Node) (c v : ℕ) (f g : Fn) → Same n f g → Short n xs c v f → Short n xs c v g
  short_like xs c v f g e t = (t.0, t.1, parts_like xs t.0 v f g e t.2, t.3)

  -- a function is built by its halves: the low one, then the high one, then the node over both
  module _ (v : ℕ) (f : Fn) (h : Bool → Fn) (sp : Splits n v f h) where
    pub short_low : (xs : List Node) (c : ℕ) → Short n xs c (suc v) (h false) → Short n xs c v f
    short_low xs c t = (t.0, t.1, parts_half xs t.0 v f h false sp t.2, t.3)

    module _ (xs ys : List Node) (sy : Sound n ys) (low : ℕ) (bl : Built n xs ys (suc v) (h false) low) where
      pub short_high : (c : ℕ) → Short n ys c (suc v) (h true) → Short n xs c v f
      short_high c t =
          (t.0, t.1, parts_join xs ys t.0 v f sy (parts_half xs ys v f h false sp bl.parts) (parts_half ys t.0 v f h true sp t.2), t.3)

      module _ (zs : List Node) (sz : Sound n zs) (high : ℕ) (bh : Built n ys zs (suc v) (h true) high) where
        both_parts : Parts n xs zs v f
        both_parts = parts_join xs ys zs v f sy (parts_half xs ys v f h false sp bl.parts) (parts_half ys zs v f h true sp bh.parts)

        joined : Same n (choose v (λ t. value zs (cond t high low))) f
        joined w lt = go (bit v w) ∙ sym (halves n v f h sp w lt)
          where
            go : (t : Bool) → value zs (cond t high low) w ≡ h t w
            go true = bh.means w lt
            go false = value_ext n ys zs sy bh.parts.ext low w bl.held ∙ bl.means w lt

        pub built_both : (us : List Node) (r : ℕ) → Built n zs us v (choose v (λ t. value zs (cond t high low))) r → Built n xs us v f r
        built_both us r b = record {
          parts = parts_join xs zs us v f sz both_parts (parts_like zs us v _ f joined b.parts);
          held = b.held;
          under = b.under;
          means = same_trans n _ _ _ b.means joined;
        }

        pub short_both : (c : ℕ) → Short n zs c v (choose v (λ t. value zs (cond t high low))) → Short n xs c v f
        short_both c t = (t.0, t.1, parts_join xs zs t.0 v f sz both_parts (parts_like zs t.0 v _ f joined t.2), t.3)
