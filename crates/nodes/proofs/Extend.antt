-- A list that begins with another: what was there keeps its meaning.
use Rattle.std.proofs.Common.{◌≡◌, ℕ, zero, suc, ◌+◌, ◌<◌, ◌≤◌, List, [], ◌∷◌, ◌++◌, length, take, sym, refl, ap, ◌∙◌, subst, ⊎_elim, arith}
use Rattle.std.proofs.lemmas.List.{get_or_append_left, get_or_push, length_push, length-take, get_or-take, ext_get_or}
use Rattle.std.proofs.lemmas.Bool.{cases_lt}
use Rattle.store.specs.Fun.{bit}
use Rattle.nodes.specs.declared.Node.{Node}
use Rattle.nodes.specs.Graph.{node, blank, child, truth, value, top, Fit, Sound}
use Rattle.nodes.specs.Growth.{Ext}
use Rattle.nodes.proofs.Values.{top_node}

pub ext_refl : (xs : List Node) → Ext xs xs
ext_refl xs = record { longer = omega arith; kept = λ k h. refl }

pub ext_trans : (xs ys zs : List Node) → Ext xs ys → Ext ys zs → Ext xs zs
ext_trans xs ys zs d e = record {
  longer = omega arith;
  kept = λ k h. let l : k < length ys = omega arith in e.kept k l ∙ d.kept k h;
}

pub top_ext : (n : ℕ) (xs ys : List Node) → Ext xs ys → (a : ℕ) → a < length xs + 2 → top n ys a ≡ top n xs a
top_ext n xs ys e zero h = refl
top_ext n xs ys e (suc zero) h = refl
top_ext n xs ys e (suc (suc k)) h = let l : k < length xs = omega arith in
    top_node n ys k (omega (arith, e.longer)) ∙ ap (λ x. x.variable) (e.kept k l) ∙ sym (top_node n xs k l)

module _ (n : ℕ) (xs ys : List Node) (s : Sound n xs) (e : Ext xs ys) where
  truth_ext : (m a w : ℕ) → a < length xs + 2 → truth m ys a w ≡ truth m xs a w
  truth_ext m zero w h = refl
  truth_ext m (suc zero) w h = refl
  truth_ext zero (suc (suc k)) w h = refl
  truth_ext (suc m) (suc (suc k)) w h =
      let l : k < length xs = omega arith in
      let c = (s.fit k l).earlier (bit (node xs k).variable w) in
      ap (λ x. truth m ys (child x (bit x.variable w)) w) (e.kept k l)
      ∙ truth_ext m (child (node xs k) (bit (node xs k).variable w)) w (omega arith)

  pub value_ext : (a w : ℕ) → a < length xs + 2 → value ys a w ≡ value xs a w
  value_ext a w h = truth_ext a a w h

pub push_ext : (xs : List Node) (x : Node) → Ext xs (xs ++ x ∷ [])
push_ext xs x = record { longer = omega (arith, length_push xs x); kept = λ k h. get_or_append_left xs (x ∷ []) blank k h }

pub node_last : (xs : List Node) (x : Node) → node (xs ++ x ∷ []) (length xs) ≡ x
node_last xs x = get_or_push xs x blank (length xs) refl

-- what fits xs fits a longer list at the same place
fit_ext : (n : ℕ) (xs ys : List Node) → Ext xs ys → (k : ℕ) (x : Node) → k ≤ length xs → Fit n xs k x → Fit n ys k x
fit_ext n xs ys e k x h f = record {
  below = f.below;
  earlier = f.earlier;
  under = λ t. let c = f.earlier t in let u = f.under t in omega (arith, top_ext n xs ys e (child x t) (omega arith));
  differ = f.differ;
}

pub push_sound : (n : ℕ) (xs : List Node) (x : Node) → Sound n xs → Fit n xs (length xs) x
    → ((k : ℕ) → k < length xs → node xs k ≡ x → ⊥) → Sound n (xs ++ x ∷ [])
push_sound n xs x s f absent = record {
  fit = λ k h. ⊎_elim
      (λ l. subst (Fit n ys k) (sym (e.kept k l)) (fit_ext n xs ys e k (node xs k) (omega arith) (s.fit k l)))
      (λ l. let q : k ≡ length xs = omega (arith, length_push xs x) in subst (λ (i : ℕ). Fit n ys i (node ys i)) (sym q) (subst (Fit n ys (length xs)) (sym (node_last xs x)) (fit_ext n xs ys e (length xs) x (omega arith) f)))
      (cases_lt k (length xs));
  once = λ j k hj hk p. ⊎_elim
      (λ lj. ⊎_elim
      (λ lk. s.once j k lj lk (sym (e.kept j lj) ∙ p ∙ e.kept k lk))
      (λ gk. absurd (absent j lj (sym (e.kept j lj) ∙ p ∙ at_last k gk hk)))
      (cases_lt k (length xs)))
      (λ gj. ⊎_elim
      (λ lk. absurd (absent k lk (sym (e.kept k lk) ∙ sym p ∙ at_last j gj hj)))
      (λ gk. omega (arith, length_push xs x))
      (cases_lt k (length xs)))
      (cases_lt j (length xs));
}
  where
    ys : List Node
    ys = xs ++ x ∷ []

    e : Ext xs ys
    e = push_ext xs x

    at_last : (k : ℕ) → length xs ≤ k → k < length ys → node ys k ≡ x
    at_last k g h = let q : k ≡ length xs = omega (arith, length_push xs x) in subst (λ (i : ℕ). node ys i ≡ x) (sym q) (node_last xs x)

-- the front of a sound list is sound
pub front_sound : (n : ℕ) (xs ys : List Node) → Ext xs ys → Sound n ys → Sound n xs
front_sound n xs ys e s = record {
  fit = λ k h.
      let l : k < length ys = omega (arith, e.longer) in
      let f = s.fit k l in
      subst (Fit n xs k) (e.kept k h) (record {
        below = f.below;
        earlier = f.earlier;
        under = λ t. let c = f.earlier t in let u = f.under t in omega (arith, top_ext n xs ys e (child (node ys k) t) (omega arith));
        differ = f.differ;
      });
  once = λ j k hj hk p. s.once j k (omega (arith, e.longer)) (omega (arith, e.longer)) (e.kept j hj ∙ p ∙ sym (e.kept k hk));
}

pub take_ext : (u : ℕ) (xs : List Node) → Ext (take u xs) xs
take_ext u xs = let l = length-take u xs in record { longer = omega arith; kept = λ k h. sym (get_or-take u xs k blank (omega arith)) }

-- a list that is no longer than its front
pub ext_same : (xs ys : List Node) → Ext xs ys → length ys ≡ length xs → ys ≡ xs
ext_same xs ys e l = ext_get_or blank ys xs l (λ i lt. e.kept i (omega arith))

-- the front of as many as there were is what there was
pub ext_front : (xs ys : List Node) → Ext xs ys → take (length xs) ys ≡ xs
ext_front xs ys e =
    let l = length-take (length xs) ys in
    let g = e.longer in
    ext_get_or blank (take (length xs) ys) xs (omega arith) (λ i lt. get_or-take (length xs) ys i blank (omega arith) ∙ e.kept i (omega arith))
