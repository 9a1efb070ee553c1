-- What a store shows under an order is lawful, and its answers are those of the store below.
use Rattle.std.proofs.Common.{◌≡◌, ℕ, ◌+◌, ◌<◌, ◌≤◌, Bool, true, List, Ok, Err, Result, refl, sym, ap, ◌∙◌, subst, ap₂, arith}
use mathlib.Core.Path.{fun_ext}
use Rattle.std.proofs.lemmas.Bool.Decides.{same_from_decides, Decides-like}
use Rattle.store.specs.declared.refusal.Refusal.{Refusal}
use Rattle.store.specs.declared.refusal.Refusal.TheVariants.{Number, Variable, Room}
use Rattle.store.specs.Fun.{Fn, Same}
use Rattle.store.specs.Meaning.{Shown, Lawful, holds, price, free}
use Rattle.store.specs.Calls.{Answers, Reply}
use Rattle.store.proofs.Same.{holds_tells, holds_like, same_sym, same_trans}
use Rattle.order.specs.Listing.{order_of}
use Rattle.order.specs.Renaming.{placed, taken, above, below, lifted, renamed, ordered}
use Rattle.order.specs.Facts.{Permutes, StandsFor, Renames, Reorders}
use Rattle.order.proofs.Lists.{permutes_order}
use Rattle.order.proofs.Permute.{above_same, above_back, above_stands, below_stands, stands_above, stands_below, placed_lt, places_placed, places_taken, taken_lt}

module _ (p : ℕ → ℕ) (s : Shown) (o : Permutes s.vars p) where
  holds_above : (g : Fn) → holds (renamed p s) (above p s.vars g) ≡ holds s g
  holds_above g = same_from_decides _ _
      (Decides-like (holds (renamed p s) (above p s.vars g))
      (λ t. (t.0, t.1, (t.2.0, above_back s.vars p o _ _ t.2.1)))
      (λ t. (t.0, t.1, (t.2.0, above_same s.vars p o _ _ t.2.1)))
      (holds_tells (renamed p s) (above p s.vars g)))
      (holds_tells s g)

  pub holds_as : (f g : Fn) → StandsFor s.vars p f g → holds (renamed p s) f ≡ holds s g
  holds_as f g e = holds_like (renamed p s) f (above p s.vars g) (stands_above s.vars p o f g e) ∙ holds_above g

  -- a price under the order is a price below
  pub price_is : (f : Fn) → price (renamed p s) f ≡ price s (below p s.vars f)
  price_is f = ap (λ (h : Fn → Bool). s.tariff h (below p s.vars f)) (fun_ext holds_above)

  pub price_as : Lawful s → (f g : Fn) → StandsFor s.vars p f g → price (renamed p s) f ≡ price s g
  price_as l f g e = price_is f ∙ l.alike _ _ (stands_below s.vars p o f g e)

  lawful_renamed : Lawful s → Lawful (renamed p s)
  lawful_renamed l = record {
    few = l.few;
    within = l.within;
    narrow = l.narrow;
    no = (l.no.0, above_same s.vars p o _ _ l.no.1);
    yes = (l.yes.0, above_same s.vars p o _ _ l.yes.1);
    apart = λ a b ha hb e. l.apart a b ha hb (above_back s.vars p o _ _ e);
    bounded = λ f. subst (λ (k : ℕ). k ≤ s.top) (sym (price_is f)) (l.bounded _);
    alike = λ f g e. price_is f ∙ l.alike _ _ (λ v h. e (taken p s.vars v) (taken_lt p s.vars s.vars v (omega arith) h)) ∙ sym (price_is g);
    gratis = λ f h. price_is f ∙ l.gratis _ (sym (holds_as f _ (below_stands s.vars p o f)) ∙ h);
    priced = λ f z. holds_as f _ (below_stands s.vars p o f) ∙ l.priced _ (sym (price_is f) ∙ z);
  }

  renames : Renames s.vars p
  renames = record {
    permutes = o;
    placed = λ w h. (placed p s.vars w, (placed_lt s.vars p o s.vars w (omega arith) h, places_placed s.vars p o w));
    taken = λ v h. (taken p s.vars v, (taken_lt p s.vars s.vars v (omega arith) h, places_taken s.vars p o v));
    below = λ f. (below p s.vars f, below_stands s.vars p o f);
    above = λ g. (above p s.vars g, above_stands s.vars p o g);
  }

  pub reorders : Lawful s → Reorders p s (renamed p s)
  reorders l = record {
    lawful = lawful_renamed l;
    renames = renames;
    vars = refl;
    held = λ a. refl;
    used = refl;
    capacity = refl;
    top = refl;
    value = λ a. above_stands s.vars p o (s.value a);
    price = price_as l;
  }

-- the store under the order that a list gives
module _ (xs : List ℕ) (s : Shown) (l : Lawful s) where
  o : Permutes s.vars (order_of s.vars xs)
  o = permutes_order s.vars xs

  pub lawful_ordered : Lawful (ordered xs s)
  lawful_ordered = lawful_renamed _ s o l

  abbrev up : Fn → Fn
  up = above (order_of s.vars xs) s.vars

  -- a function of the exit store, as it stands above
  kept_above : (t : Shown) (e : t.vars ≡ s.vars) (f g : Fn) → Same s.vars f g → Same s.vars (above (order_of t.vars xs) t.vars f) (up g)
  kept_above t e f g h = subst (λ n. Same s.vars (above (order_of n xs) n f) (up g)) (sym e) (above_same s.vars _ o _ _ h)

  answers_ordered : (t : Shown) (f g : Fn) (r : Result ℕ Refusal) → StandsFor s.vars (order_of s.vars xs) f g → Answers s t g r
      → Answers (ordered xs s) (ordered xs t) f r
  answers_ordered t f g (Ok a) h m =
      let e = m.grown.vars in
      let c = price_as _ s o l f g h in
      record {
        grown = record {
          vars = e;
          capacity = m.grown.capacity;
          top = m.grown.top;
          tariff = ap₂ (λ n (u : (Fn → Bool) → Fn → ℕ). lifted (order_of n xs) n u) e m.grown.tariff;
          kept = λ b q. let k = m.grown.kept b q in (k.0, kept_above t e _ _ k.1);
        };
        held = m.held;
        means = same_trans s.vars _ _ _ (kept_above t e _ _ m.means) (same_sym s.vars _ _ (stands_above s.vars _ o f g h));
        afforded = subst (λ k. k ≤ free s) (sym c) m.afforded;
        paid = m.paid ∙ ap (λ k. s.used + k) (sym c);
        still = λ q. ap (ordered xs) (m.still (sym (holds_as _ s o f g h) ∙ q));
        fresh = λ q. m.fresh (sym (holds_as _ s o f g h) ∙ q);
      }
  answers_ordered t f g (Err (Room u)) h m =
      (ap (ordered xs) m.0, subst (λ k. free s < k) (sym (price_as _ s o l f g h)) m.1, m.2)
  answers_ordered t f g (Err Number) h m = absurd m
  answers_ordered t f g (Err Variable) h m = absurd m

  pub reply_ordered : (t : Shown) (held within : Bool) (f g : Fn) (r : Result ℕ Refusal)
      → (within ≡ true → StandsFor s.vars (order_of s.vars xs) f g) → Reply s t held within g r → Reply (ordered xs s) (ordered xs t) held within f r
  reply_ordered t held within f g r h q = record {
    lawful = lawful_ordered;
    after = lawful_renamed _ t (permutes_order t.vars xs) q.after;
    number = λ n. let e = q.number n in (ap (ordered xs) e.0, e.1);
    variable = λ y n. let e = q.variable y n in (ap (ordered xs) e.0, e.1);
    answers = λ y z. answers_ordered t f g r (h z) (q.answers y z);
  }
