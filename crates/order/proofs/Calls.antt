-- The calls of a layer, by those of the store below.
use Rattle.std.proofs.Common.{◌≡◌, ℕ, Bool, true, false, ltb, ◌^◌, ◌<◌, ◌≤◌, zero, suc, length, List, [], Ok, Err, Result, Option, MatchOption, Some, None, refl, sym, ap, ap₂, ◌∙◌, subst, ⊎_elim, arith}
use Rattle.std.proofs.lemmas.List.{get_or_past}
use mathlib.Core.Path.{fun_ext}
use Rattle.std.proofs.lemmas.Bool.{cases_lt, ltb-true, lt-ltb}
use Rattle.store.specs.declared.refusal.Refusal.{Refusal}
use Rattle.store.specs.declared.refusal.Refusal.TheVariants.{Number, Variable as OutOfRange, Room}
use Rattle.store.specs.declared.task.Op.TheVariants.{And, Or}
use Rattle.store.specs.declared.task.Task.{Task}
use Rattle.store.specs.declared.task.Task.TheVariants.{Variable, Not, Both, Cofactor}
use Rattle.store.specs.declared.figures.Figures.{Figures}
use Rattle.std.specs.Option.{UnwrapsOrElse}
use Rattle.order.specs.declared.order.Order.{Order}
use Rattle.store.specs.Fun.{Fn, bit, fix, fixed}
use Rattle.store.proofs.Bit.{fixed_own}
use Rattle.store.specs.Meaning.{Shown, Lawful}
use Rattle.store.specs.Calls.{Answers, Reply, Makes, TellsValue, TellsFigures}
use Rattle.order.specs.Listing.{is_order, order_of, place, Fits}
use Rattle.order.specs.Facts.{Permutes}
use Rattle.order.specs.Below.{AnswersAsBelow, TellsAsBelow}
use Rattle.order.specs.Renaming.{placed, above, ordered, task_below}
use Rattle.order.proofs.Lists.{is_order_tells, order_none, order_past, order_empty, place_is, permutes_order}
use Rattle.order.proofs.Permute.{placed_lt, placed_ge, places_placed, above_stands, fix_stands}
use Rattle.order.proofs.Rename.{reply_ordered, lawful_ordered}

-- a variable is one of the store's exactly if it is one below
within_below : (n : ℕ) (xs : List ℕ) (i : ℕ) → ltb (order_of n xs i) n ≡ ltb i n
within_below n xs i = ⊎_elim
    (λ h. lt-ltb _ n ((permutes_order n xs).within i h) ∙ sym (lt-ltb i n h))
    (λ h. ap (λ k. ltb k n) (order_past n xs i h))
    (cases_lt i n)

-- an answer by the same call below
same_ordered : (xs : List ℕ) (s t : Shown) (held : Bool) (f : Fn) (r : Result ℕ Refusal) → Lawful s → Reply s t held true f r
    → Reply (ordered xs s) (ordered xs t) held true (above (order_of s.vars xs) s.vars f) r
same_ordered xs s t held f r l q =
    reply_ordered xs s l t held true _ f r (λ _. above_stands s.vars _ (permutes_order s.vars xs) f) q

-- an answer to a making call by the call of the task below
pub task_ordered : (xs : List ℕ) (s t : Shown) (task : Task) (r : Result ℕ Refusal) → Lawful s → Makes s (task_below (order_of s.vars xs) task) r t
    → Makes (ordered xs s) task r (ordered xs t)
task_ordered xs s t (Variable i) r l q =
    let p = order_of s.vars xs in
    reply_ordered xs s l t true (ltb i s.vars) (bit i) (bit (p i)) r (λ y _ _ _ _ a. a i (ltb-true i s.vars y))
    (subst (λ (b : Bool). Reply s t true b (bit (p i)) r) (within_below s.vars xs i) q)
task_ordered xs s t (Not a) r l q = same_ordered xs s t _ _ r l q
task_ordered xs s t (Both op a b) r l q = same_ordered xs s t _ _ r l q
task_ordered xs s t (Cofactor a i b) r l q =
    let p = order_of s.vars xs in
    let o = permutes_order s.vars xs in
    reply_ordered xs s l t (s.held a) (ltb i s.vars) (fix i b ((ordered xs s).value a)) (fix (p i) b (s.value a)) r
    (λ y. fix_stands s.vars p o i b _ _ (ltb-true i s.vars y) (above_stands s.vars p o (s.value a)))
    (subst (λ (c : Bool). Reply s t (s.held a) c (fix (p i) b (s.value a)) r) (within_below s.vars xs i) q)

-- the call of the task below, by what it makes there
pub as_below : (p : ℕ → ℕ) (s t : Shown) (task : Task) (r : Result ℕ Refusal)
    → Makes s (task_below p task) r t
    → AnswersAsBelow p s task r t
as_below p s t (Variable i) r h = h
as_below p s t (Not a) r h = h
as_below p s t (Both And a b) r h = h
as_below p s t (Both Or a b) r h = h
as_below p s t (Cofactor a i b) r h = h

-- a making call leaves the number of variables
answers_vars : (s t : Shown) (f : Fn) (r : Result ℕ Refusal) → Answers s t f r → t.vars ≡ s.vars
answers_vars s t f (Ok a) m = m.grown.vars
answers_vars s t f (Err (Room u)) m = ap (λ x. x.vars) m.0
answers_vars s t f (Err Number) m = absurd m
answers_vars s t f (Err OutOfRange) m = absurd m

pub reply_vars : (s t : Shown) (held within : Bool) (f : Fn) (r : Result ℕ Refusal) → Reply s t held within f r → t.vars ≡ s.vars
reply_vars s t false within f r q = ap (λ x. x.vars) (q.number refl).0
reply_vars s t true false f r q = ap (λ x. x.vars) (q.variable refl refl).0
reply_vars s t true true f r q = answers_vars s t f r (q.answers refl refl)

-- variables that keep their place
placed_own : (p : ℕ → ℕ) → ((i : ℕ) → p i ≡ i) → (n w : ℕ) → placed p n w ≡ w
placed_own p e zero w = refl
placed_own p e (suc i) w = ap₂ (λ k v. fixed k (bit i w) v) (e i) (placed_own p e i w) ∙ fixed_own i w

-- an order of all variables of the store s, or of none
module _ (xs : List ℕ) (s : Shown) (once : is_order (length xs) xs ≡ true) (fits : Fits s.vars xs) where
  as_order : place xs ≡ order_of s.vars xs
  as_order = fun_ext (place_is s.vars xs once fits)

  -- what a making call answers, by the task v below
  module _ (t : Shown) (task v : Task) (r : Result ℕ Refusal) (e : v ≡ task_below (place xs) task)
      (h : Makes s v r t) where
    made_below : Makes s (task_below (order_of s.vars xs) task) r t
    made_below = subst (λ (j : Task). Makes s j r t) (e ∙ ap (λ (p : ℕ → ℕ). task_below p task) as_order) h

    pub made_ordered : Makes (ordered xs s) task r (ordered xs t)
    made_ordered = task_ordered xs s t task r h.lawful made_below

    pub made_as_below : AnswersAsBelow (order_of s.vars xs) s task r t
    made_as_below = as_below (order_of s.vars xs) s t task r made_below

  placed_is : (w : ℕ) → placed (place xs) (length xs) w ≡ placed (order_of s.vars xs) s.vars w
  placed_is w = ⊎_elim
      (λ h. ap₂ (λ (p : ℕ → ℕ) (n : ℕ). placed p n w) as_order (fits h))
      (λ h. let none : length xs ≡ 0 = omega arith in
      ap (λ n. placed (place xs) n w) none
      ∙ sym (placed_own (order_of s.vars xs) (λ i. sym (place_is s.vars xs once fits i) ∙ get_or_past xs i i (omega arith)) s.vars w))
      (cases_lt 0 (length xs))

  -- what the question of a value answers, by the valuation v below
  module _ (a w v : ℕ) (r : Result Bool Refusal) (e : v ≡ placed (place xs) (length xs) w)
      (h : TellsValue s a v r) where
    o : Permutes s.vars (order_of s.vars xs)
    o = permutes_order s.vars xs

    is : v ≡ placed (order_of s.vars xs) s.vars w
    is = e ∙ placed_is w

    told : TellsValue s a (placed (order_of s.vars xs) s.vars w) r
    told = subst (λ (j : ℕ). TellsValue s a j r) is h

    within : w < 2 ^ s.vars → placed (order_of s.vars xs) s.vars w < 2 ^ s.vars
    within = placed_lt s.vars _ o s.vars w (omega arith)

    past : 2 ^ s.vars ≤ w → 2 ^ s.vars ≤ placed (order_of s.vars xs) s.vars w
    past = placed_ge s.vars _ o s.vars w (omega arith)

    pub value_as_below : TellsAsBelow (order_of s.vars xs) s a w r
    value_as_below = record { v = _; within = within; past = past; placed = places_placed s.vars _ o w; told = told }

    pub value_ordered : TellsValue (ordered xs s) a w r
    value_ordered = record {
      lawful = lawful_ordered xs s h.lawful;
      number = told.number;
      variable = λ y m. told.variable y (past m);
      value = λ y m. told.value y (within m);
    }

pub figures_ordered : (xs : List ℕ) (s : Shown) (r : Figures) → TellsFigures s r → TellsFigures (ordered xs s) r
figures_ordered xs s r h = record {
  lawful = lawful_ordered xs s h.lawful;
  variables = h.variables;
  used = h.used;
  capacity = h.capacity;
  top = h.top;
}

-- the order that is found, or the one of no variables, is that of the list
pub order_found : (xs : List ℕ) (n : ℕ) (r : Option Order) (o : Order)
    → MatchOption r (is_order n xs ≡ false) (λ q. (is_order n xs ≡ true) × (q.places.items ≡ xs)) → UnwrapsOrElse r (λ q. q.places.items ≡ []) o
    → order_of n o.places.items ≡ order_of n xs
order_found xs n (Some q) o h u = ap (λ (r : Order). order_of n r.places.items) u ∙ ap (order_of n) h.1
order_found xs n None o h u = ap (order_of n) u ∙ fun_ext (λ i. order_empty n i ∙ sym (order_none n xs h i))

-- and it is of all variables, or of none
pub order_fits : (xs : List ℕ) (n : ℕ) (r : Option Order) (o : Order)
    → MatchOption r (is_order n xs ≡ false) (λ q. (is_order n xs ≡ true) × (q.places.items ≡ xs)) → UnwrapsOrElse r (λ q. q.places.items ≡ []) o
    → Fits n o.places.items
order_fits xs n (Some q) o h u _ = ap (λ (r : Order). length r.places.items) u ∙ ap length h.1 ∙ ((is_order_tells n xs).0 h.0).0
order_fits xs n None o h u l = absurd (omega (arith, ap length u))
