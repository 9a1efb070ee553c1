-- Steps of a list of making calls.
use Rattle.std.proofs.Common.{◌≡◌, ℕ, ◌+◌, ◌^◌, ◌<◌, ◌≤◌, Bool, true, false, not, ◌&&◌, ◌||◌, ltb, List, [], ◌∷◌, ◌++◌, IsErrAnd, Ok, Err, Result, sym, refl, ap, ◌∙◌, subst, lt-ltb, arith}
use Rattle.std.proofs.lemmas.Bool.{and_from}
use Rattle.std.proofs.lemmas.Result.{err_from_is_err_and}
use Rattle.store.specs.declared.refusal.Refusal.{Refusal}
use Rattle.store.specs.declared.refusal.Refusal.TheVariants.{Number, Variable, Room}
use Rattle.store.specs.Fun.{Fn, Same, bit, fix, fixed}
use Rattle.store.proofs.Bit.{fixed_lt}
use Rattle.store.proofs.Same.{same_trans, holds_like}
use Rattle.store.specs.Meaning.{Shown, Lawful, Grown, Made, free}
use Rattle.store.specs.Calls.{Answers, Reply}
use Rattle.runs.specs.Functions.{negated, both, either}
use Rattle.making.specs.Making.{Item, Runs, ended, went, Stops, here, later, Means}
use Rattle.making.specs.Ends.{Ends, made, stuck, plain, Lacks, lacked, filled}
use Rattle.making.specs.Pieces.{variables_list}

-- a call whose result is f is one whose result is g
pub answers_like : (s t : Shown) (f g : Fn) (r : Result ℕ Refusal) → Lawful s → Same s.vars f g → Answers s t f r → Answers s t g r
answers_like s t f g (Ok a) l e m = record {
  grown = m.grown;
  held = m.held;
  means = same_trans s.vars _ _ _ m.means e;
  afforded = subst (λ p. p ≤ free s) (l.alike f g e) m.afforded;
  paid = m.paid ∙ ap (λ p. s.used + p) (l.alike f g e);
  still = λ h. m.still (holds_like s f g e ∙ h);
  fresh = λ h. m.fresh (holds_like s f g e ∙ h);
}
answers_like s t f g (Err (Room u)) l e m = (m.0, subst (λ p. free s < p) (l.alike f g e) m.1, m.2)
answers_like s t f g (Err Number) l e m = m
answers_like s t f g (Err Variable) l e m = m

pub kept : {s t : Shown} {a : ℕ} {f : Fn} → Grown s t → Means s a f → Means t a f
kept {s = s} {t = t} {a = a} g m = record {
  held = (g.kept a m.held).0;
  same = λ w h. let h' = subst (λ n. w < 2 ^ n) g.vars h in (g.kept a m.held).1 w h' ∙ m.same w h';
}

pub fresh : {s t : Shown} {a : ℕ} {f : Fn} → Made s t f a → Means t a f
fresh m = record { held = m.held; same = λ w h. m.means w (subst (λ n. w < 2 ^ n) m.grown.vars h) }

-- what each call answers on functions
pub variable_answers : {s t : Shown} {i : ℕ} {r : Result ℕ Refusal} → Reply s t true (ltb i s.vars) (bit i) r → i < s.vars → Answers s t (bit i) r
variable_answers {s = s} {i = i} y l = y.answers refl (lt-ltb i s.vars l)

pub not_answers : {s t : Shown} {a : ℕ} {f : Fn} {r : Result ℕ Refusal} → Reply s t (s.held a) true (λ w. not (s.value a w)) r → Means s a f → Answers s t (negated f) r
not_answers {s = s} {t = t} {f = f} {r = r} y m = answers_like s t _ (negated f) r y.lawful (λ w h. ap not (m.same w h)) (y.answers m.held refl)

pub and_answers : {s t : Shown} {a b : ℕ} {f g : Fn} {r : Result ℕ Refusal} → Reply s t (s.held a && s.held b) true (λ w. s.value a w && s.value b w) r
    → Means s a f → Means s b g → Answers s t (both f g) r
and_answers {s = s} {t = t} {f = f} {g = g} {r = r} y m n =
    answers_like s t _ (both f g) r y.lawful (λ w h. rw (m.same w h, n.same w h) refl) (y.answers (and_from _ _ m.held n.held) refl)

pub or_answers : {s t : Shown} {a b : ℕ} {f g : Fn} {r : Result ℕ Refusal} → Reply s t (s.held a && s.held b) true (λ w. s.value a w || s.value b w) r
    → Means s a f → Means s b g → Answers s t (either f g) r
or_answers {s = s} {t = t} {f = f} {g = g} {r = r} y m n =
    answers_like s t _ (either f g) r y.lawful (λ w h. rw (m.same w h, n.same w h) refl) (y.answers (and_from _ _ m.held n.held) refl)

pub fix_answers : {s t : Shown} {a i : ℕ} (v : Bool) {f : Fn} {r : Result ℕ Refusal} → Reply s t (s.held a) (ltb i s.vars) (fix i v (s.value a)) r
    → Means s a f → i < s.vars → Answers s t (fix i v f) r
fix_answers {s = s} {t = t} {i = i} v {f = f} {r = r} y m l =
    answers_like s t _ (fix i v f) r y.lawful (λ w h. m.same (fixed i v w) (fixed_lt s.vars i v w l h)) (y.answers m.held (lt-ltb i s.vars l))

pub grown_none : {s : Shown} → Grown s s
grown_none = record { vars = refl; capacity = refl; top = refl; tariff = refl; kept = λ a h. (h, (λ w _. refl)) }

pub grown_more : {s t u : Shown} → Grown s t → Grown t u → Grown s u
grown_more {s = s} g h = record {
  vars = h.vars ∙ g.vars;
  capacity = h.capacity ∙ g.capacity;
  top = h.top ∙ g.top;
  tariff = h.tariff ∙ g.tariff;
  kept = λ a k.
      let p = g.kept a k in
      let q = h.kept a p.0 in
      (q.0, (λ w l. q.1 w (subst (λ n. w < 2 ^ n) (sym g.vars) l) ∙ p.1 w l));
}

grown_same : {s t : Shown} → t ≡ s → Grown s t
grown_same {s = s} e = subst (Grown s) (sym e) grown_none

-- whatever is asked of a store, nothing that it had is lost
pub reply_grown : {s t : Shown} {h w : Bool} {f : Fn} {r : Result ℕ Refusal} → Reply s t h w f r → Grown s t
reply_grown {s = s} {t = t} {h = h} {w = w} {f = f} {r = r} y = by h w refl refl
  where
    answered : (r : Result ℕ Refusal) → Answers s t f r → Grown s t
    answered (Ok a) m = m.grown
    answered (Err (Room u)) m = grown_same m.0
    answered (Err Number) m = absurd m
    answered (Err Variable) m = absurd m

    by : (i j : Bool) → h ≡ i → w ≡ j → Grown s t
    by false j e d = grown_same (y.number e).0
    by true false e d = grown_same (y.variable e d).0
    by true true e d = answered r (y.answers e d)

pub runs_grown : {s t : Shown} {l : List Item} → Runs s l t → Grown s t
runs_grown ended = grown_none
runs_grown (went a l m w r) = grown_more m.grown (runs_grown r)

-- a store that is lawful afterwards was so before
pub runs_lawful : {s t : Shown} {l : List Item} → Runs s l t → Lawful t → Lawful s
runs_lawful ended h = h
runs_lawful (went a l m w r) h = l

pub stops_grown : {s t : Shown} {l : List Item} {x : Item} → Stops s l x t → Grown s t
stops_grown (here l p) = grown_none
stops_grown (later a l m r) = grown_more m.grown (stops_grown r)

pub runs_join : {s t u : Shown} {l k : List Item} → Runs s l t → Runs t k u → Runs s (l ++ k) u
runs_join ended q = q
runs_join (went a l m w r) q = went a l m w (runs_join r q)

pub stops_after : {s t u : Shown} {l k : List Item} {x : Item} → Runs s l t → Stops t k x u → Stops s (l ++ k) x u
stops_after ended q = q
stops_after (went a l m w r) q = later a l m (stops_after r q)

pub stops_before : {s t : Shown} {l : List Item} {x : Item} (k : List Item) → Stops s l x t → Stops s (l ++ k) x t
stops_before k (here l p) = here l p
stops_before k (later a l m r) = later a l m (stops_before k r)

-- a refused call
refused : {s t : Shown} {x : Item} {xs : List Item} → Lawful s → (e : Refusal) → Answers s t x.fn (Err e) → Stops s (x ∷ xs) x t × (e ≡ Room (free t))
refused {s = s} {x = x} {xs = xs} l (Room u) m = (subst (λ z. Stops s (x ∷ xs) x z) (sym m.0) (here l m.1), ap Room (m.2 ∙ ap free (sym m.0)))
refused l Number m = absurd m
refused l Variable m = absurd m

-- the last call of a list
pub gives_last :
    {s t : Shown} {x : Item}
    → Lawful s
    → Lawful t
    → (r : Result ℕ Refusal)
    → Answers s t x.fn r
    → Ends plain s t (x ∷ []) (λ a. Means t a x.fn) r
gives_last l w (Ok a) m = made (went a l m w ended) (fresh m)
gives_last {x = x} l w (Err e) m = let q = refused l e m in stuck x q.0 q.1

-- a call that was refused ends the list
pub ends_here : {X : Type 0} {P : X → Type 0} {s t : Shown} {x : Item} {xs : List Item} → Lawful s → (e : Refusal) → Answers s t x.fn (Err e) → Ends plain s t (x ∷ xs) P (Err e)
ends_here {x = x} l e m = let q = refused l e m in stuck x q.0 q.1

-- a call that was accepted leaves the rest
pub ends_later : {X E : Type 0} {room : Item → ℕ → E} {P : X → Type 0} {s t u : Shown} {x : Item} {xs : List Item} {a : ℕ} {r : Result X E}
    → Lawful s → Made s t x.fn a → Lawful t → Ends room t u xs P r → Ends room s u (x ∷ xs) P r
ends_later {a = a} l m w (made q k) = made (went a l m w q) k
ends_later {a = a} l m w (stuck y q k) = stuck y (later a l m q) k

-- a list that was made leaves the rest
pub ends_after : {X E : Type 0} {room : Item → ℕ → E} {P : X → Type 0} {s t u : Shown} {l k : List Item} {r : Result X E}
    → Runs s l t → Ends room t u k P r → Ends room s u (l ++ k) P r
ends_after m (made q k) = made (runs_join m q) k
ends_after m (stuck y q k) = stuck y (stops_after m q) k

-- a refusal ends any longer list
pub ends_before : {X Y E : Type 0} {room : Item → ℕ → E} {P : X → Type 0} {Q : Y → Type 0} {s t : Shown} {l : List Item} (k : List Item) {e : E}
    → Ends room s t l P (Err e) → Ends room s t (l ++ k) Q (Err e)
ends_before k (stuck y q w) = stuck y (stops_before k q) w

pub ends_refused : {X Y E : Type 0} {room : Item → ℕ → E} {P : X → Type 0} {Q : Y → Type 0} {s t : Shown} {l : List Item} {e : E}
    → Ends room s t l P (Err e) → Ends room s t l Q (Err e)
ends_refused (stuck y q w) = stuck y q w

pub runs_of : {X E : Type 0} {room : Item → ℕ → E} {P : X → Type 0} {s t : Shown} {l : List Item} {x : X} → Ends room s t l P (Ok x) → Runs s l t × P x
runs_of (made q k) = (q, k)

lacks_err : {X E : Type 0} {room : Item → ℕ → E} {v : E} {s t : Shown} {r : Result X E} → Lacks room v s t r → (e : E) × (r ≡ Err e)
lacks_err (lacked {e = e} q k) = (e, refl)
lacks_err (filled {e = e} y q k) = (e, refl)

-- no variable was wanting where a number was answered
pub lacks_none : {X E : Type 0} {room : Item → ℕ → E} {v : E} {s t : Shown} {x : X} {Y : Type 0} → Lacks room v s t (Ok x) → Y
lacks_none q = let k = (lacks_err q).1 in let n : ◌≡◌ {A = ℕ} 0 1 = cc in absurd (omega arith)

-- the same refusal, of another answer
pub lacks_other : {X Y E : Type 0} {room : Item → ℕ → E} {v : E} {s t : Shown} {e : E} → Lacks {X = X} room v s t (Err e) → Lacks {X = Y} room v s t (Err e)
lacks_other (lacked q k) = lacked q k
lacks_other (filled y q k) = filled y q k

pub lacks_room : {X Y E : Type 0} {room : Item → ℕ → E} {v : E} {P : X → Type 0} {s t : Shown} {e : E}
    → Ends room s t (variables_list s.vars) P (Err e) → Lacks {X = Y} room v s t (Err e)
lacks_room (stuck y q w) = filled y q w

-- another thing is said of the answer
pub ends_with : {X E : Type 0} {room : Item → ℕ → E} {P Q : X → Type 0} {s t : Shown} {l : List Item} {r : Result X E}
    → ((x : X) → Runs s l t → P x → Q x) → Ends room s t l P r → Ends room s t l Q r
ends_with f (made {x = x} q k) = made q (f x q k)
ends_with f (stuck y q w) = stuck y q w

-- the same list in other words
pub ends_as : {X E : Type 0} {room : Item → ℕ → E} {P : X → Type 0} {s t : Shown} {l k : List Item} {r : Result X E} → l ≡ k → Ends room s t l P r → Ends room s t k P r
ends_as {room = room} {P = P} {s = s} {t = t} {r = r} e q = subst (λ l. Ends room s t l P r) e q

-- the exit of a `?`
pub exits : {X E : Type 0} (P : Result X E → Type 0) (r : Result X E) (e : E) → IsErrAnd r (λ y. y ≡ e) → P (Err e) → P r
exits P r e b q =
    let p = err_from_is_err_and r b in
    subst P (sym p.1) (subst (λ y. P (Err y)) (sym p.2) q)

pub broke : {X E : Type 0} {room : Item → ℕ → E} {P : X → Type 0} {s t : Shown} {l : List Item} (r : Result X E) (e : E) → IsErrAnd r (λ y. y ≡ e)
    → Ends room s t l P (Err e) → Ends room s t l P r
broke {room = room} {P = P} {s = s} {t = t} {l = l} r e = exits (Ends room s t l P) r e
