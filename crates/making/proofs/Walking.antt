-- Walks over the codes of a claim.
use Rattle.std.proofs.Common.{◌≡◌, ℕ, List, [], ◌∷◌, ◌++◌, Ok, Err, Result, sym, refl, ◌∙◌, subst, append_assoc, append-nil}
use Rattle.store.specs.declared.refusal.Refusal.{Refusal}
use Rattle.store.specs.Fun.{Fn}
use Rattle.store.specs.Meaning.{Shown, Lawful}
use Rattle.claim.specs.declared.code.Code.{Code}
use Rattle.claim.specs.Grammar.{Tree, const, named, neg, conj, disj, post, Known}
use Rattle.description.specs.declared.part.Part.{Part}
use Rattle.making.specs.Faults.{Fault}
use Rattle.runs.specs.Valuations.{claim_fn}
use Rattle.runs.specs.Models.{Model, sizes}
use Rattle.making.specs.Making.{Item, at, Runs, ended, Means}
use Rattle.making.specs.Pieces.{operators_list}
use Rattle.making.specs.Stacks.{Stacked, bare, Acts, a_constant, a_name, a_not, a_and, a_or, Standing, Walks, w_none, w_step, Going}
use Rattle.making.specs.Ends.{Ends, plain, located, placed}
use Rattle.making.proofs.Steps.{runs_join, ends_after, ends_before}
use Rattle.making.proofs.Placing.{lies_at, placed_err, placed_ok}
use Rattle.making.proofs.Stacking.{Popped, pops}

walks_join : {m : Model} {part : Part} {xs ys : List Code} {fs gs hs : List Fn} {l k : List Item} → Walks m part xs fs l gs → Walks m part ys gs k hs → Walks m part (xs ++ ys) fs (l ++ k) hs
walks_join w_none v = v
walks_join {m = m} {part = part} {ys = ys} {hs = hs} {k = k} (w_step {x = x} {xs = xs} {fs = fs} {l = a} {k = b} o w) v =
    subst (λ i. Walks m part (x ∷ (xs ++ ys)) fs i hs) (sym (append_assoc (at part x.place a) b k)) (w_step o (walks_join w v))

post_walks : (m : Model) (part : Part) (t : Tree) (fs : List Fn) → Known (sizes m.circuit) t → Walks m part (post t) fs (operators_list m part t) (claim_fn m t ∷ fs)
post_walks m part (const p b) fs k = w_step a_constant w_none
post_walks m part (named p s i) fs k = w_step (a_name k) w_none
post_walks m part (neg p t) fs k = walks_join (post_walks m part t fs k) (w_step a_not w_none)
post_walks m part (conj p t u) fs k =
    walks_join (post_walks m part t fs k.0) (walks_join (post_walks m part u (claim_fn m t ∷ fs) k.1) (w_step a_and w_none))
post_walks m part (disj p t u) fs k =
    walks_join (post_walks m part t fs k.0) (walks_join (post_walks m part u (claim_fn m t ∷ fs) k.1) (w_step a_or w_none))

pub going_left : {m : Model} {part : Part} {s t : Shown} {stack : List ℕ} {xs ys : List Code} {all : List Item} {end : List Fn} → xs ≡ ys → Going m part s t stack xs all end → Going m part s t stack ys all end
going_left {m = m} {part = part} {s = s} {t = t} {stack = stack} {all = all} {end = end} e going = subst (λ xs. Going m part s t stack xs all end) e going

module _ (m : Model) (part : Part) (s : Shown) where
  pub going_start : (xs : List Code) (t : Tree) → xs ≡ post t → Known (sizes m.circuit) t → Lawful s
      → Going m part s s [] xs (operators_list m part t) (claim_fn m t ∷ [])
  going_start xs t e k l = record {
    done = [];
    rest = operators_list m part t;
    on_stack = [];
    runs = ended;
    standing = record { lawful = l; stacked = bare };
    walks = subst (λ i. Walks m part i [] (operators_list m part t) (claim_fn m t ∷ [])) (sym e) (post_walks m part t [] k);
    together = refl;
  }

  module _ (t u : Shown) (stack stack' : List ℕ) (x : Code) (xs : List Code) (all : List Item) (end : List Fn)
      (going : Going m part s t stack (x ∷ xs) all end) (r : Result ℕ Refusal) {z : Result ℕ Fault} (is : z ≡ placed part x.place r)
      (acting : (p : Part) (l : ℕ) (fs gs k : List Fn) → Standing t stack fs → Acts m x.act fs k gs → Ends plain t u (at p l k) (λ a. Standing u (stack' ++ a ∷ []) gs) r) where
    pub going_next : {a : ℕ} → z ≡ Ok a → (stack'' : List ℕ) → stack'' ≡ stack' ++ a ∷ [] → Going m part s u stack'' xs all end
    going_next {a} was stack'' pushed = by going.on_stack going.rest going.walks going.standing going.together
      where
        by : (fs : List Fn) (rest : List Item) → Walks m part (x ∷ xs) fs rest end → Standing t stack fs → all ≡ going.done ++ rest → Going m part s u stack'' xs all end
        by fs rest (w_step {gs = gs} {l = l} {k = k} o w) d e =
            let b = placed_ok part x.place r is (lies_at part x.place l) (acting part x.place fs gs l d o) was in
            record {
              done = going.done ++ at part x.place l;
              rest = k;
              on_stack = gs;
              runs = runs_join going.runs b.0;
              standing = subst (λ st. Standing u st gs) (sym pushed) b.1;
              walks = w;
              together = e ∙ sym (append_assoc going.done (at part x.place l) k);
            }

    pub going_stop : {e : Fault} {X : Type 0} {P : X → Type 0} → z ≡ Err e → Ends located s u all P (Err e)
    going_stop {e = q} {P = P} was = by going.on_stack going.rest going.walks going.standing going.together
      where
        by : (fs : List Fn) (rest : List Item) → Walks m part (x ∷ xs) fs rest end → Standing t stack fs → all ≡ going.done ++ rest → Ends located s u all P (Err q)
        by fs rest (w_step {gs = gs} {l = l} {k = k} o w) d e =
            subst (λ i. Ends located s u i P (Err q)) (sym e)
            (ends_after going.runs (ends_before k (placed_err part x.place r is (lies_at part x.place l) (acting part x.place fs gs l d o) was)))

  pub going_end : (t : Shown) (stack stack' : List ℕ) (v : ℕ) (all : List Item) (f : Fn)
      → Going m part s t stack [] all (f ∷ []) → Popped stack v stack' → Runs s all t × (Lawful t × Means t v f)
  going_end t stack stack' v all f g h = by g.on_stack g.rest (f ∷ []) refl g.walks g.standing g.together
    where
      by : (fs : List Fn) (rest : List Item) (end : List Fn) → end ≡ f ∷ [] → Walks m part [] fs rest end → Standing t stack fs → all ≡ g.done ++ rest
          → Runs s all t × (Lawful t × Means t v f)
      by fs rest end e w_none d q =
          (subst (λ i. Runs s i t) (sym (q ∙ append-nil g.done)) g.runs, (d.lawful, (pops (subst (Stacked t stack) e d.stacked) h).0))
