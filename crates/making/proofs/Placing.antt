-- A refusal gains the part and the place of its call.
use Rattle.std.proofs.Common.{◌≡◌, ℕ, zero, suc, List, [], ◌∷◌, ◌++◌, IfOk, Ok, Err, Result, sym, refl, ap, ◌∙◌, subst, arith}
use Rattle.store.specs.declared.refusal.Refusal.{Refusal}
use Rattle.store.specs.declared.refusal.Refusal.TheVariants.{Variable}
use Rattle.store.specs.Fun.{Fn}
use Rattle.store.specs.Meaning.{Shown, free}
use Rattle.description.specs.declared.part.Part.{Part}
use Rattle.description.specs.declared.part.Part.TheVariants.{Circuit}
use Rattle.making.specs.Faults.{Fault}
use Rattle.making.specs.declared.fault.Fault.TheVariants as fault
use Rattle.making.specs.Making.{Item, at, upto, Runs, Stops, here, later}
use Rattle.making.specs.Ends.{Ends, made, stuck, plain, located, Lacks, lacked, filled, placed, placing}
use Rattle.making.specs.Pieces.{variables_list}
use Rattle.making.proofs.Steps.{runs_of, lacks_none, lacks_other}

-- each call of the list is of part p and place l
abbrev pub Lies : Part → ℕ → List Item → Type 0
Lies p l [] = Unit {0}
Lies p l (x ∷ xs) = (x.part ≡ p) × (x.place ≡ l) × Lies p l xs

pub lies_at : (p : Part) (l : ℕ) (fs : List Fn) → Lies p l (at p l fs)
lies_at p l [] = tt
lies_at p l (f ∷ fs) = (refl, refl, lies_at p l fs)

pub lies_++ : (p : Part) (l : ℕ) (xs ys : List Item) → Lies p l xs → Lies p l ys → Lies p l (xs ++ ys)
lies_++ p l [] ys a b = b
lies_++ p l (x ∷ xs) ys a b = (a.0, a.1, lies_++ p l xs ys a.2 b)

pub lies_upto : (p : Part) (l : ℕ) (F : ℕ → List Item) → ((i : ℕ) → Lies p l (F i)) → (n : ℕ) → Lies p l (upto n F)
lies_upto p l F h zero = tt
lies_upto p l F h (suc n) = lies_++ p l (upto n F) (F n) (lies_upto p l F h n) (h n)

pub lies_variables : (n : ℕ) → Lies Circuit 0 (variables_list n)
lies_variables = lies_upto Circuit 0 _ (λ i. (refl, refl, tt))

stops_lies : {s t : Shown} {x : Item} (p : Part) (l : ℕ) {xs : List Item} → Lies p l xs → Stops s xs x t → (x.part ≡ p) × (x.place ≡ l)
stops_lies p l h (here w q) = (h.0, h.1)
stops_lies p l h (later a w m q) = stops_lies p l h.2 q

pub gained : {X : Type 0} {P : X → Type 0} {s t : Shown} (p : Part) (l : ℕ) {xs : List Item} {r : Result X Refusal} → Lies p l xs → Ends plain s t xs P r → Ends located s t xs P (placed p l r)
gained p l h (made q k) = made q k
gained {t = t} p l h (stuck {e = e} y q k) =
    let w = stops_lies p l h q in
    stuck y q (ap (placing p l) k ∙ ap (λ z. fault.Room z l (free t)) (sym w.0) ∙ ap (λ z. fault.Room y.part z (free t)) (sym w.1))

lacks_gained : {X : Type 0} {s t : Shown} (p : Part) (l : ℕ) {r : Result X Refusal} → Lies p l (variables_list s.vars) → Lacks plain Variable s t r → Lacks located fault.Variable s t (placed p l r)
lacks_gained p l h (lacked q k) = lacked q (ap (placing p l) k)
lacks_gained {t = t} p l h (filled y q k) =
    let w = stops_lies p l h q in
    filled y q (ap (placing p l) k ∙ ap (λ z. fault.Room z l (free t)) (sym w.0) ∙ ap (λ z. fault.Room y.part z (free t)) (sym w.1))

-- the two ways of a `?` on a placed answer
module _ {X : Type 0} {P : X → Type 0} {s t : Shown} (p : Part) (l : ℕ) {xs : List Item} (r : Result X Refusal) {z : Result X Fault} (is : z ≡ placed p l r) (lies : Lies p l xs) (ends : Ends plain s t xs P r) where
  pub placed_err : {e : Fault} → z ≡ Err e → Ends located s t xs P (Err e)
  placed_err was = subst (Ends located s t xs P) (sym is ∙ was) (gained p l lies ends)

  pub placed_ok : {x : X} → z ≡ Ok x → Runs s xs t × P x
  placed_ok was = runs_of (subst (Ends located s t xs P) (sym is ∙ was) (gained p l lies ends))

-- what a call says of its answer, after the answer was placed
pub placed_made : {X : Type 0} (P : X → Type 0) (p : Part) (l : ℕ) (r : Result X Refusal) {z : Result X Fault} {x : X} → z ≡ placed p l r → z ≡ Ok x → IfOk r P → P x
placed_made P p l (Ok y) {z} {x} is was h = let e : y ≡ x = cc in subst P e h
placed_made P p l (Err e) {z} {x} is was h = let n : ◌≡◌ {A = ℕ} 0 1 = cc in absurd (omega arith)

-- a variable that was wanting, after the answer was placed
pub lacks_placed : {X Y : Type 0} {s t : Shown} (r : Result X Refusal) {z : Result X Fault} {e : Fault} → z ≡ placed Circuit 0 r → z ≡ Err e
    → Lacks plain Variable s t r → Lacks {X = Y} located fault.Variable s t (Err e)
lacks_placed {s = s} {t = t} r is was q = lacks_other (subst (Lacks located fault.Variable s t) (sym is ∙ was) (lacks_gained Circuit 0 (lies_variables s.vars) q))

pub lacks_unplaced : {X Y : Type 0} {s t : Shown} (r : Result X Refusal) {z : Result X Fault} {x : X} → z ≡ placed Circuit 0 r → z ≡ Ok x → Lacks plain Variable s t r → Y
lacks_unplaced (Ok y) is was q = lacks_none q
lacks_unplaced (Err e) is was q = let n : ◌≡◌ {A = ℕ} 0 1 = cc in absurd (omega arith)
