-- Lists of making calls, and what becomes of a store when such a list is made.
use Rattle.std.specs.Prelude.{◌≡◌, ℕ, zero, suc, ◌<◌, true, cond, List, [], ◌∷◌, ◌++◌, slice_index, slice_index_or}
use Rattle.store.specs.Fun.{Fn, Same}
use Rattle.store.specs.Meaning.{Shown, Lawful, Made, holds, price, free}
use Rattle.description.specs.declared.part.Part.{Part}
use Rattle.runs.specs.Functions.{negated}
use Rattle.making.specs.declared.parts.Polarities.{Polarities}

-- a making call, by its result, with the part and the place of its refusal
pub record Item : Type 0 where
  pub part : Part
  pub place : ℕ
  pub fn : Fn

-- calls of one part and place
abbrev pub at : Part → ℕ → List Fn → List Item
at p l [] = []
at p l (f ∷ fs) = record { part = p; place = l; fn = f } ∷ at p l fs

-- F 0, then F 1, up to F (n - 1)
abbrev pub upto : ℕ → (ℕ → List Item) → List Item
upto zero F = []
upto (suc n) F = upto n F ++ F n

-- each call of the list was accepted, in this order, between s and t, and left a lawful store
pub data Runs : Shown → List Item → Shown → Type 0 where
  ended : {s : Shown} → Runs s [] s
  went :
      {s t u : Shown} {x : Item} {xs : List Item} (a : ℕ)
      → Lawful s
      → Made s t x.fn a
      → Lawful t
      → Runs t xs u
      → Runs s (x ∷ xs) u

-- the calls before x were accepted, in this order, and x was refused for room: its price exceeded the free units at t
pub data Stops : Shown → List Item → Item → Shown → Type 0 where
  here : {s : Shown} {x : Item} {xs : List Item} → Lawful s → free s < price s x.fn → Stops s (x ∷ xs) x s
  later : {s t u : Shown} {x y : Item} {xs : List Item} (a : ℕ) → Lawful s → Made s t x.fn a → Stops t xs y u → Stops s (x ∷ xs) y u

-- number a is held and is f
pub record Means (s : Shown) (a : ℕ) (f : Fn) : Type 0 where
  pub held : s.held a ≡ true
  pub same : Same s.vars (s.value a) f

-- the lowest n numbers are those of the functions f 0 to f (n - 1)
abbrev pub Numbered : Shown → List ℕ → (ℕ → Fn) → ℕ → Type 0
Numbered s numbers f n = (i : ℕ) → i < n → Means s (slice_index numbers i) (f i)

-- the two numbers are those of f and of its negation
pub record Polar (s : Shown) (p : Polarities) (f : Fn) : Type 0 where
  pub function : Means s p.function f
  pub negation : Means s p.negation (negated f)

abbrev pub unpaired : Polarities
unpaired = record { function = 0; negation = 0 }

-- the lowest n pairs are those of the functions f 0 to f (n - 1)
abbrev pub Paired : Shown → List Polarities → (ℕ → Fn) → ℕ → Type 0
Paired s pairs f n = (i : ℕ) → i < n → Polar s (slice_index_or pairs i unpaired) (f i)

-- every result of the list is held
pub data Held (t : Shown) : List Item → Type 0 where
  none : Held t []
  more : {x : Item} {xs : List Item} → holds t x.fn ≡ true → Held t xs → Held t (x ∷ xs)

-- the first call of a list whose result is not held
pub data Found : Type 0 where
  all : Found
  first : Item → Found

abbrev pub missing : Shown → List Item → Found
missing t [] = all
missing t (x ∷ xs) = cond (holds t x.fn) (missing t xs) (first x)
