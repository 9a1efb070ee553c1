-- What a function that makes a list answers.
use Rattle.std.specs.Prelude.{◌≡◌, ℕ, ◌<◌, ◌≤◌, List, Ok, Err, Result}
use Rattle.store.specs.declared.refusal.Refusal.{Refusal}
use Rattle.store.specs.declared.refusal.Refusal.TheVariants as refusal
use Rattle.store.specs.Fun.{Fn}
use Rattle.store.specs.Meaning.{Shown, Lawful, free}
use Rattle.making.specs.declared.fault.Fault.{Fault as At}
use Rattle.making.specs.declared.fault.Fault.TheVariants as fault
use Rattle.making.specs.Faults.{Fault}
use Rattle.making.specs.Making.{Item, Runs, Stops, Means}
use Rattle.making.specs.Pieces.{variables_list}

-- the list l was made between s and t, and P is said of the answer; or a call of it was refused, and `room` says how
pub data Ends {X E : Type 0} (room : Item → ℕ → E) (s t : Shown) (l : List Item) (P : X → Type 0) : Result X E → Type 0 where
  made : {x : X} → Runs s l t → P x → Ends room s t l P (Ok x)
  stuck : {e : E} (y : Item) → Stops s l y t → e ≡ room y (free t) → Ends room s t l P (Err e)

-- a refusal as the store answers it, and with its part and place
abbrev pub plain : Item → ℕ → Refusal
plain y u = refusal.Room u

abbrev pub located : Item → ℕ → Fault
located y u = fault.Room y.part y.place u

-- the last result of the list is f, and its number is answered
abbrev pub Gives : {E : Type 0} → (Item → ℕ → E) → Shown → Shown → List Item → Fn → Result ℕ E → Type 0
Gives room s t l f r = Ends room s t l (λ a. Means t a f) r

-- a variable was asked for that the store has not: those that it has were made before, in their order, or one of them was refused for room
pub data Lacks {X E : Type 0} (room : Item → ℕ → E) (no_variable : E) (s t : Shown) : Result X E → Type 0 where
  lacked : {e : E} → Runs s (variables_list s.vars) t → e ≡ no_variable → Lacks room no_variable s t (Err e)
  filled : {e : E} (y : Item) → Stops s (variables_list s.vars) y t → e ≡ room y (free t) → Lacks room no_variable s t (Err e)

-- the store was lawful, and what became of it goes by whether it has n variables
pub record ByWidth {X E : Type 0} (room : Item → ℕ → E) (no_variable : E) (s t : Shown) (n : ℕ) (Wide : Type 0) (r : Result X E) : Type 0 where
  pub lawful : Lawful s
  pub wide : n ≤ s.vars → Wide
  pub narrow : s.vars < n → Lacks room no_variable s t r

-- a refusal gains its part and place
abbrev pub placing : {P : Type 0} → P → ℕ → Refusal → At P
placing p l refusal.Number = fault.Number
placing p l refusal.Variable = fault.Variable
placing p l (refusal.Room u) = fault.Room p l u

abbrev pub placed : {X P : Type 0} → P → ℕ → Result X Refusal → Result X (At P)
placed p l (Ok x) = Ok x
placed p l (Err e) = Err (placing p l e)
