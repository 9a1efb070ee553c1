-- What each call answers, by what the store shows before (s) and after (t).
use Rattle.std.specs.Prelude.{◌≡◌, ℕ, ◌^◌, ◌<◌, ◌≤◌, Bool, true, false, not, ◌&&◌, ◌||◌, Ok, Err, Result, nat_lt}
use Rattle.store.specs.declared.figures.Figures.{Figures}
use Rattle.store.specs.declared.refusal.Refusal.{Refusal}
use Rattle.store.specs.declared.refusal.Refusal.TheVariants.{Number, Variable, Room}
use Rattle.store.specs.Fun.{Fn, bit, fix}
use Rattle.store.specs.declared.task.Task.{Task}
use Rattle.store.specs.Meaning.{Shown, price, free, Lawful, Made}
use Rattle.store.specs.Tasks.{operands, within, asked}

-- the number of f, or the free units where the price of f exceeds them
abbrev pub Answers : Shown → Shown → Fn → Result ℕ Refusal → Type 0
Answers s t f (Ok a) = Made s t f a
Answers s t f (Err (Room u)) = (t ≡ s) × (free s < price s f) × (u ≡ free s)
Answers s t f (Err Number) = ⊥
Answers s t f (Err Variable) = ⊥

-- the answer to a making call of f: `held` says whether its operands are held, and `within` whether its variable is one of the store's
pub record Reply (s t : Shown) (held within : Bool) (f : Fn) (r : Result ℕ Refusal) : Type 0 where
  pub lawful : Lawful s
  pub after : Lawful t
  pub number : held ≡ false → (t ≡ s) × (r ≡ Err Number)
  pub variable : held ≡ true → within ≡ false → (t ≡ s) × (r ≡ Err Variable)
  pub answers : held ≡ true → within ≡ true → Answers s t f r

-- the answer to the task
abbrev pub Makes : Shown → Task → Result ℕ Refusal → Shown → Type 0
Makes s task r t = Reply s t (operands s task) (within s task) (asked s task) r

abbrev pub MakesVariable : Shown → ℕ → Result ℕ Refusal → Shown → Type 0
MakesVariable s i r t = Reply s t true (nat_lt i s.vars) (bit i) r

abbrev pub MakesNot : Shown → ℕ → Result ℕ Refusal → Shown → Type 0
MakesNot s a r t = Reply s t (s.held a) true (λ w. not (s.value a w)) r

abbrev pub MakesAnd : Shown → ℕ → ℕ → Result ℕ Refusal → Shown → Type 0
MakesAnd s a b r t = Reply s t (s.held a && s.held b) true (λ w. s.value a w && s.value b w) r

abbrev pub MakesOr : Shown → ℕ → ℕ → Result ℕ Refusal → Shown → Type 0
MakesOr s a b r t = Reply s t (s.held a && s.held b) true (λ w. s.value a w || s.value b w) r

abbrev pub MakesCofactor : Shown → ℕ → ℕ → Bool → Result ℕ Refusal → Shown → Type 0
MakesCofactor s a i t r u = Reply s u (s.held a) (nat_lt i s.vars) (fix i t (s.value a)) r

pub record TellsValue (s : Shown) (a w : ℕ) (r : Result Bool Refusal) : Type 0 where
  pub lawful : Lawful s
  pub number : s.held a ≡ false → r ≡ Err Number
  pub variable : s.held a ≡ true → 2 ^ s.vars ≤ w → r ≡ Err Variable
  pub value : s.held a ≡ true → w < 2 ^ s.vars → r ≡ Ok (s.value a w)

pub record TellsFigures (s : Shown) (r : Figures) : Type 0 where
  pub lawful : Lawful s
  pub variables : r.variables ≡ s.vars
  pub used : r.used ≡ s.used
  pub capacity : r.capacity ≡ s.capacity
  pub top : r.top_price ≡ s.top
