-- What a layer answers, by what the store below answers.
use Rattle.std.specs.Prelude.{ℕ, ◌^◌, ◌<◌, ◌≤◌, Bool, Result}
use Rattle.store.specs.declared.refusal.Refusal.{Refusal}
use Rattle.store.specs.declared.task.Op.TheVariants.{And, Or}
use Rattle.store.specs.declared.task.Task.{Task}
use Rattle.store.specs.declared.task.Task.TheVariants.{Variable, Not, Both, Cofactor}
use Rattle.store.specs.Meaning.{Shown}
use Rattle.store.specs.Calls.{MakesVariable, MakesNot, MakesAnd, MakesOr, MakesCofactor, TellsValue}
use Rattle.order.specs.Facts.{Places}

-- the answer r to a making call is that of the store below, which shows s before and t after: to variable p(i) for
-- variable i, to the cofactor at p(i) for the cofactor at i, and to the same call for the others
abbrev pub AnswersAsBelow : (ℕ → ℕ) → Shown → Task → Result ℕ Refusal → Shown → Type 0
AnswersAsBelow p s (Variable i) r t = MakesVariable s (p i) r t
AnswersAsBelow p s (Not a) r t = MakesNot s a r t
AnswersAsBelow p s (Both And a b) r t = MakesAnd s a b r t
AnswersAsBelow p s (Both Or a b) r t = MakesOr s a b r t
AnswersAsBelow p s (Cofactor a i b) r t = MakesCofactor s a (p i) b r t

-- the truth r of number a at w is that which the store below tells at v, the valuation w there
pub record TellsAsBelow (p : ℕ → ℕ) (s : Shown) (a w : ℕ) (r : Result Bool Refusal) : Type 0 where
  pub v : ℕ
  pub within : w < 2 ^ s.vars → v < 2 ^ s.vars
  pub past : 2 ^ s.vars ≤ w → 2 ^ s.vars ≤ v
  pub placed : Places s.vars p w v
  pub told : TellsValue s a v r
