-- What codes do to a stack of functions.
use Rattle.std.specs.Prelude.{◌≡◌, ℕ, ◌<◌, Bool, List, [], ◌∷◌, ◌++◌}
use Rattle.store.specs.Fun.{Fn}
use Rattle.store.specs.Meaning.{Shown, Lawful}
use Rattle.circuit.specs.declared.sort.Sort.{Sort}
use Rattle.claim.specs.declared.code.Act.{Act}
use Rattle.claim.specs.declared.code.Act.TheVariants.{Constant, Name, Not, And, Or}
use Rattle.claim.specs.declared.code.Code.{Code}
use Rattle.circuit.specs.Netlists.{limit}
use Rattle.claim.specs.Grammar.{named}
use Rattle.description.specs.declared.part.Part.{Part}
use Rattle.runs.specs.Functions.{negated, both, either}
use Rattle.runs.specs.Valuations.{claim_fn}
use Rattle.runs.specs.Models.{Model, sizes}
use Rattle.making.specs.Making.{Item, at, Means, Runs}

-- the functions of the entries of the stack, the top first
pub data Stacked (s : Shown) : List ℕ → List Fn → Type 0 where
  bare : Stacked s [] []
  on : {stack below : List ℕ} {a : ℕ} {f : Fn} {fs : List Fn} → stack ≡ below ++ a ∷ [] → Means s a f → Stacked s below fs → Stacked s stack (f ∷ fs)

pub record Standing (t : Shown) (stack : List ℕ) (fs : List Fn) : Type 0 where
  pub lawful : Lawful t
  pub stacked : Stacked t stack fs

-- what an act makes of a stack of functions, and the calls that it takes
pub data Acts (m : Model) : Act → List Fn → List Fn → List Fn → Type 0 where
  a_constant : {b : Bool} {fs : List Fn} → Acts m (Constant b) fs [] ((λ _. b) ∷ fs)
  a_name : {s : Sort} {i : ℕ} {fs : List Fn} → i < limit (sizes m.circuit) s → Acts m (Name s i) fs [] (claim_fn m (named 0 s i) ∷ fs)
  a_not : {f : Fn} {fs : List Fn} → Acts m Not (f ∷ fs) (negated f ∷ []) (negated f ∷ fs)
  a_and : {f g : Fn} {fs : List Fn} → Acts m And (g ∷ f ∷ fs) (both f g ∷ []) (both f g ∷ fs)
  a_or : {f g : Fn} {fs : List Fn} → Acts m Or (g ∷ f ∷ fs) (either f g ∷ []) (either f g ∷ fs)

-- codes one after the other
pub data Walks (m : Model) (part : Part) : List Code → List Fn → List Item → List Fn → Type 0 where
  w_none : {fs : List Fn} → Walks m part [] fs [] fs
  w_step : {x : Code} {xs : List Code} {fs gs hs l : List Fn} {k : List Item} → Acts m x.act fs l gs → Walks m part xs gs k hs → Walks m part (x ∷ xs) fs (at part x.place l ++ k) hs

-- part of a list of codes is walked
pub record Going (m : Model) (part : Part) (s t : Shown) (stack : List ℕ) (left : List Code) (all : List Item) (end : List Fn) : Type 0 where
  pub done : List Item
  pub rest : List Item
  pub on_stack : List Fn
  pub runs : Runs s done t
  pub standing : Standing t stack on_stack
  pub walks : Walks m part left on_stack rest end
  pub together : all ≡ done ++ rest
