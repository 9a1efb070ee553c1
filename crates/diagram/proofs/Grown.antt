-- In a list of nodes that has grown, a task asks for the same.
use Rattle.std.proofs.Common.{◌≡◌, ℕ, ◌+◌, ◌<◌, min, true, not, ltb, List, length, refl, ap, ◌∙◌, ap₂, arith}
use Rattle.std.proofs.lemmas.Bool.{ltb-true, lt-ltb, and_from, and_parts}
use Rattle.store.specs.Tasks.{applied, asked, Posed}
use Rattle.store.specs.Fun.{fixed}
use Rattle.nodes.specs.declared.Node.{Node}
use Rattle.nodes.specs.Graph.{value, top, Sound}
use Rattle.nodes.specs.Growth.{Ext}
use Rattle.nodes.specs.Shows.{shown}
use Rattle.nodes.proofs.Extend.{top_ext, value_ext}
use Rattle.store.specs.declared.task.Op.{Op}
use Rattle.store.specs.declared.task.Task.{Task}
use Rattle.store.specs.declared.task.Task.TheVariants.{Variable, Not, Both, Cofactor}
use Rattle.diagram.specs.Asked.{peak}

-- number a is held
abbrev pub Number : List Node → ℕ → Type 0
Number xs a = ltb a (length xs + 2) ≡ true

pub number : (xs : List Node) (a : ℕ) → Number xs a → a < length xs + 2
number xs a h = ltb-true a (length xs + 2) h

pub both_held : (n c : ℕ) (xs : List Node) (op : Op) (a b : ℕ) → Posed (shown n xs c) (Both op a b) → Number xs a × Number xs b
both_held n c xs op a b p = and_parts _ _ p.0

module _ (n m : ℕ) (xs ys : List Node) (b c : ℕ) (s : Sound n xs) (vars : m ≡ n) (x : Ext xs ys) where
  still_held : (a : ℕ) → Number xs a → Number ys a
  still_held a h = let l = number xs a h in lt-ltb a (length ys + 2) (omega (arith, x.longer))

  pub grown_posed : (task : Task) → Posed (shown n xs b) task → Posed (shown m ys c) task
  grown_posed (Variable i) p = (refl, ap (ltb i) vars ∙ p.1)
  grown_posed (Not a) p = (still_held a p.0, refl)
  grown_posed (Both op a d) p = let q = both_held n b xs op a d p in (and_from _ _ (still_held a q.0) (still_held d q.1), refl)
  grown_posed (Cofactor a i t) p = (still_held a p.0, ap (ltb i) vars ∙ p.1)

  still_top : (a : ℕ) → Number xs a → top m ys a ≡ top n xs a
  still_top a h = ap (λ k. top k ys a) vars ∙ top_ext n xs ys x a (number xs a h)

  pub grown_peak : (task : Task) → Posed (shown n xs b) task → peak m ys task ≡ peak n xs task
  grown_peak (Variable i) p = refl
  grown_peak (Not a) p = still_top a p.0
  grown_peak (Both op a d) p = let q = both_held n b xs op a d p in ap₂ min (still_top a q.0) (still_top d q.1)
  grown_peak (Cofactor a i t) p = still_top a p.0

  still_value : (a : ℕ) → Number xs a → (w : ℕ) → value ys a w ≡ value xs a w
  still_value a h w = value_ext n xs ys s x a w (number xs a h)

  pub grown_asked : (task : Task) → Posed (shown n xs b) task → (w : ℕ) → asked (shown m ys c) task w ≡ asked (shown n xs b) task w
  grown_asked (Variable i) p w = refl
  grown_asked (Not a) p w = ap not (still_value a p.0 w)
  grown_asked (Both op a d) p w = let q = both_held n b xs op a d p in ap₂ (applied op) (still_value a q.0 w) (still_value d q.1 w)
  grown_asked (Cofactor a i t) p w = still_value a p.0 (fixed i t w)
