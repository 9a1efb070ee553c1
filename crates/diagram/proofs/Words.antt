-- A word of the memo says the task and the number that it was made of.
use Rattle.std.proofs.Common.{◌≡◌, ℕ, ◌+◌, ◌*◌, ◌/◌, ◌%◌, ◌^◌, ◌<◌, ◌≤◌, ◌==◌, Bool, true, false, cond, List, length, ap, ◌∙◌, ap₂, arith}
use Rattle.std.proofs.lemmas.Bool.{ltb-true}
use Rattle.store.specs.Tasks.{Posed}
use Rattle.store.specs.declared.task.Op.TheVariants.{And, Or}
use Rattle.store.specs.declared.task.Task.{Task}
use Rattle.store.specs.declared.task.Task.TheVariants.{Variable, Not, Both, Cofactor}
use Rattle.nodes.specs.declared.Node.{Node}
use Rattle.nodes.specs.Shows.{shown}
use Rattle.diagram.specs.Remembered.{word, by_kind, task_of, number_of}
use Rattle.diagram.proofs.Grown.{Number, number, both_held}

task_at : (s k a b : ℕ) → s / 2 ^ 48 ≡ k → s / 2 ^ 32 % 65536 ≡ a → s / 65536 % 65536 ≡ b → task_of s ≡ by_kind k a b
task_at s k a b p q r = ap (λ x. by_kind x (s / 2 ^ 32 % 65536) (s / 65536 % 65536)) p ∙ ap₂ (by_kind k) q r

-- a variable and a truth in one number
halved : (i : ℕ) (t : Bool) → (2 * i + cond t 1 0) / 2 ≡ i
halved i true = omega arith
halved i false = omega arith

odd : (i : ℕ) (t : Bool) → ((2 * i + cond t 1 0) % 2 == 1) ≡ t
odd i true = let e : (2 * i + 1) % 2 ≡ 1 = omega arith in ap (λ x. x == 1) e
odd i false = let e : (2 * i + 0) % 2 ≡ 0 = omega arith in ap (λ x. x == 1) e

fits : (i : ℕ) (t : Bool) → i ≤ 24 → 2 * i + cond t 1 0 < 65536
fits i true l = omega arith
fits i false l = omega arith

pub number_in : (task : Task) (r : ℕ) → r < 65536 → number_of (word task r) ≡ r
number_in task r l = omega arith

module _ (n : ℕ) (xs : List Node) (c : ℕ) (wide : n ≤ 24) (few : length xs ≤ 65534) where
  small : (a : ℕ) → Number xs a → a < 65536
  small a h = omega (arith, number xs a h)

  pub task_in : (task : Task) (r : ℕ) → Posed (shown n xs c) task → r < 65536 → task_of (word task r) ≡ task
  task_in (Both And a b) r p l =
      let q = both_held n c xs And a b p in
      let la = small a q.0 in let lb = small b q.1 in task_at _ 0 a b (omega arith) (omega arith) (omega arith)
  task_in (Both Or a b) r p l =
      let q = both_held n c xs Or a b p in
      let la = small a q.0 in let lb = small b q.1 in task_at _ 1 a b (omega arith) (omega arith) (omega arith)
  task_in (Not a) r p l = let la = small a p.0 in task_at _ 2 a 0 (omega arith) (omega arith) (omega arith)
  task_in (Cofactor a i t) r p l =
      let la = small a p.0 in
      let li = ltb-true i n p.1 in
      let lb = fits i t (omega arith) in
      task_at _ 3 a (2 * i + cond t 1 0) (omega arith) (omega arith) (omega arith) ∙ ap₂ (Cofactor a) (halved i t) (odd i t)
  task_in (Variable i) r p l = let li = ltb-true i n p.1 in task_at _ 4 i 0 (omega arith) (omega arith) (omega arith)
