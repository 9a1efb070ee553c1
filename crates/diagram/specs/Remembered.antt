-- What the memo of a diagram remembers.
use Rattle.std.specs.Prelude.{◌≡◌, ℕ, zero, suc, ◌+◌, ◌*◌, ◌/◌, ◌%◌, ◌^◌, ◌<◌, ◌≤◌, ◌==◌, cond, List, length, replicate, Some, None, Option, slice_index_or, slice_set}
use Rattle.store.specs.Tasks.{asked, Posed}
use Rattle.store.specs.Fun.{Same}
use Rattle.nodes.specs.declared.Node.{Node}
use Rattle.nodes.specs.Graph.{value, top}
use Rattle.nodes.specs.Shows.{shown}
use Rattle.store.specs.declared.task.Op.TheVariants.{And, Or}
use Rattle.store.specs.declared.task.Task.{Task}
use Rattle.store.specs.declared.task.Task.TheVariants.{Variable, Not, Both, Cofactor}
use Rattle.diagram.specs.declared.memo.Memo.{Memo}
use Rattle.diagram.specs.Asked.{peak}

-- the kind of a task and its operands, side by side
abbrev pub key : Task → ℕ
key (Both And a b) = a * 65536 + b
key (Both Or a b) = (65536 + a) * 65536 + b
key (Not a) = (2 * 65536 + a) * 65536
key (Cofactor a i t) = (3 * 65536 + a) * 65536 + (2 * i + cond t 1 0)
key (Variable i) = (4 * 65536 + i) * 65536

-- the place of a key in the table: the top 13 of 64 bits
unfoldable pub place : ℕ → ℕ
place k = k * 0x9e3779b97f4a7c15 % 2 ^ 64 / 2 ^ 51

-- the word that says that the number is there for the task
abbrev pub word : Task → ℕ → ℕ
word task number = 65536 * key task + number

abbrev pub by_kind : ℕ → ℕ → ℕ → Task
by_kind zero a b = Both And a b
by_kind (suc zero) a b = Both Or a b
by_kind (suc (suc zero)) a b = Not a
by_kind (suc (suc (suc zero))) a b = Cofactor a (b / 2) (b % 2 == 1)
by_kind (suc (suc (suc (suc k)))) a b = Variable a

-- the task and the number that a word is of
abbrev pub task_of : ℕ → Task
task_of s = by_kind (s / 2 ^ 48) (s / 2 ^ 32 % 65536) (s / 65536 % 65536)

abbrev pub number_of : ℕ → ℕ
number_of s = s % 65536

-- false and false is false
unfoldable pub all_blank : Memo
all_blank = record { slots = replicate 8192 0 }

abbrev pub slot : Memo → ℕ → ℕ
slot memo k = slice_index_or memo.slots k 0

-- with this number for the task
abbrev pub updated : Memo → Task → ℕ → Memo
updated memo task number = record { slots = slice_set memo.slots (place (key task)) (word task number) }

-- at the place of the task stands this number for it; else no number for it stands there
abbrev pub Recalls : Memo → Task → Option ℕ → Type 0
Recalls memo task (Some r) = (slot memo (place (key task)) ≡ word task r) × (r < 65536)
Recalls memo task None = slot memo (place (key task)) / 65536 ≡ key task → ⊥

-- number r is there for the task
abbrev pub Settles : ℕ → List Node → ℕ → Task → ℕ → Type 0
Settles n xs capacity task r = (r < length xs + 2) × (peak n xs task ≤ top n xs r) × Same n (value xs r) (asked (shown n xs capacity) task)

-- a task whose operands are held and whose variable is one of n, and a number that is there for it
pub record RightSlot (n : ℕ) (xs : List Node) (capacity : ℕ) (s : ℕ) : Type 0 where
  pub posed : Posed (shown n xs capacity) (task_of s)
  pub settles : Settles n xs capacity (task_of s) (number_of s)

-- every slot is right
pub record Right (n : ℕ) (xs : List Node) (capacity : ℕ) (memo : Memo) : Type 0 where
  pub at : (k : ℕ) → RightSlot n xs capacity (slot memo k)
