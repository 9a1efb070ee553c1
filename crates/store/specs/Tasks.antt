-- What a task asks for, and which store can be asked.
use Rattle.std.specs.Prelude.{◌≡◌, ℕ, Bool, true, cond, not, ◌&&◌, ◌||◌, Ok, Err, Result, nat_lt}
use Rattle.store.specs.declared.refusal.Refusal.{Refusal}
use Rattle.store.specs.declared.refusal.Refusal.TheVariants.{Number, Variable as OutOfRange}
use Rattle.store.specs.declared.task.Op.{Op}
use Rattle.store.specs.declared.task.Op.TheVariants.{And, Or}
use Rattle.store.specs.declared.task.Task.{Task}
use Rattle.store.specs.declared.task.Task.TheVariants.{Variable, Not, Both, Cofactor}
use Rattle.store.specs.Fun.{Fn, bit, fix}
use Rattle.store.specs.Meaning.{Shown}

abbrev pub applied : Op → Bool → Bool → Bool
applied And x y = x && y
applied Or x y = x || y

-- whether its operands pass the test
abbrev pub names : (ℕ → Bool) → Task → Bool
names held (Variable i) = true
names held (Not a) = held a
names held (Both op a b) = held a && held b
names held (Cofactor a i t) = held a

-- whether its variable is one of n
abbrev pub ranges : ℕ → Task → Bool
ranges n (Variable i) = nat_lt i n
ranges n (Not a) = true
ranges n (Both op a b) = true
ranges n (Cofactor a i t) = nat_lt i n

-- whether its operands are held
abbrev pub operands : Shown → Task → Bool
operands s task = names s.held task

-- whether its variable is one of the store's
abbrev pub within : Shown → Task → Bool
within s task = ranges s.vars task

abbrev pub Posed : Shown → Task → Type 0
Posed s task = (operands s task ≡ true) × (within s task ≡ true)

-- the function
abbrev pub asked : Shown → Task → Fn
asked s (Variable i) w = bit i w
asked s (Not a) w = not (s.value a w)
asked s (Both op a b) w = applied op (s.value a w) (s.value b w)
asked s (Cofactor a i t) w = fix i t (s.value a) w

-- by whether the numbers are held, and whether the variable or the valuation is in range
abbrev pub allowed : Bool → Bool → Result (Unit {0}) Refusal
allowed held within = cond held (cond within (Ok tt) (Err OutOfRange)) (Err Number)
