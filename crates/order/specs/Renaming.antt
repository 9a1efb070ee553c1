-- A store whose variable i is variable p(i) of the store below.
use Rattle.std.specs.Prelude.{ℕ, zero, suc, Bool, List}
use Rattle.store.specs.declared.task.Task.{Task}
use Rattle.store.specs.declared.task.Task.TheVariants.{Variable, Not, Both, Cofactor}
use Rattle.store.specs.Fun.{Fn, bit, fixed}
use Rattle.store.specs.Meaning.{Shown}
use Rattle.order.specs.Listing.{order_of}

-- the valuation below for w: its bit p(i) is bit i of w, for each i below n
abbrev pub placed : (ℕ → ℕ) → ℕ → ℕ → ℕ
placed p zero w = w
placed p (suc i) w = fixed (p i) (bit i w) (placed p i w)

-- the valuation above for v: its bit i is bit p(i) of v, for each i below n
abbrev pub taken : (ℕ → ℕ) → ℕ → ℕ → ℕ
taken p zero v = v
taken p (suc i) v = fixed i (bit (p i) v) (taken p i v)

-- the function g below, as it stands above, and f above, as it stands below
abbrev pub above : (ℕ → ℕ) → ℕ → Fn → Fn
above p n g w = g (placed p n w)

abbrev pub below : (ℕ → ℕ) → ℕ → Fn → Fn
below p n f v = f (taken p n v)

-- the price of f is the price below of f as it stands there
abbrev pub lifted : (ℕ → ℕ) → ℕ → ((Fn → Bool) → Fn → ℕ) → (Fn → Bool) → Fn → ℕ
lifted p n tariff held f = tariff (λ g. held (above p n g)) (below p n f)

abbrev pub renamed : (ℕ → ℕ) → Shown → Shown
renamed p s = record {
  vars = s.vars;
  held = s.held;
  value = λ a. above p s.vars (s.value a);
  used = s.used;
  capacity = s.capacity;
  top = s.top;
  tariff = lifted p s.vars s.tariff;
}

-- under the order that the list gives
abbrev pub ordered : List ℕ → Shown → Shown
ordered xs s = renamed (order_of s.vars xs) s

-- the task below: its variable i is p(i)
abbrev pub task_below : (ℕ → ℕ) → Task → Task
task_below p (Variable i) = Variable (p i)
task_below p (Not a) = Not a
task_below p (Both op a b) = Both op a b
task_below p (Cofactor a i t) = Cofactor a (p i) t
