-- The numbers of the refusals.
use Rattle.std.specs.Prelude.{ℕ}
use Rattle.store.specs.declared.refusal.Refusal.{Refusal}
use Rattle.store.specs.declared.refusal.Refusal.TheVariants.{Number, Variable, Room}
use Rattle.store.specs.declared.refusal.Unfit.{Unfit}
use Rattle.store.specs.declared.refusal.Unfit.TheVariants.{Order, Store}

abbrev pub number_of : Refusal → ℕ
number_of (Room u) = 10
number_of Number = 16
number_of Variable = 17

abbrev pub number_of_unfit : Unfit → ℕ
number_of_unfit Order = 18
number_of_unfit Store = 19
