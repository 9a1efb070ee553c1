-- When a store can be made.
use Rattle.std.specs.Prelude.{ℕ, Bool, cond, ◌&&◌, Ok, Err, Result, nat_le}
use Rattle.store.specs.declared.refusal.Unfit.{Unfit}
use Rattle.store.specs.declared.refusal.Unfit.TheVariants.{Store}

-- whether a store of n variables, of at most `most`, can be made over so many records
abbrev pub fits : ℕ → ℕ → ℕ → Bool
fits n most records = nat_le 1 n && nat_le n most && nat_le records 65534

abbrev pub fitting : Bool → Result (Unit {0}) Unfit
fitting b = cond b (Ok tt) (Err Store)
