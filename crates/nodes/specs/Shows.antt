-- What a list of nodes shows to the user of a store.
use Rattle.std.specs.Prelude.{ℕ, ◌+◌, ◌-◌, ◌^◌, List, length, nat_lt}
use Rattle.store.specs.Meaning.{Shown}
use Rattle.nodes.specs.declared.Node.{Node}
use Rattle.nodes.specs.Graph.{value}
use Rattle.nodes.specs.Price.{cost}

abbrev pub shown : ℕ → List Node → ℕ → Shown
shown n xs capacity = record {
  vars = n;
  held = λ a. nat_lt a (length xs + 2);
  value = value xs;
  used = length xs;
  capacity = capacity;
  top = 2 ^ n - 1;
  tariff = cost n;
}
