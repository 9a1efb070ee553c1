use Rattle.making.proofs.Lengths.{load_texts, load_length, advance_length}
use Rattle.making.proofs.laws.lists_are_short.Goals as goal

pub returns : goal.returns
returns c m = record {
  load = λ a p x y. load_texts m x y;
  load_operators = load_length m;
  advance = advance_length m;
}
