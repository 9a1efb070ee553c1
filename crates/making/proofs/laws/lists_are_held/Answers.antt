use Rattle.making.proofs.Bounds.{stops_bound, stops_missing, stops_above, runs_held, one_way, one_stop}
use Rattle.making.proofs.laws.lists_are_held.Goals as goal

pub returns : goal.returns
returns c = record {
  held = λ s t l r. runs_held r;
  refused = λ s t l x r. stops_missing r;
  above = λ s t l x r. stops_above r;
  covered = λ s t l x r. stops_bound r;
  one_way = λ s s' t l x r q. one_way r q;
  one_stop = λ s s' t l x y q r. one_stop q r;
}
