use Rattle.std.proofs.Common.{◌≡◌, [], ◌∷◌, ◌++◌, length, get_or, IsErrAnd, Err, Result, ap, ◌∙◌}
use Rattle.store.specs.Fun.{bit}
use Rattle.store.specs.Meaning.{Shown, Lawful}
use Rattle.circuit.specs.Netlists.{gate_line}
use Rattle.circuit.specs.Reading.{netlist}
use Rattle.description.specs.declared.part.Part.TheVariants.{Circuit}
use Rattle.runs.specs.Functions.{copy}
use Rattle.runs.specs.Valuations.{line_fn}
use Rattle.making.specs.Faults.{Fault}
use Rattle.making.specs.declared.lines.Lines.{Lines}
use Rattle.runs.specs.Models.{Model}
use Rattle.making.specs.Models.{alone, width}
use Rattle.making.specs.Making.{Numbered}
use Rattle.making.specs.Ends.{made}
use Rattle.making.specs.Promises.{MakesLines}
use Rattle.making.proofs.Steps.{runs_grown, runs_of, runs_join, exits, ends_after, ends_before, ends_refused}
use Rattle.making.proofs.Loops.{numbered_kept}
use Rattle.making.proofs.Placing.{lies_variables, placed_err, placed_ok, placed_made, lacks_placed, lacks_unplaced}
use Rattle.making.proofs.Circuits.{valid_alone}
use Rattle.making.proofs.Joining.{zeroth}
use Rattle.making.proofs.load.make_lines.Goals as goal
use Rattle.making.proofs.load.make_lines.Goals.{After-push}

lines_exit : {s t : Shown} (m : Model) (r : Result Lines Fault) {e : Fault} → IsErrAnd r (λ y. y ≡ e) → MakesLines s m (Err e) t → MakesLines s m r t
lines_exit {s = s} {t = t} m r {e = e} is = exits (λ z. MakesLines s m z t) r e is

-- line 0 is there
begun : (g : _) (c : After-push g) → Lawful (g.S.Store.shows c.args.store.now)
    → Numbered (g.S.Store.shows c.args.store.now) c.push.new.self.items (line_fn (alone (netlist c.args.circuit.now))) 1
begun g c l = zeroth _ (valid_alone _ c.args.circuit.now.sound) _ l _ (ap (λ xs. get_or xs 0 0) (c.push.ensures.items ∙ ap (λ xs. xs ++ 0 ∷ []) c.new-numbers.ensures))

pub make_gates-requires : goal.make_gates-requires
make_gates-requires g c =
    placed_made (λ _. length c.make_variables-made.new.numbers.items ≡ gate_line (netlist c.args.circuit.now) 0) Circuit 0 c.make_variables-made.result c.place_at.ensures c.in_ok-copies.was
    c.make_variables-made.ensures.lines

pub invariant_of-result : goal.invariant_of-result
invariant_of-result g c = record {
  whole = c.in_ok-make_gates.ensures.whole;
  copied = placed_made (λ cs. length cs.items ≡ (netlist c.args.circuit.now).registers) Circuit 0 c.make_variables-made.result c.place_at.ensures c.in_ok-copies.was c.make_variables-made.ensures.copies;
}

pub returns-in_err-copies-clause-makes : goal.returns-in_err-copies-clause-makes
returns-in_err-copies-clause-makes g c =
    let n = netlist c.args.circuit.now in
    let k = c.make_variables-made.ensures.makes in
    lines_exit (alone n) c.from_residual.result c.from_residual.ensures.1 (record {
      lawful = k.lawful;
      wide = λ w.
          let variables = k.wide w (begun g (goal.at.returns-in_err-copies-clause-makes g c).After-push k.lawful) in
          ends_before _ (placed_err Circuit 0 c.make_variables-made.result c.place_at.ensures (lies_variables (width (alone n))) variables c.in_err-copies.was);
      narrow = λ l. lacks_placed c.make_variables-made.result c.place_at.ensures c.in_err-copies.was (k.narrow l);
    })

pub returns-in_err-make_gates-clause-makes : goal.returns-in_err-make_gates-clause-makes
returns-in_err-make_gates-clause-makes g c =
    let n = netlist c.args.circuit.now in
    let k = c.make_variables-made.ensures.makes in
    lines_exit (alone n) c.from_residual-in_err-make_gates.result c.from_residual-in_err-make_gates.ensures.1 (record {
      lawful = k.lawful;
      wide = λ w.
          let variables = k.wide w (begun g (goal.at.returns-in_err-make_gates-clause-makes g c).After-push k.lawful) in
          let r1 = placed_ok Circuit 0 c.make_variables-made.result c.place_at.ensures (lies_variables (width (alone n))) variables c.in_ok-copies.was in
          ends_after r1.0 (ends_refused (c.in_err-make_gates.ensures.gates r1.1.0));
      narrow = λ l. lacks_unplaced c.make_variables-made.result c.place_at.ensures c.in_ok-copies.was (k.narrow l);
    })

pub returns-clause-makes : goal.returns-clause-makes
returns-clause-makes g c =
    let n = netlist c.args.circuit.now in
    let k = c.make_variables-made.ensures.makes in record {
      lawful = k.lawful;
      wide = λ w.
          let variables = k.wide w (begun g (goal.at.returns-clause-makes g c).After-push k.lawful) in
          let r1 = placed_ok Circuit 0 c.make_variables-made.result c.place_at.ensures (lies_variables (width (alone n))) variables c.in_ok-copies.was in
          let r2 = runs_of (c.in_ok-make_gates.ensures.gates r1.1.0) in
          made (runs_join r1.0 r2.0) (r2.1.0, r2.1.1, numbered_kept c.in_ok-copies.copies.items (λ i. bit (copy i)) _ (runs_grown r2.0) r1.1.1);
      narrow = λ l. lacks_unplaced c.make_variables-made.result c.place_at.ensures c.in_ok-copies.was (k.narrow l);
    }
