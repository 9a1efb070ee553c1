use Rattle.std.proofs.Common.{◌<◌, length, refl, arith}
use Rattle.std.proofs.lemmas.Result.{err_from_is_err_and}
use Rattle.nodes.specs.Graph.{Fit}
use Rattle.nodes.proofs.Build.{join_same}
use Rattle.nodes.proofs.Placing.{placed_ext, placed_sound, placed_low, placed_built, full_short}
use Rattle.diagram.specs.Shows.{listed, capacity}
use Rattle.diagram.proofs.Fields.{sound_of, few_of, right_of}
use Rattle.diagram.proofs.Remembering.{grown_right}
use Rattle.diagram.proofs.Diagram.join.Goals as goal
use Rattle.diagram.proofs.Diagram.join.Goals.{After-find_or_add, In_ok-find_or_add}

-- the node may stand at the next place
fit : (c : After-find_or_add) → Fit c.args.self.now.n (listed c.args.self.now) (length (listed c.args.self.now)) c.args.node
fit c = record { below = c.requires.below; earlier = c.requires.held; under = c.requires.under; differ = c.if-node.false }

pub returns-then-node : goal.returns-then-node
returns-then-node c =
    let d = c.args.self.now in
    record {
      vars = refl;
      capacity = refl;
      outcome = join_same d.n (listed d) (sound_of d) c.args.node.variable c.args.node.low c.args.node.high c.requires.below c.requires.held c.requires.under c.if-node.true;
    }

pub invariant_of-self : goal.invariant_of-self
invariant_of-self c =
    let d = c.args.self.now in
    let p = c.find_or_add.ensures in
    record {
      some = d.some;
      wide = d.wide;
      small = omega (arith, p.1, d.small);
      sound = ∣ placed_sound d.n (listed d) (capacity d) (sound_of d) _ (fit (goal.at.invariant_of-self c).After-find_or_add) c.find_or_add.result _ p.0 ∣₁;
      remembered = ∣ grown_right d.n (listed d) _ (capacity d) _ d.memo (sound_of d) (placed_ext (listed d) (capacity d) _ c.find_or_add.result _ p.0) (right_of d) ∣₁;
    }

pub returns-in_err-find_or_add : goal.returns-in_err-find_or_add
returns-in_err-find_or_add c =
    let d = c.args.self.now in
    let p = c.in_err-find_or_add.ensures in
    let r = err_from_is_err_and c.from_residual.result c.from_residual.ensures.1 in
    rw r.1 (record {
      vars = refl;
      capacity = p.1;
      outcome = full_short d.n (listed d) (capacity d) (sound_of d) _ (fit (goal.at.returns-in_err-find_or_add c).After-find_or_add) _ p.0;
    })

-- the place is one of the records
within : (c : In_ok-find_or_add) → c.in_ok-find_or_add.field-0 < capacity c.args.self.now
within c = let d = c.args.self.now in placed_low (listed d) (capacity d) _ c.in_ok-find_or_add.field-0 _ (few_of d) c.in_ok-find_or_add.ensures.0

pub overflow_cast-result : goal.overflow_cast-result
overflow_cast-result c = omega (arith, within c, c.args.self.now.small)

pub overflow_add-result : goal.overflow_add-result
overflow_add-result c = omega (arith, within c, c.args.self.now.small)

pub returns : goal.returns
returns c =
    let d = c.args.self.now in
    let p = c.in_ok-find_or_add.ensures in
    record {
      vars = refl;
      capacity = p.1;
      outcome = placed_built d.n (listed d) (capacity d) (sound_of d) _ (fit (goal.at.returns c).After-find_or_add) c.in_ok-find_or_add.field-0 _ p.0;
    }
