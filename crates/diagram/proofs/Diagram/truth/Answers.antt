use Rattle.std.proofs.Common.{◌≡◌, ◌/◌, ◌%◌, ◌^◌, None, eqb, sym, ◌∙◌, rules, arith}
use Rattle.store.proofs.Bit.{bit_shift}
use Rattle.nodes.specs.Graph.{node_under}
use Rattle.nodes.proofs.Values.{value_bare}
use Rattle.diagram.specs.Shows.{listed}
use Rattle.diagram.proofs.Fields.{read_of}
use Rattle.diagram.proofs.Diagram.truth.Goals as goal

pub overflow_shr-w : goal.overflow_shr-w
overflow_shr-w c =
    let d = c.args.self.now in
    let r = read_of d c.loop-node.at c.in-Some.node.now c.in-Some.ensures in
    omega (arith, r.below, d.wide)

pub loop-node-preserved : goal.loop-node-preserved
loop-node-preserved c =
    let x = c.in-Some.node.now in
    let r = read_of c.args.self.now c.loop-node.at x c.in-Some.ensures in
    let taken = bit_shift x.variable c.args.w in
    let down = r.picks c.args.w in
    cc

pub loop-node-smaller : goal.loop-node-smaller
loop-node-smaller c =
    let x = c.in-Some.node.now in
    let r = read_of c.args.self.now c.loop-node.at x c.in-Some.ensures in
    omega (arith, r.less (eqb (c.args.w / 2 ^ x.variable % 2) 1), c.child-at.ensures)

pub returns : goal.returns
returns c =
    let none : node_under (listed c.args.self.now) c.loop-node.at ≡ None = search rules in
    sym (value_bare (listed c.args.self.now) c.loop-node.at c.args.w none) ∙ c.loop-node.invariant
