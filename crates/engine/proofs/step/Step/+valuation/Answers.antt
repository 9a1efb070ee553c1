use Rattle.std.proofs.Common.{◌-◌, ◌<◌, arith}
use Rattle.engine.proofs.Spreads.{spread_step, four, four_few}
use Rattle.engine.proofs.step.Step.+valuation.Goals as goal

pub overflow_mul-result : goal.overflow_mul-result
overflow_mul-result t c = let h = four_few (c.args.n - 1) (omega arith) in omega (arith, c.valuation.ensures.below)

pub overflow_add-result : goal.overflow_add-result
overflow_add-result t c = let h = four_few (c.args.n - 1) (omega arith) in omega (arith, c.valuation.ensures.below)

pub returns : goal.returns
returns t c =
    let p : 0 < c.args.n = omega arith in
    let e = four c.args.n p in
    record {
      is = let q = spread_step c.args.n c.args.self.state c.args.self.input p in cc;
      below = omega (arith, c.valuation.ensures.below, e);
    }
