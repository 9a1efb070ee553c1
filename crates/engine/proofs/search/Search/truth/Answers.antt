use Rattle.std.proofs.Common.{ap, ◌∙◌}
use Rattle.description.specs.declared.part.Part.TheVariants.{Call}
use Rattle.making.specs.Ends.{placed}
use Rattle.making.specs.Loads.{registers_of}
use Rattle.engine.proofs.Readings.{answered}
use Rattle.engine.proofs.search.Search.truth.Goals as goal

pub returns-clause-tells : goal.returns-clause-tells
returns-clause-tells g c m f e h lq lv = c.place_at.ensures ∙ ap (placed Call 0)
    (answered _ (registers_of c.args.self.now.parts) m c.args.function c.args.step.state c.args.step.input c.valuation.result f (rw c.registers.ensures.counts at c.valuation.ensures.is) e h lq lv
    c.value-value.result c.value-value.ensures.told)
