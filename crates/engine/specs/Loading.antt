-- One load of a session.
use Rattle.std.specs.Prelude.{◌≡◌, cond, [], ◌==◌}
use Rattle.making.specs.declared.parts.Built.{Built}
use Rattle.uses.specs.declared.verdict.Verdict.TheVariants as verdict
use Rattle.engine.specs.declared.search.Search.{Search}

-- the numbers of a load, its set as the first, and the verdict with it
pub record BeginsFrom (b : Built) (k : Search) : Type 0 where
  pub parts : k.parts ≡ b.parts
  pub earlier : k.earlier.items ≡ []
  pub set : k.last.set ≡ b.set
  pub verdict : k.last.verdict ≡ cond (b.met == 0) verdict.Open (verdict.Unsafe 0)
