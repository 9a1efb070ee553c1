use Rattle.uses.specs.Uses.{begun}
use Rattle.engine.proofs.session.Session.new.Goals as goal

pub returns-clause-begun : goal.returns-clause-begun
returns-clause-begun g c = begun
