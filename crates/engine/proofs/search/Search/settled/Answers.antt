use Rattle.engine.proofs.Settlings.{is_unsafe}
use Rattle.engine.proofs.search.Search.settled.Goals as goal

pub returns-in-Unsafe : goal.returns-in-Unsafe
returns-in-Unsafe c = is_unsafe c.args.self.now c.len.result c.in-Unsafe.field-0 c.len.ensures.items c.in-Unsafe.is
