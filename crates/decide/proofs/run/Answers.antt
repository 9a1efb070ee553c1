use Rattle.std.proofs.Common.{◌≡◌, Ok, Err, sym, ap, subst}
use Rattle.circuit.specs.Files.{sizes_at}
use Rattle.runs.specs.Models.{sizes as sizes_of}
use Rattle.description.specs.declared.source.Source.{Source}
use Rattle.job.specs.Frames.{Parts}
use Rattle.engine.specs.Keeping.{World, world}
use Rattle.decide.specs.declared.fault.Fault.TheVariants.{Frame as Unframed, Call}
use Rattle.decide.specs.Reports.{Reports, unframed}
use Rattle.decide.specs.Searches.{Ended}
use Rattle.decide.proofs.Sessions.{loaded_by, settled_by, Began}
use Rattle.decide.proofs.Right.{sizes_are, few_registers, refuses, not_begun, not_settled, concluded}
use Rattle.decide.proofs.run.Goals as goal
use Rattle.decide.proofs.run.Goals.{In_ok-settled}

abbrev parts : Source → Parts
parts s = record { circuit = s.circuit.now; assumption = s.assumption.now; property = s.property.now }

pub returns-in_err-source : goal.returns-in_err-source
returns-in_err-source g c =
    let w = world g.S.Store.shows c.args.session.now in
    refuses w.store c.args.job.now c.from_residual.result (Unframed c.in_err-source.field-0.0) w.store c.from_residual.ensures.1
    (unframed (sym c.in_err-source.ensures.answer))

pub returns-in_err-load : goal.returns-in_err-load
returns-in_err-load g c =
    let w = world g.S.Store.shows c.args.session.now in
    let v = world g.S.Store.shows c.load.new.self in
    refuses w.store c.args.job.now c.from_residual-in_err-load.result (Call c.in_err-load.field-0.0) v.store c.from_residual-in_err-load.ensures.1
    (not_begun w.store c.args.job.now (parts c.in_ok-source.source) (sym c.in_ok-source.ensures.answer) v.store c.in_err-load.field-0.0 (loaded_by w v c.requires c.in_err-load.ensures.next))

pub returns-in_err-settled : goal.returns-in_err-settled
returns-in_err-settled g c =
    let w = world g.S.Store.shows c.args.session.now in
    let u = world g.S.Store.shows c.load.new.self in
    let v = world g.S.Store.shows c.settle.new.self in
    let b = loaded_by w u c.requires c.in_ok-load.ensures.next in
    refuses w.store c.args.job.now c.from_residual-in_err-settled.result (Call c.in_err-settled.field-0.0) v.store c.from_residual-in_err-settled.ensures.1
    (not_settled w.store c.args.job.now (parts c.in_ok-source.source) (sym c.in_ok-source.ensures.answer) b.model b.describes c.in_err-settled.field-0.0 v.store
    (settled_by w.store b.model (Err c.in_err-settled.field-0.0) u v b.come c.in_err-settled.ensures.settles))

pub conclude-requires : goal.conclude-requires
conclude-requires g c =
    let w = world g.S.Store.shows c.args.session.now in
    let b = loaded_by w (world g.S.Store.shows c.load.new.self) c.requires c.in_ok-load.ensures.next in
    few_registers w.store.vars c.in_ok-source.source.circuit.now b.model.circuit b.describes.circuit

-- the load was accepted, and the search has settled
module _ (g : _) (c : In_ok-settled g) where
  abbrev start : World
  start = world g.S.Store.shows c.args.session.now

  load : Began start.store c.in_ok-source.source.circuit.now c.in_ok-source.source.assumption.now c.in_ok-source.source.property.now (world g.S.Store.shows c.load.new.self)
  load = loaded_by start (world g.S.Store.shows c.load.new.self) c.requires c.in_ok-load.ensures.next

  ended : Ended start.store load.model c.in_ok-settled.settled (world g.S.Store.shows c.settle.new.self)
  ended = settled_by start.store load.model (Ok c.in_ok-settled.settled) (world g.S.Store.shows c.load.new.self) (world g.S.Store.shows c.settle.new.self) load.come c.in_ok-settled.ensures.settles

  sizes : sizes_at c.in_ok-source.source.circuit.now ≡ sizes_of load.model.circuit
  sizes = sizes_are start.store.vars c.in_ok-source.source.circuit.now load.model.circuit load.describes.circuit

pub returns-in_err-conclude : goal.returns-in_err-conclude
returns-in_err-conclude g c =
    let d = (goal.at.returns-in_err-conclude g c).In_ok-settled in
    let b = load g d in
    absurd (c.in_err-conclude.ensures.concludes (start g d).store b.model (ended g d) (sizes g d))

pub returns : goal.returns
returns g c =
    let d = (goal.at.returns g c).In_ok-settled in
    let b = load g d in
    let e = ended g d in
    let s = (start g d).store in
    subst (Reports s c.args.job.now c.in_ok-conclude.field-0) (sym (ap (λ (w : World). w.store) c.conclude.ensures.same))
    (concluded s c.args.job.now (parts c.in_ok-source.source) (sym c.in_ok-source.ensures.answer) b.model b.describes _ _ _ e.come.searched
    (c.in_ok-conclude.ensures.concludes s b.model e (sizes g d)))
