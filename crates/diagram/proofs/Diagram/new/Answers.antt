use Rattle.std.proofs.Common.{[], length, sym, ◌∙◌, subst, arith}
use Rattle.store.proofs.Fits.{fits_tells, made_of_choice}
use Rattle.nodes.specs.Graph.{Sound}
use Rattle.nodes.specs.Shows.{shown}
use Rattle.nodes.proofs.Props.{sound_none}
use Rattle.diagram.specs.Shows.{suits}
use Rattle.diagram.proofs.Remembering.{blank_right}
use Rattle.diagram.proofs.Begun.{begun, begun_fresh, begun_lawful}
use Rattle.diagram.proofs.Diagram.new.Goals as goal

pub invariant_of-result : goal.invariant_of-result
invariant_of-result c =
    let p = c.new.ensures in
    let n = c.fitted-n.result.0 in
    let b = fits_tells n 24 _ (c.fitted-n.ensures.fit (omega arith)) in
    record {
      some = b.0;
      wide = b.1;
      small = omega (arith, p.room, b.2);
      sound = ∣ subst (Sound n) (sym p.empty) (sound_none n) ∣₁;
      remembered = ∣ blank_right n _ _ _ c.new-2.ensures ∣₁;
    }

pub returns : goal.returns
returns c =
    let p = c.new.ensures in
    let l = c.new.result in
    let e = c.fitted-n.ensures in
    let n = c.fitted-n.result.0 in
    let size = length c.args.records.now in
    let b = fits_tells n 24 _ (e.fit (omega arith)) in
    record {
      shows = begun n l _ p.empty p.room ∙ made_of_choice (λ m r. shown m [] r) (suits c.args.n size) c.args.n c.args.records.now e.variables e.records;
      fresh = begun_fresh n l _ p.empty p.room;
      lawful = begun_lawful n l _ p.empty p.room b.0 b.1 b.2;
    }
