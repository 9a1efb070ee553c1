use Rattle.std.proofs.Common.{sym, subst, arith, rules}
use Rattle.records.proofs.Contents.{entries_fit}
use Rattle.nodes.specs.Graph.{Sound}
use Rattle.nodes.proofs.Extend.{front_sound, take_ext}
use Rattle.diagram.specs.Shows.{listed}
use Rattle.diagram.proofs.Remembering.{blank_right}
use Rattle.diagram.proofs.Fields.{sound_of}
use Rattle.diagram.proofs.Diagram.finish.Goals as goal

pub invariant_of-self : goal.invariant_of-self
invariant_of-self c =
    let d = c.args.self.now in
    let p = c.truncate.ensures in
    let s = subst (Sound d.n) (sym p.entries) (front_sound d.n _ (listed d) (take_ext _ (listed d)) (sound_of d)) in
    record {
      some = d.some;
      wide = d.wide;
      small = omega (arith, p.room, d.small);
      sound = ∣ s ∣₁;
      remembered = ∣ blank_right d.n _ _ _ (search rules) ∣₁;
    }

pub overflow_sub-result : goal.overflow_sub-result
overflow_sub-result c = omega (arith, entries_fit c.if-len-used.self.nodes, c.used.ensures, c.capacity.ensures)
