-- What the ghost fields of a diagram say.
use Rattle.std.proofs.Common.{◌≡◌, ℕ, zero, suc, ◌≤◌, length, Some, sym, subst, arith}
use Rattle.std.proofs.lemmas.Option.{get_or_from_slice_get, slice_get_within}
use Rattle.records.proofs.Contents.{entries_fit}
use Rattle.store.specs.Meaning.{Lawful}
use Rattle.nodes.specs.declared.Node.{Node}
use Rattle.nodes.specs.Graph.{blank, node_under, Sound}
use Rattle.nodes.proofs.Laws.{lawful}
use Rattle.nodes.proofs.Props.{sound_out}
use Rattle.nodes.proofs.Reading.{Reads, reads}
use Rattle.diagram.specs.declared.Diagram.{Diagram}
use Rattle.diagram.specs.Remembered.{Right}
use Rattle.diagram.specs.Shows.{listed, capacity, showing}
use Rattle.diagram.proofs.Remembering.{right_out}

pub sound_of : (d : Diagram) → Sound d.n (listed d)
sound_of d = sound_out d.n (listed d) d.sound

pub right_of : (d : Diagram) → Right d.n (listed d) (capacity d) d.memo
right_of d = right_out d.n (listed d) (capacity d) d.memo d.remembered

-- as a diagram of n variables
pub sound_at : (d : Diagram) (n : ℕ) → d.n ≡ n → Sound n (listed d)
sound_at d n e = subst (λ (m : ℕ). Sound m (listed d)) e (sound_of d)

pub few_of : (d : Diagram) → length (listed d) ≤ capacity d
few_of d = entries_fit d.nodes

pub short_of : (d : Diagram) → length (listed d) ≤ 65534
short_of d = omega (arith, few_of d, d.small)

pub lawful_of : (d : Diagram) → Lawful (showing d)
lawful_of d = lawful d.n (capacity d) d.some d.wide d.small (listed d) (few_of d) (sound_of d)

-- the node under a number
pub read_of : (d : Diagram) (a : ℕ) → (x : Node) → Some x ≡ node_under (listed d) a → Reads d.n (listed d) a x
read_of d zero x e = cc
read_of d (suc zero) x e = cc
read_of d (suc (suc k)) x e =
    let xs = listed d in
    subst (Reads d.n xs (suc (suc k))) (get_or_from_slice_get xs k x blank (sym e)) (reads d.n xs (sound_of d) k (slice_get_within xs k x (sym e)))
