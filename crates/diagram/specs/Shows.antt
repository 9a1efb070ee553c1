-- What a diagram shows to the user of a store.
use Rattle.std.specs.Prelude.{ℕ, Bool, List}
use Rattle.records.specs.Contents.{entries, room}
use Rattle.store.specs.Fitting.{fits}
use Rattle.store.specs.Meaning.{Shown}
use Rattle.nodes.specs.declared.Node.{Node}
use Rattle.nodes.specs.Shows.{shown}
use Rattle.diagram.specs.declared.Diagram.{Diagram}

abbrev pub listed : Diagram → List Node
listed d = entries d.nodes

abbrev pub capacity : Diagram → ℕ
capacity d = room d.nodes

abbrev pub showing : Diagram → Shown
showing d = shown d.n (listed d) (capacity d)

-- whether a diagram of n variables can be made over so many records
abbrev pub suits : ℕ → ℕ → Bool
suits n records = fits n 24 records
