use Rattle.std.proofs.Common.{◌≡◌, ℕ, zero, suc, ◌+◌, ◌%◌, ◌<◌, ◌≤◌, List, length, ap, ◌∙◌, arith}
use Rattle.std.specs.List.{slice_get}
use Rattle.std.proofs.lemmas.Option.{slice_get_past}
use Rattle.nodes.specs.declared.Node.{Node}
use Rattle.nodes.specs.Graph.{node_under}
use Rattle.diagram.specs.Shows.{listed}
use Rattle.diagram.proofs.Fields.{few_of}
use Rattle.diagram.proofs.Diagram.node.Goals as goal

at : (xs : List Node) → length xs ≤ 65534 → (a : ℕ) → a < 65536 → slice_get xs ((a + 18446744073709551614) % 18446744073709551616) ≡ node_under xs a
at xs h zero l = slice_get_past xs 18446744073709551614 (omega arith)
at xs h (suc zero) l = slice_get_past xs 18446744073709551615 (omega arith)
at xs h (suc (suc k)) l = let e : (suc (suc k) + 18446744073709551614) % 18446744073709551616 ≡ k = omega arith in ap (slice_get xs) e

pub returns : goal.returns
returns c =
    let d = c.args.self.now in
    let xs = listed d in
    c.get.ensures
    ∙ ap (λ n. slice_get xs ((n + 18446744073709551614) % 18446744073709551616)) c.from-place.ensures
    ∙ at xs (omega (arith, few_of d, d.small)) c.args.a (omega (arith, c.ranges.a.fits))
