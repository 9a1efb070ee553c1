use Rattle.std.proofs.Common.{◌≡◌, ◌++◌, map, refl, sym, ap, ◌∙◌, rules, arith}
use Rattle.std.proofs.lemmas.Iterator.{YieldsList-from_map, YieldsList-from_any_map, YieldsList-from_range, items_from_drains}
use Rattle.std.proofs.lemmas.Iterator.Consumers.{YieldsList-turn, YieldsList-at}
use Rattle.std.proofs.lemmas.List.FromFn.{length-range_with_len}
use Rattle.std.proofs.lemmas.List.{length-append, length-map, map-id}
use Rattle.std.specs.List.{range_with_len}
use Rattle.circuit.specs.Files.{gate_at}
use Rattle.circuit.proofs.Filling.{ok_unless, of_ok}
use Rattle.circuit.proofs.netlist.Netlist.read.Goals as goal

pub unwrap-requires : goal.unwrap-requires
unwrap-requires c =
    let n = c.args.sizes.gates in
    ok_unless c.extend.result c.extend.ensures.full c.extend.ensures.one_more
    (λ f m. let turn = YieldsList-turn (YieldsList-at m.4 (YieldsList-from_any_map _ (YieldsList-from_range 0 n n c.map-read.ensures.source (omega arith)))) m.1 _ m.5.1 _ _ m.2 refl m.5.2 in
    grind (arith, length-map, length-range_with_len, turn, f, m.6, c.new-gates.ensures, c.requires.ranged.few_gates, length-append))

pub returns : goal.returns
returns c =
    let n = c.args.sizes.gates in
    let r = c.extend.ensures.ran in
    let d = of_ok c.extend.result c.unwrap.result _ _ c.unwrap.ensures r.4 in
    let items = items_from_drains r.1 (d.1.0, d.1.1, λ _. (d.0, d.1.2)) (YieldsList-at r.2 (YieldsList-from_map _ (gate_at c.args.file.now n) (YieldsList-from_range 0 n n c.map-read.ensures.source (omega arith)) c.map-read.ensures.closure (λ x r q k. search rules))) in
    let gates : c.extend.new.self.items ≡ map (gate_at c.args.file.now n) (range_with_len 0 n) = r.3 ∙ ap (λ xs. xs ++ r.1) c.new-gates.ensures ∙ sym (map-id r.1) ∙ items in
    search (rules, gates)
