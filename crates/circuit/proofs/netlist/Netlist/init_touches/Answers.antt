use Rattle.std.proofs.Common.{◌≡◌, ◌-◌, ◌≤◌, ◌++◌, false, length, get_or, ltb, map, refl, sym, ap, rules, ◌∙◌, subst, arith}
use Rattle.std.specs.List.{range_with_len}
use Rattle.std.proofs.lemmas.Iterator.{YieldsList-from_map, YieldsList-from_any_map, YieldsList-from_range, items_from_drains}
use Rattle.std.proofs.lemmas.Iterator.Consumers.{YieldsList-turn, YieldsList-at}
use Rattle.std.proofs.lemmas.List.FromFn.{length-range_with_len}
use Rattle.std.proofs.lemmas.List.{get_or_default, length-append, length-map, map-id}
use Rattle.circuit.specs.Netlists.{gate}
use Rattle.circuit.proofs.Filling.{ok_unless, of_ok}
use Rattle.circuit.proofs.Marks.{Marked, marked_front, marked_more, marked_last}
use Rattle.circuit.proofs.netlist.Netlist.init_touches.Goals as goal

pub unwrap-requires : goal.unwrap-requires
unwrap-requires c =
    let n = c.line.result in
    let small : n ≤ 17 = omega (arith, c.line.ensures, c.requires.few_registers, c.requires.few_inputs) in
    ok_unless c.extend.result c.extend.ensures.full c.extend.ensures.one_more
    (λ f m. let turn = YieldsList-turn (YieldsList-at m.4 (YieldsList-from_any_map _ (YieldsList-from_range 0 n n c.map-before.ensures.source (omega arith)))) m.1 _ m.5.1 _ _ m.2 refl m.5.2 in
    grind (arith, length-map, length-range_with_len, turn, f, m.6, c.new-marks.ensures, small, length-append))

pub loop-gate-init : goal.loop-gate-init
loop-gate-init c =
    let n = c.line.result in
    let r = c.extend.ensures.ran in
    let d = of_ok c.extend.result c.unwrap.result _ _ c.unwrap.ensures r.4 in
    let items = items_from_drains r.1 (d.1.0, d.1.1, λ _. (d.0, d.1.2)) (YieldsList-at r.2 (YieldsList-from_map _ (λ x. ltb c.args.self.now.registers x) (YieldsList-from_range 0 n n c.map-before.ensures.source (omega arith)) c.map-before.ensures.closure (λ x r q k. search rules))) in
    marked_front c.args.self.now c.extend.new.self.items (r.3 ∙ ap (λ xs. xs ++ r.1) c.new-marks.ensures ∙ sym (map-id r.1) ∙ items ∙ ap (λ k. map (λ x. ltb c.args.self.now.registers x) (range_with_len 0 k)) c.line.ensures)

pub loop-gate-preserved : goal.loop-gate-preserved
loop-gate-preserved c =
    let item : c.gate-item.result ≡ gate c.args.self.now c.loop-gate.gate-index = search (rules, get_or_default) in
    rw (c.push.ensures.items, c.names_marked-touches.ensures, item, c.as_slice.ensures.value)
    (marked_more c.args.self.now c.loop-gate.marks.items c.loop-gate.gate-index (search rules) c.loop-gate.invariant)

pub returns : goal.returns
returns c =
    let marks = c.loop-gate.marks.items in
    let last : c.unwrap_or.result ≡ get_or marks (length marks - 1) false = search rules in
    last ∙ marked_last c.args.self.now marks (search rules) (subst (Marked c.args.self.now marks) (search rules) c.loop-gate.invariant)
