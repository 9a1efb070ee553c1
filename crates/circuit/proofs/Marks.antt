-- Lines that are marked one after another, as they touch an input.
use Rattle.std.proofs.Common.{◌≡◌, ℕ, ◌+◌, ◌-◌, ◌<◌, Bool, false, List, [], ◌∷◌, ◌++◌, length, drop, get_or, map, ltb, sym, ap, ◌∙◌, arith}
use Rattle.std.specs.List.{range_with_len}
use Rattle.std.proofs.lemmas.List.FromFn.{get_or-map-range_with_len, length-map-range_with_len}
use Rattle.std.proofs.lemmas.List.{ext_get_or, drop_all, at_drop_more, length-append}
use Rattle.circuit.specs.Netlists.{Netlist, blank, gate_line, init_line}
use Rattle.circuit.specs.Lines.{either, extended, touching}
use Rattle.circuit.proofs.Lines.{front, front_length, front_at}

module _ (c : Netlist) where
  -- the marks of the lines before gate g, which tell which lines touch an input
  abbrev pub Marked : List Bool → ℕ → Type 0
  Marked marks g = (length marks ≡ gate_line c g) × ((x : ℕ) → get_or (extended either (drop g c.gates) marks) x false ≡ touching c x)

  pub marked_front : (marks : List Bool) → marks ≡ map (λ x. ltb c.registers x) (range_with_len 0 (gate_line c 0)) → Marked marks 0
  unfolding touching
  marked_front marks e =
      let n = gate_line c 0 in
      let rule = λ (x : ℕ). ltb c.registers x in
      let long = length-map-range_with_len rule 0 n in
      let is : marks ≡ front c = e ∙ ext_get_or false _ (front c) (long ∙ sym (front_length c)) (λ i h. get_or-map-range_with_len rule 0 n i i false (omega (arith, h, long)) (omega arith) ∙ sym (front_at c i (omega (arith, h, long)))) in
      (ap length is ∙ front_length c, λ y. ap (λ m. get_or (extended either c.gates m) y false) is)

  pub marked_more : (marks : List Bool) (g : ℕ) → g < length c.gates → Marked marks g
      → (length (marks ++ either (λ x. get_or marks x false) (get_or c.gates g blank) ∷ []) ≡ gate_line c (g + 1))
      × ((x : ℕ) → get_or (extended either (drop (g + 1) c.gates) (marks ++ either (λ y. get_or marks y false) (get_or c.gates g blank) ∷ [])) x false ≡ touching c x)
  unfolding extended
  marked_more marks g h m = (
    grind (arith, length-append, m.0),
    λ x. sym (ap (λ l. get_or l x false) (at_drop_more (λ gs. extended either gs marks) c.gates g blank h)) ∙ m.1 x,
  )

  pub marked_last : (marks : List Bool) → 0 < length c.gates → Marked marks (length c.gates) → get_or marks (length marks - 1) false ≡ touching c (init_line c)
  unfolding extended
  marked_last marks h m =
      let i : length marks - 1 ≡ init_line c = omega (arith, m.0) in
      ap (λ x. get_or marks x false) i
      ∙ sym (ap (λ gs. get_or (extended either gs marks) (init_line c) false) (drop_all (length c.gates) c.gates (omega arith)))
      ∙ m.1 (init_line c)
