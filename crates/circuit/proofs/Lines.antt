-- Each line has one value, and the test whether a line touches an input tells it.
use Rattle.std.proofs.Common.{◌≡◌, ℕ, zero, suc, ◌+◌, ◌-◌, ◌<◌, ◌≤◌, Bool, true, false, ◌⊎◌, List, ◌∷◌, ◌++◌, map, length, get_or, replicate, ltb, Decides, sym, refl, ap, ◌∙◌, subst, inl, inr, ⊎_elim, arith}
use native.Mathlib.Decide.{dec_lt}
use Rattle.std.specs.List.{range_with_len}
use Rattle.std.proofs.lemmas.List.FromFn.{get_or-map-range_with_len, length-map-range_with_len}
use Rattle.std.proofs.lemmas.List.{get_or_append_left, get_or-append-add, get_or-append_right, get_or-replicate, length-append, length-replicate}
use Rattle.std.proofs.lemmas.Bool.{both_ways, lt-ltb, le-ltb}
use Rattle.std.proofs.lemmas.Bool.Decides.{nat_tests, Decides-at, Decides-like, Decides-or}
use Rattle.circuit.specs.Netlists.{Netlist, gate, input_line, gate_line, lines, init_line}
use Rattle.circuit.specs.Lines.{conjunction, either, Values, Touches, input, left, right, line, touching}
use Rattle.circuit.specs.Rules.{Wired, Sound, Determined}
use Rattle.circuit.proofs.Extending.{conjunction_local, either_local, kept, ruled}

-- what stands before the gates: false, then a part for the registers and one for the inputs
module _ (n m : ℕ) (a b : List Bool) (la : length a ≡ n) (lb : length b ≡ m) where
  parts_length : length (false ∷ (a ++ b)) ≡ 1 + n + m
  parts_length = omega (arith, length-append a b)

  first_part : (i : ℕ) → i < n → get_or (false ∷ (a ++ b)) (1 + i) false ≡ get_or a i false
  first_part i h =
      let e : 1 + i ≡ suc i = omega arith in
      ap (λ x. get_or (false ∷ (a ++ b)) x false) e ∙ get_or_append_left a b false i (omega arith)

  second_part : (j : ℕ) → j < m → get_or (false ∷ (a ++ b)) (1 + n + j) false ≡ get_or b j false
  second_part j h =
      let e : 1 + n + j ≡ suc (length a + j) = omega arith in
      ap (λ x. get_or (false ∷ (a ++ b)) x false) e ∙ get_or-append-add a b j false

module _ (c : Netlist) where
  -- what marks the lines before the gates: false, then a part for the registers and one for the inputs
  abbrev pub front : List Bool
  front = false ∷ (replicate c.registers false ++ replicate c.inputs true)

  pub front_length : length front ≡ gate_line c 0
  front_length = grind (arith, length-append, length-replicate)

  pub front_at : (x : ℕ) → x < gate_line c 0 → get_or front x false ≡ ltb c.registers x
  front_at zero h = sym (le-ltb c.registers 0 (omega arith))
  front_at (suc i) h = grind (arith, nat_tests, get_or_append_left, get_or-append_right, get_or-replicate, length-replicate)

module _ (c : Netlist) (w : (g : ℕ) → g < length c.gates → Wired c g) where
  -- what a line is
  pub data Kind : ℕ → Type 0 where
    nothing : Kind 0
    of_register : (i : ℕ) → i < c.registers → Kind (1 + i)
    of_input : (j : ℕ) → j < c.inputs → Kind (input_line c j)
    of_gate : (g : ℕ) → g < length c.gates → Kind (gate_line c g)

  pub kind : (x : ℕ) → x < lines c → Kind x
  kind zero h = nothing
  kind (suc x) h = go (dec_lt x c.registers) (dec_lt x (c.registers + c.inputs))
    where
      go : Dec (x < c.registers) → Dec (x < c.registers + c.inputs) → Kind (suc x)
      go (yes p) d = let e : 1 + x ≡ suc x = omega arith in subst Kind e (of_register x p)
      go (no p) (yes q) =
          let e : input_line c (x - c.registers) ≡ suc x = omega arith in
          subst Kind e (of_input (x - c.registers) (omega arith))
      go (no p) (no q) =
          let e : gate_line c (x - (c.registers + c.inputs)) ≡ suc x = omega arith in
          subst Kind e (of_gate (x - (c.registers + c.inputs)) (omega arith))

  module _ (r v : ℕ → Bool) where
    states : List Bool
    states = map r (range_with_len 0 c.registers)

    inputs : List Bool
    inputs = map v (range_with_len 0 c.inputs)

    pub valued : Values c r v (line c r v)
    unfolding line states inputs
    valued =
        let a = states in
        let b = inputs in
        let la : length a ≡ c.registers = length-map-range_with_len r 0 c.registers in
        let lb : length b ≡ c.inputs = length-map-range_with_len v 0 c.inputs in
        let n = parts_length c.registers c.inputs a b la lb in
        record {
          zeroth = kept conjunction c.gates (false ∷ (a ++ b)) 0 (omega arith);
          register = λ i h.
              kept conjunction c.gates (false ∷ (a ++ b)) (1 + i) (omega arith)
              ∙ first_part c.registers c.inputs a b la lb i h
              ∙ get_or-map-range_with_len r 0 c.registers i i false h (omega arith);
          input = λ j h.
              kept conjunction c.gates (false ∷ (a ++ b)) (input_line c j) (omega arith)
              ∙ second_part c.registers c.inputs a b la lb j h
              ∙ get_or-map-range_with_len v 0 c.inputs j j false h (omega arith);
          gated = λ g h.
              let z : gate_line c g ≡ length (false ∷ (a ++ b)) + g = omega arith in
              ap (line c r v) z
              ∙ ruled conjunction conjunction_local c.gates (false ∷ (a ++ b)) g h (omega (arith, (w g h).0)) (omega (arith, (w g h).1));
        }

  -- values that follow the rules agree on a line, if the inputs do or the line touches none
  module _ (r v w' f h : ℕ → Bool) (a : Values c r v f) (b : Values c r w' h) where
    abbrev Settled : ℕ → Type 0
    Settled x = (Touches c x → ⊥) ⊎ ((j : ℕ) → v j ≡ w' j)

    agree : (x : ℕ) → Kind x → Settled x → ((y : ℕ) → y < x → Settled y → f y ≡ h y) → f x ≡ h x
    agree x nothing t below = a.zeroth ∙ sym b.zeroth
    agree x (of_register i l) t below = a.register i l ∙ sym (b.register i l)
    agree x (of_input j l) t below =
        ⊎_elim (λ n. absurd (n (input j l))) (λ e. a.input j l ∙ e j ∙ sym (b.input j l)) t
    agree x (of_gate g l) t below =
        a.gated g l
        ∙ conjunction_local f h (gate c g)
        (below _ (w g l).0 (⊎_elim (λ n. inl (λ z. n (left g l z))) inr t))
        (below _ (w g l).1 (⊎_elim (λ n. inl (λ z. n (right g l z))) inr t))
        ∙ sym (b.gated g l)

    pub agreed : (n : ℕ) → n ≤ lines c → (x : ℕ) → x < n → Settled x → f x ≡ h x
    agreed zero le x l t = absurd (omega arith)
    agreed (suc n) le x l t = agree x (kind x (omega arith)) t (λ y k u. agreed n (omega arith) y (omega arith) u)

  -- a gate touches an input through its left or its right literal
  through : (x : ℕ) → Touches c x → (g : ℕ) → x ≡ gate_line c g → Touches c (gate c g).left.line ⊎ Touches c (gate c g).right.line
  through x (input j l) g e = absurd (omega arith)
  through x (left k l t) g e = let s : k ≡ g = omega arith in inl (subst (λ i. Touches c (gate c i).left.line) s t)
  through x (right k l t) g e = let s : k ≡ g = omega arith in inr (subst (λ i. Touches c (gate c i).right.line) s t)

  -- no line before the inputs touches one
  untouched : (x : ℕ) → Touches c x → x ≤ c.registers → ⊥
  untouched x (input j l) h = omega arith
  untouched x (left k l t) h = omega arith
  untouched x (right k l t) h = omega arith

  -- what the test gives on each line
  pub record Marked (t : ℕ → Bool) : Type 0 where
    pub early : (x : ℕ) → x ≤ c.registers → t x ≡ false
    pub inputs : (j : ℕ) → j < c.inputs → t (input_line c j) ≡ true
    pub gated : (g : ℕ) → g < length c.gates → t (gate_line c g) ≡ either t (gate c g)

  pub marked : Marked (touching c)
  unfolding touching
  marked = record {
    early = λ x h. before x (omega arith) ∙ le-ltb c.registers x h;
    inputs = λ j h. before (input_line c j) (omega arith) ∙ lt-ltb c.registers (input_line c j) (omega arith);
    gated = λ g h.
        let z : gate_line c g ≡ length (front c) + g = omega (arith, front_length c) in
        ap (touching c) z ∙ ruled either either_local c.gates (front c) g h (omega (arith, front_length c, (w g h).0)) (omega (arith, front_length c, (w g h).1));
  }
    where
      before : (x : ℕ) → x < gate_line c 0 → touching c x ≡ ltb c.registers x
      before x h = kept either c.gates (front c) x (omega (arith, front_length c)) ∙ front_at c x h

  tell_early : (x : ℕ) → x ≤ c.registers → Decides (touching c x) (Touches c x)
  tell_early x h = ((λ e. absurd (both_ways (touching c x) (marked.early x h) e)), (λ t. absurd (untouched x t h)))

  tell : (x : ℕ) → Kind x → ((y : ℕ) → y < x → Decides (touching c y) (Touches c y)) → Decides (touching c x) (Touches c x)
  tell x nothing below = tell_early 0 (omega arith)
  tell x (of_register i l) below = tell_early (1 + i) (omega arith)
  tell x (of_input j l) below = ((λ _. input j l), (λ _. marked.inputs j l))
  tell x (of_gate g l) below =
      Decides-at _ _ (marked.gated g l)
      (Decides-like _ (λ s. ⊎_elim (left g l) (right g l) s) (λ t. through _ t g refl)
      (Decides-or _ _ (below _ (w g l).0) (below _ (w g l).1)))

  pub touching_tells : (n : ℕ) → n ≤ lines c → (x : ℕ) → x < n → Decides (touching c x) (Touches c x)
  touching_tells zero le x l = absurd (omega arith)
  touching_tells (suc n) le x l = tell x (kind x (omega arith)) (λ y k. touching_tells n (omega arith) y (omega arith))

pub determined : (c : Netlist) → Sound c → Determined c
determined c s =
    let e = s.enough_gates in
    record {
      some = valued c s.wired;
      one = λ r v f g a b x h. agreed c s.wired r v v f g a b (lines c) (omega arith) x h (inr (λ _. refl));
      init = λ r v u.
          agreed c s.wired r v u (line c r v) (line c r u) (valued c s.wired r v) (valued c s.wired r u) (lines c) (omega arith)
          (init_line c) (omega arith) (inl s.apart);
    }
