-- The system of a model, and its functions.
use Rattle.std.proofs.Common.{◌≡◌, ℕ, ◌+◌, ◌*◌, ◌^◌, ◌<◌, Bool, true, false, cond, not, ◌&&◌, ◌||◌, ◌∷◌, ◌++◌, map, get_or, sym, refl, ap, ◌∙◌, ap₂, arith, pow_mono}
use Rattle.std.specs.List.{range_with_len}
use Rattle.std.proofs.lemmas.List.FromFn.{fill_by_all, get_or-map-range_with_len, length-map-range_with_len}
use Rattle.store.specs.Fun.{Fn, bit}
use Rattle.circuit.specs.Literals.{Literal}
use Rattle.circuit.specs.Netlists.{Netlist, gate, gate_line, lines, next_line, init_line, limit, name_line}
use Rattle.circuit.specs.Lines.{literal, conjunction, Values, line, extended}
use Rattle.circuit.specs.Rules.{Determined}
use Rattle.circuit.proofs.Lines.{determined}
use Rattle.circuit.specs.declared.sizes.Sizes.{Sizes}
use Rattle.circuit.specs.declared.sort.Sort.{Sort}
use Rattle.circuit.specs.declared.sort.Sort.TheVariants.{Register, Input, Gate}
use Rattle.claim.specs.Grammar.{Tree, const, named, neg, conj, disj, Known}
use Rattle.claim.specs.Truth.{fold, truth}
use Rattle.runs.specs.Numbers.{bits}
use Rattle.runs.specs.Systems.{Closed}
use Rattle.runs.specs.Search.{bad}
use Rattle.runs.specs.Functions.{spread, negated}
use Rattle.runs.specs.Steps.{state_at, input_at, Stands}
use Rattle.runs.specs.Models.{Model, name_value, claimed, system, sizes, Valid, DescriptionsValid, Agrees, SystemsAgree}
use Rattle.runs.specs.Valuations.{registers_at, inputs_at, literal_fn, line_fn, claim_fn, claim_ops, next_fn, init_fn, Lined, Stepped, At, FunctionsExact}
use Rattle.runs.proofs.Numbers.{number_lt, bit_number, spreads}
use Rattle.runs.proofs.Steps.{steps_back, sets_same}
use Rattle.circuit.proofs.Passing.{reading_sound}

-- the next state is a state
pub closed : (m : Model) → Closed (system m)
closed m q v lq lv = number_lt m.circuit.registers _

-- names that agree where there is what they name
abbrev Agree : Sizes → (Sort → ℕ → Bool) → (Sort → ℕ → Bool) → Type 0
Agree z a b = (s : Sort) (i : ℕ) → i < limit z s → a s i ≡ b s i

truth_like : (z : Sizes) (a b : Sort → ℕ → Bool) → Agree z a b → (t : Tree) → Known z t → truth a t ≡ truth b t
truth_like z a b h (const p x) k = refl
truth_like z a b h (named p s i) k = h s i k
truth_like z a b h (neg p t) k = ap not (truth_like z a b h t k)
truth_like z a b h (conj p t u) k = ap₂ ◌&&◌ (truth_like z a b h t k.0) (truth_like z a b h u k.1)
truth_like z a b h (disj p t u) k = ap₂ ◌||◌ (truth_like z a b h t k.0) (truth_like z a b h u k.1)

counting_like : (f g : ℕ → Bool) (n : ℕ) → ((i : ℕ) → i < n → f i ≡ g i) → map f (range_with_len 0 n) ≡ map g (range_with_len 0 n)
counting_like f g n h = fill_by_all g (map f (range_with_len 0 n)) n false (length-map-range_with_len f 0 n) (λ k l. get_or-map-range_with_len f 0 n k k false l (omega arith) ∙ h k l)

module _ (c : Netlist) (r v r' v' : ℕ → Bool) (hr : (i : ℕ) → i < c.registers → r i ≡ r' i) (hv : (j : ℕ) → j < c.inputs → v j ≡ v' j) where
  -- a line goes by the values of the registers and the inputs
  line_like : (x : ℕ) → line c r v x ≡ line c r' v' x
  unfolding line
  line_like x =
      ap₂ (λ a b. get_or (extended conjunction c.gates (false ∷ (a ++ b))) x false)
      (counting_like r r' c.registers hr) (counting_like v v' c.inputs hv)

  names_like : Agree (sizes c) (name_value c r v (line c r v)) (name_value c r' v' (line c r' v'))
  names_like Register i l = hr i l
  names_like Input j l = hv j l
  names_like Gate g l = line_like (gate_line c g)

  claimed_like : (t : Tree) → Known (sizes c) t → claimed c r v t ≡ claimed c r' v' t
  claimed_like t k = truth_like (sizes c) _ _ names_like t k

module _ (m : Model) (ok : Valid m) where
  fixed_values : Determined m.circuit
  fixed_values = determined m.circuit ok.circuit

  next_below : (i : ℕ) → i < m.circuit.registers → next_line m.circuit i < lines m.circuit
  next_below i l = omega (arith, ok.circuit.enough_gates)

  init_below : init_line m.circuit < lines m.circuit
  init_below = omega (arith, ok.circuit.enough_gates)

  agrees : (q v : ℕ) (f : ℕ → Bool) → Values m.circuit (bits q) (bits v) f → Agrees m q v f
  agrees q v f h =
      let c = m.circuit in
      let same = fixed_values.one (bits q) (bits v) (line c (bits q) (bits v)) f (fixed_values.some (bits q) (bits v)) h in
      record {
        init = fixed_values.init (bits q) (λ _. false) (bits v) ∙ same (init_line c) init_below;
        next = λ i l. bit_number c.registers _ i l ∙ same (next_line c i) (next_below i l);
        assumed = truth_like (sizes c) _ _ (names same) m.assumption ok.assumption;
        property = truth_like (sizes c) _ _ (names same) m.property ok.property;
      }
    where
      names : ((x : ℕ) → x < lines m.circuit → line m.circuit (bits q) (bits v) x ≡ f x)
          → Agree (sizes m.circuit) (name_value m.circuit (bits q) (bits v) (line m.circuit (bits q) (bits v))) (name_value m.circuit (bits q) (bits v) f)
      names same Register i l = refl
      names same Input j l = refl
      names same Gate g l = same (gate_line m.circuit g) (omega arith)

  -- the values of the lines at a valuation
  lines_at : (w : ℕ) → Values m.circuit (registers_at w) (inputs_at m.circuit.registers w) (λ x. line_fn m x w)
  lines_at w = fixed_values.some (registers_at w) (inputs_at m.circuit.registers w)

  cond_at : (b : Bool) (f g : Fn) (w : ℕ) → cond b f g w ≡ cond b (f w) (g w)
  cond_at true f g w = refl
  cond_at false f g w = refl

  literal_at : (x : Literal) (w : ℕ) → literal_fn (line_fn m) x w ≡ literal (λ y. line_fn m y w) x
  literal_at x w = cond_at x.negated (negated (line_fn m x.line)) (line_fn m x.line) w

  names_at : (p : ℕ) (s : Sort) (i : ℕ) → i < limit (sizes m.circuit) s → (w : ℕ) → claim_fn m (named p s i) w ≡ line_fn m (name_line m.circuit s i) w
  names_at p Register i l w = sym ((lines_at w).register i l)
  names_at p Input j l w = sym ((lines_at w).input j l)
  names_at p Gate g l w = refl

  folded : (t : Tree) → Known (sizes m.circuit) t → (w : ℕ) → fold (claim_ops m) t w ≡ claim_fn m t w
  folded (const p b) k w = refl
  folded (named p s i) k w = sym (names_at p s i k w)
  folded (neg p t) k w = ap not (folded t k w)
  folded (conj p t u) k w = ap₂ ◌&&◌ (folded t k.0 w) (folded u k.1 w)
  folded (disj p t u) k w = ap₂ ◌||◌ (folded t k.0 w) (folded u k.1 w)

  -- the registers and the inputs of a valuation are those of its state and its input
  own_registers : (w i : ℕ) → i < m.circuit.registers → registers_at w i ≡ bits (state_at (system m) w) i
  own_registers w i l = sym (bit_number m.circuit.registers (registers_at w) i l)

  own_inputs : (w j : ℕ) → j < m.circuit.inputs → inputs_at m.circuit.registers w j ≡ bits (input_at (system m) w) j
  own_inputs w j l = sym (bit_number m.circuit.inputs (inputs_at m.circuit.registers w) j l)

  stands : Stands (system m) (next_fn m) (init_fn m) (claim_fn m m.assumption) (claim_fn m m.property)
  stands =
      let c = m.circuit in
      record {
        nexts = λ i l w. line_like c _ _ _ _ (own_registers w) (own_inputs w) (next_line c i) ∙ sym (bit_number c.registers _ i l);
        starts = λ w.
            fixed_values.init (registers_at w) (inputs_at c.registers w) (λ _. false)
            ∙ line_like c _ (λ _. false) _ (λ _. false) (own_registers w) (λ j l. refl) (init_line c);
        assumes = λ w. claimed_like c _ _ _ _ (own_registers w) (own_inputs w) m.assumption ok.assumption;
        claims = λ w. claimed_like c _ _ _ _ (own_registers w) (own_inputs w) m.property ok.property;
      }

  lined : Lined m
  lined = record {
    zeroth = λ w. (lines_at w).zeroth;
    register = λ i l w. (lines_at w).register i l;
    input = λ j l w. (lines_at w).input j l;
    gated = λ g l w. (lines_at w).gated g l ∙ sym (ap₂ ◌&&◌ (literal_at (gate m.circuit g).left w) (literal_at (gate m.circuit g).right w));
    claims = folded;
  }

  stepped : Stepped m
  stepped =
      let s = system m in
      let b = steps_back s (next_fn m) (init_fn m) (claim_fn m m.assumption) (claim_fn m m.property) (closed m) stands in
      record {
        closed = closed m;
        stands = stands;
        first = b.first;
        back = b.back;
        alike = λ vars i j wide. sets_same s.registers vars wide (bad s i) (bad s j);
        misses = b.misses;
      }

  at : (q v : ℕ) → q < 2 ^ m.circuit.registers → v < 2 ^ m.circuit.inputs → At m q v
  at q v lq lv =
      let s = system m in
      let n = m.circuit.registers in
      let x = spreads n m.circuit.inputs q v lq lv in
      let w = spread n q v in
      record {
        below = λ vars wide. let p = pow_mono {i = 2 * n + m.circuit.inputs} {j = vars} wide in let b = x.below in omega arith;
        set = λ j. ap (bad s j) x.state;
        init = stands.starts w ∙ ap s.init x.state;
        next = λ i l. stands.nexts i l w ∙ ap₂ (λ a b. bit i (s.next a b)) x.state x.input;
        assumed = stands.assumes w ∙ ap₂ s.assumed x.state x.input;
        property = stands.claims w ∙ ap₂ s.property x.state x.input;
      }

pub systems_agree : SystemsAgree
systems_agree = agrees

pub functions_exact : FunctionsExact
functions_exact m ok = record { lined = lined m ok; stepped = stepped m ok; at = at m ok }

pub descriptions_valid : DescriptionsValid
descriptions_valid width file h p m d =
    let r = reading_sound width file m.circuit d.circuit in (
      record {
        circuit = r.0;
        assumption = d.assumption.known;
        property = d.property.known;
      },
      r.1,
    )
