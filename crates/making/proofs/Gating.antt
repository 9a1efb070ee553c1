-- The gates of a circuit, one after the other.
use Rattle.std.proofs.Common.{◌≡◌, ℕ, suc, ◌+◌, ◌<◌, List, [], ◌∷◌, ◌++◌, length, Result, sym, ◌∙◌, subst, add-one, arith}
use Rattle.store.specs.declared.refusal.Refusal.{Refusal}
use Rattle.store.specs.Fun.{Fn}
use Rattle.store.specs.Meaning.{Shown, Lawful}
use Rattle.circuit.specs.declared.gate.Gate.{Gate}
use Rattle.circuit.specs.Netlists.{gate, gate_line}
use Rattle.description.specs.declared.part.Part.TheVariants.{Circuit}
use Rattle.runs.specs.Functions.{both}
use Rattle.runs.specs.Valuations.{literal_fn, line_fn}
use Rattle.runs.specs.Models.{Model, Valid}
use Rattle.runs.proofs.Models.{functions_exact}
use Rattle.making.specs.Making.{at, Runs, ended, Means, Numbered}
use Rattle.making.specs.Pieces.{gate_list, gates_list}
use Rattle.making.specs.Ends.{Ends, plain}
use Rattle.making.specs.Promises.{GatesOne}
use Rattle.making.proofs.Steps.{runs_join, runs_grown}
use Rattle.making.proofs.Loops.{numbered_more}

module _ (m : Model) (s : Shown) where
  -- the first k gates are made
  abbrev pub Sofar : Shown → List ℕ → ℕ → Type 0
  Sofar t ns k = Runs s (gates_list m k) t × Numbered t ns (line_fn m) (gate_line m.circuit k) × (0 < k → Lawful t)

  abbrev pub fn_of : ℕ → Fn
  fn_of k = both (literal_fn (line_fn m) (gate m.circuit k).left) (literal_fn (line_fn m) (gate m.circuit k).right)

  pub gates_none : (ns : List ℕ) → Numbered s ns (line_fn m) (gate_line m.circuit 0) → Sofar s ns 0
  gates_none ns h = (ended, h, λ l. absurd (omega arith))

  module _ (ok : Valid m) (t u : Shown) (ns : List ℕ) (k : ℕ) (lt : k < length m.circuit.gates) (sofar : Sofar t ns k) where
    pub gate_ends : (g : Gate) (r : Result ℕ Refusal) → g ≡ gate m.circuit k → (ns' : List ℕ) → ns' ≡ ns → GatesOne t ns' g r u
        → Ends plain t u (at Circuit k (gate_list (line_fn m) (gate m.circuit k))) (λ a. Lawful u × Means u a (fn_of k)) r
    gate_ends g r e ns' d h =
        subst (λ (x : Gate). GatesOne t ns x r u) e (subst (λ xs. GatesOne t xs g r u) d h) Circuit k (line_fn m) (sofar.1 _ (ok.circuit.wired k lt).0) (sofar.1 _ (ok.circuit.wired k lt).1)

    pub gate_more : (a : ℕ) → Runs t (at Circuit k (gate_list (line_fn m) (gate m.circuit k))) u × (Lawful u × Means u a (fn_of k)) → length ns ≡ gate_line m.circuit k
        → (ns' : List ℕ) → ns' ≡ ns ++ a ∷ [] → Sofar u ns' (k + 1)
    gate_more a b whole ns' is =
        let e : suc (gate_line m.circuit k) ≡ gate_line m.circuit (k + 1) = omega arith in
        let new : Means u a (line_fn m (gate_line m.circuit k)) = record { held = b.1.1.held; same = λ w j. b.1.1.same w j ∙ sym ((functions_exact m ok).lined.gated k lt w) } in (
          subst (λ n. Runs s (gates_list m n) u) (sym (add-one k)) (runs_join sofar.0 b.0),
          subst (λ xs. Numbered u xs (line_fn m) (gate_line m.circuit (k + 1))) (sym is)
              (subst (λ n. Numbered u (ns ++ a ∷ []) (line_fn m) n) e (numbered_more ns (line_fn m) (gate_line m.circuit k) a sofar.1 (runs_grown b.0) new whole)),
          λ _. b.1.0,
        )
