-- The making calls of one substitution, of the inputs, of a gate and of a claim.
use Rattle.std.specs.Prelude.{ℕ, ◌+◌, true, false, cond, List, [], ◌∷◌, ◌++◌}
use Rattle.store.specs.Fun.{Fn, bit, fix}
use Rattle.circuit.specs.declared.gate.Gate.{Gate}
use Rattle.circuit.specs.Literals.{Literal}
use Rattle.circuit.specs.Netlists.{gate}
use Rattle.claim.specs.Grammar.{Tree, const, named, neg, conj, disj}
use Rattle.description.specs.declared.part.Part.{Part}
use Rattle.description.specs.declared.part.Part.TheVariants.{Circuit}
use Rattle.runs.specs.Functions.{negated, both, either, composed, composed_all, quantified}
use Rattle.runs.specs.Valuations.{literal_fn, line_fn, claim_fn}
use Rattle.runs.specs.Models.{Model}
use Rattle.making.specs.Making.{Item, at, upto}

-- f with g put for variable x
abbrev pub composed_list : ℕ → Fn → Fn → List Fn
composed_list x g f = fix x false f ∷ fix x true f ∷ both g (fix x true f) ∷ both (negated g) (fix x false f) ∷ composed x g f ∷ []

-- that for each i below n in turn
abbrev pub composed_all_list : Part → ℕ → (ℕ → ℕ) → (ℕ → Fn) → Fn → ℕ → List Item
composed_all_list p l x g f n = upto n (λ i. at p l (composed_list (x i) (g i) (composed_all x g f i)))

-- f under either value of variable x
abbrev pub halves_list : ℕ → Fn → List Fn
halves_list x f = fix x false f ∷ fix x true f ∷ either (fix x false f) (fix x true f) ∷ []

-- that for each of the m variables from x on
abbrev pub quantified_list : Part → ℕ → ℕ → Fn → ℕ → List Item
quantified_list p l x f m = upto m (λ j. at p l (halves_list (x + j) (quantified x f j)))

-- the negations of f 0 to f (n - 1)
abbrev pub negations_list : Part → ℕ → (ℕ → Fn) → ℕ → List Item
negations_list p l f n = upto n (λ i. at p l (negated (f i) ∷ []))

abbrev pub variables_list : ℕ → List Item
variables_list n = upto n (λ i. at Circuit 0 (bit i ∷ []))

-- a literal over the lines f
abbrev pub literal_list : (ℕ → Fn) → Literal → List Fn
literal_list f x = cond x.negated (negated (f x.line) ∷ []) []

-- not of a negated left, not of a negated right, and
abbrev pub gate_list : (ℕ → Fn) → Gate → List Fn
gate_list f g = literal_list f g.left ++ (literal_list f g.right ++ both (literal_fn f g.left) (literal_fn f g.right) ∷ [])

-- the first k gates
abbrev pub gates_list : Model → ℕ → List Item
gates_list m k = upto k (λ g. at Circuit g (gate_list (line_fn m) (gate m.circuit g)))

-- each operator of a claim, once its operands are there
abbrev pub operators_list : Model → Part → Tree → List Item
operators_list m part (const p b) = []
operators_list m part (named p s i) = []
operators_list m part (neg p t) = operators_list m part t ++ at part p (claim_fn m (neg p t) ∷ [])
operators_list m part (conj p t u) = operators_list m part t ++ (operators_list m part u ++ at part p (claim_fn m (conj p t u) ∷ []))
operators_list m part (disj p t u) = operators_list m part t ++ (operators_list m part u ++ at part p (claim_fn m (disj p t u) ∷ []))
