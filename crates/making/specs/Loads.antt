-- The making lists of a load and of an advance, and the numbers that they leave.
use Rattle.std.specs.Prelude.{◌≡◌, ℕ, suc, ◌+◌, ◌*◌, ◌≤◌, cond, List, [], ◌∷◌, ◌++◌, length}
use Rattle.store.specs.Fun.{Fn, bit, same}
use Rattle.store.specs.Meaning.{Shown, Lawful}
use Rattle.description.specs.declared.part.Part.{Part}
use Rattle.description.specs.declared.part.Part.TheVariants.{Assumption, Property, Sets}
use Rattle.making.specs.declared.parts.Parts.{Parts}
use Rattle.making.specs.declared.parts.Built.{Built}
use Rattle.runs.specs.Functions.{register, copy, negated, both, copied, pre_image, first_of, back_of}
use Rattle.runs.specs.Valuations.{claim_fn, next_fn, init_fn, set_fn, back_fn}
use Rattle.runs.specs.Models.{Model, system}
use Rattle.runs.specs.Search.{bad}
use Rattle.making.specs.Models.{width}
use Rattle.making.specs.Making.{Item, at, Means, Paired}
use Rattle.making.specs.Pieces.{composed_all_list, quantified_list, negations_list, variables_list, gates_list, operators_list}

-- the first set, from the assumption h and the property p
abbrev pub first_list : Part → ℕ → ℕ → ℕ → Fn → Fn → List Item
first_list p l n m h q = at p l (negated q ∷ both (negated q) h ∷ []) ++ quantified_list p l (2 * n) (both (negated q) h) m

-- the first set, whether it meets Init, and the negations that an advance takes
abbrev pub start_list : Part → ℕ → ℕ → ℕ → Fn → Fn → Fn → (ℕ → Fn) → List Item
start_list p l n m h q init next =
    first_list p l n m h q
    ++ (at p l (both (first_of n m h q) init ∷ [])
    ++ (negations_list p l (λ i. bit (copy i)) n
    ++ negations_list p l next n))

-- all of a load
abbrev pub load_list : Model → List Item
load_list m =
    variables_list (width m)
    ++ (gates_list m (length m.circuit.gates)
    ++ (operators_list m Assumption m.assumption
    ++ (operators_list m Property m.property
    ++ start_list Sets 0 m.circuit.registers m.circuit.inputs (claim_fn m m.assumption) (claim_fn m m.property) (init_fn m) (next_fn m))))

-- one step back from the set f
abbrev pub back_list : Part → ℕ → ℕ → ℕ → (ℕ → Fn) → Fn → Fn → List Item
back_list p l n m next h f =
    composed_all_list p l register (λ i. bit (copy i)) f n
    ++ (composed_all_list p l copy next (copied n f) n
    ++ (at p l (both (pre_image n next f) h ∷ [])
    ++ (quantified_list p l (2 * n) (both (pre_image n next f) h) m
    ++ at p l (back_of n m next h f ∷ []))))

-- all of an advance from B_j
abbrev pub advance_list : Model → ℕ → List Item
advance_list m j =
    back_list Sets j m.circuit.registers m.circuit.inputs (next_fn m) (claim_fn m m.assumption) (set_fn m j)
    ++ cond (same m.circuit.registers (bad (system m) (suc j)) (bad (system m) j)) []
    (at Sets j (both (back_fn m j) (init_fn m) ∷ []))

-- how many registers
abbrev pub registers_of : Parts → ℕ
registers_of k = length k.copies.items

-- the numbers that an advance works with are those of the copies, the next values and the assumption, with the negations
pub record Kept (s : Shown) (k : Parts) (next : ℕ → Fn) (h : Fn) : Type 0 where
  pub wide : 2 * registers_of k + k.m ≤ s.vars
  pub copies : Paired s k.copies.items (λ i. bit (copy i)) (registers_of k)
  pub nexts : Paired s k.nexts.items next (registers_of k)
  pub assumed : Means s k.assumed h

-- the numbers after a load of a model's circuit, with the assumption h and the property q
pub record Loaded (s : Shown) (m : Model) (h q : Fn) (b : Built) : Type 0 where
  pub lawful : Lawful s
  pub registers : registers_of b.parts ≡ m.circuit.registers
  pub inputs : b.parts.m ≡ m.circuit.inputs
  pub kept : Kept s b.parts (next_fn m) h
  pub property : Means s b.parts.property q
  pub init : Means s b.parts.init (init_fn m)
  pub set : Means s b.set (first_of m.circuit.registers m.circuit.inputs h q)
  pub met : Means s b.met (both (first_of m.circuit.registers m.circuit.inputs h q) (init_fn m))
