-- What the parts of the builder promise one another: s is what the store shows before, and t after.
use Rattle.std.specs.Prelude.{◌≡◌, ℕ, ◌+◌, ◌-◌, ◌*◌, ◌<◌, ◌≤◌}
use Rattle.std.specs.Prelude.{true, false, List, [], ◌∷◌, ◌++◌, length, Ok, Err, Result, MatchResult, slice_index, slice_index_or}
use Rattle.arrayvec.specs.ArrayVec.{ArrayVec}
use Rattle.copy_list.specs.Lists.{Listed}
use Rattle.store.specs.declared.refusal.Refusal.{Refusal}
use Rattle.store.specs.declared.refusal.Refusal.TheVariants.{Number, Variable, Room}
use Rattle.store.specs.Fun.{Fn, bit, fix}
use Rattle.store.specs.Meaning.{Shown, Lawful, price, free}
use Rattle.circuit.specs.declared.gate.Gate.{Gate}
use Rattle.circuit.specs.Literals.{Literal}
use Rattle.circuit.specs.Netlists.{Netlist, lines, gate_line}
use Rattle.claim.specs.declared.code.Act.{Act}
use Rattle.claim.specs.declared.code.Code.{Code}
use Rattle.claim.specs.Grammar.{Tree, post, Known}
use Rattle.description.specs.declared.part.Part.{Part}
use Rattle.making.specs.Faults.{Fault}
use Rattle.making.specs.declared.fault.Fault.TheVariants as fault
use Rattle.making.specs.declared.lines.Lines.{Lines}
use Rattle.making.specs.declared.parts.Polarities.{Polarities}
use Rattle.making.specs.declared.parts.Parts.{Parts}
use Rattle.making.specs.declared.parts.Built.{Built}
use Rattle.runs.specs.Functions.{copy, both, either, composed, composed_all, quantified, first_of, back_of}
use Rattle.runs.specs.Valuations.{literal_fn, line_fn, claim_fn, next_fn, init_fn}
use Rattle.runs.specs.Models.{Model, sizes}
use Rattle.making.specs.Models.{model, width}
use Rattle.making.specs.Making.{at, Means, Numbered, Polar, unpaired, Paired}
use Rattle.making.specs.Pieces.{composed_list, composed_all_list, halves_list, quantified_list, negations_list, variables_list, literal_list, gate_list, gates_list, operators_list}
use Rattle.making.specs.Loads.{first_list, start_list, load_list, back_list, registers_of, Kept, Loaded}
use Rattle.making.specs.Ends.{Ends, plain, located, Gives, ByWidth}
use Rattle.making.specs.Stacks.{Standing, Acts}

-- number a under either value of variable x
abbrev pub Cofactors : Shown → ℕ → ℕ → Result (ℕ × ℕ) Refusal → Shown → Type 0
Cofactors s a x r t = (p : Part) (l : ℕ) (f : Fn) → Means s a f → x < s.vars
    → Ends plain s t (at p l (fix x false f ∷ fix x true f ∷ [])) (λ c. Means t c.0 (fix x false f) × Means t c.1 (fix x true f)) r

-- number a with b put for variable x
abbrev pub Composes : Shown → ℕ → ℕ → Polarities → Result ℕ Refusal → Shown → Type 0
Composes s a x b r t = (p : Part) (l : ℕ) (f g : Fn) → Means s a f → Polar s b g → x < s.vars
    → Gives plain s t (at p l (composed_list x g f)) (composed x g f) r

-- that for the variables first + 2i, for each of the pairs
abbrev pub ComposesAll : Shown → ℕ → ℕ → List Polarities → Result ℕ Refusal → Shown → Type 0
ComposesAll s a first bs r t = (p : Part) (l : ℕ) (x : ℕ → ℕ) (f : Fn) (g : ℕ → Fn) → ((i : ℕ) → i < length bs → first + 2 * i ≡ x i)
    → Means s a f → Paired s bs g (length bs) → ((i : ℕ) → i < length bs → x i < s.vars)
    → Gives plain s t (composed_all_list p l x g f (length bs)) (composed_all x g f (length bs)) r

abbrev pub Exists : Shown → ℕ → ℕ → Result ℕ Refusal → Shown → Type 0
Exists s a x r t = (p : Part) (l : ℕ) (f : Fn) → Means s a f → x < s.vars → Gives plain s t (at p l (halves_list x f)) (either (fix x false f) (fix x true f)) r

abbrev pub ExistsAll : Shown → ℕ → ℕ → ℕ → Result ℕ Refusal → Shown → Type 0
ExistsAll s a x m r t = (p : Part) (l : ℕ) (f : Fn) → Means s a f → x + m ≤ s.vars → Gives plain s t (quantified_list p l x f m) (quantified x f m) r

-- each of the functions with its negation
abbrev pub Negates : Shown → List ℕ → Result (Listed Polarities) Refusal → Shown → Type 0
Negates s bs r t = (p : Part) (l : ℕ) (f : ℕ → Fn) → Lawful s → Numbered s bs f (length bs)
    → Ends plain s t (negations_list p l f (length bs)) (λ ps. Lawful t × Paired t ps.items f (length bs)) r

abbrev pub Literally : Shown → List ℕ → Literal → Result ℕ Refusal → Shown → Type 0
Literally s numbers x r t = (p : Part) (l : ℕ) (f : ℕ → Fn) → Means s (slice_index numbers x.line) (f x.line)
    → Gives plain s t (at p l (literal_list f x)) (literal_fn f x) r

abbrev pub GatesOne : Shown → List ℕ → Gate → Result ℕ Refusal → Shown → Type 0
GatesOne s numbers g r t = (p : Part) (l : ℕ) (f : ℕ → Fn) → Means s (slice_index numbers g.left.line) (f g.left.line) → Means s (slice_index numbers g.right.line) (f g.right.line)
    → Ends plain s t (at p l (gate_list f g)) (λ a. Lawful t × Means t a (both (literal_fn f g.left) (literal_fn f g.right))) r

-- line 0 is there; then the registers, the inputs and the copies are, too
abbrev pub MakesVariables : Shown → Model → List ℕ → Result (ArrayVec ℕ) Refusal → List ℕ → Shown → Type 0
MakesVariables s m before r after t = ByWidth plain Variable s t (width m)
    (Numbered s before (line_fn m) 1
    → Ends plain s t (variables_list (width m)) (λ copies. Numbered t after (line_fn m) (gate_line m.circuit 0) × Numbered t copies.items (λ i. bit (copy i)) m.circuit.registers) r)
    r

-- the numbers of the lines before the gates are there; those of the gates are then, too
abbrev pub GatesAll : Shown → Model → List ℕ → Result (Unit {0}) Fault → List ℕ → Shown → Type 0
GatesAll s m before r after t = Numbered s before (line_fn m) (gate_line m.circuit 0)
    → Ends located s t (gates_list m (length m.circuit.gates)) (λ _. Lawful t × Numbered t after (line_fn m) (lines m.circuit)) r

-- all lines and the copies
abbrev pub MakesLines : Shown → Model → Result Lines Fault → Shown → Type 0
MakesLines s m r t = ByWidth located fault.Variable s t (width m)
    (Ends located s t (variables_list (width m) ++ gates_list m (length m.circuit.gates))
    (λ made. Lawful t × Numbered t made.numbers.items (line_fn m) (lines m.circuit) × Numbered t made.copies.items (λ i. bit (copy i)) m.circuit.registers) r)
    r

-- one act on a stack, whose result is not pushed yet
abbrev pub ActsOn : Shown → Model → Act → List ℕ → List ℕ → Result ℕ Refusal → List ℕ → Shown → Type 0
ActsOn s m act numbers stack r stack' t = (p : Part) (l : ℕ) (fs gs k : List Fn) → Numbered s numbers (line_fn m) (lines m.circuit) → Standing s stack fs → Acts m act fs k gs
    → Ends plain s t (at p l k) (λ a. Standing t (stack' ++ a ∷ []) gs) r

abbrev pub MakesClaim : Shown → Part → Model → List Code → List ℕ → Result ℕ Fault → Shown → Type 0
MakesClaim s part m codes numbers r t = (h : Tree) → codes ≡ post h → Known (sizes m.circuit) h → Lawful s → Numbered s numbers (line_fn m) (lines m.circuit)
    → Ends located s t (operators_list m part h) (λ a. Lawful t × Means t a (claim_fn m h)) r

abbrev pub MakesFirst : Shown → Model → ℕ → ℕ → Result ℕ Refusal → Shown → Type 0
MakesFirst s m a b r t = (p : Part) (l : ℕ) (h q : Fn) → width m ≤ s.vars → Means s a h → Means s b q
    → Gives plain s t (first_list p l m.circuit.registers m.circuit.inputs h q) (first_of m.circuit.registers m.circuit.inputs h q) r

-- the first set, whether it meets Init, and the negations
abbrev pub MakesStart : Shown → Model → List ℕ → List ℕ → ℕ → ℕ → Result Built Refusal → Shown → Type 0
MakesStart s m numbers copies a b r t = (p : Part) (l : ℕ) (h q : Fn) → width m ≤ s.vars
    → Numbered s numbers (line_fn m) (lines m.circuit) → Numbered s copies (λ i. bit (copy i)) m.circuit.registers → Means s a h → Means s b q
    → Ends plain s t (start_list p l m.circuit.registers m.circuit.inputs h q (init_fn m) (next_fn m)) (Loaded t m h q) r

-- all of a load: the claims are those that the codes say
abbrev pub Builds : Shown → Netlist → List Code → List Code → Result Built Fault → Shown → Type 0
Builds s c hs qs r t = ByWidth located fault.Variable s t (2 * c.registers + c.inputs)
    ((h q : Tree) → hs ≡ post h → qs ≡ post q
    → Ends located s t (load_list (model c h q)) (Loaded t (model c h q) (claim_fn (model c h q) h) (claim_fn (model c h q) q)) r)
    r

-- all of an advance but the call with Init
abbrev pub StepsBack : Shown → ℕ → Parts → Result ℕ Refusal → Shown → Type 0
StepsBack s a k r t = (p : Part) (l : ℕ) (f h : Fn) (next : ℕ → Fn) → Means s a f → Kept s k next h
    → Gives plain s t (back_list p l (registers_of k) k.m next h f) (back_of (registers_of k) k.m next h f) r

-- What is answered whatever the numbers: `given` says that those given are held before, and each variable asked for is
-- below n.
pub data Tells {X : Type 0} (s t : Shown) (given : Type 0) (n : ℕ) (P : X → Type 0) : Result X Refusal → Type 0 where
  answered : {x : X} → P x → Tells s t given n P (Ok x)
  -- the free units, which some function's price exceeds
  full : (f : Fn) → Lawful t → free t < price t f → Tells s t given n P (Err (Room (free t)))
  -- not all numbers given were held
  unheld : Lawful t → (given → ⊥) → Tells s t given n P (Err Number)
  -- the store has too few variables
  narrow : Lawful t → s.vars < n → Tells s t given n P (Err Variable)

-- where number a is not held, that is told, and the store shows what it showed
abbrev pub Refuses : {X : Type 0} → Shown → ℕ → Result X Refusal → Shown → Type 0
Refuses s a r t = s.held a ≡ false → (t ≡ s) × (r ≡ Err Number)

-- that, or a itself is answered
abbrev pub Passes : Shown → ℕ → Result ℕ Refusal → Shown → Type 0
Passes s a r t = s.held a ≡ false → (t ≡ s) × MatchResult r (λ b. b ≡ a) (λ e. e ≡ Number)

-- both numbers of a pair are held
pub record HeldPair (s : Shown) (p : Polarities) : Type 0 where
  pub function : s.held p.function ≡ true
  pub negation : s.held p.negation ≡ true

abbrev pub HeldPairs : Shown → List Polarities → Type 0
HeldPairs s ps = (i : ℕ) → i < length ps → HeldPair s (slice_index_or ps i unpaired)

-- what the parts of a step back tell whatever the numbers
abbrev pub CofactorsTold : Shown → ℕ → ℕ → Result (ℕ × ℕ) Refusal → Shown → Type 0
CofactorsTold s a x r t = Tells s t (s.held a ≡ true) (x + 1) (λ c. (t.held c.0 ≡ true) × (t.held c.1 ≡ true)) r

abbrev pub ComposesTold : Shown → ℕ → ℕ → Polarities → Result ℕ Refusal → Shown → Type 0
ComposesTold s a x b r t = Tells s t ((s.held a ≡ true) × HeldPair s b) (x + 1) (λ c. t.held c ≡ true) r

abbrev pub ComposesAllTold : Shown → ℕ → ℕ → List Polarities → Result ℕ Refusal → Shown → Type 0
ComposesAllTold s a first bs r t = Tells s t ((s.held a ≡ true) × HeldPairs s bs) (first + 2 * length bs - 1)
    (λ c. s.held a ≡ true → t.held c ≡ true) r

abbrev pub ExistsTold : Shown → ℕ → ℕ → Result ℕ Refusal → Shown → Type 0
ExistsTold s a x r t = Tells s t (s.held a ≡ true) (x + 1) (λ c. t.held c ≡ true) r

abbrev pub ExistsAllTold : Shown → ℕ → ℕ → ℕ → Result ℕ Refusal → Shown → Type 0
ExistsAllTold s a first m r t = Tells s t (s.held a ≡ true) (first + m) (λ c. s.held a ≡ true → t.held c ≡ true) r

-- all numbers that a step back is given are held
pub record AllHeld (s : Shown) (from : ℕ) (k : Parts) : Type 0 where
  pub source : s.held from ≡ true
  pub copies : HeldPairs s k.copies.items
  pub nexts : HeldPairs s k.nexts.items
  pub assumed : s.held k.assumed ≡ true

-- what a step back tells whatever the numbers: a number that is then held, and the store is lawful, too
pub record Behaves (s : Shown) (from : ℕ) (k : Parts) (r : Result ℕ Refusal) (t : Shown) : Type 0 where
  pub tells : Tells s t (AllHeld s from k) (2 * registers_of k + k.m) (λ a. Lawful t × (t.held a ≡ true)) r
  pub refuses : Refuses s from r t
