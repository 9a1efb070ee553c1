-- How many calls the lists have.
use Rattle.std.proofs.Common.{◌≡◌, ℕ, zero, suc, ◌+◌, ◌*◌, ◌≤◌, Bool, true, false, cond, List, [], ◌∷◌, ◌++◌, length, refl, suc-mul, arith, length-append}
use Rattle.store.specs.Fun.{Fn, bit, same}
use Rattle.circuit.specs.declared.gate.Gate.{Gate}
use Rattle.circuit.specs.Literals.{Literal}
use Rattle.circuit.specs.Netlists.{gate}
use Rattle.claim.specs.declared.code.Code.{Code}
use Rattle.claim.specs.Faults.{Read}
use Rattle.claim.specs.Grammar.{Tree, const, named, neg, conj, disj, post, code, operators}
use Rattle.claim.specs.declared.code.Act.TheVariants.{Not, And, Or}
use Rattle.claim.proofs.Lengths.{read_operators}
use Rattle.description.specs.declared.part.Part.{Part}
use Rattle.description.specs.declared.part.Part.TheVariants.{Circuit, Assumption, Property, Sets}
use Rattle.runs.specs.Functions.{register, copy, negated, both, composed_all, quantified, copied, pre_image, first_of, back_of}
use Rattle.runs.specs.Models.{Model, system, sizes}
use Rattle.runs.specs.Search.{bad}
use Rattle.runs.specs.Valuations.{literal_fn, line_fn, claim_fn, next_fn, init_fn, set_fn, back_fn}
use Rattle.making.specs.Models.{width}
use Rattle.making.specs.Making.{Item, at, upto}
use Rattle.making.specs.Pieces.{composed_list, composed_all_list, halves_list, quantified_list, negations_list, variables_list, literal_list, gate_list, gates_list, operators_list}
use Rattle.making.specs.Loads.{start_list, load_list, back_list, advance_list}
use Rattle.making.specs.Bounds.{load_bound, advance_bound}

at_length : (p : Part) (l : ℕ) (fs : List Fn) → length (at p l fs) ≡ length fs
at_length p l [] = refl
at_length p l (f ∷ fs) = omega (arith, at_length p l fs)

upto_length : (c : ℕ) (F : ℕ → List Item) → ((i : ℕ) → length (F i) ≤ c) → (n : ℕ) → length (upto n F) ≤ n * c
upto_length c F h zero = omega arith
upto_length c F h (suc n) = omega (arith, length-append (upto n F) (F n), suc-mul n c, h n, upto_length c F h n)

literal_length : (f : ℕ → Fn) (x : Literal) → length (literal_list f x) ≤ 1
literal_length f x = by x.negated
  where
    by : (b : Bool) → length {A = Fn} (cond b (negated (f x.line) ∷ []) []) ≤ 1
    by true = omega arith
    by false = omega arith

gate_length : (p : Part) (l : ℕ) (f : ℕ → Fn) (g : Gate) → length (at p l (gate_list f g)) ≤ 3
gate_length p l f g =
    let a = literal_list f g.left in
    let b = literal_list f g.right in
    let c : List Fn = both (literal_fn f g.left) (literal_fn f g.right) ∷ [] in
    omega (arith, at_length p l (a ++ (b ++ c)), length-append a (b ++ c), length-append b c, literal_length f g.left, literal_length f g.right)

operators_append : (xs ys : List Code) → operators (xs ++ ys) ≡ operators xs + operators ys
operators_append [] ys = omega arith
operators_append (x ∷ xs) ys = omega (arith, operators_append xs ys)

-- an operator comes after its two operands
two_length :
    (k l o : List Item) (xs ys zs : List Code)
    → length k ≡ operators xs
    → length l ≡ operators ys
    → length o ≡ operators zs
    → length (k ++ (l ++ o)) ≡ operators (xs ++ (ys ++ zs))
two_length k l o xs ys zs a b c =
    omega (arith, a, b, c, length-append k (l ++ o), length-append l o, operators_append xs (ys ++ zs), operators_append ys zs)

-- a call for each operator
operators_length : (m : Model) (part : Part) (t : Tree) → length (operators_list m part t) ≡ operators (post t)
operators_length m part (const p b) = refl
operators_length m part (named p s i) = refl
operators_length m part (neg p t) =
    omega (arith, operators_length m part t, operators_append (post t) (code Not p ∷ []), length-append (operators_list m part t) (at part p (claim_fn m (neg p t) ∷ [])))
operators_length m part (conj p t u) =
    two_length (operators_list m part t) (operators_list m part u) (at part p (claim_fn m (conj p t u) ∷ [])) (post t) (post u) (code And p ∷ [])
    (operators_length m part t) (operators_length m part u) refl
operators_length m part (disj p t u) =
    two_length (operators_list m part t) (operators_list m part u) (at part p (claim_fn m (disj p t u) ∷ [])) (post t) (post u) (code Or p ∷ [])
    (operators_length m part t) (operators_length m part u) refl

negations_length : (p : Part) (l : ℕ) (f : ℕ → Fn) (n : ℕ) → length (negations_list p l f n) ≤ n
negations_length p l f n = omega (arith, upto_length 1 (λ i. at p l (negated (f i) ∷ [])) (λ i. omega arith) n)

quantified_length : (p : Part) (l x : ℕ) (f : Fn) (m : ℕ) → length (quantified_list p l x f m) ≤ 3 * m
quantified_length p l x f m = omega (arith, upto_length 3 (λ j. at p l (halves_list (x + j) (quantified x f j))) (λ i. omega arith) m)

composed_length : (p : Part) (l : ℕ) (x : ℕ → ℕ) (g : ℕ → Fn) (f : Fn) (n : ℕ) → length (composed_all_list p l x g f n) ≤ 5 * n
composed_length p l x g f n = omega (arith, upto_length 5 (λ i. at p l (composed_list (x i) (g i) (composed_all x g f i))) (λ i. omega arith) n)

start_length : (p : Part) (l n m : ℕ) (h q init : Fn) (next : ℕ → Fn) → length (start_list p l n m h q init next) ≤ 2 * n + 3 * m + 3
start_length p l n m h q init next =
    let a : List Item = at p l (negated q ∷ both (negated q) h ∷ []) in
    let b = quantified_list p l (2 * n) (both (negated q) h) m in
    let c : List Item = at p l (both (first_of n m h q) init ∷ []) in
    let d = negations_list p l (λ i. bit (copy i)) n in
    let e = negations_list p l next n in
    omega (
      arith,
      length-append (a ++ b) (c ++ (d ++ e)),
      length-append a b,
      length-append c (d ++ e),
      length-append d e,
      quantified_length p l (2 * n) (both (negated q) h) m,
      negations_length p l (λ i. bit (copy i)) n,
      negations_length p l next n,
    )

pub load_length : (m : Model) → length (load_list m) ≤ load_bound m (operators (post m.assumption)) (operators (post m.property))
load_length m =
    let n = m.circuit.registers in
    let k = m.circuit.inputs in
    let h = claim_fn m m.assumption in
    let q = claim_fn m m.property in
    let a = variables_list (width m) in
    let b = gates_list m (length m.circuit.gates) in
    let c = operators_list m Assumption m.assumption in
    let d = operators_list m Property m.property in
    let e = start_list Sets 0 n k h q (init_fn m) (next_fn m) in
    omega (
      arith,
      length-append a (b ++ (c ++ (d ++ e))),
      length-append b (c ++ (d ++ e)),
      length-append c (d ++ e),
      length-append d e,
      upto_length 1 (λ i. at Circuit 0 (bit i ∷ [])) (λ i. omega arith) (width m),
      upto_length 3 (λ g. at Circuit g (gate_list (line_fn m) (gate m.circuit g))) (λ g. gate_length Circuit g (line_fn m) (gate m.circuit g)) (length m.circuit.gates),
      operators_length m Assumption m.assumption,
      operators_length m Property m.property,
      start_length Sets 0 n k h q (init_fn m) (next_fn m),
    )

pub load_texts :
    (m : Model) {a p : List ℕ}
    → Read a (sizes m.circuit) m.assumption
    → Read p (sizes m.circuit) m.property
    → length (load_list m) ≤ load_bound m (length a) (length p)
load_texts m h q = omega (arith, load_length m, read_operators h, read_operators q)

back_length : (p : Part) (l n m : ℕ) (next : ℕ → Fn) (h f : Fn) → length (back_list p l n m next h f) ≤ 10 * n + 3 * m + 2
back_length p l n m next h f =
    let g = both (pre_image n next f) h in
    let a = composed_all_list p l register (λ i. bit (copy i)) f n in
    let b = composed_all_list p l copy next (copied n f) n in
    let c : List Item = at p l (g ∷ []) in
    let d = quantified_list p l (2 * n) g m in
    let e : List Item = at p l (back_of n m next h f ∷ []) in
    omega (
      arith,
      length-append a (b ++ (c ++ (d ++ e))),
      length-append b (c ++ (d ++ e)),
      length-append c (d ++ e),
      length-append d e,
      composed_length p l register (λ i. bit (copy i)) f n,
      composed_length p l copy next (copied n f) n,
      quantified_length p l (2 * n) g m,
    )

pub advance_length : (m : Model) (j : ℕ) → length (advance_list m j) ≤ advance_bound m
advance_length m j =
    let n = m.circuit.registers in
    let k = m.circuit.inputs in
    let h = claim_fn m m.assumption in
    let a = back_list Sets j n k (next_fn m) h (set_fn m j) in
    let b : List Item = cond (same n (bad (system m) (suc j)) (bad (system m) j)) [] (at Sets j (both (back_fn m j) (init_fn m) ∷ [])) in
    omega (arith, length-append a b, back_length Sets j n k (next_fn m) h (set_fn m j), last (same n (bad (system m) (suc j)) (bad (system m) j)))
  where
    last : (b : Bool) → length {A = Item} (cond b [] (at Sets j (both (back_fn m j) (init_fn m) ∷ []))) ≤ 1
    last true = omega arith
    last false = omega arith
