-- The parts of a job, joined again.
use Rattle.std.proofs.Common.{◌≡◌, ◌↔◌, ℕ, ◌+◌, ◌*◌, ◌/◌, ◌%◌, ◌<◌, ◌≤◌, Bool, true, false, cond, eqb, ltb, List, [], ◌∷◌, ◌++◌, length, take, drop, Ok, Err, Result, refl, sym, ap, ap₂, ◌∙◌, subst, arith}
use Rattle.std.proofs.lemmas.List.{get_or-take, get_or_append_left, drop-drop, take_at, drop_at, take-append-drop, length-append, length-take-le, length-drop}
use Rattle.std.proofs.lemmas.Bool.{cond-false, cond-true, le-ltb, eq-eqb, eqb-true}
use Rattle.circuit.specs.Files.{number_at, number_bytes, count}
use Rattle.circuit.proofs.Numbers.{IsBytes}
use Rattle.job.specs.Frames.{Parts, bytes_of, Framed, circuit_length, assumption_length, property_length, total, frame}
use Rattle.job.specs.declared.fault.Fault.{Fault}
use Rattle.job.specs.declared.fault.Fault.TheVariants.{Length}
use Rattle.job.proofs.Splits.{count_back}

-- the third number of what begins with a circuit file
count_front : (c rest : List ℕ) → 6 ≤ length c → count (c ++ rest) ≡ count c
count_front c rest l = ap₂ (λ x y. x + 256 * y) (get_or_append_left c rest 0 4 (omega arith)) (get_or_append_left c rest 0 5 (omega arith))

module _ (p : Parts) (long : length p.circuit ≡ 6 + 4 * count p.circuit) where
  circuit_is : circuit_length (bytes_of p) ≡ length p.circuit
  circuit_is = ap (λ n. 6 + 4 * n) (count_front p.circuit (p.assumption ++ p.property) (omega arith)) ∙ sym long

  assumption_is : assumption_length (bytes_of p) ≡ length p.assumption
  assumption_is = omega arith

  property_is : property_length (bytes_of p) ≡ length p.property
  property_is = omega arith

  total_is : length (bytes_of p) ≡ total (bytes_of p)
  total_is = omega (arith, circuit_is, assumption_is, property_is, length-append p.circuit (p.assumption ++ p.property), length-append p.assumption p.property)

  after_circuit : drop (4 + length p.circuit) (bytes_of p) ≡ p.assumption ++ p.property
  after_circuit = sym (drop-drop (length p.circuit) 4 (bytes_of p)) ∙ drop_at p.circuit (p.assumption ++ p.property) (length p.circuit) refl

  after_assumption : drop (4 + length p.circuit + length p.assumption) (bytes_of p) ≡ p.property
  after_assumption = sym (drop-drop (length p.assumption) (4 + length p.circuit) (bytes_of p)) ∙ ap (drop (length p.assumption)) after_circuit ∙ drop_at p.assumption p.property (length p.assumption) refl

  pub frame_joined : frame (bytes_of p) ≡ Ok p
  frame_joined =
      let bs = bytes_of p in
      let first : take (circuit_length bs) (drop 4 bs) ≡ p.circuit = ap (λ n. take n (p.circuit ++ (p.assumption ++ p.property))) circuit_is ∙ take_at p.circuit (p.assumption ++ p.property) (length p.circuit) refl in
      let second : take (assumption_length bs) (drop (4 + circuit_length bs) bs) ≡ p.assumption =
      ap₂ (λ m n. take m (drop (4 + n) bs)) assumption_is circuit_is ∙ ap (take (length p.assumption)) after_circuit ∙ take_at p.assumption p.property (length p.assumption) refl
      in
      let third : drop (4 + circuit_length bs + assumption_length bs) bs ≡ p.property = ap₂ (λ m n. drop (4 + n + m) bs) assumption_is circuit_is ∙ after_assumption in
      cond-false _ _ _ (le-ltb (length bs) 10 (omega (arith, total_is)))
      ∙ cond-true _ _ _ (eq-eqb (length bs) (total bs) total_is)
      ∙ ap (λ (x : Parts). Ok x) (λ i. record { circuit = first i; assumption = second i; property = third i })

-- four bytes are two numbers
front : (bs : List ℕ) → IsBytes bs → 4 ≤ length bs → bs ≡ number_bytes (number_at bs 0) ++ (number_bytes (number_at bs 1) ++ drop 4 bs)
front [] small l = absurd (omega arith)
front (a ∷ []) small l = absurd (omega arith)
front (a ∷ b ∷ []) small l = absurd (omega arith)
front (a ∷ b ∷ c ∷ []) small l = absurd (omega arith)
front (a ∷ b ∷ c ∷ d ∷ rest) small l =
    let x : a < 256 = small 0 in
    let y : c < 256 = small 2 in
    let p : a ≡ (a + 256 * b) % 256 = omega arith in
    let q : b ≡ (a + 256 * b) / 256 = omega arith in
    let r : c ≡ (c + 256 * d) % 256 = omega arith in
    let s : d ≡ (c + 256 * d) / 256 = omega arith in
    λ i. p i ∷ q i ∷ r i ∷ s i ∷ rest

-- what a job is cut into
abbrev pieces_of : List ℕ → Parts
pieces_of bs = record {
  circuit = take (circuit_length bs) (drop 4 bs);
  assumption = take (assumption_length bs) (drop (4 + circuit_length bs) bs);
  property = drop (4 + circuit_length bs + assumption_length bs) bs;
}

-- bytes that pass are joined of what they are cut into
module _ (bs : List ℕ) (l : length bs ≡ total bs) where
  long_circuit : length (pieces_of bs).circuit ≡ circuit_length bs
  long_circuit = length-take-le (circuit_length bs) (drop 4 bs) (omega (arith, l, length-drop 4 bs))

  long_assumption : length (pieces_of bs).assumption ≡ assumption_length bs
  long_assumption = length-take-le (assumption_length bs) (drop (4 + circuit_length bs) bs) (omega (arith, l, length-drop (4 + circuit_length bs) bs))

  long_property : length (pieces_of bs).property ≡ property_length bs
  long_property = omega (arith, l, length-drop (4 + circuit_length bs + assumption_length bs) bs)

  count_is : count (pieces_of bs).circuit ≡ number_at bs 4
  count_is = ap₂ (λ x y. x + 256 * y) (get_or-take (circuit_length bs) (drop 4 bs) 4 0 (omega arith)) (get_or-take (circuit_length bs) (drop 4 bs) 5 0 (omega arith)) ∙ count_back bs

  texts_joined : (pieces_of bs).assumption ++ (pieces_of bs).property ≡ drop (4 + circuit_length bs) bs
  texts_joined =
      ap (λ xs. (pieces_of bs).assumption ++ xs) (sym (drop-drop (assumption_length bs) (4 + circuit_length bs) bs))
      ∙ take-append-drop (assumption_length bs) (drop (4 + circuit_length bs) bs)

  rest_joined : (pieces_of bs).circuit ++ ((pieces_of bs).assumption ++ (pieces_of bs).property) ≡ drop 4 bs
  rest_joined =
      ap (λ xs. (pieces_of bs).circuit ++ xs) (texts_joined ∙ sym (drop-drop (circuit_length bs) 4 bs))
      ∙ take-append-drop (circuit_length bs) (drop 4 bs)

  joined_length : length bs ≡ 4 + length (pieces_of bs).circuit + length (pieces_of bs).assumption + length (pieces_of bs).property
  joined_length = omega (arith, l, long_circuit, long_assumption, long_property)

  framed_pieces : IsBytes bs → Framed bs (pieces_of bs)
  framed_pieces small = record {
    bytes =
        front bs small (omega (arith, l))
        ∙ sym (ap₂ (λ a p. number_bytes a ++ (number_bytes p ++ drop 4 bs)) long_assumption long_property)
        ∙ sym (ap (λ xs. number_bytes (length (pieces_of bs).assumption) ++ (number_bytes (length (pieces_of bs).property) ++ xs)) rest_joined);
    circuit = long_circuit ∙ sym (ap (λ k. 6 + 4 * k) count_is);
  }

refused_if : (b : Bool) (r : Result Parts Fault) (f : Fault) (p : Parts) → cond b (Err f) r ≡ Ok p → r ≡ Ok p
refused_if true r f p h = absurd cc
refused_if false r f p h = h

passed_if : (b : Bool) (x p : Parts) (f : Fault) → cond b (Ok x) (Err f) ≡ Ok p → (b ≡ true) × (x ≡ p)
passed_if true x p f h = (refl, cc)
passed_if false x p f h = absurd cc

cut_from : (bs : List ℕ) (p : Parts) → frame bs ≡ Ok p → (length bs ≡ total bs) × (pieces_of bs ≡ p)
cut_from bs p h =
    let long = refused_if (ltb (length bs) 10) _ (Length (length bs)) p h in
    let is = passed_if (eqb (length bs) (total bs)) _ p (Length (length bs)) long in
    (eqb-true _ _ is.0, is.1)

framed_from : (bs : List ℕ) → IsBytes bs → (p : Parts) → frame bs ≡ Ok p → Framed bs p
framed_from bs small p h =
    let is = cut_from bs p h in
    subst (Framed bs) is.1 (framed_pieces bs is.0 small)

-- a job is as long as its parts and two numbers
pub framed_length : (bs : List ℕ) (p : Parts) → frame bs ≡ Ok p → length bs ≡ 4 + length p.circuit + length p.assumption + length p.property
framed_length bs p h =
    let is = cut_from bs p h in
    subst (λ (q : Parts). length bs ≡ 4 + length q.circuit + length q.assumption + length q.property) is.1 (joined_length bs is.0)

pub framed_exactly : (bs : List ℕ) (r : Result Parts Fault) → r ≡ frame bs → IsBytes bs → (p : Parts) → (r ≡ Ok p) ↔ Framed bs p
framed_exactly bs r e small p = ((λ h. framed_from bs small p (sym e ∙ h)), (λ f. e ∙ ap frame f.bytes ∙ frame_joined p f.circuit))
