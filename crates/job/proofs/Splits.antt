-- A job that is cut in three.
use Rattle.std.proofs.Common.{◌≡◌, ℕ, ◌+◌, ◌*◌, ◌<◌, List, length, take, drop, Ok, sym, ap, ◌∙◌, ap₂, arith}
use Rattle.std.specs.List.{IsSplitAt}
use Rattle.std.proofs.lemmas.List.{get_or-take, get_or-drop, drop-drop}
use Rattle.std.proofs.lemmas.Bool.{cond-false, cond-true, le-ltb, eq-eqb}
use Rattle.circuit.specs.Files.{number_at, count}
use Rattle.job.specs.Frames.{Parts, circuit_length, assumption_length, property_length, total, frame}

number_front : (bs : List ℕ) (i : ℕ) → 2 * i + 1 < 4 → number_at (take 4 bs) i ≡ number_at bs i
number_front bs i l = ap₂ (λ x y. x + 256 * y) (get_or-take 4 bs (2 * i) 0 (omega arith)) (get_or-take 4 bs (2 * i + 1) 0 l)

pub count_back : (bs : List ℕ) → count (drop 4 bs) ≡ number_at bs 4
count_back bs = ap₂ (λ x y. x + 256 * y) (get_or-drop 4 bs 4 0) (get_or-drop 4 bs 5 0)

-- the lengths, and then the parts one after the other
pub cut : (bs lengths parts c texts a p : List ℕ) → IsSplitAt bs 4 lengths parts → IsSplitAt parts (6 + 4 * count parts) c texts → IsSplitAt texts (number_at lengths 0) a p
    → length p ≡ number_at lengths 1 → Ok (record { circuit = c; assumption = a; property = p }) ≡ frame bs
cut bs lengths parts c texts a p h k l e =
    let circuit_is : 6 + 4 * count parts ≡ circuit_length bs = ap (λ xs. 6 + 4 * count xs) h.2 ∙ ap (λ i. 6 + 4 * i) (count_back bs) in
    let assumption_is : number_at lengths 0 ≡ assumption_length bs = ap (λ xs. number_at xs 0) h.1 ∙ number_front bs 0 (omega arith) in
    let property_is : length p ≡ property_length bs = e ∙ ap (λ xs. number_at xs 1) h.1 ∙ number_front bs 1 (omega arith) in
    let whole : length bs ≡ total bs = omega (arith, h.4, k.4, l.4) in
    let first = k.1 ∙ ap₂ take circuit_is h.2 in
    let rest = k.2 ∙ ap₂ drop circuit_is h.2 ∙ drop-drop (circuit_length bs) 4 bs in
    let second = l.1 ∙ ap₂ take assumption_is rest in
    let third = l.2 ∙ ap₂ drop assumption_is rest ∙ drop-drop (assumption_length bs) (4 + circuit_length bs) bs in
    ap (λ (p : Parts). Ok p) (λ i. record { circuit = first i; assumption = second i; property = third i })
    ∙ sym (cond-false _ _ _ (le-ltb (length bs) 10 (omega arith)) ∙ cond-true _ _ _ (eq-eqb (length bs) (total bs) whole))
