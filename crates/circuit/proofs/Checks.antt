-- The first gate that is miswired.
use Rattle.std.proofs.Common.{◌≡◌, ℕ, zero, suc, ◌<◌, Bool, true, false, length, refl, ap, ◌∙◌, ⊎_elim, arith}
use Rattle.std.proofs.lemmas.Bool.{cond-true, cond-false, cases_Bool, ltb-true, lt-ltb, and_parts, and_from, not-false, not_from_true, both_ways}
use Rattle.circuit.specs.Netlists.{Netlist}
use Rattle.circuit.specs.Rules.{least, miswired, Wired, first_miswired, Tested}
use Rattle.circuit.proofs.Lines.{touching_tells}

pub least_at : (n : ℕ) (p : ℕ → Bool) (k : ℕ) → k < n → p k ≡ true → ((i : ℕ) → i < k → p i ≡ false) → least n p ≡ k
least_at zero p k h t f = absurd (omega arith)
least_at (suc n) p zero h t f = cond-true (p 0) _ _ t
least_at (suc n) p (suc k) h t f =
    cond-false (p 0) _ _ (f 0 (omega arith)) ∙ ap suc (least_at n (λ i. p (suc i)) k (omega arith) t (λ i l. f (suc i) (omega arith)))

pub least_none : (n : ℕ) (p : ℕ → Bool) → ((i : ℕ) → i < n → p i ≡ false) → least n p ≡ n
least_none zero p f = refl
least_none (suc n) p f = cond-false (p 0) _ _ (f 0 (omega arith)) ∙ ap suc (least_none n (λ i. p (suc i)) (λ i l. f (suc i) (omega arith)))

before_least : (n : ℕ) (p : ℕ → Bool) (i : ℕ) → i < least n p → p i ≡ false
before_least zero p i h = absurd (omega arith)
before_least (suc n) p i h = ⊎_elim
    (λ t. absurd (omega (arith, cond-true (p 0) 0 (suc (least n (λ j. p (suc j)))) t)))
    (λ f. go (before_least n (λ j. p (suc j))) i f (omega (arith, cond-false (p 0) 0 (suc (least n (λ j. p (suc j)))) f)))
    (cases_Bool (p 0))
  where
    go : ((k : ℕ) → k < least n (λ j. p (suc j)) → p (suc k) ≡ false) → (i : ℕ) → p 0 ≡ false → i < suc (least n (λ j. p (suc j))) → p i ≡ false
    go later zero f l = f
    go later (suc k) f l = later k (omega arith)

at_least : (n : ℕ) (p : ℕ → Bool) → least n p < n → p (least n p) ≡ true
at_least zero p h = absurd (omega arith)
at_least (suc n) p h = ⊎_elim
    (λ t. ap p (cond-true (p 0) 0 _ t) ∙ t)
    (λ f.
    let e = cond-false (p 0) 0 (suc (least n (λ j. p (suc j)))) f in
    ap p e ∙ at_least n (λ j. p (suc j)) (omega arith))
    (cases_Bool (p 0))

pub wired_from : (c : Netlist) (g : ℕ) → miswired c g ≡ false → Wired c g
wired_from c g e =
    let p = and_parts _ _ (not-false _ e) in
    (ltb-true _ _ p.0, ltb-true _ _ p.1)

pub wired_not : (c : Netlist) (g : ℕ) → Wired c g → miswired c g ≡ false
wired_not c g w = not_from_true _ (and_from _ _ (lt-ltb _ _ w.0) (lt-ltb _ _ w.1))

miswired_not : (c : Netlist) (g : ℕ) → miswired c g ≡ true → Wired c g → ⊥
miswired_not c g e w = both_ways _ (wired_not c g w) e

pub tested : (c : Netlist) → Tested c
tested c = record {
  all_wired = λ e g h. wired_from c g (before_least (length c.gates) (miswired c) g (omega arith));
  first = λ h. miswired_not c (first_miswired c) (at_least (length c.gates) (miswired c) h);
  earlier = λ g h. wired_from c g (before_least (length c.gates) (miswired c) g h);
  touches = λ w x h. touching_tells c w _ (omega arith) x h;
}
