-- What the answers of a store say of a model's system.
use Rattle.std.proofs.Common.{◌≡◌, ℕ, ◌+◌, ◌*◌, ◌^◌, ◌<◌, ◌≤◌, Bool, true, false, not, ◌&&◌, get_or, Ok, Err, Result, sym, ap, ◌∙◌, subst, ap₂, arith, pow_pos, pow_mono}
use Rattle.store.specs.declared.refusal.Refusal.{Refusal}
use Rattle.store.specs.Fun.{Fn, bit}
use Rattle.store.specs.Meaning.{Shown}
use Rattle.store.specs.Calls.{TellsValue}
use Rattle.making.specs.Faults.{Fault}
use Rattle.making.specs.declared.parts.Parts.{Parts}
use Rattle.making.specs.Making.{Means, unpaired}
use Rattle.making.specs.Loads.{registers_of}
use Rattle.runs.specs.Functions.{spread}
use Rattle.runs.specs.Valuations.{set_fn}
use Rattle.runs.specs.Models.{Model, system}
use Rattle.runs.specs.Search.{bad}
use Rattle.runs.specs.Systems.{State, Input}
use Rattle.runs.proofs.Models.{closed, functions_exact}
use Rattle.runs.proofs.Numbers.{spreads}
use Rattle.engine.specs.Questions.{Readable, Tells, GoesTo}
use Rattle.uses.proofs.Told.{never}

-- the store shows the same
pub told_still : (s t : Shown) (n a q v : ℕ) (r : Result Bool Fault) → s ≡ t → Tells s n a q v r → Tells t n a q v r
told_still s t n a q v r e = subst (λ x. Tells x n a q v r) e

pub goes_still : (s t : Shown) (k : Parts) (q v : ℕ) (r : Result ℕ Fault) → s ≡ t → GoesTo s k q v r → GoesTo t k q v r
goes_still s t k q v r e = subst (λ x. GoesTo x k q v r) e

-- no refusal is an answer
pub refused : {X : Type 0} {A : Type 0} {e : Fault} {b : A} → ◌≡◌ {A = Result A Fault} (Err e) (Ok b) → X
refused p = never (cc)

pub negated : {a x : Bool} → ◌≡◌ {A = Result Bool Fault} (Ok a) (Ok x) → ◌≡◌ {A = Result Bool Fault} (Ok (not a)) (Ok (not x))
negated {a} {x} p = let e : a ≡ x = cc in ap (λ y. Ok (not y)) e

-- two tests in a row
module _ (a x y : Bool) (p : ◌≡◌ {A = Result Bool Fault} (Ok a) (Ok x)) where
  pub first_fails : a ≡ false → ◌≡◌ {A = Result Bool Fault} (Ok a) (Ok (x && y))
  first_fails e = let h : false ≡ x = cc in ap Ok e ∙ ap (λ z. Ok (z && y)) h

  pub second_tells : (r : Result Bool Fault) → a ≡ true → r ≡ Ok y → r ≡ Ok (x && y)
  second_tells r e q = let h : true ≡ x = cc in q ∙ ap (λ z. Ok (z && y)) h

-- what a value question says of a function at the valuation of a state and an input
module _ (s : Shown) (n m a q v w : ℕ) (f : Fn) (at : w ≡ spread n q v) (e : Means s a f) (wide : 2 * n + m ≤ s.vars) (lq : q < 2 ^ n) (lv : v < 2 ^ m) where
  pub answered : (r : Result Bool Refusal) → TellsValue s a w r → r ≡ Ok (f (spread n q v))
  answered r t =
      let b = (spreads n m q v lq lv).below in
      let p = pow_mono {i = 2 * n + m} {j = s.vars} wide in
      let h : w < 2 ^ s.vars = omega arith in
      t.value e.held h ∙ ap Ok (e.same w h ∙ ap f at)

module _ (s : Shown) (m : Model) (k : Parts) (h : Readable s m k) where
  at_spread : (a : ℕ) (f : Fn) (q v : ℕ) (r : Result Bool Fault) → Means s a f → State (system m) q → Input (system m) v → Tells s (registers_of k) a q v r
      → r ≡ Ok (f (spread m.circuit.registers q v))
  at_spread a f q v r e lq lv t =
      t m.circuit.inputs f e (subst (λ i. 2 * registers_of k + i ≤ s.vars) h.inputs h.parts.wide) (subst (λ n. q < 2 ^ n) (sym h.registers) lq) lv
      ∙ ap (λ n. Ok (f (spread n q v))) h.registers

  pub assumed_is : (q v : ℕ) (r : Result Bool Fault) → State (system m) q → Input (system m) v → Tells s (registers_of k) k.assumed q v r → r ≡ Ok ((system m).assumed q v)
  assumed_is q v r lq lv t =
      let p = spreads m.circuit.registers m.circuit.inputs q v lq lv in
      at_spread k.assumed _ q v r h.parts.assumed lq lv t
      ∙ ap Ok ((functions_exact m h.valid).stepped.stands.assumes (spread m.circuit.registers q v) ∙ ap₂ (system m).assumed p.state p.input)

  pub property_is : (q v : ℕ) (r : Result Bool Fault) → State (system m) q → Input (system m) v → Tells s (registers_of k) k.property q v r → r ≡ Ok ((system m).property q v)
  property_is q v r lq lv t =
      let p = spreads m.circuit.registers m.circuit.inputs q v lq lv in
      at_spread k.property _ q v r h.property lq lv t
      ∙ ap Ok ((functions_exact m h.valid).stepped.stands.claims (spread m.circuit.registers q v) ∙ ap₂ (system m).property p.state p.input)

  pub next_is : (i a q v : ℕ) (r : Result Bool Fault) → i < registers_of k → a ≡ (get_or k.nexts.items i unpaired).function → State (system m) q → Input (system m) v → Tells s (registers_of k) a q v r
      → r ≡ Ok (bit i ((system m).next q v))
  next_is i a q v r l e lq lv t =
      let p = spreads m.circuit.registers m.circuit.inputs q v lq lv in
      at_spread (get_or k.nexts.items i unpaired).function _ q v r (h.parts.nexts i l).function lq lv (subst (λ x. Tells s (registers_of k) x q v r) e t)
      ∙ ap Ok ((functions_exact m h.valid).stepped.stands.nexts i (subst (λ n. i < n) h.registers l) (spread m.circuit.registers q v)
      ∙ ap₂ (λ x y. bit i ((system m).next x y)) p.state p.input)

  pub init_is : (q : ℕ) (r : Result Bool Fault) → State (system m) q → Tells s (registers_of k) k.init q 0 r → r ≡ Ok ((system m).init q)
  init_is q r lq t =
      let lv = pow_pos m.circuit.inputs in
      at_spread k.init _ q 0 r h.init lq lv t
      ∙ ap Ok ((functions_exact m h.valid).stepped.stands.starts (spread m.circuit.registers q 0)
      ∙ ap (system m).init (spreads m.circuit.registers m.circuit.inputs q 0 lq lv).state)

  pub set_is : (i a q : ℕ) (r : Result Bool Fault) → Means s a (set_fn m i) → State (system m) q → Tells s (registers_of k) a q 0 r → r ≡ Ok (bad (system m) i q)
  set_is i a q r e lq t =
      let lv = pow_pos m.circuit.inputs in
      at_spread a _ q 0 r e lq lv t
      ∙ ap (λ x. Ok (bad (system m) i x)) (spreads m.circuit.registers m.circuit.inputs q 0 lq lv).state

  -- a set at the next state
  pub after_is : (i a q v next : ℕ) (r : Result Bool Fault) → Means s a (set_fn m i) → State (system m) q → Input (system m) v
      → ◌≡◌ {A = Result ℕ Fault} (Ok next) (Ok ((system m).next q v)) → Tells s (registers_of k) a next 0 r → r ≡ Ok (bad (system m) i ((system m).next q v))
  after_is i a q v next r e lq lv p t =
      let x : next ≡ (system m).next q v = cc in
      set_is i a ((system m).next q v) r e (closed m q v lq lv) (subst (λ y. Tells s (registers_of k) a y 0 r) x t)
