-- Literals and gates.
use Rattle.std.proofs.Common.{◌≡◌, ℕ, true, false, cond, List, [], ◌∷◌, ◌++◌, Ok, Result, sym, refl, ap, ◌∙◌, subst}
use Rattle.store.specs.declared.refusal.Refusal.{Refusal}
use Rattle.store.specs.Fun.{Fn}
use Rattle.store.specs.Meaning.{Shown}
use Rattle.circuit.specs.declared.gate.Gate.{Gate}
use Rattle.circuit.specs.Literals.{Literal}
use Rattle.description.specs.declared.part.Part.{Part}
use Rattle.runs.specs.Functions.{negated, both}
use Rattle.making.specs.Making.{at, ended, Means}
use Rattle.runs.specs.Valuations.{literal_fn}
use Rattle.making.specs.Pieces.{literal_list, gate_list}
use Rattle.making.specs.Ends.{Ends, made, plain}

pub literal_negated : {s t : Shown} (p : Part) (l : ℕ) (f : ℕ → Fn) (x : Literal) {r : Result ℕ Refusal} → x.negated ≡ true
    → Ends plain s t (at p l (negated (f x.line) ∷ [])) (λ a. Means t a (negated (f x.line))) r
    → Ends plain s t (at p l (literal_list f x)) (λ a. Means t a (literal_fn f x)) r
literal_negated {s = s} {t = t} p l f x {r = r} e q =
    subst (λ b. Ends plain s t (at p l (cond b (negated (f x.line) ∷ []) [])) (λ a. Means t a (cond b (negated (f x.line)) (f x.line))) r)
    (sym e) q

pub literal_plain : {s : Shown} (p : Part) (l : ℕ) (f : ℕ → Fn) (x : Literal) {a : ℕ} → x.negated ≡ false
    → Means s a (f x.line) → Ends plain s s (at p l (literal_list f x)) (λ a. Means s a (literal_fn f x)) (Ok a)
literal_plain {s = s} p l f x {a = a} e q =
    subst (λ b. Ends plain s s (at p l (cond b (negated (f x.line) ∷ []) [])) (λ a. Means s a (cond b (negated (f x.line)) (f x.line))) (Ok a))
    (sym e) (made ended q)

at_append : (p : Part) (l : ℕ) (fs gs : List Fn) → at p l (fs ++ gs) ≡ at p l fs ++ at p l gs
at_append p l [] gs = refl
at_append p l (f ∷ fs) gs = ap (λ k. record { part = p; place = l; fn = f } ∷ k) (at_append p l fs gs)

-- the calls of a gate are those of its literals, and one more
pub gate_parts : (p : Part) (l : ℕ) (f : ℕ → Fn) (g : Gate)
    → at p l (literal_list f g.left) ++ (at p l (literal_list f g.right) ++ at p l (both (literal_fn f g.left) (literal_fn f g.right) ∷ []))
    ≡ at p l (gate_list f g)
gate_parts p l f g =
    sym (at_append p l (literal_list f g.left) _ ∙ ap (λ k. at p l (literal_list f g.left) ++ k) (at_append p l (literal_list f g.right) _))
