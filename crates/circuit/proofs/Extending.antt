-- Lines that are worked out gate after gate.
use Rattle.std.proofs.Common.{◌≡◌, ℕ, zero, suc, ◌+◌, ◌<◌, Bool, false, cond, not, ◌&&◌, ◌||◌, List, [], ◌∷◌, ◌++◌, length, get_or, sym, refl, ap, ◌∙◌, ap₂, arith}
use Rattle.std.proofs.lemmas.List.{get_or_append_left, get_or_push, length_push}
use Rattle.circuit.specs.declared.gate.Gate.{Gate}
use Rattle.circuit.specs.Literals.{Literal}
use Rattle.circuit.specs.Netlists.{blank}
use Rattle.circuit.specs.Lines.{literal, conjunction, either, extended}

-- a rule goes by the two lines that its gate names
abbrev pub Local : ((ℕ → Bool) → Gate → Bool) → Type 0
Local rule = (f h : ℕ → Bool) (g : Gate) → f g.left.line ≡ h g.left.line → f g.right.line ≡ h g.right.line → rule f g ≡ rule h g

literal_local : (f h : ℕ → Bool) (x : Literal) → f x.line ≡ h x.line → literal f x ≡ literal h x
literal_local f h x e = ap (λ t. cond x.negated (not t) t) e

pub conjunction_local : Local conjunction
conjunction_local f h g p q = ap₂ ◌&&◌ (literal_local f h g.left p) (literal_local f h g.right q)

pub either_local : Local either
either_local f h g p q = ap₂ ◌||◌ p q

module _ (rule : (ℕ → Bool) → Gate → Bool) where
  added : List Bool → Gate → List Bool
  added before g = before ++ rule (λ x. get_or before x false) g ∷ []

  -- earlier lines stay
  pub kept : (gs : List Gate) (before : List Bool) (x : ℕ) → x < length before → get_or (extended rule gs before) x false ≡ get_or before x false
  unfolding extended added
  kept [] before x h = refl
  kept (g ∷ gs) before x h =
      let n = length_push before (rule (λ x. get_or before x false) g) in
      kept gs (added before g) x (omega arith) ∙ get_or_append_left before _ false x h

  -- each gate is by the rule, on what is worked out in the end
  pub ruled : Local rule → (gs : List Gate) (before : List Bool) (g : ℕ) → g < length gs
      → (get_or gs g blank).left.line < length before + g → (get_or gs g blank).right.line < length before + g
      → get_or (extended rule gs before) (length before + g) false ≡ rule (λ x. get_or (extended rule gs before) x false) (get_or gs g blank)
  unfolding extended added
  ruled loc [] before g h p q = absurd (omega arith)
  ruled loc (a ∷ gs) before zero h p q =
      let n = length_push before (rule (λ x. get_or before x false) a) in
      let z : length before + 0 ≡ length before = omega arith in
      ap (λ x. get_or (extended rule gs (added before a)) x false) z
      ∙ kept gs (added before a) (length before) (omega arith)
      ∙ get_or_push before _ false (length before) refl
      ∙ loc (λ x. get_or before x false) (λ x. get_or (extended rule gs (added before a)) x false) a
      (sym (kept (a ∷ gs) before a.left.line (omega arith)))
      (sym (kept (a ∷ gs) before a.right.line (omega arith)))
  ruled loc (a ∷ gs) before (suc g) h p q =
      let n = length_push before (rule (λ x. get_or before x false) a) in
      let z : length before + suc g ≡ length (added before a) + g = omega arith in
      ap (λ x. get_or (extended rule gs (added before a)) x false) z
      ∙ ruled loc gs (added before a) g (omega arith) (omega arith) (omega arith)
