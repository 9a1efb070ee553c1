use Rattle.std.proofs.Common.{◌≡◌, ℕ, ◌+◌, ◌<◌, List, length, get_or, set, sym, refl, ◌∙◌, subst, arith, below_more}
use Rattle.std.proofs.lemmas.List.{get_or-set_same, get_or-set_other, length-set}
use Rattle.records.specs.Chains.{Unwound}
use Rattle.records.proofs.index.Index.truncate.Goals as goal

pub loop-b-init : goal.loop-b-init
loop-b-init c = (omega arith, refl, (λ j h. absurd (omega arith)), (λ j h. refl))

-- one more head is unwound
step : (links xs hs : List ℕ) (b v kept : ℕ) → b < length hs → get_or hs b 0 ≡ get_or xs b 0 → Unwound links (get_or hs b 0) kept v
    → ((j : ℕ) → j < b → Unwound links (get_or xs j 0) kept (get_or hs j 0))
    → (j : ℕ) → j < b + 1 → Unwound links (get_or xs j 0) kept (get_or (set hs b v) j 0)
step links xs hs b v kept l e u before = below_more _ _
    (λ j h. subst (λ (n : ℕ). Unwound links (get_or xs j 0) kept n) (sym (get_or-set_other hs b j v 0 (λ q. omega arith))) (before j h))
    (subst (λ (n : ℕ). Unwound links (get_or xs b 0) kept n) (sym (get_or-set_same hs b v 0 l)) (subst (λ (n : ℕ). Unwound links n kept v) e u))

pub loop-b-preserved : goal.loop-b-preserved
loop-b-preserved c =
    let i = c.loop-b.invariant in
    let b = c.loop-b.b in
    let hs = c.loop-b.self.heads in
    let v = c.unwind-head.result in (
      length-set hs b v ∙ i.0,
      i.1,
      step c.args.self.now.links.now c.args.self.now.heads hs b v c.args.kept (omega (arith, i.0, c.loop-b-test.true)) (i.3 b (omega arith))
          (subst (λ (ls : List ℕ). Unwound ls (get_or hs b 0) c.args.kept v) i.1 c.unwind-head.ensures) i.2,
      λ j h. get_or-set_other hs b j v 0 (λ q. omega arith) ∙ i.3 j (omega arith),
    )

pub returns : goal.returns
returns c = record { links = c.loop-b.invariant.1; heads = λ b h. c.loop-b.invariant.2 b (omega (arith, c.loop-b-test.false)) }
