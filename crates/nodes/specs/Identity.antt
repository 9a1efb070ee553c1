-- Two nodes are identical exactly if their fields are equal.
use Rattle.std.specs.Prelude.{◌≡◌, ℕ, Bool, true, ◌&&◌, ◌==◌, Decides}
use Rattle.std.proofs.Common.{ap, ap₂}
use Rattle.std.proofs.lemmas.Bool.Decides.{Decides-eqb, Decides-and, Decides-like}
use Rattle.nodes.specs.declared.Node.{Node}
use Rattle.nodes.specs.Hash.{mixed}

-- what their `==` answers
abbrev pub alike : Node → Node → Bool
alike a b = a.variable == b.variable && (a.low == b.low && a.high == b.high)

pub node_exact : (a b : Node) → Decides (alike a b) (a ≡ b)
node_exact a b = Decides-like _
    (λ e. ap₂ (λ v (c : ℕ × ℕ). record { variable = v; low = c.0; high = c.1 }) e.0 (ap₂ (λ l h. (l, h)) e.1.0 e.1.1))
    (λ e. (ap (λ x. x.variable) e, (ap (λ x. x.low) e, ap (λ x. x.high) e)))
    (Decides-and _ _ (Decides-eqb a.variable b.variable) (Decides-and _ _ (Decides-eqb a.low b.low) (Decides-eqb a.high b.high)))

pub alike_mixed : (a b : Node) → alike a b ≡ true → mixed a ≡ mixed b
alike_mixed a b e = ap mixed ((node_exact a b).0 e)
