use Rattle.std.proofs.Common.{◌≡◌, ℕ, List, length, replicate, ap, ◌∙◌, arith}
use Rattle.diagram.specs.Remembered.{all_blank}
use Rattle.diagram.proofs.memo.Memo.clear.Goals as goal

pub returns : goal.returns
unfolding all_blank
returns c =
    let whole : length c.args.self.now.slots ≡ 8192 = omega arith in
    ap (λ (l : List ℕ). record { slots = l }) (c.fill.ensures.after (λ y e. e) ∙ ap (λ n. replicate n 0) whole)
