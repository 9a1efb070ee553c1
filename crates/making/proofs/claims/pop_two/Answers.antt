use Rattle.std.proofs.Common.{[], ◌∷◌, ◌++◌, sym, ◌∙◌}
use Rattle.std.proofs.lemmas.List.{append_assoc}
use Rattle.making.proofs.claims.pop_two.Goals as goal

pub returns-clause-tops : goal.returns-clause-tops
returns-clause-tops c below a b e =
    let top = c.pop-b.ensures.top (below ++ a ∷ []) b (e ∙ sym (append_assoc below (a ∷ []) (b ∷ []))) in
    let next = c.pop-a.ensures.top below a top.1 in
    (λ i. (next.0 i, top.0 i), next.1)
