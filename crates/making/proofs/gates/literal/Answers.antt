use Rattle.std.proofs.Common.{◌≡◌, get_or, rules, sym, ◌∙◌, subst}
use Rattle.making.specs.Making.{Means}
use Rattle.making.proofs.Steps.{not_answers, gives_last}
use Rattle.making.proofs.Literals.{literal_negated, literal_plain}
use Rattle.making.proofs.gates.literal.Goals as goal

pub returns-then-is_negated : goal.returns-then-is_negated
returns-then-is_negated g c p l f m =
    let x = c.args.x in
    let e : c.unwrap_or-a.result ≡ get_or c.args.numbers.now x.line 0 = search rules in
    let held = subst (λ a. Means (g.S.Store.shows c.args.store.now) a (f x.line)) (sym e) m in
    literal_negated p l f x (sym c.is_negated.ensures ∙ c.if-is_negated.true) (gives_last c.not.ensures.lawful c.not.ensures.after c.not.result (not_answers c.not.ensures held))

pub returns-else-is_negated : goal.returns-else-is_negated
returns-else-is_negated g c p l f m =
    let e : c.unwrap_or-a.result ≡ get_or c.args.numbers.now c.args.x.line 0 = search rules in
    rw e (literal_plain p l f c.args.x (sym c.is_negated.ensures ∙ c.if-is_negated.false) m)
