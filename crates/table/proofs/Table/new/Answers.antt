use Rattle.std.proofs.Common.{rules, sym, ap, ◌∙◌, subst, ap₂}
use Rattle.store.specs.Meaning.{Fresh, Lawful}
use Rattle.table.specs.Shows.{sound, shown}
use Rattle.table.proofs.Sound.{sound_empty}
use Rattle.table.proofs.Lawful.{fresh_shown, lawful_empty}
use Rattle.table.proofs.Table.new.Goals as goal

pub invariant_of-result-clause-apart : goal.invariant_of-result-clause-apart
invariant_of-result-clause-apart c = ap (sound _) c.new.ensures.empty ∙ sound_empty _

pub returns-clause-fresh : goal.returns-clause-fresh
returns-clause-fresh c =
    let p = c.new.ensures in
    subst Fresh (sym (ap₂ (shown _) p.empty p.room)) (fresh_shown _ _)

pub returns-clause-lawful : goal.returns-clause-lawful
returns-clause-lawful c =
    let p = c.new.ensures in
    subst Lawful (sym (ap₂ (shown _) p.empty p.room)) (lawful_empty _ _ (search rules) (search rules))
