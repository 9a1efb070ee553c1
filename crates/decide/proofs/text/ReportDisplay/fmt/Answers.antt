use Rattle.std.proofs.Common.{ℕ, List, ◌++◌, codes, sym, ap, ◌∙◌, subst}
use Rattle.std.specs.Fmt.{HasWritten}
use Rattle.description.specs.Notices.{notice_text}
use Rattle.decide.specs.Texts.{text}
use Rattle.decide.proofs.text.ReportDisplay.fmt.Goals as goal

pub returns-in-Safe-clause-writes : goal.returns-in-Safe-clause-writes
returns-in-Safe-clause-writes g c p o =
    subst (λ (bs : List ℕ). HasWritten g.W.Write.write_str_gives c.args.f.now bs c.writeln.new.self) (sym (ap text c.in-Safe.is)) (c.writeln.ensures.writes p o)

pub returns-in-Refused-clause-writes : goal.returns-in-Refused-clause-writes
returns-in-Refused-clause-writes g c p o =
    subst (λ (bs : List ℕ). HasWritten g.W.Write.write_str_gives c.args.f.now bs c.writeln-in-Refused.new.self)
    ((λ i. notice_text (c.notice-notice.ensures i) ++ codes "\naccepted 0\n") ∙ sym (ap text c.in-Refused.is))
    (c.writeln-in-Refused.ensures.writes p o)
