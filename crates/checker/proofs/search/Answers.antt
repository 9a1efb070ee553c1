use Rattle.std.proofs.Common.{◌≡◌, rules, subst}
use Rattle.decide.specs.Reports.{Full}
use Rattle.diagram.specs.Shows.{showing}
use Rattle.checker.specs.Program.{start}
use Rattle.checker.proofs.Ending.{right_of}
use Rattle.checker.proofs.search.Goals as goal

pub returns : goal.returns
returns c =
    let answer = c.report_on-report in
    let end = showing answer.result.1.now in
    let empty : showing c.new-store.result ≡ start = search rules in
    let full = subst (λ s. Full s c.args.job.now answer.result.0 end) empty answer.ensures.full in
    right_of answer.result.1.now _ _ (search rules) (search rules) (search rules) full (search rules) (search rules)
