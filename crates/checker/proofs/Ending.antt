-- A search in a diagram store ends in a diagram store of as many variables and records.
use Rattle.std.proofs.Common.{◌≡◌, ℕ, List, ap₂, subst}
use Rattle.store.specs.Meaning.{Grown}
use Rattle.decide.specs.Reports.{Reports, Only, Full, Accepted, Broken}
use Rattle.decide.specs.declared.report.Report.{Report}
use Rattle.diagram.specs.declared.Diagram.{Diagram}
use Rattle.diagram.specs.Shows.{listed, showing}
use Rattle.nodes.specs.Shows.{shown}
use Rattle.checker.specs.Program.{start, with_nodes, Right}

module _ (d : Diagram) (bs : List ℕ) (r : Report) where
  -- what is right of a diagram at the end is right of its nodes
  pub right_of :
      Grown start (showing d)
      → Reports start bs r (showing d)
      → Only start bs r (showing d)
      → Full start bs r (showing d)
      → Accepted start bs r
      → Broken start bs r
      → Right bs r
  right_of grown reports only full accepted broken =
      let same : showing d ≡ with_nodes (listed d) = ap₂ (λ n k. shown n (listed d) k) grown.vars grown.capacity in
      record {
        nodes = listed d;
        reports = subst (Reports start bs r) same reports;
        only = subst (Only start bs r) same only;
        full = subst (Full start bs r) same full;
        accepted = accepted;
        broken = broken;
      }
