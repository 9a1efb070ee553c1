-- What the program answers of its input.
use Rattle.std.specs.Prelude.{◌≡◌, ℕ, ◌<◌, ◌≤◌, ◌⊎◌, List, [], length, take, Option, IfSome}
use Rattle.std.specs.Io.KnownBytes.{Appends}
use Rattle.store.specs.Meaning.{Shown}
use Rattle.nodes.specs.declared.Node.{Node}
use Rattle.nodes.specs.Shows.{shown}
use Rattle.job.specs.declared.fault.Fault.{Fault as Unframed}
use Rattle.description.specs.declared.fault.Fault.{Fault as Misdescription}
use Rattle.uses.specs.declared.fault.Fault.TheVariants.{Description}
use Rattle.decide.specs.Reports.{Reports, Only, Full, Accepted, Broken}
use Rattle.decide.specs.Texts.{text}
use Rattle.decide.specs.declared.fault.Fault.TheVariants.{Frame, Call}
use Rattle.decide.specs.declared.report.Report.{Report}
use Rattle.decide.specs.declared.report.Report.TheVariants.{Refused}

-- what a store of 24 variables and 8,192 records shows that holds these nodes
abbrev pub with_nodes : List Node → Shown
with_nodes nodes = shown 24 nodes 8192

-- the store before a search is empty
abbrev pub start : Shown
start = with_nodes []

-- the report is the right one on these bytes, with some nodes in the store at the end, and what it says of runs is so
pub record Right (bs : List ℕ) (r : Report) : Type 0 where
  pub nodes : List Node
  pub reports : Reports start bs r (with_nodes nodes)
  pub only : Only start bs r (with_nodes nodes)
  pub full : Full start bs r (with_nodes nodes)
  pub accepted : Accepted start bs r
  pub broken : Broken start bs r

-- the report is the right one on some bytes, no more than the program reads
pub record Based (r : Report) : Type 0 where
  pub job : List ℕ
  pub short : length job ≤ 5131
  pub right : Right job r

-- the frame is refused, or a check of the circuit or of a text: no making call was made
abbrev pub Unread : Report → Type 0
Unread r = ((e : Unframed) × (r ≡ Refused (Frame e))) ⊎ ((e : Misdescription) × (r ≡ Refused (Call (Description e))))

-- the report on the first 5,131 bytes of an input: one that is longer than every job that can be accepted is refused
pub record Reported (input : List ℕ) (r : Report) : Type 0 where
  pub right : Right (take 5131 input) r
  pub longer : 5130 < length input → Unread r

-- what was written is the text of one report, the right one on what was read
pub record Responded (input before after : Option (List ℕ)) : Type 0 where
  pub report : Report
  pub based : Based report
  pub reported : IfSome input (λ bs. Reported bs report)
  pub written : Appends before after (text report)
