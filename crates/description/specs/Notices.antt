-- How a notice is written.
use Rattle.std.specs.Prelude.{ℕ, List, ◌++◌, codes, decimal}
use Rattle.description.specs.Faults.{part_number}
use Rattle.description.specs.declared.notice.Notice.{Notice}

abbrev pub notice_text : Notice → List ℕ
notice_text n = codes "refused " ++ (decimal n.number ++ (codes " part " ++ (decimal (part_number n.part) ++ (codes " place " ++ decimal n.place))))
