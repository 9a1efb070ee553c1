-- The text of a report: its lines, each followed by byte 10.
use Rattle.std.specs.Prelude.{ℕ, zero, suc, List, [], ◌++◌, codes, decimal, length}
use Rattle.circuit.specs.declared.sizes.Sizes.{Sizes}
use Rattle.circuit.specs.Texts.{sizes_text}
use Rattle.description.specs.Notices.{notice_text}
use Rattle.decide.specs.declared.report.Report.{Report}
use Rattle.decide.specs.declared.report.Report.TheVariants.{Safe, Unsafe, Refused}
use Rattle.decide.specs.declared.trace.Trace.{Trace}
use Rattle.decide.specs.Traces.{depth_of, state_at, input_at}
use Rattle.decide.specs.Faults.{notice_of}

-- step, state, input
abbrev pub step_text : ℕ → ℕ → ℕ → List ℕ
step_text t q v = decimal t ++ (codes " " ++ (decimal q ++ (codes " " ++ (decimal v ++ codes "\n"))))

-- the first n steps
abbrev pub steps_before : ℕ → (ℕ → ℕ) → (ℕ → ℕ) → List ℕ
steps_before zero q v = []
steps_before (suc n) q v = steps_before n q v ++ step_text n (q n) (v n)

abbrev pub steps_text : Trace → List ℕ
steps_text t = steps_before (length t.steps.items) (state_at t) (input_at t)

abbrev pub safe_text : Sizes → ℕ → ℕ → List ℕ
safe_text z d c =
    sizes_text z
    ++ (codes "\nverdict safe\ndepth " ++ (decimal d ++ (codes "\ninside " ++ (decimal c ++ codes "\naccepted 1\n"))))

abbrev pub unsafe_text : Sizes → ℕ → List ℕ → List ℕ
unsafe_text z d steps =
    sizes_text z
    ++ (codes "\nverdict unsafe\ndepth " ++ (decimal d ++ (codes "\n" ++ (steps ++ codes "accepted 0\n"))))

abbrev pub text : Report → List ℕ
text (Safe z d c) = safe_text z d c
text (Unsafe z t) = unsafe_text z (depth_of t) (steps_text t)
text (Refused e) = notice_text (notice_of e) ++ codes "\naccepted 0\n"
