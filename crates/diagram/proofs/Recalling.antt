-- What a diagram remembers of a task, and that it stays right where a task was made.
use Rattle.std.proofs.Common.{◌≡◌, ℕ, ◌^◌, ◌<◌, Some, Ok, sym, refl, ap, ◌∙◌, subst, arith}
use Rattle.store.specs.Tasks.{Posed}
use Rattle.nodes.specs.Graph.{top}
use Rattle.nodes.proofs.Build.{built_there}
use Rattle.diagram.specs.declared.Diagram.{Diagram}
use Rattle.diagram.specs.declared.memo.Memo.{Memo}
use Rattle.store.specs.declared.task.Task.{Task}
use Rattle.diagram.specs.Making.{Makes}
use Rattle.diagram.specs.Remembered.{key, place, updated, Recalls, Settles, RightSlot, Right}
use Rattle.diagram.specs.Shows.{listed, capacity, showing}
use Rattle.diagram.proofs.Fields.{right_of, short_of}
use Rattle.diagram.proofs.Remembering.{settles_word, updated_right}
use Rattle.diagram.proofs.Tasks.{still_posed, still_peak, still_asked}

-- what the memo has of a task was made before
pub recalled : (d : Diagram) (task : Task) (r : ℕ) → Posed (showing d) task → Recalls d.memo task (Some r) → Makes d task (Ok r) d
recalled d task r p e =
    let right = subst (RightSlot d.n (listed d) (capacity d)) e.0 ((right_of d).at (place (key task))) in
    let q = settles_word d.n (listed d) (capacity d) d.wide (short_of d) task r p e.1 right in
    record { vars = refl; capacity = refl; outcome = built_there d.n (listed d) _ _ r q.0 q.1 q.2 }

-- the number of a task that was made in d is there for it in e
settles : (d e : Diagram) (task : Task) (r : ℕ) → Posed (showing d) task → Makes d task (Ok r) e → Settles e.n (listed e) (capacity e) task r
settles d e task r p m =
    let b = m.outcome in
    let x = b.parts.ext in (
      b.held,
      omega (arith, b.under, still_peak d e m.vars x task p, ap (λ n. top n (listed e) r) m.vars),
      λ w l. b.means w (subst (λ (n : ℕ). w < 2 ^ n) m.vars l) ∙ sym (still_asked d e m.vars x task p w),
    )

pub remembered : (d e : Diagram) (task : Task) (r : ℕ) (memo : Memo) → Posed (showing d) task → Makes d task (Ok r) e → memo ≡ updated e.memo task r
    → Right e.n (listed e) (capacity e) memo
remembered d e task r memo p m q =
    subst (Right e.n (listed e) (capacity e)) (sym q)
    (updated_right e.n (listed e) (capacity e) e.wide (short_of e) task r (still_posed d e m.vars m.outcome.parts.ext task p) e.memo (right_of e) (settles d e task r p m))
