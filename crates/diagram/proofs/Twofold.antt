-- A function is made by its halves: the low one, then the high one, then both are joined. Each step may find the records full.
use Rattle.std.proofs.Common.{◌≡◌, ℕ, suc, ◌<◌, Bool, true, false, cond, None, Ok, Err, Result, refl, sym, ◌∙◌, subst, arith}
use Rattle.store.specs.Tasks.{asked, Posed}
use Rattle.store.specs.Fun.{Fn, Same, bit}
use Rattle.nodes.specs.Graph.{value, top}
use Rattle.nodes.specs.Growth.{Built, Short, Splits, choose}
use Rattle.nodes.proofs.Build.{built_weaker, built_like, short_weaker, short_like, short_low, short_high, built_both, short_both}
use Rattle.nodes.proofs.Extend.{ext_trans, top_ext}
use Rattle.diagram.specs.declared.Diagram.{Diagram}
use Rattle.records.specs.declared.Full.{Full}
use Rattle.store.specs.declared.task.Task.{Task}
use Rattle.store.specs.declared.task.Task.TheVariants.{Variable}
use Rattle.diagram.specs.Asked.{peak, Before}
use Rattle.diagram.specs.Making.{Outcome, Making, Makes, Settled, HalvedTask}
use Rattle.diagram.specs.Shows.{listed, capacity, showing}
use Rattle.diagram.proofs.Fields.{sound_at}
use Rattle.diagram.proofs.Tasks.{still_peak, still_asked, splits_task}

-- what is made in e, which has as many variables and records as d
abbrev OutcomeAs : Diagram → Diagram → Diagram → ℕ → Fn → Result ℕ Full → Type 0
OutcomeAs d e e₂ v f (Ok r) = Built d.n (listed e) (listed e₂) v f r
OutcomeAs d e e₂ v f (Err _) = Short d.n (listed e) (capacity d) v f

made_as : (d e e₂ : Diagram) (v : ℕ) (f : Fn) (r : Result ℕ Full) → e.n ≡ d.n → capacity e ≡ capacity d → Making e e₂ v f r → OutcomeAs d e e₂ v f r
made_as d e e₂ v f (Ok r) p q m = subst (λ (n : ℕ). Built n (listed e) (listed e₂) v f r) p m.outcome
made_as d e e₂ v f (Err s) p q m =
    subst (λ (n : ℕ). Short n (listed e) (capacity d) v f) p (subst (λ (c : ℕ). Short e.n (listed e) c v f) q m.outcome.1)

-- a task that no number is there for, and its halves by its first variable, v
pub record Halves (d : Diagram) (task : Task) (v : ℕ) (off on : Task) : Type 0 where
  pub posed : Posed (showing d) task
  pub settled : Settled d task None
  pub first : v ≡ peak d.n (listed d) task
  pub low : HalvedTask d task v false off
  pub high : HalvedTask d task v true on

module _ (d : Diagram) (task : Task) (v : ℕ) (off on : Task) (h : Halves d task v off on) where
  abbrev f : Fn
  f = asked (showing d) task

  abbrev half : Bool → Fn
  half t = asked (showing d) (cond t on off)

  splits : Splits d.n v f half
  splits =
      splits_task d task v h.posed (omega (arith, h.settled.0)) (omega (arith, h.first)) (subst (λ (u : ℕ). Before u task) (sym h.first) h.settled.1) (λ t. cond t on off) halves
    where
      halves : (t : Bool) → HalvedTask d task v t (cond t on off)
      halves true = h.high
      halves false = h.low

  at_peak : (e : Diagram) (r : Result ℕ Full) → Making d e v f r → Makes d task r e
  at_peak e r m = subst (λ (u : ℕ). Making d e u f r) h.first m

  pub low_stops : (e : Diagram) (s t : Full) → Makes d off (Err s) e → Makes d task (Err t) e
  low_stops e s t m = at_peak e (Err t) (record {
    vars = m.vars;
    capacity = m.capacity;
    outcome = (
      m.outcome.0,
      short_low d.n v f half splits (listed d) (capacity d) (short_weaker d.n (listed d) (capacity d) _ (suc v) _ h.low.under m.outcome.1),
    );
  })

  module _ (e : Diagram) (low : ℕ) (m : Makes d off (Ok low) e) where
    built_low : Built d.n (listed d) (listed e) (suc v) (half false) low
    built_low = built_weaker d.n (listed d) (listed e) _ (suc v) _ low h.low.under m.outcome

    on_under : v < peak e.n (listed e) on
    on_under = omega (arith, h.high.under, still_peak d e m.vars m.outcome.parts.ext on h.high.posed)

    on_same : Same d.n (asked (showing e) on) (half true)
    on_same w _ = still_asked d e m.vars m.outcome.parts.ext on h.high.posed w

    pub high_stops : (e₂ : Diagram) (s t : Full) → Makes e on (Err s) e₂ → Makes d task (Err t) e₂
    high_stops e₂ s t m₂ = at_peak e₂ (Err t) (record {
      vars = m₂.vars ∙ m.vars;
      capacity = m₂.capacity ∙ m.capacity;
      outcome = (
        ext_trans (listed d) (listed e) (listed e₂) m.outcome.parts.ext m₂.outcome.0,
        short_high d.n v f half splits (listed d) (listed e) (sound_at e d.n m.vars) low built_low (capacity d)
            (short_like d.n (listed e) (capacity d) (suc v) _ (half true) on_same
            (short_weaker d.n (listed e) (capacity d) _ (suc v) _ on_under (made_as d e e₂ _ _ (Err s) m.vars m.capacity m₂))),
      );
    })

    module _ (e₂ : Diagram) (high : ℕ) (m₂ : Makes e on (Ok high) e₂) where
      built_high : Built d.n (listed e) (listed e₂) (suc v) (half true) high
      built_high =
          built_like d.n (listed e) (listed e₂) (suc v) _ (half true) high on_same
          (built_weaker d.n (listed e) (listed e₂) _ (suc v) _ high on_under (made_as d e e₂ _ _ (Ok high) m.vars m.capacity m₂))

      vars₂ : e₂.n ≡ d.n
      vars₂ = m₂.vars ∙ m.vars

      join_over : (t : Bool) → v < top d.n (listed e₂) (cond t high low)
      join_over true = built_high.under
      join_over false = omega (arith, top_ext d.n (listed e) (listed e₂) built_high.parts.ext low built_low.held, built_low.under)

      pub join_under : (t : Bool) → v < top e₂.n (listed e₂) (cond t high low)
      join_under t = subst (λ (n : ℕ). v < top n (listed e₂) (cond t high low)) (sym vars₂) (join_over t)

      pub joined : (e₃ : Diagram) (r : Result ℕ Full) → Making e₂ e₃ v (choose v (λ t. value (listed e₂) (cond t high low))) r → Makes d task r e₃
      joined e₃ r m₃ = at_peak e₃ r (record {
        vars = m₃.vars ∙ vars₂;
        capacity = m₃.capacity ∙ m₂.capacity ∙ m.capacity;
        outcome = go r m₃;
      })
        where
          go : (r : Result ℕ Full) → Making e₂ e₃ v (choose v (λ t. value (listed e₂) (cond t high low))) r → Outcome d e₃ v f r
          go (Ok r) m₃ =
              built_both d.n v f half splits (listed d) (listed e) (sound_at e d.n m.vars) low built_low (listed e₂) (sound_at e₂ d.n vars₂) high built_high (listed e₃) r
              (made_as d e₂ e₃ _ _ (Ok r) vars₂ (m₂.capacity ∙ m.capacity) m₃)
          go (Err s) m₃ = (
            ext_trans (listed d) (listed e₂) (listed e₃) (ext_trans (listed d) (listed e) (listed e₂) m.outcome.parts.ext m₂.outcome.parts.ext) m₃.outcome.0,
            short_both d.n v f half splits (listed d) (listed e) (sound_at e d.n m.vars) low built_low (listed e₂) (sound_at e₂ d.n vars₂) high built_high (capacity d)
                (made_as d e₂ e₃ _ _ (Err s) vars₂ (m₂.capacity ∙ m.capacity) m₃),
          )

      pub join_stops : (e₃ : Diagram) (s t : Full) → Making e₂ e₃ v (choose v (λ u. value (listed e₂) (cond u high low))) (Err s) → Makes d task (Err t) e₃
      join_stops e₃ s t m₃ = let m = joined e₃ (Err s) m₃ in record { vars = m.vars; capacity = m.capacity; outcome = m.outcome }

-- a variable is joined from the constants
pub made_variable : (d e : Diagram) (i : ℕ) (r : Result ℕ Full) → Making d e i (choose i (λ t. value (listed d) (cond t 1 0))) r → Makes d (Variable i) r e
made_variable d e i r m = record { vars = m.vars; capacity = m.capacity; outcome = go r m.outcome }
  where
    pick : (t : Bool) (w : ℕ) → value (listed d) (cond t 1 0) w ≡ t
    pick true w = refl
    pick false w = refl

    same : Same d.n (choose i (λ t. value (listed d) (cond t 1 0))) (bit i)
    same w _ = pick (bit i w) w

    go : (r : Result ℕ Full) → Outcome d e i (choose i (λ t. value (listed d) (cond t 1 0))) r → Outcome d e i (bit i) r
    go (Ok r) b = built_like d.n (listed d) (listed e) i _ (bit i) r (λ w l. same w l) b
    go (Err s) q = (q.0, short_like d.n (listed d) (capacity d) i _ (bit i) same q.1)
