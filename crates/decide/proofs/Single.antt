-- A job has one right report, by what the store shows at the start and, where there was no room, at the end;
-- and what a right report says of runs.
use Rattle.std.proofs.Common.{◌≡◌, ℕ, zero, suc, ◌<◌, ◌≤◌, false, ◌⊎◌, List, [], ◌++◌, length}
use Rattle.std.proofs.Common.{Ok, Err, Result, sym, refl, ap, ap₂, ◌∙◌, subst, inl, inr, ⊎_elim, eq-or-lt_of_le, arith}
use mathlib.Core.Path.{to_path_p}
use native.Mathlib.Bridge.{le_prop}
use Rattle.std.proofs.lemmas.Bool.{cases_lt}
use Rattle.std.proofs.lemmas.List.{append-nil, append_assoc, ext_get_or}
use Rattle.store.specs.Meaning.{Shown}
use Rattle.circuit.specs.declared.sizes.Sizes.{Sizes}
use Rattle.description.specs.Checks.{Checked, right}
use Rattle.description.specs.declared.fault.Fault.{Fault as Misdescription}
use Rattle.description.proofs.Checks.{never, one_check}
use Rattle.uses.specs.declared.fault.Fault.TheVariants.{Description}
use Rattle.making.specs.Making.{Item, Runs, Stops}
use Rattle.making.specs.Loads.{load_list, advance_list}
use Rattle.making.proofs.Bounds.{one_way, one_stop}
use Rattle.making.proofs.Steps.{runs_join, stops_after, stops_before}
use Rattle.runs.specs.Models.{Model, system, sizes}
use Rattle.runs.specs.Search.{unsafe, safe, open_yet, verdict, Reached}
use Rattle.runs.specs.Search as search
use Rattle.runs.specs.Systems.{Breaking}
use Rattle.runs.specs.Verdicts.{Safe, Unsafe}
use Rattle.runs.proofs.Traces as runs
use Rattle.runs.proofs.Verdicts.{verdicts}
use Rattle.uses.specs.Uses.{room}
use Rattle.uses.proofs.Determined.{left_full, right_full}
use Rattle.runs.proofs.Models.{closed}
use Rattle.job.specs.Frames.{Parts, frame}
use Rattle.job.specs.declared.fault.Fault.{Fault as Unframed}
use Rattle.decide.specs.declared.fault.Fault.{Fault}
use Rattle.decide.specs.declared.fault.Fault.TheVariants.{Frame, Call}
use Rattle.decide.specs.declared.report.Report.{Report}
use Rattle.decide.specs.declared.report.Report.TheVariants as report
use Rattle.decide.specs.declared.trace.Trace.{Trace}
use Rattle.decide.specs.Traces.{depth_of, none, state_at, input_at}
use Rattle.decide.specs.Outcomes.{Job, Searched, begun, advanced, insides, Traced}
use Rattle.decide.specs.Reports.{Reports, unframed, unfit, load_full, advance_full, found_safe, found_unsafe}
use Rattle.decide.specs.Reports.{is_full, Only, Accepted, Broken}
use Rattle.decide.specs.Searches.{Conclusion, is_safe, is_unsafe}

module _ {m : Model} {s : Shown} where
  pub reached : {j : ℕ} {t : Shown} → Searched m s j t → Reached (system m) j
  reached (begun r) i l = absurd (omega arith)
  reached (advanced {j = j} f o r) i l = ⊎_elim (λ e. subst (λ k. verdict (system m) k ≡ open_yet) (sym e) o) (reached f i) (eq-or-lt_of_le (down i l))
    where
      down : (i : ℕ) → i < suc j → i ≤ j
      down i l = omega arith

-- two searches that settle do so at one depth
module _ {m : Model} {s : Shown} {i j : ℕ} {t u : Shown} (f : Searched m s i t) (g : Searched m s j u) (n : verdict (system m) i ≡ open_yet → ⊥) (k : verdict (system m) j ≡ open_yet → ⊥) where
  one_depth : i ≡ j
  one_depth = ⊎_elim (λ l. absurd (n (reached g i l))) (λ h. ⊎_elim (λ l. absurd (k (reached f j l))) (λ h'. omega arith) (cases_lt j i)) (cases_lt i j)

-- a trace by its depth and its steps
same_trace : (x y : Trace) → depth_of x ≡ depth_of y → ((t : ℕ) → t ≤ depth_of x → (state_at x t ≡ state_at y t) × (input_at x t ≡ input_at y t)) → x ≡ y
same_trace x y d h =
    let e : x.steps.items ≡ y.steps.items =
    ext_get_or none x.steps.items y.steps.items (omega arith) (λ t l i. record { state = (h t (omega arith)).0 i; input = (h t (omega arith)).1 i }) in
    λ i. record { steps = record { items = e i }; begun = to_path_p (λ i. 0 < length (e i)) {a = x.begun} {b = y.begun} (le_prop _ _) i }

-- the trace of a depth
module _ {m : Model} {s : Shown} where
  one_trace : {d : ℕ} {t : Shown} (x y : Trace) → Searched m s d t → verdict (system m) d ≡ unsafe d → depth_of x ≡ d → depth_of y ≡ d → Traced m x → Traced m y → x ≡ y
  one_trace {d = d} x y f o e e' h h' =
      let a = subst (λ i. search.Trace (system m) i (state_at x) (input_at x)) e h in
      let b = subst (λ i. search.Trace (system m) i (state_at y) (input_at y)) e' h' in
      same_trace x y (e ∙ sym e') (λ t l. (runs.traces (system m) (closed m) d (reached f) o).one (state_at x) (input_at x) (state_at y) (input_at y) a b t (omega arith))

not_open_safe : {v : search.Verdict} → v ≡ safe → v ≡ open_yet → ⊥
not_open_safe o h = never (cc)

not_open_unsafe : {v : search.Verdict} {d : ℕ} → v ≡ unsafe d → v ≡ open_yet → ⊥
not_open_unsafe o h = never (cc)

not_both : {v : search.Verdict} {d : ℕ} → v ≡ safe → v ≡ unsafe d → ⊥
not_both o h = never (cc)

-- what a settled search comes to is one report
module _ {m : Model} {s : Shown} where
  one_conclusion : {i j : ℕ} {t u : Shown} {r r' : Report} → Searched m s i t → Searched m s j u → Conclusion m i r → Conclusion m j r' → r' ≡ r
  one_conclusion f g (is_safe o) (is_safe o') = sym (ap (λ k. report.Safe (sizes m.circuit) k (insides m k)) (one_depth f g (not_open_safe o) (not_open_safe o')))
  one_conclusion f g (is_safe o) (is_unsafe e o' h) = absurd (not_both (subst (λ k. verdict (system m) k ≡ safe) (one_depth f g (not_open_safe o) (not_open_unsafe o')) o) o')
  one_conclusion f g (is_unsafe e o h) (is_safe o') = absurd (not_both (subst (λ k. verdict (system m) k ≡ safe) (one_depth g f (not_open_safe o') (not_open_unsafe o)) o') o)
  one_conclusion f g (is_unsafe {x = x} e o h) (is_unsafe {x = y} e' o' h') =
      ap (report.Unsafe (sizes m.circuit)) (one_trace y x g o' e' (e ∙ one_depth f g (not_open_unsafe o) (not_open_unsafe o')) h' h)

-- the calls of a load and of the first j advances
abbrev calls : Model → ℕ → List Item
calls m zero = load_list m
calls m (suc j) = calls m j ++ advance_list m j

-- those of more advances go on from them
calls_more : (m : Model) (i j : ℕ) → i ≤ j → (rest : List Item) × (calls m j ≡ calls m i ++ rest)
calls_more m i zero l = let e : i ≡ 0 = omega arith in ([], ap (calls m) (sym e) ∙ sym (append-nil (calls m i)))
calls_more m i (suc j) l = ⊎_elim
    (λ e. ([], ap (calls m) (sym e) ∙ sym (append-nil (calls m i))))
    (λ h.
    let p = calls_more m i j (down h) in
    (p.0 ++ advance_list m j, ap (λ l. l ++ advance_list m j) p.1 ∙ append_assoc (calls m i) p.0 (advance_list m j)))
    (eq-or-lt_of_le l)
  where
    down : i < suc j → i ≤ j
    down h = omega arith

pub all_made : {m : Model} {s : Shown} {j : ℕ} {t : Shown} → Searched m s j t → Runs s (calls m j) t
all_made (begun r) = r
all_made (advanced f o r) = runs_join (all_made f) r

not_open : {m : Model} {j : ℕ} {r : Report} → Conclusion m j r → verdict (system m) j ≡ open_yet → ⊥
not_open (is_safe o) h = not_open_safe o h
not_open (is_unsafe e o x) h = not_open_unsafe o h

module _ (m : Model) (s : Shown) where
  -- a call of these was refused, after advances from open verdicts
  record Halted (t : Shown) (y : Item) : Type 0 where
    pub depth : ℕ
    pub open_before : Reached (system m) depth
    pub stops : Stops s (calls m depth) y t

  halted_load : {t : Shown} {y : Item} → Stops s (load_list m) y t → Halted t y
  halted_load q = record { depth = 0; open_before = λ i l. absurd (omega arith); stops = q }

  halted_advance : {j : ℕ} {t u : Shown} {y : Item} → Searched m s j t → verdict (system m) j ≡ open_yet → Stops t (advance_list m j) y u → Halted u y
  halted_advance {j = j} f o q = record {
    depth = suc j;
    open_before = λ i l. ⊎_elim (λ e. subst (λ k. verdict (system m) k ≡ open_yet) (sym e) o) (reached f i) (eq-or-lt_of_le (down i l));
    stops = stops_after (all_made f) q;
  }
    where
      down : (i : ℕ) → i < suc j → i ≤ j
      down i l = omega arith

  -- the list of one refusal is the start of the other's
  longer : {t : Shown} {y : Item} (i j : ℕ) → i ≤ j → Stops s (calls m i) y t → Stops s (calls m j) y t
  longer {t = t} {y = y} i j l q =
      let p = calls_more m i j l in
      subst (λ l. Stops s l y t) (sym p.1) (stops_before p.0 q)

  one_halt : {t : Shown} {x y : Item} → Halted t x → Halted t y → x ≡ y
  one_halt {t = t} {x = x} {y = y} a b = ⊎_elim
      (λ l. one_stop (longer a.depth b.depth (below a.depth b.depth l) a.stops) b.stops)
      (λ l. one_stop a.stops (longer b.depth a.depth l b.stops))
      (cases_lt a.depth b.depth)
    where
      below : (i j : ℕ) → i < j → i ≤ j
      below i j l = omega arith

  -- a search that settled was refused nothing
  not_halted : {t : Shown} {y : Item} {j : ℕ} → Searched m s j t → (verdict (system m) j ≡ open_yet → ⊥) → Halted t y → ⊥
  not_halted {j = j} f n a = ⊎_elim
      (λ l. n (a.open_before j l))
      (λ l. one_way (all_made f) (longer a.depth j l a.stops))
      (cases_lt j a.depth)

module _ (s : Shown) (bs : List ℕ) where
  -- what the checks of a job lead to
  data Way (m : Model) (t : Shown) : Report → Type 0 where
    halts : {y : Item} → Halted m s t y → Way m t (report.Refused (Call (room y t)))
    settles : {j : ℕ} {r : Report} → Searched m s j t → Conclusion m j r → Way m t r

  abbrev Follows : Result Model Misdescription → Shown → Report → Type 0
  Follows (Ok m) t r = Way m t r
  Follows (Err e) t r = r ≡ report.Refused (Call (Description e))

  data Comes (t : Shown) (r : Report) : Type 0 where
    no_frame : {e : Unframed} → frame bs ≡ Err e → r ≡ report.Refused (Frame e) → Comes t r
    framed : {p : Parts} {x : Result Model Misdescription} → frame bs ≡ Ok p → Checked s.vars p.circuit p.assumption p.property x → Follows x t r → Comes t r

  comes : {t : Shown} {r : Report} → Reports s bs r t → Comes t r
  comes (unframed e) = no_frame e refl
  comes (unfit f k) = framed f k refl
  comes (load_full w q) = framed w.framed (right w.describes) (halts (halted_load _ s q))
  comes (advance_full w f o q) = framed w.framed (right w.describes) (halts (halted_advance _ s f o q))
  comes (found_safe w f o) = framed w.framed (right w.describes) (settles f (is_safe o))
  comes (found_unsafe w f o h) = framed w.framed (right w.describes) (settles f (is_unsafe refl o h))

  -- the store shows the same at both ends, or neither report is a refusal for room
  abbrev Tied : Shown → Shown → Report → Report → Type 0
  Tied t u r r' = (t ≡ u) ⊎ ((is_full r ≡ false) × (is_full r' ≡ false))

  same_report : {m : Model} {t u : Shown} {r r' : Report} → Way m t r → Way m u r' → Tied t u r r' → r' ≡ r
  same_report {m = m} {t = t} {u = u} (halts {y = x} a) (halts {y = y} b) d =
      let e = left_full d in
      ap₂ (λ y t. report.Refused (Call (room y t))) (one_halt m s (subst (λ t. Halted m s t y) (sym e) b) a) (sym e)
  same_report {m = m} (halts {y = y} a) (settles g h) d =
      absurd (not_halted m s g (not_open h) (subst (λ t. Halted m s t y) (left_full d) a))
  same_report {m = m} (settles f h) (halts {y = y} b) d =
      absurd (not_halted m s f (not_open h) (subst (λ t. Halted m s t y) (sym (right_full d)) b))
  same_report (settles f h) (settles g k) d = one_conclusion f g h k

  one_follows :
      (x : Result Model Misdescription) (t u : Shown) {r r' : Report}
      → Follows x t r
      → Follows x u r'
      → Tied t u r r'
      → r' ≡ r
  one_follows (Ok m) t u a b d = same_report a b d
  one_follows (Err e) t u a b d = b ∙ sym a

  one_fault : {a b : Unframed} → frame bs ≡ Err a → frame bs ≡ Err b → b ≡ a
  one_fault e e' = cc

  one_parts : {p p' : Parts} → frame bs ≡ Ok p → frame bs ≡ Ok p' → p ≡ p'
  one_parts e e' = cc

  one : {t u : Shown} {r r' : Report} → Comes t r → Comes u r' → Tied t u r r' → r' ≡ r
  one (no_frame e h) (no_frame e' h') d = h' ∙ ap (λ i. report.Refused (Frame i)) (one_fault e e') ∙ sym h
  one (no_frame e h) (framed f k l) d = never (cc)
  one (framed f k l) (no_frame e h) d = never (cc)
  one {t = t} {u = u} {r = r} (framed {x = x} f k l) (framed {x = y} f' k' l') d =
      let p = one_parts f f' in
      let e : x ≡ y = one_check (subst (λ (p : Parts). Checked s.vars p.circuit p.assumption p.property x) p k) k' in
      one_follows y t u (subst (λ x. Follows x t r) e l) l' d

  pub only : (r : Report) (t : Shown) → Reports s bs r t → Only s bs r t
  only r t a = record {
    same_end = λ other b. one (comes a) (comes b) (inl refl);
    any_end = λ other u b n n'. one (comes a) (comes b) (inr (n, n'));
  }

  refused : {e : Fault} → Accepted s bs (report.Refused e) × Broken s bs (report.Refused e)
  refused = (λ z i c is. never (cc), λ z x is. never (cc))

  same_depth : {z z' : Sizes} {i j c d : ℕ} → ◌≡◌ {A = Report} (report.Safe z i c) (report.Safe z' j d) → i ≡ j
  same_depth e = cc

  same_run : {z z' : Sizes} {x y : Trace} → ◌≡◌ {A = Report} (report.Unsafe z x) (report.Unsafe z' y) → x ≡ y
  same_run e = cc

  -- what is accepted is safe, and what is called unsafe is broken by the run that is shown
  pub said : {r : Report} {t : Shown} → Reports s bs r t → Accepted s bs r × Broken s bs r
  said (unframed e) = refused
  said (unfit f k) = refused
  said (load_full j q) = refused
  said (advance_full j f o q) = refused
  said (found_safe {m = m} {j = j} w f o) = (
    λ z i c is.
        let h : j ≡ i = same_depth is in
        (m, w, subst (Safe (system m)) h ((verdicts (system m) (closed m) j (reached f)).safely o)),
    λ z x is. never (cc),
  )
  said (found_unsafe {m = m} {x = y} w f o h) = (
    λ z i c is. never (cc),
    λ z x is.
        let e : y ≡ x = same_run is in
        subst (λ (x : Trace). (n : Model) × Job s.vars bs n × Unsafe (system n) (depth_of x) × Breaking (system n) (depth_of x) (state_at x) (input_at x)) e (
          m,
          w,
          ((verdicts (system m) (closed m) (depth_of y) (reached f)).unsafely (depth_of y) o).1,
          (runs.traces (system m) (closed m) (depth_of y) (reached f) o).breaking (state_at y) (input_at y) h,
        ),
  )
