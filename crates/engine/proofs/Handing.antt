-- The trace that is handed out.
use Rattle.std.proofs.Common.{◌≡◌, ℕ, suc, ◌+◌, ◌≤◌, Bool, true, false, cond, List, ◌++◌, take, drop, length, Some, Ok, Err, Result, sym, refl, ap, ◌∙◌, subst, add-one, arith}
use Rattle.std.proofs.lemmas.List.{get_or-take, length-take-le, take-append-drop}
use Rattle.std.proofs.lemmas.List.FromFn.{fill_by_all}
use Rattle.runs.specs.Models.{Model, system}
use Rattle.runs.specs.Search.{unsafe, safe, open_yet, bad, meets_init, stable, verdict_by}
use Rattle.runs.specs.Search as search
use Rattle.runs.specs.Systems.{System}
use Rattle.uses.specs.declared.fault.Fault.{Fault}
use Rattle.uses.specs.declared.fault.Fault.TheVariants as fault
use Rattle.uses.specs.declared.verdict.Verdict.TheVariants as verdict
use Rattle.uses.specs.Calls.{loaded, tell, trace, stand, written}
use Rattle.uses.specs.Uses.{Step, trace_verdict, trace_short, traces}
use Rattle.uses.proofs.Told.{never, tell_unsafe}
use Rattle.engine.specs.declared.search.Search.{Search}
use Rattle.engine.specs.Keeping.{World, Sets, Next}
use Rattle.engine.specs.Questions.{Spares, Walks}
use Rattle.engine.proofs.Keepings.{stays_some}
use Rattle.engine.proofs.Tracings.{at}

-- the depth is the number of advances
pub depth_is : (s : System) (j d : ℕ) → search.verdict s j ≡ unsafe d → search.verdict s j ≡ unsafe j
unfolding verdict_by
depth_is s j d = go (meets_init s (bad s j)) (stable s (bad s) j)
  where
    go : (a b : Bool) → cond a (unsafe j) (cond b safe open_yet) ≡ unsafe d → cond a (unsafe j) (cond b safe open_yet) ≡ unsafe j
    go true b e = refl
    go false true e = never (cc)
    go false false e = never (cc)

-- the start of an array is what stands there
written_here : (n : ℕ) (xs ys : List ℕ) → n ≤ length xs → length ys ≡ length xs → drop n ys ≡ drop n xs → written n (at ys) xs ≡ ys
written_here n xs ys l e r =
    ap (λ z. z ++ drop n xs) (sym (fill_by_all (at ys) (take n ys) n 0 (length-take-le n ys (omega arith)) (λ k h. get_or-take n ys k 0 h)))
    ∙ ap (λ z. take n ys ++ z) (sym r) ∙ take-append-drop n ys

module _ (w : World) (k : Search) (e : w.search ≡ Some k) (x y : List ℕ) where
  pub when_not_unsafe : ((d : ℕ) → k.last.verdict ≡ verdict.Unsafe d → ⊥) → Next w (trace x y x y (Err fault.Verdict)) w
  when_not_unsafe o = stays_some w _ k e (λ m j r h. trace_verdict (λ v. o j (h.verdict ∙ ap tell v)))

  module _ (d : ℕ) (o : k.last.verdict ≡ verdict.Unsafe d) where
    unsafe_here : (m : Model) (j : ℕ) → Sets m j w.store k → search.verdict (system m) j ≡ unsafe j
    unsafe_here m j h = depth_is (system m) j d (tell_unsafe (search.verdict (system m) j) d (sym h.verdict ∙ o))

    entries : (m : Model) (j : ℕ) → Sets m j w.store k → length k.earlier.items + 1 ≡ suc j
    entries m j h = add-one (length k.earlier.items) ∙ ap suc h.count

    pub when_short : (length k.earlier.items + 1 ≤ length x → length k.earlier.items + 1 ≤ length y → ⊥) → Next w (trace x y x y (Err (fault.Short (length k.earlier.items + 1)))) w
    when_short l = stays_some w _ k e (λ m j r h.
        let z = stand (loaded m j) w.store in
        subst (λ n. Step z (trace x y x y (Err (fault.Short n))) z) (sym (entries m j h))
        (trace_short (unsafe_here m j h) (subst (λ n. n ≤ length x → n ≤ length y → ⊥) (entries m j h) l)))

    pub when_walked : (r : Result (Unit {0}) Fault) (x' y' : List ℕ) → Walks w.store k r x' y' → Spares (length k.earlier.items) x y x' y'
        → length k.earlier.items + 1 ≤ length x → length k.earlier.items + 1 ≤ length y → Next w (trace x y x' y' r) w
    when_walked r x' y' t p lx ly = stays_some w _ k e (λ m j c h.
        let z = stand (loaded m j) w.store in
        let q = t m j h c (unsafe_here m j h) in
        let n : suc j ≡ suc (length k.earlier.items) = ap suc (sym h.count) in
        let bx : suc j ≤ length x = omega (arith, h.count, lx) in
        let by : suc j ≤ length y = omega (arith, h.count, ly) in
        let a : written (suc j) (at x') x ≡ x' = written_here (suc j) x x' bx p.states_long (subst (λ i. drop i x' ≡ drop i x) (sym n) p.states_after) in
        let b : written (suc j) (at y') y ≡ y' = written_here (suc j) y y' by p.inputs_long (subst (λ i. drop i y' ≡ drop i y) (sym n) p.inputs_after) in
        subst (λ i. Step z (trace x y x' y' i) z) (sym q.0)
        (subst (λ i. Step z (trace x y i y' (Ok tt)) z) a
        (subst (λ i. Step z (trace x y (written (suc j) (at x') x) i (Ok tt)) z) b
        (traces (at x') (at y') (unsafe_here m j h) bx by q.1))))
