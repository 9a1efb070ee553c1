-- What the sets of the search hold.
use Rattle.std.proofs.Common.{◌≡◌, ℕ, zero, suc, ◌+◌, ◌-◌, ◌^◌, ◌<◌, ◌≤◌, Bool, true, false, not, Decides, refl, subst, inl, inr, ⊎_elim, arith}
use Rattle.std.proofs.lemmas.Bool.{not-true, not_from_false}
use Rattle.std.proofs.lemmas.Bool.Decides.{Decides-and, Decides-or}
use Rattle.store.specs.Fun.{some, Same}
use Rattle.store.proofs.Same.{decides_same}
use Rattle.runs.specs.Systems.{System, State, Input, Closed, Walk, Permitted, Breaks, BreakingFrom, Step}
use Rattle.runs.specs.Search.{faulty, leads_into, bad, initial_in, meets_init, stable}
use Rattle.runs.specs.Verdicts.{FirstSet, NextSet, Sets}
use Rattle.runs.proofs.Some.{some_tells}

itself : (b : Bool) → Decides b (b ≡ true)
itself b = ((λ e. e), (λ e. e))

fails : (b : Bool) → Decides (not b) (b ≡ false)
fails b = (not-true b, not_from_false b)

module _ (s : System) where
  pub faulty_tells : (q v : ℕ) → Decides (faulty s q v) ((s.assumed q v ≡ true) × (s.property q v ≡ false))
  faulty_tells q v = Decides-and (s.assumed q v) (not (s.property q v)) (itself (s.assumed q v)) (fails (s.property q v))

  pub leads_tells : (j q v : ℕ) → Decides (leads_into s (bad s j) q v) ((s.assumed q v ≡ true) × (bad s j (s.next q v) ≡ true))
  leads_tells j q v = Decides-and (s.assumed q v) (bad s j (s.next q v)) (itself (s.assumed q v)) (itself (bad s j (s.next q v)))

  pub start_tells : (j q : ℕ) → Decides (initial_in s (bad s j) q) ((s.init q ≡ true) × (bad s j q ≡ true))
  start_tells j q = Decides-and (s.init q) (bad s j q) (itself (s.init q)) (itself (bad s j q))

  pub first_tells : (q : ℕ) → Decides (bad s 0 q) (FirstSet s q)
  unfolding bad
  first_tells q = some_tells (faulty s q) (λ v. (s.assumed q v ≡ true) × (s.property q v ≡ false)) (2 ^ s.inputs) (faulty_tells q)

  pub next_tells : (j q : ℕ) → Decides (bad s (suc j) q) (NextSet s j q)
  unfolding bad
  next_tells j q =
      Decides-or (bad s j q) (some (leads_into s (bad s j) q) (2 ^ s.inputs)) (itself (bad s j q))
      (some_tells (leads_into s (bad s j) q) (λ v. (s.assumed q v ≡ true) × (bad s j (s.next q v) ≡ true)) (2 ^ s.inputs) (leads_tells j q))

  pub meets_tells : (j : ℕ) → Decides (meets_init s (bad s j)) ((q : ℕ) × State s q × ((s.init q ≡ true) × (bad s j q ≡ true)))
  unfolding meets_init
  meets_tells j = some_tells (initial_in s (bad s j)) (λ q. (s.init q ≡ true) × (bad s j q ≡ true)) (2 ^ s.registers) (start_tells j)

  pub stable_tells : (j : ℕ) → Decides (stable s (bad s) (suc j)) (Same s.registers (bad s (suc j)) (bad s j))
  unfolding stable
  stable_tells j = decides_same s.registers (bad s (suc j)) (bad s j)

  -- each set holds the one before
  pub bad_more : (j q : ℕ) → bad s j q ≡ true → bad s (suc j) q ≡ true
  bad_more j q e = (next_tells j q).1 (inl e)

  later : (j k q : ℕ) → bad s j q ≡ true → bad s (k + j) q ≡ true
  later j zero q e = let h : 0 + j ≡ j = omega arith in rw h e
  later j (suc k) q e = let h : suc k + j ≡ suc (k + j) = omega arith in rw h (bad_more (k + j) q (later j k q e))

  pub bad_later : (j k q : ℕ) → j ≤ k → bad s j q ≡ true → bad s k q ≡ true
  bad_later j k q h e = let p : (k - j) + j ≡ k = omega arith in rw p at (later j (k - j) q e)

  pub step_back : (j q v q' : ℕ) → Step s q v q' → bad s j q' ≡ true → bad s (suc j) q ≡ true
  step_back j q v q' h e = (next_tells j q).1 (inr (v, h.input, (h.permitted, subst (λ x. bad s j x ≡ true) h.leads e)))

-- a first element in front of a sequence
abbrev after : ℕ → (ℕ → ℕ) → ℕ → ℕ
after a f zero = a
after a f (suc t) = f t

module _ (s : System) where
  -- a walk of no steps
  at_once : (q : ℕ) → State s q → FirstSet s q → BreakingFrom s 0 q
  at_once q h f = record {
    states = λ _. q;
    inputs = λ _. f.0;
    from = refl;
    walk = record { states = λ t l. h; inputs = λ t l. f.1; moves = λ t l. absurd (omega arith) };
    permitted = λ t l. f.2.0;
    breaks = f.2.1;
  }

  -- a step in front of a walk
  module _ (d q v : ℕ) (h : State s q) (i : Input s v) (p : s.assumed q v ≡ true) (w : BreakingFrom s d (s.next q v)) where
    front_states : (t : ℕ) → t ≤ suc d → State s (after q w.states t)
    front_states zero l = h
    front_states (suc t) l = w.walk.states t (omega arith)

    front_inputs : (t : ℕ) → t ≤ suc d → Input s (after v w.inputs t)
    front_inputs zero l = i
    front_inputs (suc t) l = w.walk.inputs t (omega arith)

    front_moves : (t : ℕ) → t < suc d → w.states t ≡ s.next (after q w.states t) (after v w.inputs t)
    front_moves zero l = w.from
    front_moves (suc t) l = w.walk.moves t (omega arith)

    front_permitted : Permitted s (suc d) (after q w.states) (after v w.inputs)
    front_permitted zero l = p
    front_permitted (suc t) l = w.permitted t (omega arith)

    longer : BreakingFrom s (suc d) q
    longer = record {
      states = after q w.states;
      inputs = after v w.inputs;
      from = refl;
      walk = record { states = front_states; inputs = front_inputs; moves = front_moves };
      permitted = front_permitted;
      breaks = w.breaks;
    }

  -- a walk without its first step
  shorter : (d : ℕ) (q v : ℕ → ℕ) → Walk s (suc d) q v → Walk s d (λ t. q (suc t)) (λ t. v (suc t))
  shorter d q v w = record {
    states = λ t l. w.states (suc t) (omega arith);
    inputs = λ t l. w.inputs (suc t) (omega arith);
    moves = λ t l. w.moves (suc t) (omega arith);
  }

  -- where a permitted walk that breaks the property begins
  pub walk_bad : (d : ℕ) (q v : ℕ → ℕ) → Walk s d q v → Permitted s d q v → Breaks s d q v → bad s d (q 0) ≡ true
  walk_bad zero q v w p b = (first_tells s (q 0)).1 (v 0, w.inputs 0 (omega arith), (p 0 (omega arith), b))
  walk_bad (suc d) q v w p b =
      let e : q 1 ≡ s.next (q 0) (v 0) = w.moves 0 (omega arith) in
      let f = walk_bad d (λ t. q (suc t)) (λ t. v (suc t)) (shorter d q v w) (λ t l. p (suc t) (omega arith)) b in
      (next_tells s d (q 0)).1 (inr (v 0, w.inputs 0 (omega arith), (p 0 (omega arith), subst (λ x. bad s d x ≡ true) e f)))

  module _ (closed : Closed s) where
    pub bad_walk : (j q : ℕ) → State s q → bad s j q ≡ true → (d : ℕ) × (d ≤ j) × BreakingFrom s d q
    bad_walk zero q h e = (0, omega arith, at_once q h ((first_tells s q).0 e))
    bad_walk (suc j) q h e =
        ⊎_elim
        (λ p. let r = bad_walk j q h p in (r.0, omega (arith, r.1), r.2))
        (λ p.
        let r = bad_walk j (s.next q p.0) (closed q p.0 h p.1) p.2.1 in
        (suc r.0, omega (arith, r.1), longer r.0 q p.0 h p.1 p.2.0 r.2))
        ((next_tells s j q).0 e)

    walk_tells : (j q : ℕ) → State s q → Decides (bad s j q) ((d : ℕ) × (d ≤ j) × BreakingFrom s d q)
    walk_tells j q h = (
      bad_walk j q h,
      (λ r.
          let w = r.2 in
          bad_later s r.0 j q r.1 (subst (λ x. bad s r.0 x ≡ true) w.from (walk_bad r.0 w.states w.inputs w.walk w.permitted w.breaks))),
    )

pub sets : (s : System) → Sets s
sets s = record {
  first = first_tells s;
  next = next_tells s;
  meets = meets_tells s;
  settles = stable_tells s;
  walks = walk_tells s;
}
