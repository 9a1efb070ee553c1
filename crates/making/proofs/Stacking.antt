-- Acts on a stack.
use Rattle.std.proofs.Common.{◌≡◌, ℕ, ◌<◌, Bool, true, false, not, ◌&&◌, ◌||◌, List, [], ◌∷◌, ◌++◌, get_or, Ok, Result, sym, refl, ap, ◌∙◌, subst, arith}
use Rattle.std.proofs.lemmas.List.{append_assoc}
use mir.Val.{bool_byte}
use Rattle.store.specs.declared.refusal.Refusal.{Refusal}
use Rattle.store.specs.Fun.{Fn}
use Rattle.store.specs.Meaning.{Shown, Lawful, Grown}
use Rattle.store.specs.Calls.{Answers, Reply}
use Rattle.circuit.specs.Netlists.{Netlist, lines, limit, name_line}
use Rattle.circuit.specs.declared.sort.Sort.{Sort}
use Rattle.circuit.specs.declared.sort.Sort.TheVariants.{Register, Input, Gate}
use Rattle.claim.specs.declared.code.Act.TheVariants.{Constant, Name, Not, And, Or}
use Rattle.claim.specs.Grammar.{named}
use Rattle.description.specs.declared.part.Part.{Part}
use Rattle.runs.specs.Functions.{negated, both, either}
use Rattle.runs.specs.Valuations.{line_fn, claim_fn}
use Rattle.runs.specs.Models.{Model, sizes, Valid}
use Rattle.runs.proofs.Models.{functions_exact}
use Rattle.making.specs.Making.{at, ended, Means, Numbered}
use Rattle.making.specs.Stacks.{Stacked, bare, on, Acts, a_constant, a_name, a_not, a_and, a_or, Standing}
use Rattle.making.specs.Ends.{Ends, made, plain}
use Rattle.making.proofs.Steps.{kept, runs_grown, not_answers, and_answers, or_answers, gives_last, ends_with}

stacked_kept : {s t : Shown} {st : List ℕ} {fs : List Fn} → Grown s t → Stacked s st fs → Stacked t st fs
stacked_kept g bare = bare
stacked_kept g (on e m k) = on e (kept g m) (stacked_kept g k)

-- the stack st' is left under a top v
abbrev pub Popped : List ℕ → ℕ → List ℕ → Type 0
Popped st v st' = (below : List ℕ) (a : ℕ) → st ≡ below ++ a ∷ [] → (v ≡ a) × (st' ≡ below)

pub pops : {s : Shown} {st st' : List ℕ} {v : ℕ} {f : Fn} {fs : List Fn} → Stacked s st (f ∷ fs) → Popped st v st' → Means s v f × Stacked s st' fs
pops {s = s} {f = f} {fs = fs} (on e m k) h =
    let q = h _ _ e in
    (subst (λ a. Means s a f) (sym q.0) m, subst (λ xs. Stacked s xs fs) (sym q.1) k)

-- the stack st' is left under the tops u
abbrev pub PoppedTwo : List ℕ → ℕ × ℕ → List ℕ → Type 0
PoppedTwo st u st' = (below : List ℕ) (a b : ℕ) → st ≡ below ++ a ∷ b ∷ [] → (u ≡ (a, b)) × (st' ≡ below)

pops_two : {s : Shown} {st st' : List ℕ} {u : ℕ × ℕ} {f g : Fn} {fs : List Fn} → Stacked s st (g ∷ f ∷ fs) → PoppedTwo st u st' → Means s u.0 f × Means s u.1 g × Stacked s st' fs
pops_two {s = s} {f = f} {g = g} {fs = fs} (on {a = b} e m (on {below = below} {a = a} d l k)) h =
    let q = h below a b (e ∙ ap (λ xs. xs ++ b ∷ []) d ∙ append_assoc below (a ∷ []) (b ∷ [])) in
    (subst (λ v. Means s v.0 f) (sym q.0) l, subst (λ v. Means s v.1 g) (sym q.0) m, subst (λ xs. Stacked s xs fs) (sym q.1) k)

constant_means : {s : Shown} → Lawful s → (b : Bool) → Means s (bool_byte b) (λ _. b)
constant_means l true = record { held = l.yes.0; same = l.yes.1 }
constant_means l false = record { held = l.no.0; same = l.no.1 }

named_below : (c : Netlist) (o : Sort) (i : ℕ) → i < limit (sizes c) o → name_line c o i < lines c
named_below c Register i b = omega arith
named_below c Input i b = omega arith
named_below c Gate i b = omega arith

module _ (m : Model) (p : Part) (l : ℕ) where
  pub on_constant : {s : Shown} (st : List ℕ) (b : Bool) {fs gs k : List Fn} → Standing s st fs → Acts m (Constant b) fs k gs
      → Ends plain s s (at p l k) (λ a. Standing s (st ++ a ∷ []) gs) (Ok (bool_byte b))
  on_constant st b d a_constant = made ended (record { lawful = d.lawful; stacked = on refl (constant_means d.lawful b) d.stacked })

  pub on_name : {s : Shown} (ok : Valid m) (st : List ℕ) (o : Sort) (i v : ℕ) (ns : List ℕ) {fs gs k : List Fn} → v ≡ get_or ns (name_line m.circuit o i) 0
      → Numbered s ns (line_fn m) (lines m.circuit) → Standing s st fs → Acts m (Name o i) fs k gs → Ends plain s s (at p l k) (λ a. Standing s (st ++ a ∷ []) gs) (Ok v)
  on_name {s = s} ok st o i v ns e n d (a_name b) =
      let k = n (name_line m.circuit o i) (named_below m.circuit o i b) in
      let means : Means s (get_or ns (name_line m.circuit o i) 0) (claim_fn m (named 0 o i)) =
      record { held = k.held; same = λ w j. k.same w j ∙ (functions_exact m ok).lined.claims (named 0 o i) b w } in
      made ended (record { lawful = d.lawful; stacked = on refl (subst (λ a. Means s a (claim_fn m (named 0 o i))) (sym e) means) d.stacked })

  -- an operator whose operands have left the stack
  result : {s t : Shown} (st : List ℕ) (x : Result ℕ Refusal) (f : Fn) (fs : List Fn) → Lawful s → Lawful t → Stacked s st fs → Answers s t f x
      → Ends plain s t (at p l (f ∷ [])) (λ a. Standing t (st ++ a ∷ []) (f ∷ fs)) x
  result st x f fs w after k y = ends_with (λ a v m. record { lawful = after; stacked = on refl m (stacked_kept (runs_grown v) k) }) (gives_last w after x y)

  module _ {s t : Shown} (st st' : List ℕ) (x : Result ℕ Refusal) where
    pub on_not : (a : ℕ) {fs gs k : List Fn} → Standing s st fs → Acts m Not fs k gs → Popped st a st' → Reply s t (s.held a) true (λ w. not (s.value a w)) x
        → Ends plain s t (at p l k) (λ a. Standing t (st' ++ a ∷ []) gs) x
    on_not a d (a_not {f = f} {fs = xs}) h y = let q = pops d.stacked h in result st' x (negated f) xs y.lawful y.after q.1 (not_answers y q.0)

    module _ (u : ℕ × ℕ) (tops : PoppedTwo st u st') where
      pub on_and : {fs gs k : List Fn} → Standing s st fs → Acts m And fs k gs → Reply s t (s.held u.0 && s.held u.1) true (λ w. s.value u.0 w && s.value u.1 w) x
          → Ends plain s t (at p l k) (λ a. Standing t (st' ++ a ∷ []) gs) x
      on_and d (a_and {f = f} {g = g} {fs = xs}) y = let q = pops_two d.stacked tops in result st' x (both f g) xs y.lawful y.after q.2 (and_answers y q.0 q.1)

      pub on_or : {fs gs k : List Fn} → Standing s st fs → Acts m Or fs k gs → Reply s t (s.held u.0 && s.held u.1) true (λ w. s.value u.0 w || s.value u.1 w) x
          → Ends plain s t (at p l k) (λ a. Standing t (st' ++ a ∷ []) gs) x
      on_or d (a_or {f = f} {g = g} {fs = xs}) y = let q = pops_two d.stacked tops in result st' x (either f g) xs y.lawful y.after q.2 (or_answers y q.0 q.1)
