-- The parts of what a making call promises that follow from the others.
use Rattle.std.proofs.Common.{◌≡◌, ℕ, ◌+◌, true, ⊎_elim, arith}
use Rattle.std.proofs.lemmas.Bool.{cases_Bool}
use Rattle.std.proofs.lemmas.Bool.Decides.{not_from_Decides}
use Rattle.store.specs.Fun.{Fn, Same}
use Rattle.store.specs.Meaning.{Shown, holds, price, Lawful, Grown, Made}
use Rattle.store.proofs.Same.{holds_tells, same_sym, same_trans}

-- the number of a new function is new, and its price was at most the free units
pub made_of : (s t : Shown) (f : Fn) (a : ℕ) → Lawful s → Lawful t → Grown s t → t.held a ≡ true → Same s.vars (t.value a) f
    → t.used ≡ s.used + price s f → (holds s f ≡ true → t ≡ s) → Made s t f a
made_of s t f a ls lt g h m p e = record {
  grown = g;
  held = h;
  means = m;
  afforded = omega (arith, lt.within, g.capacity);
  paid = p;
  still = e;
  fresh = λ none. ⊎_elim
      (λ old. absurd (not_from_Decides (holds s f) (holds_tells s f) none
      (a, ls.narrow a old, (old, same_trans s.vars _ _ _ (same_sym s.vars _ _ (g.kept a old).1) m))))
      (λ new. new)
      (cases_Bool (s.held a));
}
