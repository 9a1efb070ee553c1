-- What was written over the start of an array, and runs that agree up to their end.
use Rattle.std.proofs.Common.{◌≡◌, ℕ, suc, ◌<◌, List, ◌++◌, map, length, get_or, drop}
use Rattle.std.proofs.Common.{sym, refl, ap, ◌∙◌, subst, ap₂, arith}
use lib.ListN.{get_or-append}
use Rattle.std.specs.List.{range_with_len}
use Rattle.std.proofs.lemmas.List.FromFn.{fill_by_all, length-map-range_with_len, get_or-map-range_with_len}
use Rattle.runs.specs.Systems.{System, State, Input, Breaking}
use Rattle.uses.specs.Calls.{written}

pub written_at : (n : ℕ) (f : ℕ → ℕ) (xs : List ℕ) (t : ℕ) → t < n → get_or (written n f xs) t 0 ≡ f t
written_at n f xs t l =
    get_or-append (map f (range_with_len 0 n)) (drop n xs) 0 t
    (subst (λ i. t < i) (sym (length-map-range_with_len f 0 n)) l)
    ∙ get_or-map-range_with_len f 0 n t t 0 l (omega arith)

pub written_of : (n : ℕ) (xs ys : List ℕ) → length xs ≡ n → written n (λ t. get_or xs t 0) ys ≡ xs ++ drop n ys
written_of n xs ys e = ap (λ l. l ++ drop n ys) (sym (fill_by_all (λ t. get_or xs t 0) xs n 0 e (λ k l. refl)))

pub written_like : (n : ℕ) (f g : ℕ → ℕ) (xs : List ℕ) → ((t : ℕ) → t < n → f t ≡ g t) → written n f xs ≡ written n g xs
written_like n f g xs h =
    let same : (k : ℕ) → k < n → get_or (map f (range_with_len 0 n)) k 0 ≡ g k =
    λ k l. get_or-map-range_with_len f 0 n k k 0 l (omega arith) ∙ h k l in
    ap (λ l. l ++ drop n xs) (fill_by_all g (map f (range_with_len 0 n)) n 0 (length-map-range_with_len f 0 n) same)

-- runs that agree up to their end break the property together
pub breaking_like :
    (s : System) (d : ℕ) (q v q' v' : ℕ → ℕ)
    → ((t : ℕ) → t < suc d → q' t ≡ q t)
    → ((t : ℕ) → t < suc d → v' t ≡ v t)
    → Breaking s d q v
    → Breaking s d q' v'
breaking_like s d q v q' v' eq ev b = record {
  run = record {
    walk = record {
      states = λ t l. subst (State s) (sym (eq t (omega arith))) (b.run.walk.states t l);
      inputs = λ t l. subst (Input s) (sym (ev t (omega arith))) (b.run.walk.inputs t l);
      moves = λ t l.
          eq (suc t) (omega arith)
          ∙ b.run.walk.moves t l
          ∙ sym (ap₂ s.next (eq t (omega arith)) (ev t (omega arith)));
    };
    initial = ap s.init (eq 0 (omega arith)) ∙ b.run.initial;
  };
  permitted = λ t l. ap₂ s.assumed (eq t (omega arith)) (ev t (omega arith)) ∙ b.permitted t l;
  breaks = ap₂ s.property (eq d (omega arith)) (ev d (omega arith)) ∙ b.breaks;
}
