-- The worked circuits come out by computing.
use Rattle.std.proofs.Common.{◌≡◌, ℕ, zero, suc, ◌<◌, Bool, true, false, List, Ok, codes, refl, arith, lit<, lit≤}
use Rattle.store.specs.Fun.{some}
use Rattle.circuit.specs.Files.{says}
use Rattle.circuit.specs.Lines.{line, touching}
use Rattle.circuit.specs.Rules.{reading}
use Rattle.circuit.specs.declared.sizes.Sizes.{Sizes}
use Rattle.circuit.specs.declared.sort.Sort.{Sort}
use Rattle.circuit.specs.declared.sort.Sort.TheVariants.{Register, Input}
use Rattle.claim.specs.Tokens.{tokens}
use Rattle.claim.specs.Grammar.{Tree, const, named, neg, disj, one_term, more_terms, one_factor, a_not, a_constant, a_name, a_text}
use Rattle.claim.specs.Faults.{Read}
use Rattle.runs.specs.Search.{bad, verdict_by, Least}
use Rattle.runs.specs.Models.{Model}
use Rattle.runs.specs.Facts.{F, W, D, Worked}
use Rattle.runs.proofs.Some.{none}
use Rattle.claim.specs.Machine.{over, scan}
use Rattle.claim.proofs.Runs.{start}
use Rattle.claim.proofs.Outcomes.{read_run}

-- a smallest number that is worked out
least_by : (n : ℕ) (f : ℕ → Bool) (k : ℕ) → k < n → f k ≡ true → some f k ≡ false → Least n f k
least_by n f k l h e = record { below = l; holds = h; first = none f k e }

at_one : (P : ℕ → Type 0) → P 0 → (t : ℕ) → t < 1 → P t
at_one P a zero h = a
at_one P a (suc t) h = absurd (omega arith)

at_two : (P : ℕ → Type 0) → P 0 → P 1 → (t : ℕ) → t < 2 → P t
at_two P a b zero h = a
at_two P a b (suc zero) h = b
at_two P a b (suc (suc t)) h = absurd (omega arith)

abbrev model : List ℕ → Tree → Tree → Model
model file h p = record { circuit = says file; assumption = h; property = p }

abbrev true_claim : Tree
true_claim = const 0 true

-- `!` and a name
abbrev not_name : Sort → ℕ → Tree
not_name s i = neg 0 (named 1 s i)

abbrev not_both : Tree
not_both = disj 4 (neg 0 (named 1 Register 0)) (neg 6 (named 7 Register 1))

f_file : reading 24 F ≡ Ok (says F)
unfolding touching
f_file = refl

w_file : reading 24 W ≡ Ok (says W)
unfolding touching
w_file = refl

d_file : reading 24 D ≡ Ok (says D)
unfolding touching
d_file = refl

reads_true : (z : Sizes) → Read (codes "1") z true_claim
reads_true z = read_run z (codes "1") true_claim (lit≤ tt) (a_text 1 (one_term (one_factor a_constant))) refl

module _ (z : Sizes) where
  reads_s0 : scan z (Ok start) (tokens 0 0 (codes "s0")) ≡ Ok over → Read (codes "s0") z (named 0 Register 0)
  reads_s0 h = read_run z (codes "s0") (named 0 Register 0) (lit≤ tt) (a_text 2 (one_term (one_factor a_name))) h

  reads_not_s0 : scan z (Ok start) (tokens 0 0 (codes "!s0")) ≡ Ok over → Read (codes "!s0") z (not_name Register 0)
  reads_not_s0 h = read_run z (codes "!s0") (not_name Register 0) (lit≤ tt) (a_text 3 (one_term (one_factor (a_not a_name)))) h

  reads_not_s1 : scan z (Ok start) (tokens 0 0 (codes "!s1")) ≡ Ok over → Read (codes "!s1") z (not_name Register 1)
  reads_not_s1 h = read_run z (codes "!s1") (not_name Register 1) (lit≤ tt) (a_text 3 (one_term (one_factor (a_not a_name)))) h

  reads_not_v0 : scan z (Ok start) (tokens 0 0 (codes "!v0")) ≡ Ok over → Read (codes "!v0") z (not_name Input 0)
  reads_not_v0 h = read_run z (codes "!v0") (not_name Input 0) (lit≤ tt) (a_text 3 (one_term (one_factor (a_not a_name)))) h

  reads_not_both : scan z (Ok start) (tokens 0 0 (codes "!s0 | !s1")) ≡ Ok over → Read (codes "!s0 | !s1") z not_both
  reads_not_both h =
      read_run z (codes "!s0 | !s1") not_both (lit≤ tt)
      (a_text 9 (more_terms (one_term (one_factor (a_not a_name))) (one_factor (a_not a_name)))) h

pub worked : Worked
unfolding bad verdict_by line
worked = record {
  follows = (
    model F true_claim (not_name Register 0),
    record { circuit = f_file; assumption = reads_true _; property = reads_not_s0 _ refl },
    record {
      opens = refl;
      settles = refl;
      trace = record {
        steps = record {
          start = least_by _ _ _ (lit< tt) refl refl;
          inputs = at_one _ (least_by _ _ _ (lit< tt) refl refl);
          moves = at_one _ refl;
        };
        last = least_by _ _ _ (lit< tt) refl refl;
      };
    },
  );
  held_low = (
    model F (not_name Input 0) (not_name Register 0),
    record { circuit = f_file; assumption = reads_not_v0 _ refl; property = reads_not_s0 _ refl },
    (record { opens = refl; settles = refl }, refl, refl),
  );
  at_once = (
    model F true_claim (named 0 Register 0),
    record { circuit = f_file; assumption = reads_true _; property = reads_s0 _ refl },
    (
      refl,
      record {
        steps = record {
          start = least_by _ _ _ (lit< tt) refl refl;
          inputs = λ t h. absurd (omega arith);
          moves = λ t h. absurd (omega arith);
        };
        last = least_by _ _ _ (lit< tt) refl refl;
      },
    ),
  );
  swapped = (
    model W true_claim not_both,
    record { circuit = w_file; assumption = reads_true _; property = reads_not_both _ refl },
    (record { opens = refl; settles = refl }, refl, refl, refl, refl),
  );
  delayed = (
    model D true_claim (not_name Register 1),
    record { circuit = d_file; assumption = reads_true _; property = reads_not_s1 _ refl },
    (
      refl,
      refl,
      refl,
      record {
        steps = record {
          start = least_by _ _ _ (lit< tt) refl refl;
          inputs = at_two _ (least_by _ _ _ (lit< tt) refl refl) (least_by _ _ _ (lit< tt) refl refl);
          moves = at_two _ refl refl;
        };
        last = least_by _ _ _ (lit< tt) refl refl;
      },
    ),
  );
  hasty = (
    model W true_claim not_both,
    record { circuit = w_file; assumption = reads_true _; property = reads_not_both _ refl },
    (record { opens = refl; settles = refl }, refl, refl),
  );
  careless = (
    model F (not_name Register 0) (not_name Register 0),
    record { circuit = f_file; assumption = reads_not_s0 _ refl; property = reads_not_s0 _ refl },
    (record { opens = refl; settles = refl }, refl, refl),
  );
}
