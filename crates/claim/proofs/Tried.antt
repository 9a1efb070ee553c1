-- The examples come out by computing.
use Rattle.std.proofs.Common.{[], Ok, Err, codes, refl, lit≤}
use Rattle.claim.specs.declared.fault.Fault.TheVariants.{Claim, Name, Deep}
use Rattle.claim.specs.Machine.{over}
use Rattle.claim.specs.Grammar.{one_term, one_factor, a_not, a_constant, a_name, a_text}
use Rattle.claim.specs.Examples.{small, negated, Examples}
use Rattle.claim.proofs.Outcomes.{outcome, read_run}

pub examples : Examples
examples = record {
  empty = outcome small [] (lit≤ tt) (Err (Claim 0)) refl;
  two_names = outcome small (codes "s0 s9") (lit≤ tt) (Err (Claim 3)) refl;
  no_register = outcome small (codes "s1") (lit≤ tt) (Err (Name 0)) refl;
  leading_zero = outcome small (codes "s00") (lit≤ tt) (Err (Claim 0)) refl;
  deepest = outcome small (negated 16) (lit≤ tt) (Ok over) refl;
  too_deep = outcome small (negated 17) (lit≤ tt) (Err (Deep 16)) refl;
  constant = read_run small (codes "1") _ (lit≤ tt) (a_text 1 (one_term (one_factor a_constant))) refl;
  register = read_run small (codes "s0") _ (lit≤ tt) (a_text 2 (one_term (one_factor a_name))) refl;
  not_register = read_run small (codes "!s0") _ (lit≤ tt) (a_text 3 (one_term (one_factor (a_not a_name)))) refl;
  not_input = read_run small (codes "!v0") _ (lit≤ tt) (a_text 3 (one_term (one_factor (a_not a_name)))) refl;
}
