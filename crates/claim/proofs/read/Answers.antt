use Rattle.std.proofs.Common.{refl, arith}
use Rattle.std.proofs.lemmas.Result.{err_from_is_err_and}
use Rattle.claim.specs.Faults.{too_long}
use Rattle.claim.proofs.Exactly.{exact, answered}
use Rattle.claim.proofs.Whole.{refused, refused_after, written, reads}
use Rattle.claim.proofs.read.Goals as goal

pub returns-then-text-gt-LONGEST : goal.returns-then-text-gt-LONGEST
returns-then-text-gt-LONGEST c = record {
  answer = too_long (omega arith);
  reads = λ t r. absurd ((exact _ _).not_both t _ r (too_long (omega arith)));
  exact = exact _ _;
}

pub returns-in_err-claim : goal.returns-in_err-claim
returns-in_err-claim c =
    let p = err_from_is_err_and c.from_residual.result c.from_residual.ensures.1 in
    let fault = refused _ _ c.new-reader.ensures c.in_err-claim.ensures in
    record {
      answer = rw (p.1, p.2) fault;
      reads = λ t r. absurd ((exact _ _).not_both t _ r fault);
      exact = exact _ _;
    }

pub invariant_of-result : goal.invariant_of-result
invariant_of-result c =
    let s = c.in_ok-claim.ensures.sofar in
    record {
      within = omega (arith, c.claim.new.self.fits, c.claim.new.self.placed.within, c.claim.new.self.short);
      made = ∣ (s.tree, written _ _ c.new-reader.ensures s) ∣₁;
    }

pub returns-in-End : goal.returns-in-End
returns-in-End c =
    let codes = reads _ _ c.new-reader.ensures c.in_ok-claim.ensures.sofar _ refl c.in-End.is in
    record { answer = codes; reads = λ t r. answered _ _ _ codes t r; exact = exact _ _ }

pub returns-in_default : goal.returns-in_default
returns-in_default c =
    let fault = refused_after _ _ c.new-reader.ensures c.in_ok-claim.ensures c.in_default.not-End in
    record {
      answer = fault;
      reads = λ t r. absurd ((exact _ _).not_both t _ r fault);
      exact = exact _ _;
    }
