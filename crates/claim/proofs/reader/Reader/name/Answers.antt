use Rattle.std.proofs.Common.{◌≡◌, ℕ, ◌<◌, ◌≤◌, None, Some, Ok, Err, MatchOption, Option, sym, subst, ◌∙◌, arith}
use Rattle.std.proofs.lemmas.Result.{err_from_is_err_and}
use Rattle.std.specs.Option.{ok_or}
use Rattle.claim.specs.declared.fault.Fault.{Fault}
use Rattle.claim.specs.Grammar.{factor}
use Rattle.claim.specs.Reading.{Stopped}
use Rattle.claim.proofs.Steps.{read_name, no_name}
use Rattle.claim.proofs.reader.Reader.name.Goals as goal

-- the two ways of the `?`
module _ (most v : ℕ) (f : Fault) where
  there : (o : Option ℕ) (n : ℕ) → MatchOption o (most ≤ v) (λ n. (n ≡ v) × (n < most)) → ok_or o f ≡ Ok n → (n ≡ v) × (n < most)
  there None n a e = absurd cc
  there (Some m) n b e = let d : m ≡ n = cc in subst (λ n. (n ≡ v) × (n < most)) d b

  not_there : (o : Option ℕ) (x : Fault) → MatchOption o (most ≤ v) (λ n. (n ≡ v) × (n < most)) → ok_or o f ≡ Err x → (most ≤ v) × (f ≡ x)
  not_there None x a e = (a, cc)
  not_there (Some m) x b e = absurd cc

pub returns-in_err-n : goal.returns-in_err-n
returns-in_err-n c = λ d.
    let p = err_from_is_err_and c.from_residual.result c.from_residual.ensures.1 in
    let n = not_there _ _ _ c.number_below.result c.in_err-n.field-0.0 c.number_below.ensures (sym c.ok_or.ensures.value ∙ c.in_err-n.was) in
    rw p.1 (subst (Stopped factor d c.args.self.now c.args.self.now) (n.1 ∙ sym p.2) (no_name c.args.self.now c.args.sort c.args.digits.now c.requires (omega (arith, n.0, c.of.ensures))))

pub returns : goal.returns
returns c = λ d.
    let n = there _ _ _ c.number_below.result c.in_ok-n.n c.number_below.ensures (sym c.ok_or.ensures.value ∙ c.in_ok-n.was) in
    read_name c.args.sort c.args.digits.now c.in_ok-n.n c.requires n.0 (omega (arith, n.1, c.of.ensures)) c.atom.ensures

pub number_below-requires : goal.number_below-requires
number_below-requires c = c.args.self.now.placed.numeral c.args.sort c.args.digits.now c.requires
