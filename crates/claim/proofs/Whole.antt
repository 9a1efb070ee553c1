-- From the readers' promises to the text.
use Rattle.std.proofs.Common.{◌≡◌, ℕ, ◌≤◌, cond, List, [], ◌∷◌, ◌++◌, length, drop, Ok, sym, refl, ap, ◌∙◌, subst, arith}
use Rattle.std.proofs.lemmas.Bool.{le-ltb}
use Rattle.claim.specs.declared.code.Code.{Code}
use Rattle.circuit.specs.declared.sizes.Sizes.{Sizes}
use Rattle.claim.specs.declared.codes.Codes.{Codes}
use Rattle.claim.specs.declared.fault.Fault.{Fault}
use Rattle.claim.specs.declared.fault.Fault.TheVariants as fault
use Rattle.claim.specs.declared.lexer.Token.TheVariants.{End}
use Rattle.claim.specs.declared.reader.Reader.{Reader}
use Rattle.claim.specs.Tokens.{end, Tok, tok, tokens}
use Rattle.claim.specs.Seen.{kind_of, left}
use Rattle.claim.specs.Grammar.{claim, Says, a_text, post, operators}
use Rattle.claim.specs.Faults.{Fails, Read, Refused, at_fault}
use Rattle.claim.specs.Machine.{want, have, over, scan}
use Rattle.claim.specs.Reading.{ahead, Begun, Reach, Sofar, Taken, Stopped}
use Rattle.claim.specs.Result.{used, Reads}
use Rattle.claim.proofs.Places.{rising}
use Rattle.claim.proofs.Runs.{scan_append}
use Rattle.claim.proofs.Outcomes.{sound, first}
use Rattle.claim.proofs.Readings.{read_by}
use Rattle.claim.proofs.Lengths.{read_length, read_operators}
use Rattle.claim.proofs.Steps.{refuses_have, stuck_step}

module _ {bs : List ℕ} {z : Sizes} (a b : Reader) (begun : Begun bs z a) where
  short : length bs ≤ 512
  short = omega (arith, a.short, ap length begun.text)

  passed : {ts : List Tok} {cs : List Code} → Reach a b ts cs → tokens 0 0 bs ≡ ts ++ left bs b.ahead
  passed {ts} r = begun.first ∙ subst (λ t. left t a.ahead ≡ ts ++ left t b.ahead) begun.text r.passed

  pub refused : {f : Fault} → Stopped claim 0 a b f → Refused bs z f
  refused {f} s =
      let h = s.halts 0 [] refl refl in
      subst (λ y. Refused bs y f) begun.sizes (at_fault short (first a.sizes s.ts h.0 h.1 (tokens 0 0 bs) _ (ahead b) f 0 (rising 0 0 bs) (passed s.reach) h.2))

  pub refused_after : Taken claim 0 a b → (b.ahead.token ≡ End → ⊥) → Refused bs z (fault.Claim b.ahead.place)
  refused_after h more =
      let s = h.sofar in
      subst (λ y. Refused bs y (fault.Claim b.ahead.place)) begun.sizes (at_fault short (first a.sizes s.ts (have []) (s.path 0 [] refl refl) (tokens 0 0 bs) _ (ahead b) _ 0 (rising 0 0 bs) (passed s.reach) (stuck_step a.sizes (have []) (ahead b) (refuses_have [] b.ahead.token h.follow.0 h.follow.1 more))))

  module _ (s : Sofar claim 0 a b) where
    read : b.ahead.token ≡ End → Read bs z s.tree
    read is_end =
        let p = b.ahead.place in
        let past : length bs ≤ p = omega (arith, b.placed.last is_end, ap length s.reach.text, ap length begun.text) in
        let after : left bs b.ahead ≡ tok p end ∷ [] = (λ i. tok p (kind_of (is_end i)) ∷ cond (le-ltb p (length bs) past i) (tokens 0 b.ahead.end (drop b.ahead.end bs)) []) in
        let all = passed s.reach ∙ ap (λ l. s.ts ++ l) after in
        read_by z bs s.tree short (subst (λ l. Says l s.tree) (sym all) (a_text p s.derived)) (subst (λ y. (f : Fault) → Fails y (tokens 0 0 bs) f → ⊥) begun.sizes (sound a.sizes (tokens 0 0 bs) over (ap (scan a.sizes (Ok (want 0 []))) all ∙ scan_append a.sizes (Ok (want 0 [])) s.ts (tok p end ∷ []) ∙ ap (λ r. scan a.sizes r (tok p end ∷ [])) (s.path 0 [] refl refl))))

    -- the codes of what was read
    pub written : b.codes.items ≡ post s.tree
    written = s.reach.wrote ∙ ap (λ l. l ++ post s.tree) begun.none

    pub reads : (c : Codes) → used c ≡ b.codes.items → b.ahead.token ≡ End → Reads bs z c
    reads c e is_end =
        let r = read is_end in
        let is : used c ≡ post s.tree = e ∙ written in
        record { tree = s.tree; read = r; codes = is; few = omega (arith, ap length is, read_length r); few_operators = omega (arith, ap operators is, read_operators r) }
