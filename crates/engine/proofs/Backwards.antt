-- A list that is read from its end.
use Rattle.std.proofs.Common.{◌≡◌, suc, ◌+◌, List, [], ◌∷◌, ◌++◌, length, get_or, sym, ap, ◌∙◌, arith}
use Rattle.std.proofs.lemmas.List.{append_assoc, length-append}
use Rattle.std.proofs.Math.Seq.{get_or-append_seam}

module _ {A : Type 0} (all rest done left : List A) (a : A) (step : rest ≡ left ++ a ∷ []) (split : rest ++ done ≡ all) where
  pub back_one : left ++ (a ∷ done) ≡ all
  back_one = sym (append_assoc left (a ∷ []) done) ∙ ap (λ xs. xs ++ done) (sym step) ∙ split

  pub item_is : (d : A) → a ≡ get_or all (length left) d
  item_is d = sym (get_or-append_seam left a done d) ∙ ap (λ xs. get_or xs (length left) d) back_one

  pub one_less : length rest ≡ suc (length left)
  one_less = omega (arith, ap length step, length-append left (a ∷ []))

  pub in_all : length left + suc (length done) ≡ length all
  in_all = omega (arith, ap length back_one, length-append left (a ∷ done))
