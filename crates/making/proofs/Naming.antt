-- What the claims of a described circuit name is there: their codes say so, whatever tree they are of.
use mathlib.Core.Logic.{∥∥₁_elim}
use native.Mathlib.Bridge.{le_prop}
use Rattle.std.proofs.Common.{◌≡◌, ◌<◌, List, [], ◌∷◌, ◌++◌, sym, subst}
use Rattle.circuit.specs.declared.sizes.Sizes.{Sizes}
use Rattle.circuit.specs.Netlists.{Netlist, sizes, limit}
use Rattle.claim.specs.declared.code.Act.{Act}
use Rattle.claim.specs.declared.code.Act.TheVariants.{Constant, Name, Not, And, Or}
use Rattle.claim.specs.declared.code.Code.{Code}
use Rattle.claim.specs.Grammar.{Tree, const, named, neg, conj, disj, code, post, Known}
use Rattle.description.specs.Stated.{Stated}

module _ (z : Sizes) where
  abbrev Names : Act → Type 0
  Names (Constant b) = Unit {0}
  Names (Name s n) = n < limit z s
  Names Not = Unit {0}
  Names And = Unit {0}
  Names Or = Unit {0}

  abbrev AllNamed : List Code → Type 0
  AllNamed [] = Unit {0}
  AllNamed (x ∷ xs) = Names x.act × AllNamed xs

  both_named : (xs ys : List Code) → AllNamed xs → AllNamed ys → AllNamed (xs ++ ys)
  both_named [] ys a b = b
  both_named (x ∷ xs) ys a b = (a.0, both_named xs ys a.1 b)

  each_named : (xs ys : List Code) → AllNamed (xs ++ ys) → AllNamed xs × AllNamed ys
  each_named [] ys a = (tt, a)
  each_named (x ∷ xs) ys a = let r = each_named xs ys a.1 in ((a.0, r.0), r.1)

  named_codes : (t : Tree) → Known z t → AllNamed (post t)
  named_codes (const p b) k = (tt, tt)
  named_codes (named p s n) k = (k, tt)
  named_codes (neg p t) k = both_named (post t) _ (named_codes t k) (tt, tt)
  named_codes (conj p t u) k = both_named (post t) _ (named_codes t k.0) (both_named (post u) _ (named_codes u k.1) (tt, tt))
  named_codes (disj p t u) k = both_named (post t) _ (named_codes t k.0) (both_named (post u) _ (named_codes u k.1) (tt, tt))

  codes_known : (t : Tree) → AllNamed (post t) → Known z t
  codes_known (const p b) a = tt
  codes_known (named p s n) a = a.0
  codes_known (neg p t) a = codes_known t (each_named (post t) (code Not p ∷ []) a).0
  codes_known (conj p t u) a =
      let r = each_named (post t) (post u ++ code And p ∷ []) a in
      (codes_known t r.0, codes_known u (each_named (post u) (code And p ∷ []) r.1).0)
  codes_known (disj p t u) a =
      let r = each_named (post t) (post u ++ code Or p ∷ []) a in
      (codes_known t r.0, codes_known u (each_named (post u) (code Or p ∷ []) r.1).0)

  known_prop : (t : Tree) → IsProp (Known z t)
  known_prop (const p b) k l i = tt
  known_prop (named p s n) k l i = le_prop k l i
  known_prop (neg p t) k l i = known_prop t k l i
  known_prop (conj p t u) k l i = (known_prop t k.0 l.0 i, known_prop u k.1 l.1 i)
  known_prop (disj p t u) k l i = (known_prop t k.0 l.0 i, known_prop u k.1 l.1 i)

known_of : (c : Netlist) {codes : List Code} → Stated c codes → (h : Tree) → codes ≡ post h → Known (sizes c) h
known_of c k h e = codes_known (sizes c) h (subst (AllNamed (sizes c)) e (subst (AllNamed (sizes c)) (sym k.1) (named_codes (sizes c) k.0 k.2)))

pub claims_known : (c : Netlist) {hs qs : List Code} → ∥ (Stated c hs × Stated c qs) ∥₁ → (h q : Tree) → hs ≡ post h → qs ≡ post q → Known (sizes c) h × Known (sizes c) q
claims_known c k h q eh eq =
    ∥∥₁_elim k (λ a b i. (known_prop (sizes c) h a.0 b.0 i, known_prop (sizes c) q a.1 b.1 i)) (λ s. (known_of c s.0 h eh, known_of c s.1 q eq))
