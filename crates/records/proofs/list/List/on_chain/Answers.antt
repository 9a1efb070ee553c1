use Rattle.std.proofs.Common.{◌≡◌, ℕ, ◌<◌, ◌-◌, ◌%◌, List, length, get_or, Some, sym, refl, ap, ◌∙◌, subst, arith}
use mathlib.Core.Logic.{∥∥₁_elim}
use mathlib.Core.HLevel.{⊥_prop}
use native.Mathlib.Bridge.{le_prop}
use Rattle.std.specs.List.{slice_get}
use Rattle.std.proofs.lemmas.Nat.{mod_below}
use Rattle.std.proofs.lemmas.Option.{slice_get_read, same_Some}
use Rattle.std.proofs.lemmas.Bool.{both_ways}
use Rattle.records.specs.Chains.{buckets, Chained}
use Rattle.records.specs.Contents.{entries}
use Rattle.records.proofs.Chains.{chained-below, chained-next}
use Rattle.records.proofs.list.List.on_chain.Goals as goal

pub loop-at-init : goal.loop-at-init
unfolding entries
loop-at-init g c =
    let l = c.args.self.now in
    let b = c.args.bucket in
    let x = c.args.item.now in
    let low : b < buckets = omega (arith, c.requires, mod_below (g.T.Entry.hashed x) buckets (omega arith)) in (
      rw c.first-at.ensures (∥∥₁_elim l.orderly le_prop (λ f. f.below b low)),
      λ f k h (y, p, e).
          let alike : g.T.Entry.hashed y % buckets ≡ b = ap (λ n. n % buckets) (g.met.T.Entry.agrees y x e) ∙ sym {b = g.T.Entry.hashed x % buckets} c.requires in
          subst (λ (n : ℕ). Chained l.index.links.now n k) (ap (λ n. get_or l.index.heads n 0) alike ∙ sym c.first-at.ensures) (f.chained k y h p),
    )

-- the entry at a place
read : {T : Type 0} (xs ys : List T) (k : ℕ) (y : T) → ys ≡ xs → k < length xs → y ≡ get_or ys k y → slice_get xs k ≡ Some y
read xs ys k y e low is = slice_get_read xs _ k y refl low (is ∙ ap (λ (zs : List _). get_or zs k y) e)

-- there is one entry at a place
one : {T : Type 0} (xs : List T) (k j : ℕ) (y z : T) → k ≡ j → slice_get xs k ≡ Some y → slice_get xs j ≡ Some z → z ≡ y
one xs k j y z q p e = same_Some z y (sym e ∙ ap (slice_get xs) (sym q) ∙ p)

pub returns-then-eq : goal.returns-then-eq
returns-then-eq g c = (
  c.index-as_slice-at.result,
  read (entries c.args.self.now) c.as_slice.result.now (c.loop-at.at - 1) c.index-as_slice-at.result c.as_slice.ensures (omega (arith, c.loop-at.invariant.0)) c.index-as_slice-at.is,
  sym c.eq.ensures ∙ c.if-eq.true,
)

-- the entry at the place was compared, and is not equal
pub loop-at-preserved : goal.loop-at-preserved
loop-at-preserved g c =
    let l = c.args.self.now in
    let z = c.index-as_slice-at.result in
    let x = c.args.item.now in
    let e = read (entries l) c.as_slice.result.now (c.loop-at.at - 1) z c.as_slice.ensures (omega (arith, c.loop-at.invariant.0)) c.index-as_slice-at.is in (
      omega (arith, c.next-at.ensures, c.loop-at.invariant.0),
      λ f k h s. subst (λ (n : ℕ). Chained l.index.links.now n k) (sym c.next-at.ensures)
          (chained-next l.index.links.now (c.loop-at.invariant.1 f k h s)
          (λ q. both_ways _ (sym c.eq.ensures ∙ c.if-eq.false) (ap (λ y. g.T.PartialEq.eq y x) (one (entries l) k (c.loop-at.at - 1) s.0 z q s.1 e) ∙ s.2))),
    )

pub returns : goal.returns
unfolding entries
returns g c =
    let l = c.args.self.now in
    λ k _ h s. ∥∥₁_elim l.orderly ⊥_prop (λ f. let r = chained-below (c.loop-at.invariant.1 f k h s) in omega (arith, c.loop-at-test.false))
