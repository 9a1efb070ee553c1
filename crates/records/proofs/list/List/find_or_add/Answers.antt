use Rattle.std.proofs.Common.{◌≡◌, ℕ, ◌+◌, ◌<◌, ◌≤◌, ◌%◌, List, [], ◌∷◌, ◌++◌, length, take, set, sym, refl, ap, ◌∙◌, subst, arith, inl, inr, length-set}
use mathlib.Core.Logic.{∥∥₁_map}
use Rattle.std.proofs.lemmas.Nat.{mod_below}
use Rattle.std.proofs.lemmas.List.{length-take, take-set-le}
use Rattle.records.specs.Chains.{buckets, Newest}
use Rattle.records.specs.Contents.{entries, room}
use Rattle.records.specs.Orderly.{Orderly}
use Rattle.records.proofs.Contents.{entries_fit, pushed}
use Rattle.records.proofs.Order.{orderly_past, orderly_more}
use Rattle.records.proofs.list.List.find_or_add.Goals as goal

pub place-requires : goal.place-requires
place-requires g c = ap (λ n. n % buckets) (c.from-bucket.ensures ∙ c.hash.ensures)

pub file-requires : goal.file-requires
file-requires g c = record { fits = omega arith; bucket = mod_below c.from-bucket.result buckets (omega arith) }

pub returns-in-Some : goal.returns-in-Some
returns-in-Some g c =
    let f = c.in-Some.ensures in
    ((f.1, inl (f.0, refl)), refl)

pub returns-then-end-self : goal.returns-then-end-self
unfolding room
returns-then-end-self g c = ((omega (arith, entries_fit c.args.self.now, c.len-end.ensures, c.if-end-self.true), c.in_default.ensures, refl), refl)

-- the entries with the new one
longer : {T : Type 0} (records : List T) (used n : ℕ) (x : T) → n ≡ length (take used records) → n < length records
    → take (n + 1) (set records n x) ≡ take used records ++ x ∷ []
longer records used n x e low = ap (λ m. take (m + 1) (set records m x)) e ∙ pushed records used x (omega (arith, e))

-- a record past the entries is written, while they stand as they were
pub invariant_of-self : goal.invariant_of-self
unfolding entries
invariant_of-self g c =
    let l = c.args.self.now in
    let n = c.len-end.result in
    let past : l.used ≤ n = omega (arith, l.within, length-take l.used l.records.now, c.len-end.ensures) in (
      omega (arith, l.within, length-set l.records.now n c.args.item),
      (subst (λ (xs : List _). ∥ Orderly g.T.PartialEq.eq g.T.Entry.hashed xs l.index ∥₁) (sym (take-set-le l.used l.records.now n c.args.item past)) l.orderly, tt),
    )

pub invariant_of-self-then-end-limit-clause-orderly : goal.invariant_of-self-then-end-limit-clause-orderly
unfolding entries
invariant_of-self-then-end-limit-clause-orderly g c =
    let l = c.args.self.now in
    let x = c.args.item in
    let xs = take l.used l.records.now in
    let e = c.len-end.ensures in
    let h = c.from-bucket.ensures ∙ c.hash.ensures in
    let newest = subst (λ n. Newest l.index n (g.T.Entry.hashed x % buckets) c.file.new.self) e (subst (λ n. Newest l.index c.len-end.result (n % buckets) c.file.new.self) h c.file.ensures) in
    ∥∥₁_map l.orderly (λ f. orderly_more g.T.PartialEq.eq g.met.T.Eq.laws g.T.Entry.hashed xs l.index f _ c.file.new.self x (longer l.records.now l.used c.len-end.result x e c.if-end-self.false) c.in_default.ensures newest (omega (arith, e, c.if-end-limit.true, c.limit.ensures)))

pub invariant_of-self-else-end-limit-clause-orderly : goal.invariant_of-self-else-end-limit-clause-orderly
unfolding entries
invariant_of-self-else-end-limit-clause-orderly g c =
    let l = c.args.self.now in
    let x = c.args.item in
    let xs = take l.used l.records.now in
    let e = c.len-end.ensures in
    ∥∥₁_map l.orderly (λ f. orderly_past g.T.PartialEq.eq g.met.T.Eq.laws g.T.Entry.hashed xs l.index f _ l.index x (longer l.records.now l.used c.len-end.result x e c.if-end-self.false) c.in_default.ensures refl (omega (arith, e, c.if-end-limit.false, c.limit.ensures)))

pub returns-then-end-limit : goal.returns-then-end-limit
unfolding entries room
returns-then-end-limit g c =
    let l = c.args.self.now in
    let e = c.len-end.ensures in (
      (λ k h. c.in_default.ensures k (omega (arith, e)), inr (e, omega (arith, e, c.if-end-self.false), longer l.records.now l.used c.len-end.result c.args.item e c.if-end-self.false)),
      length-set _ _ _,
    )

pub returns-else-end-limit : goal.returns-else-end-limit
unfolding entries room
returns-else-end-limit g c =
    let l = c.args.self.now in
    let e = c.len-end.ensures in (
      (λ k h. c.in_default.ensures k (omega (arith, e)), inr (e, omega (arith, e, c.if-end-self.false), longer l.records.now l.used c.len-end.result c.args.item e c.if-end-self.false)),
      length-set _ _ _,
    )
