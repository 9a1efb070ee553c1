-- Chains of places.
use Rattle.std.proofs.Common.{◌≡◌, ℕ, suc, ◌-◌, ◌<◌, ◌≤◌, min, ◌≢◌, List, length, get_or, set, sym, subst, ⊎_elim, arith}
use Rattle.std.proofs.lemmas.List.{get_or-set_other, get_or_past}
use Rattle.std.proofs.lemmas.Bool.{cases_lt}
use Rattle.records.specs.Chains.{Chained, here, there}

-- a chain leads to earlier places
pub chained-below : {links : List ℕ} {at k : ℕ} → Chained links at k → k < at
chained-below here = omega arith
chained-below (there e c) = let h = chained-below c in omega arith

-- another place than the first is on the rest of the chain
pub chained-next : (links : List ℕ) {at k : ℕ} → Chained links at k → k ≢ at - 1 → Chained links (min (get_or links (at - 1) 0) (at - 1)) k
chained-next links (here {k}) other = absurd (other (omega arith))
chained-next links (there {i} e c) other =
    let p : suc i - 1 ≡ i = omega arith in
    let q : min (get_or links i 0) i ≡ get_or links i 0 = omega arith in
    rw (p, q) c

-- a place with a link is on no chain that begins at one without
past : (links : List ℕ) {at k : ℕ} → length links < at → k < length links → Chained links at k → ⊥
past links h l here = omega arith
past links h l (there {i} e c) = omega (arith, chained-below c, get_or_past links i 0 (omega arith))

pub chained-first : (links : List ℕ) (head k : ℕ) → k < length links → Chained links head k → Chained links (min (length links) head) k
chained-first links head k l c = ⊎_elim
    (λ h. absurd (past links h l c))
    (λ h. let e : min (length links) head ≡ head = omega arith in rw e c)
    (cases_lt (length links) head)

-- a link that is written from where the chain begins on is none of its links
pub chained-kept : (links : List ℕ) {at k : ℕ} (u v : ℕ) → at ≤ u → Chained links at k → Chained (set links u v) at k
chained-kept links u v h here = here
chained-kept links u v h (there {i} {k} e c) =
    let p = get_or-set_other links u i v 0 (λ q. omega arith) in
    there (omega arith) (subst (λ (n : ℕ). Chained (set links u v) n k) (sym p) (chained-kept links u v (omega arith) c))
