-- What the told verdict says of the search's.
use Rattle.std.proofs.Common.{◌≡◌, ◌≢◌, ℕ, refl, ap, arith}
use Rattle.runs.specs.Search.{Verdict, unsafe, safe, open_yet}
use Rattle.uses.specs.declared.verdict.Verdict.TheVariants as verdict
use Rattle.uses.specs.Calls.{tell}

pub never : {X : Type 0} → ◌≡◌ {A = ℕ} 0 1 → X
never e = absurd (omega arith)

pub tell_not_empty : (v : Verdict) → tell v ≢ verdict.Empty
tell_not_empty (unsafe d) e = never (cc)
tell_not_empty safe e = never (cc)
tell_not_empty open_yet e = never (cc)

pub tell_safe : (v : Verdict) → tell v ≡ verdict.Safe → v ≡ safe
tell_safe (unsafe d) e = never (cc)
tell_safe safe e = refl
tell_safe open_yet e = never (cc)

pub tell_open : (v : Verdict) → tell v ≡ verdict.Open → v ≡ open_yet
tell_open (unsafe d) e = never (cc)
tell_open safe e = never (cc)
tell_open open_yet e = refl

pub tell_unsafe : (v : Verdict) (d : ℕ) → tell v ≡ verdict.Unsafe d → v ≡ unsafe d
tell_unsafe (unsafe k) d e = let h : k ≡ d = cc in ap unsafe h
tell_unsafe safe d e = never (cc)
tell_unsafe open_yet d e = never (cc)
