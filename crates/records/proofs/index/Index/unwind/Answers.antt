use Rattle.std.proofs.Common.{◌≡◌, min, length, arith}
use Rattle.records.proofs.Chains.{chained-first, chained-next}
use Rattle.records.proofs.index.Index.unwind.Goals as goal

pub loop-at-init : goal.loop-at-init
loop-at-init c =
    let links = c.args.self.now.links.now in
    let e : c.min-at.result ≡ min (length links) c.args.head = omega arith in
    (omega arith, omega arith, λ k _ h p. simp e (chained-first links c.args.head k h p))

pub next-at-requires : goal.next-at-requires
next-at-requires c = record { some = omega arith; linked = c.loop-at.invariant.0 }

pub loop-at-preserved : goal.loop-at-preserved
loop-at-preserved c =
    let links = c.args.self.now.links.now in
    let i = c.loop-at.invariant in
    (omega arith, omega arith, λ k h l p. simp c.next-at.ensures (chained-next links (i.2 k h l p) (λ q. omega arith)))

pub overflow_cast-result : goal.overflow_cast-result
overflow_cast-result c = omega (arith, c.loop-at.invariant.1)

pub returns : goal.returns
returns c = record { below = omega arith; lower = c.loop-at.invariant.1; chain = c.loop-at.invariant.2 }
