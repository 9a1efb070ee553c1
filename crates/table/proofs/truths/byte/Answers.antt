use Rattle.std.proofs.Common.{◌≡◌, ◌+◌, ◌-◌, ◌*◌, suc, sym, pow-suc, arith}
use Rattle.table.proofs.Tables.{bool_low, packed_none, packed_past, packed_more}
use Rattle.table.proofs.truths.byte.Goals as goal

pub loop-k-init : goal.loop-k-init
loop-k-init g c = record { low = omega arith; made = λ f h. sym (packed_none (8 * c.args.j + 8) f) }

pub loop-k-preserved : goal.loop-k-preserved
loop-k-preserved g c =
    let e : 8 - (c.loop-k.k - 1) ≡ suc (8 - c.loop-k.k) = omega (arith, c.loop-k-test.true, c.loop-k.auto.k) in
    record {
      low = rw e (omega (arith, pow-suc 2 (8 - c.loop-k.k), bool_low c.f.result, c.from.ensures, c.loop-k.invariant.low));
      made = λ f h. rw c.from.ensures (packed_more c.args.j c.loop-k.k f c.loop-k.byte c.f.result c.loop-k-test.true c.loop-k.auto.k (c.loop-k.invariant.made f h)
          (h (8 * c.args.j + (c.loop-k.k - 1)) c.f.result (omega arith) c.f.ensures));
    }

pub returns-then-j-size : goal.returns-then-j-size
returns-then-j-size g c f h z = sym (packed_past 8 (8 * c.args.j) f (λ w l. z w (omega (arith, c.if-j-size.true))))
