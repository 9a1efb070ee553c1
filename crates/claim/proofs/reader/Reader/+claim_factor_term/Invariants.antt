use Rattle.std.proofs.Common.{◌+◌, ◌-◌, ◌*◌, length}
use Rattle.claim.specs.Grammar.{claim, term}
use Rattle.claim.specs.Reading.{Sofar, Follow}
use Rattle.claim.proofs.reader.Reader.+claim_factor_term.Given as goal

abbrev pub decreases-claim : goal.decreases-claim
decreases-claim l = 3 * (length l.self.now.text.now - l.self.now.ahead.place) + 2

abbrev pub decreases-factor : goal.decreases-factor
decreases-factor l = 3 * (length l.self.now.text.now - l.self.now.ahead.place)

abbrev pub decreases-term : goal.decreases-term
decreases-term l = 3 * (length l.self.now.text.now - l.self.now.ahead.place) + 1

-- the tokens so far are a claim or a term
abbrev pub invariant-claim-loop-self : goal.invariant-claim-loop-self
invariant-claim-loop-self l = Follow term l.self.ahead.token × Sofar claim l.depth.opened l.fn.self l.self

abbrev pub decreases-claim-loop-self : goal.decreases-claim-loop-self
decreases-claim-loop-self l = length l.self.text.now - l.self.ahead.place

abbrev pub invariant-term-loop-self : goal.invariant-term-loop-self
invariant-term-loop-self l = Sofar term l.depth.opened l.fn.self l.self

abbrev pub decreases-term-loop-self : goal.decreases-term-loop-self
decreases-term-loop-self l = length l.self.text.now - l.self.ahead.place
