-- What may follow the tokens read so far.
use Rattle.std.specs.Prelude.{◌≡◌, ℕ, ◌+◌, cond, List, [], ◌∷◌, Some, None, Ok, Err, Option, Result, nat_lt}
use Rattle.circuit.specs.declared.sizes.Sizes.{Sizes}
use Rattle.claim.specs.declared.fault.Fault.{Fault}
use Rattle.claim.specs.declared.fault.Fault.TheVariants.{Claim, Name, Deep}
use Rattle.claim.specs.Tokens.{Kind, bang, amp, bar, lparen, rparen, constant, name, wrong, end, Tok}
use Rattle.circuit.specs.Netlists.{limit}
use Rattle.claim.specs.Grammar.{value}

pub data State : Type 0 where
  -- a factor comes next, after n `!`; for each `(` that is open, how many `!` stand before it
  want : ℕ → List ℕ → State
  -- a factor has ended
  have : List ℕ → State
  over : State

abbrev pub depths : List ℕ → ℕ
depths [] = 0
depths (n ∷ r) = n + 1 + depths r

-- how many `!` and `(` are open
abbrev pub deep : State → ℕ
deep (want n r) = n + depths r
deep (have r) = depths r
deep over = 0

abbrev pub next : State → Kind → Option State
next (want n r) bang = Some (want (n + 1) r)
next (want n r) amp = None
next (want n r) bar = None
next (want n r) lparen = Some (want 0 (n ∷ r))
next (want n r) rparen = None
next (want n r) (constant b) = Some (have r)
next (want n r) (name s ds) = Some (have r)
next (want n r) wrong = None
next (want n r) end = None
next (have r) bang = None
next (have r) amp = Some (want 0 r)
next (have r) bar = Some (want 0 r)
next (have r) lparen = None
next (have []) rparen = None
next (have (n ∷ r)) rparen = Some (have r)
next (have r) (constant b) = None
next (have r) (name s ds) = None
next (have r) wrong = None
next (have []) end = Some over
next (have (n ∷ r)) end = None
next over k = None

-- a fault other than of the grammar
abbrev pub flaw : Sizes → State → Kind → ℕ → Option Fault
flaw z s bang p = cond (nat_lt (deep s) 16) None (Some (Deep p))
flaw z s amp p = None
flaw z s bar p = None
flaw z s lparen p = cond (nat_lt (deep s) 16) None (Some (Deep p))
flaw z s rparen p = None
flaw z s (constant b) p = None
flaw z s (name l ds) p = cond (nat_lt (value ds) (limit z l)) None (Some (Name p))
flaw z s wrong p = None
flaw z s end p = None

abbrev pub judged : Option State → Option Fault → ℕ → Result State Fault
judged None f p = Err (Claim p)
judged (Some s) None p = Ok s
judged (Some s) (Some f) p = Err f

abbrev pub step : Sizes → State → Tok → Result State Fault
step z s x = judged (next s x.kind) (flaw z s x.kind x.place) x.place

abbrev pub after : Sizes → Result State Fault → Tok → Result State Fault
after z (Ok s) x = step z s x
after z (Err f) x = Err f

abbrev pub scan : Sizes → Result State Fault → List Tok → Result State Fault
scan z r [] = r
scan z r (x ∷ xs) = scan z (after z r x) xs

-- the tokens ts are no fault, and then x is
abbrev pub Halts : Sizes → State → List Tok → Tok → Fault → Type 0
Halts z s ts x f = (u : State) × (scan z (Ok s) ts ≡ Ok u) × (step z u x ≡ Err f)
