-- What a claim comes to, by any operations on any values, and the run of its codes over a stack.
use Rattle.std.specs.Prelude.{ℕ, Bool, not, ◌&&◌, ◌||◌, List, [], ◌∷◌}
use Rattle.circuit.specs.declared.sort.Sort.{Sort}
use Rattle.claim.specs.declared.code.Act.{Act}
use Rattle.claim.specs.declared.code.Act.TheVariants.{Constant, Name, Not, And, Or}
use Rattle.claim.specs.declared.code.Code.{Code}
use Rattle.claim.specs.Grammar.{Tree, const, named, neg, conj, disj}

-- each operation is given the place that it comes from
pub record Ops (A : Type 0) : Type 0 where
  pub constant : ℕ → Bool → A
  pub name : ℕ → Sort → ℕ → A
  pub negate : ℕ → A → A
  pub both : ℕ → A → A → A
  pub either : ℕ → A → A → A

abbrev pub fold : {A : Type 0} → Ops A → Tree → A
fold o (const p b) = o.constant p b
fold o (named p s n) = o.name p s n
fold o (neg p t) = o.negate p (fold o t)
fold o (conj p t u) = o.both p (fold o t) (fold o u)
fold o (disj p t u) = o.either p (fold o t) (fold o u)

-- a stack, the top first, unless an operator lacked an operand
pub data Stacked (A : Type 0) : Type 0 where
  short : Stacked A
  stack : List A → Stacked A

abbrev pub apply : {A : Type 0} → Ops A → ℕ → Act → List A → Stacked A
apply o p (Constant b) s = stack (o.constant p b ∷ s)
apply o p (Name k n) s = stack (o.name p k n ∷ s)
apply o p Not [] = short
apply o p Not (a ∷ s) = stack (o.negate p a ∷ s)
apply o p And [] = short
apply o p And (b ∷ []) = short
apply o p And (b ∷ a ∷ s) = stack (o.both p a b ∷ s)
apply o p Or [] = short
apply o p Or (b ∷ []) = short
apply o p Or (b ∷ a ∷ s) = stack (o.either p a b ∷ s)

abbrev pub on : {A : Type 0} → Ops A → Stacked A → Code → Stacked A
on o short c = short
on o (stack s) c = apply o c.place c.act s

abbrev pub exec : {A : Type 0} → Ops A → List Code → Stacked A → Stacked A
exec o [] s = s
exec o (c ∷ cs) s = exec o cs (on o s c)

-- how many operands an act takes
abbrev pub arity : Act → ℕ
arity (Constant b) = 0
arity (Name s n) = 0
arity Not = 1
arity And = 2
arity Or = 2

-- truth values, with the truth of each name
abbrev pub logic : (Sort → ℕ → Bool) → Ops Bool
logic v = record {
  constant = λ p b. b;
  name = λ p s n. v s n;
  negate = λ p a. not a;
  both = λ p a b. a && b;
  either = λ p a b. a || b;
}

abbrev pub truth : (Sort → ℕ → Bool) → Tree → Bool
truth v t = fold (logic v) t
