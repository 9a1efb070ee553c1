-- What an `extend` that is unwrapped gives.
use Rattle.std.proofs.Common.{◌≡◌, Result, Ok, Err, IsOk, OnErr, MatchResult, refl}

pub ok_unless : {T E A B : Type 0} (r : Result T E) → OnErr r A → OnErr r B → (A → B → ⊥) → IsOk r
ok_unless (Ok x) a b f = refl
ok_unless (Err e) a b f = absurd (f a b)

pub of_ok : {T E : Type 0} (r : Result T E) (x : T) (A B : Type 0) → r ≡ Ok x → MatchResult r (λ _. A) (λ _. B) → A
of_ok (Ok y) x A B h a = a
of_ok (Err e) x A B h a = absurd cc
