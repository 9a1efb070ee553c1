-- What a store is made of.
use Rattle.std.proofs.Common.{◌≡◌, ℕ, ◌≤◌, Bool, true, false, cond, ◌&&◌, List, [], length, leb, ap₂}
use Rattle.std.proofs.lemmas.Bool.{and_parts, leb-true}
use Rattle.store.specs.Fitting.{fits}

pub fits_tells : (n most records : ℕ) → fits n most records ≡ true → (1 ≤ n) × (n ≤ most) × (records ≤ 65534)
fits_tells n most records h =
    let p = and_parts (leb 1 n && leb n most) (leb records 65534) h in
    let q = and_parts (leb 1 n) (leb n most) p.0 in
    (leb-true 1 n q.0, leb-true n most q.1, leb-true records 65534 p.1)

-- what is made of the choice of what was asked, n variables and the records xs, or of the least
pub made_of_choice : {A B : Type 0} (f : ℕ → ℕ → A) (b : Bool) (n : ℕ) (xs : List B) {m : ℕ} {ys : List B}
    → m ≡ cond b n 1
    → ys ≡ cond b xs []
    → f m (length ys) ≡ cond b (f n (length xs)) (f 1 0)
made_of_choice f true n xs e g = ap₂ (λ m ys. f m (length ys)) e g
made_of_choice f false n xs e g = ap₂ (λ m ys. f m (length ys)) e g
