-- A list that is held in places, and how it is seen: by its items alone.
use Rattle.std.specs.Prelude.{◌≡◌, ℕ, ◌-◌, ◌≤◌, List, length, drop, replicate, refl}
use Rattle.std.specs.Coded.{Coded, code_by, coded_list}

pub record Listed (A : Type 0) : Type 0 where
  pub items : List A

-- it is stored as the list of its items
abbrev pub listed_code : {A : Type 0} → Coded A → Coded (Listed A)
listed_code {A} code = code_by (List A) (coded_list code) (λ l. l.items) (λ xs. record { items = xs }) (λ _. refl)

-- of so many places those from the count on are blank
abbrev pub Filled : {A : Type 0} → ℕ → A → ℕ → List A → Type 0
Filled most blank count places =
    (count ≤ most) × (length places ≡ most) × (drop count places ≡ replicate (most - count) blank)
