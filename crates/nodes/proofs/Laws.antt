-- What a list of sound nodes shows is lawful, and what is built in it is paid for.
use Rattle.std.proofs.Common.{◌≡◌, ℕ, ◌+◌, ◌-◌, ◌^◌, ◌<◌, ◌≤◌, Bool, List, [], ◌∷◌, length, Decides, filter, refl, arith}
use Rattle.std.proofs.lemmas.Bool.{ltb-true, lt-ltb, cond_both}
use Rattle.std.proofs.lemmas.Bool.Decides.{Decides-like}
use Rattle.store.specs.Fun.{Fn, same}
use Rattle.store.specs.Meaning.{holds, price, free, Lawful, Made}
use Rattle.store.proofs.Making.{made_of}
use Rattle.store.proofs.Same.{holds_tells, holds_like}
use Rattle.nodes.specs.declared.Node.{Node}
use Rattle.nodes.specs.Graph.{Sound}
use Rattle.nodes.specs.Price.{cost, fixings, distinct, has, wanted}
use Rattle.nodes.specs.Growth.{Built, Short}
use Rattle.nodes.specs.Shows.{shown}
use Rattle.nodes.proofs.Alike.{cost_like}
use Rattle.nodes.proofs.Canon.{canon}
use Rattle.nodes.proofs.Extend.{value_ext, ext_same}
use Rattle.nodes.proofs.Fixings.{fixings_length}
use Rattle.nodes.proofs.Paid.{Held, at_least, at_most, held_free, free_held}

pub tells : (n : ℕ) (xs : List Node) (c : ℕ) → length xs ≤ 65534 → (g : Fn) → Decides (holds (shown n xs c) g) (Held n xs g)
tells n xs c h g = Decides-like (holds (shown n xs c) g)
    (λ t. (t.0, ltb-true t.0 (length xs + 2) t.2.0, t.2.1))
    (λ t. (t.0, omega (arith, t.1), (lt-ltb t.0 (length xs + 2) t.1, t.2)))
    (holds_tells (shown n xs c) g)

distinct_le : {A : Type 0} (r : A → A → Bool) (xs : List A) → length (distinct r xs) ≤ length xs
distinct_le r [] = omega arith
distinct_le r (x ∷ xs) =
    let h = distinct_le r xs in
    cond_both (has r x xs) _ _ (λ ys. length ys ≤ length (x ∷ xs)) (λ _. omega arith) (λ _. omega arith)

kept_le : {A : Type 0} (p : A → Bool) (xs : List A) → length (filter p xs) ≤ length xs
kept_le p [] = omega arith
kept_le p (x ∷ xs) =
    let h = kept_le p xs in
    cond_both (p x) _ _ (λ ys. length ys ≤ length (x ∷ xs)) (λ _. omega arith) (λ _. omega arith)

pub cost_le : (n : ℕ) (held : Fn → Bool) (f : Fn) → cost n held f ≤ 2 ^ n - 1
unfolding cost
cost_le n held f =
    omega (arith, distinct_le (same n) (filter (wanted n held) (fixings n 0 f)), kept_le (wanted n held) (fixings n 0 f), fixings_length n 0 f)

module _ (n c : ℕ) (some : 1 ≤ n) (wide : n ≤ 24) (small : c ≤ 65534) (xs : List Node) (within : length xs ≤ c) (sx : Sound n xs) where
  pub lawful : Lawful (shown n xs c)
  lawful = record {
    few = wide;
    within = within;
    narrow = λ a h. omega (arith, ltb-true a (length xs + 2) h);
    no = (lt-ltb 0 (length xs + 2) (omega arith), (λ w _. refl));
    yes = (lt-ltb 1 (length xs + 2) (omega arith), (λ w _. refl));
    apart = λ a b ha hb e. canon n xs sx a b (ltb-true a (length xs + 2) ha) (ltb-true b (length xs + 2) hb) e;
    alike = cost_like n (holds (shown n xs c)) (holds_like (shown n xs c));
    bounded = cost_le n (holds (shown n xs c));
    gratis = held_free n xs sx some (holds (shown n xs c)) (tells n xs c (omega arith));
    priced = free_held n xs sx some (holds (shown n xs c)) (tells n xs c (omega arith));
  }

  module _ (v : ℕ) (f : Fn) where
    paid : (ys : List Node) (r : ℕ) → Sound n ys → Built n xs ys v f r → length ys ≡ length xs + price (shown n xs c) f
    paid ys r sy b =
        let t = tells n xs c (omega arith) in
        let lo = at_least n xs ys sx sy b.parts.ext (holds (shown n xs c)) t f (λ k l u. b.parts.part k l u n 0 (omega arith) (omega arith)) in
        let hi = at_most n xs ys sx sy b.parts.ext (holds (shown n xs c)) t f r b.held b.means in
        omega (arith, lo, hi)

    -- what does not fit costs more than is free
    pub too_dear : Short n xs c v f → free (shown n xs c) < price (shown n xs c) f
    too_dear t =
        let lo = at_least n xs t.0 sx t.1 t.2.ext (holds (shown n xs c)) (tells n xs c (omega arith)) f (λ k l u. t.2.part k l u n 0 (omega arith) (omega arith)) in
        omega (arith, lo, t.3, t.2.ext.longer)

    -- what was held costs nothing, and then nothing is new
    unchanged : (ys : List Node) (r : ℕ) → Sound n ys → Built n xs ys v f r → price (shown n xs c) f ≡ 0 → ys ≡ xs
    unchanged ys r sy b z = ext_same xs ys b.parts.ext (omega (arith, paid ys r sy b, z))

pub made : (n c : ℕ) → 1 ≤ n → n ≤ 24 → c ≤ 65534 → (xs ys : List Node) → Sound n xs → length ys ≤ c → Sound n ys
    → (v : ℕ) (f : Fn) (r : ℕ) → Built n xs ys v f r → Made (shown n xs c) (shown n ys c) f r
made n c some wide small xs ys sx within sy v f r b =
    let l = b.parts.ext.longer in
    let before = lawful n c some wide small xs (omega arith) sx in
    made_of (shown n xs c) (shown n ys c) f r before (lawful n c some wide small ys within sy)
    (record {
      vars = refl;
      capacity = refl;
      top = refl;
      tariff = refl;
      kept = λ a h. let q = ltb-true a (length xs + 2) h in
          (lt-ltb a (length ys + 2) (omega arith), (λ w _. value_ext n xs ys sx b.parts.ext a w q));
    })
    (lt-ltb r (length ys + 2) b.held) b.means
    (paid n c some wide small xs (omega arith) sx v f ys r sy b)
    (λ h. (λ i. shown n (unchanged n c some wide small xs (omega arith) sx v f ys r sy b (before.gratis f h) i) c))
