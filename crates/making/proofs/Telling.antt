-- What calls tell of numbers that may not be held.
use Rattle.std.proofs.Common.{◌≡◌, ℕ, ◌+◌, ◌-◌, ◌*◌, ◌<◌, ◌≤◌, Bool, true, false, ◌&&◌, List, length, IsErrAnd, IfOk, Ok, Err, Result, MatchResult, sym, refl, ap, ◌∙◌, subst, arith, ltb, ltb-false}
use Rattle.std.proofs.lemmas.Result.{err_from_is_err_and}
use Rattle.store.specs.declared.refusal.Refusal.{Refusal}
use Rattle.store.specs.declared.refusal.Refusal.TheVariants.{Number, Variable, Room}
use Rattle.store.specs.Fun.{Fn}
use Rattle.store.specs.Meaning.{Shown, Lawful, Grown, price, free}
use Rattle.store.specs.Calls.{Answers, Reply}
use Rattle.description.proofs.Checks.{never}
use Rattle.making.specs.declared.parts.Polarities.{Polarities}
use Rattle.making.specs.declared.parts.Parts.{Parts}
use Rattle.making.specs.Loads.{registers_of}
use Rattle.making.specs.Promises.{Tells, answered, full, unheld, narrow, Refuses, Passes, HeldPair, HeldPairs, AllHeld}

-- what one call tells
pub tells_reply : {s t : Shown} {h w : Bool} {f : Fn} {r : Result ℕ Refusal} (n : ℕ) → Reply s t h w f r → (w ≡ false → s.vars < n)
    → Tells s t (h ≡ true) n (λ a. Lawful t × (t.held a ≡ true)) r
tells_reply {s = s} {t = t} {h = h} {w = w} {f = f} {r = r} n y few = by h w refl refl
  where
    Told : Result ℕ Refusal → Type 0
    Told = Tells s t (h ≡ true) n (λ a. Lawful t × (t.held a ≡ true))

    made : (r : Result ℕ Refusal) → Answers s t f r → Told r
    made (Ok a) m = answered (y.after, m.held)
    made (Err (Room u)) m =
        subst (λ v. Told (Err (Room v))) (sym (m.2 ∙ ap free (sym m.0))) (full f y.after (subst (λ z. free z < price z f) (sym m.0) m.1))
    made (Err Number) m = absurd m
    made (Err Variable) m = absurd m

    lost : h ≡ false → h ≡ true → ⊥
    lost e k = never (cc)

    by : (i j : Bool) → h ≡ i → w ≡ j → Told r
    by false j e d = subst Told (sym (y.number e).1) (unheld y.after (lost e))
    by true false e d = subst Told (sym (y.variable e d).1) (narrow y.after (few d))
    by true true e d = made r (y.answers e d)

-- an and, and an or, ask for no variable
pub no_variable : {X : Type 0} → true ≡ false → X
no_variable e = never (cc)

pub below : (x n : ℕ) → ltb x n ≡ false → n < x + 1
below x n e = let l = ltb-false x n e in omega (arith, l)

pub told : {X : Type 0} {s t : Shown} {G : Type 0} {n : ℕ} {P : X → Type 0} {x : X} → Tells s t G n P (Ok x) → P x
told (answered p) = p

pub told_if : {X : Type 0} {s t : Shown} {G : Type 0} {n : ℕ} {P : X → Type 0} {r : Result X Refusal} → Tells s t G n P r → IfOk r P
told_if (answered p) = p
told_if (full f w c) = tt
told_if (unheld w c) = tt
told_if (narrow w c) = tt

-- the last call, after calls that were accepted
pub finishes : {X : Type 0} {s t u : Shown} {G H : Type 0} {m n : ℕ} {P Q : X → Type 0} (r : Result X Refusal)
    → Grown s t → (G → H) → m ≤ n → ((x : X) → P x → Q x) → Tells t u H m P r → Tells s u G n Q r
finishes {X = X} {s = s} {t = t} {u = u} {G = G} {H = H} {m = m} {n = n} {P = P} {Q = Q} r g f l k y = by y
  where
    fewer : t.vars < m → s.vars < n
    fewer d = subst (λ v. v < n) g.vars (omega (arith, d, l))

    by : {r : Result X Refusal} → Tells t u H m P r → Tells s u G n Q r
    by (answered p) = answered (k _ p)
    by (full h w c) = full h w c
    by (unheld w c) = unheld w (λ k. c (f k))
    by (narrow w c) = narrow w (fewer c)

-- a refusal says nothing of the answer
turned : {X Y : Type 0} {s t : Shown} {G : Type 0} {n : ℕ} {P : X → Type 0} {Q : Y → Type 0} {e : Refusal} → Tells s t G n P (Err e) → Tells s t G n Q (Err e)
turned (full h w c) = full h w c
turned (unheld w c) = unheld w c
turned (narrow w c) = narrow w c

-- the exit of a `?`, after calls that were accepted
pub leaves : {X Y : Type 0} {s t u : Shown} {G H : Type 0} {m n : ℕ} {P : X → Type 0} {Q : Y → Type 0} (r : Result Y Refusal) (e : Refusal)
    → IsErrAnd r (λ y. y ≡ e) → Grown s t → (G → H) → m ≤ n → Tells t u H m P (Err e) → Tells s u G n Q r
leaves {s = s} {t = t} {u = u} {G = G} {H = H} {m = m} {n = n} {P = P} {Q = Q} r e b g f l y =
    let k = err_from_is_err_and r b in
    subst (Tells s u G n Q) (sym k.1) (subst (λ d. Tells s u G n Q (Err d)) (sym k.2) (turned (finishes (Err e) g f l (λ x p. p) y)))

pub refused_by : {X Y : Type 0} {A : Type 0} {q : Result X Refusal} (r : Result Y Refusal) (e : Refusal) → q ≡ Err e → IsErrAnd r (λ y. y ≡ e)
    → A × (q ≡ Err Number) → A × (r ≡ Err Number)
refused_by r e d b h =
    let k = err_from_is_err_and r b in
    let f = h.1 in
    let is : e ≡ Number = cc in
    (h.0, k.1 ∙ ap Err (k.2 ∙ is))

pub number_by : {Y : Type 0} {A : Type 0} (r : Result Y Refusal) (e : Refusal) → IsErrAnd r (λ y. y ≡ e) → A × (e ≡ Number) → A × (r ≡ Err Number)
number_by r e b h = let k = err_from_is_err_and r b in (h.0, k.1 ∙ ap Err (k.2 ∙ h.1))

-- a call that was accepted was not refused
pub accepted : {X : Type 0} {A Z : Type 0} {q : Result X Refusal} (x : X) → q ≡ Ok x → A × (q ≡ Err Number) → Z
accepted x d h = let e = h.1 in never (cc)

pub held_pair : {s t : Shown} {p : Polarities} → Grown s t → HeldPair s p → HeldPair t p
held_pair {p = p} g h = record {
  function = (g.kept p.function h.function).0;
  negation = (g.kept p.negation h.negation).0;
}

pub held_pairs : {s t : Shown} (ps : List Polarities) → Grown s t → HeldPairs s ps → HeldPairs t ps
held_pairs ps g h i l = held_pair g (h i l)

-- number a, as b, is not held now
pub still_unheld : {s t : Shown} {a b : ℕ} → s.held a ≡ false → (t ≡ s) × (b ≡ a) → t.held b ≡ false
still_unheld {s = s} {t = t} {a = a} {b = b} h e = subst (λ z. z.held b ≡ false) (sym e.0) (subst (λ i. s.held i ≡ false) (sym e.1) h)

pub passes_by : {s t u : Shown} (a : ℕ) {r : Result ℕ Refusal} → t ≡ s → (u ≡ t) × (r ≡ Err Number) → (u ≡ s) × MatchResult r (λ b. b ≡ a) (λ e. e ≡ Number)
passes_by a e q = (q.0 ∙ e, subst (λ z. MatchResult z (λ b. b ≡ a) (λ x. x ≡ Number)) (sym q.1) refl)

-- number a was passed on twice, and an and with it was asked for
pub and_refuses : {s t u v : Shown} {a b c : ℕ} (d : Bool) {w : Bool} {f : Fn} {r : Result ℕ Refusal} → Passes s a (Ok b) t → Passes t b (Ok c) u
    → Reply u v (u.held c && d) w f r → Refuses s a r v
and_refuses d p q y h =
    let first = p h in
    let second = q (still_unheld h first) in
    let last = y.number (subst (λ i. (i && d) ≡ false) (sym (still_unheld (still_unheld h first) second)) refl) in
    (last.0 ∙ second.0 ∙ first.0, last.1)

-- the numbers of a step back
pub held_copies : {s : Shown} {from : ℕ} {k : Parts} {bs : List Polarities} → bs ≡ k.copies.items → AllHeld s from k → HeldPairs s bs
held_copies {s = s} e h = subst (HeldPairs s) (sym e) h.copies

pub held_nexts : {s : Shown} {from : ℕ} {k : Parts} {bs : List Polarities} → bs ≡ k.nexts.items → AllHeld s from k → HeldPairs s bs
held_nexts {s = s} e h = subst (HeldPairs s) (sym e) h.nexts

-- and its variables
pub fit_copies : (k : Parts) {bs : List Polarities} → bs ≡ k.copies.items → 0 + 2 * length bs - 1 ≤ 2 * registers_of k + k.m
fit_copies k e = let n = ap length e in omega (arith, n)

pub fit_nexts : (k : Parts) {bs : List Polarities} → bs ≡ k.nexts.items → 1 + 2 * length bs - 1 ≤ 2 * registers_of k + k.m
fit_nexts k e = let n = ap length e ∙ k.led in omega (arith, n)
