-- What a list of making calls leaves, and when it is not refused.
use Rattle.std.proofs.Common.{◌≡◌, ℕ, ◌*◌, ◌<◌, ◌≤◌, Bool, true, false, cond, List, length, sym, refl, ap, ◌∙◌, subst, suc-mul, arith}
use Rattle.store.specs.Fun.{Fn}
use Rattle.store.specs.Meaning.{Shown, Lawful, holds, price, free}
use Rattle.store.proofs.Same.{holds_tells}
use Rattle.making.specs.Making.{Item, Runs, ended, went, Stops, here, later, Means, Held, none, more, all, first, missing}
use Rattle.making.proofs.Steps.{runs_grown, stops_grown, fresh, kept}

-- a list of which a call was refused was not covered by the free units
pub stops_bound : {s t : Shown} {l : List Item} {x : Item} → Stops s l x t → free s < length l * s.top
stops_bound {s = s} (here {x = x} {xs = xs} w q) =
    let b = w.bounded x.fn in
    let e = suc-mul (length xs) s.top in
    let k : 0 ≤ length xs * s.top = omega arith in
    omega (arith, e, b, q, k)
stops_bound {s = s} (later {t = t} {x = x} {xs = xs} a w m q) =
    let b = w.bounded x.fn in
    let e = suc-mul (length xs) s.top in
    let h = subst (λ n. free t < length xs * n) m.grown.top (stops_bound q) in
    omega (arith, e, b, h, m.paid, m.grown.capacity)

means_holds : {s : Shown} {a : ℕ} {f : Fn} → Lawful s → Means s a f → holds s f ≡ true
means_holds {s = s} {a = a} {f = f} w m = (holds_tells s f).1 (a, w.narrow a m.held, (m.held, m.same))

-- a list that was accepted, or of which a call was refused, leaves a lawful store
runs_lawful : {s t : Shown} {l : List Item} → Lawful s → Runs s l t → Lawful t
runs_lawful w ended = w
runs_lawful w (went a k m v r) = runs_lawful v r

pub stops_lawful : {s t : Shown} {l : List Item} {x : Item} → Stops s l x t → Lawful t
stops_lawful (here w q) = w
stops_lawful (later a w m q) = stops_lawful q

-- after an accepted list every result is held
pub runs_held : {s t : Shown} {l : List Item} → Runs s l t → Held t l
runs_held ended = none
runs_held (went a k m w r) = more (means_holds (runs_lawful w r) (kept (runs_grown r) (fresh m))) (runs_held r)

-- the first call whose result is not held is the one that was refused
pub stops_missing : {s t : Shown} {l : List Item} {x : Item} → Stops s l x t → missing t l ≡ first x
stops_missing {s = s} (here {x = x} {xs = xs} w q) = ap (λ b. cond b (missing s xs) (first x)) (unheld (holds s x.fn) refl)
  where
    unheld : (b : Bool) → holds s x.fn ≡ b → holds s x.fn ≡ false
    unheld true e = absurd (omega (arith, w.gratis x.fn e, q))
    unheld false e = e
stops_missing {t = u} (later {x = x} {y = y} {xs = xs} a w m q) =
    ap (λ b. cond b (missing u xs) (first x)) (means_holds (stops_lawful q) (kept (stops_grown q) (fresh m))) ∙ stops_missing q

none_missing : {t : Shown} {l : List Item} → Held t l → missing t l ≡ all
none_missing none = refl
none_missing {t = t} (more {x = x} {xs = xs} h k) =
    ap (λ b. cond b (missing t xs) (first x)) h ∙ none_missing k

-- what the store shows at the end says whether a list was made, and which call of it was refused
pub one_way : {s s' t : Shown} {l : List Item} {x : Item} → Runs s l t → Stops s' l x t → ⊥
one_way r q = differ (sym (none_missing (runs_held r)) ∙ stops_missing q)
  where
    differ : {x : Item} → all ≡ first x → ⊥
    differ e = let n : ◌≡◌ {A = ℕ} 0 1 = cc in absurd (omega arith)

pub one_stop : {s s' t : Shown} {l : List Item} {x y : Item} → Stops s l x t → Stops s' l y t → x ≡ y
one_stop q q' = same_item (sym (stops_missing q) ∙ stops_missing q')
  where
    same_item : {x y : Item} → first x ≡ first y → x ≡ y
    same_item e = cc

pub stops_above : {s t : Shown} {l : List Item} {x : Item} → Stops s l x t → free t < price t x.fn
stops_above (here w q) = q
stops_above (later a w m q) = stops_above q
