-- From one request to all.
use Rattle.std.proofs.Common.{◌≡◌, ℕ, ◌+◌, ◌<◌, ◌≤◌, ◌≢◌, List, [], ◌∷◌, ◌++◌, map, length, take, set, get_or, sym, subst, arith, get_or-set_other}
use Rattle.std.proofs.lemmas.List.{take_more, take_more_set, take_all}
use Rattle.std.proofs.lemmas.Grind.{reverse_onto}
use Rattle.store.specs.Meaning.{Shown}
use Rattle.uses.specs.Calls.{empty, Call, stand, event}
use Rattle.uses.specs.Uses.{Use}
use Rattle.uses.proofs.Promises.{promised}
use Rattle.uses.proofs.Uses.{use_grown}
use Rattle.engine.specs.Keeping.{World, Keeps}
use Rattle.requests.specs.declared.exchange.Exchange.{Exchange}
use Rattle.requests.specs.Calling.{IsCall, AreCalls, none, more}
use Rattle.requests.specs.Progress.{Answers, Progress}
use Rattle.requests.specs.Served.{Served}

calls_more :
    {xs ys : List Exchange} {cs : List Call} (x y : Exchange) (c : Call)
    → AreCalls xs ys cs
    → IsCall x.request y.request y.reply c
    → AreCalls (xs ++ (x ∷ [])) (ys ++ (y ∷ [])) (cs ++ (c ∷ []))
calls_more x y c none i = more i none
calls_more x y c (more j k) i = more j (calls_more x y c k i)

-- one exchange more
progress_more :
    (s : Shown) (w v : World) (xs ys : List Exchange) (x y : Exchange)
    → Progress s xs ys w
    → Answers w x.request y.request y.reply v
    → Progress s (xs ++ (x ∷ [])) (ys ++ (y ∷ [])) v
progress_more s w v xs ys x y p a =
    let u = a.next s p.history p.state p.led p.keeps in
    let e = event (stand p.state w.store) a.call (stand u.0 v.store) in
    let calls_are = calls_more x y a.call p.calls_are a.is_call in
    let order = reverse_onto (map (λ z. z.call) p.history) a.call [] in
    record {
      history = e ∷ p.history;
      state = u.0;
      led = u.1;
      keeps = u.2;
      calls_are = subst (λ cs. AreCalls (xs ++ (x ∷ [])) (ys ++ (y ∷ [])) cs) (sym order) calls_are;
    }

-- at a place in the lists: xs is the exchanges as they were, and ys as they are
pub progress_at :
    (s : Shown) (w v : World) (xs ys : List Exchange) (i : ℕ) (d y : Exchange)
    → i < length xs
    → i < length ys
    → get_or ys i d ≡ get_or xs i d
    → Progress s (take i xs) (take i ys) w
    → Answers w (get_or ys i d).request y.request y.reply v
    → Progress s (take (i + 1) xs) (take (i + 1) (set ys i y)) v
progress_at s w v xs ys i d y l m e p a =
    let b = subst (λ z. Answers w z.request y.request y.reply v) e a in
    rw (take_more xs i d l, take_more_set ys i y m) (progress_more s w v (take i xs) (take i ys) (get_or xs i d) y p b)

-- what lies ahead is as it was
pub ahead :
    (xs ys : List Exchange) (i : ℕ) (y : Exchange)
    → ((k : ℕ) (d : Exchange) → i ≤ k → get_or ys k d ≡ get_or xs k d)
    → (k : ℕ) (d : Exchange)
    → i + 1 ≤ k
    → get_or (set ys i y) k d ≡ get_or xs k d
ahead xs ys i y h k d l = let ne : k ≢ i = omega arith in let m : i ≤ k = omega arith in rw get_or-set_other (h k d m)

pub progress_all :
    (s : Shown) (w : World) (xs ys : List Exchange) (i : ℕ)
    → length xs ≤ i
    → length ys ≤ i
    → Progress s (take i xs) (take i ys) w
    → Progress s xs ys w
progress_all s w xs ys i l m p = rw (take_all i xs l, take_all i ys m) at p

-- a session that was just made
pub progress_new : (s : Shown) (w : World) → Use s [] (stand empty w.store) → Keeps empty w → Progress s [] [] w
progress_new s w u k = record { history = []; state = empty; led = u; keeps = k; calls_are = none }

pub served : (s : Shown) (w : World) (xs ys : List Exchange) → Progress s xs ys w → Served s xs ys w.store
served s w xs ys p =
    record {
      history = p.history;
      state = p.state;
      led = p.led;
      calls_are = p.calls_are;
      promise = promised s p.history (stand p.state w.store) p.led;
      grown = use_grown p.led;
    }
