-- Places rise from token to token.
use Rattle.std.proofs.Common.{◌≡◌, ℕ, zero, suc, ◌+◌, ◌<◌, ◌≤◌, List, [], ◌∷◌, ◌++◌, refl, ap, subst, arith}
use Rattle.claim.specs.Tokens.{Tok, Class, space, mark, letter, class, digits, begun, more, tokens}

abbrev pub Rising : ℕ → List Tok → Type 0
Rising p [] = Unit {0}
Rising p (x ∷ xs) = (p ≤ x.place) × Rising (x.place + 1) xs

rising_from : (p q : ℕ) (xs : List Tok) → p ≤ q → Rising q xs → Rising p xs
rising_from p q [] h r = tt
rising_from p q (x ∷ xs) h r = (omega arith, r.1)

begun_rising : (c : Class) (p : ℕ) (ds : List ℕ) (xs : List Tok) → Rising (p + 1) xs → Rising p (begun c p ds xs)
begun_rising space p ds xs r = rising_from p (p + 1) xs (omega arith) r
begun_rising (mark k) p ds xs r = (omega arith, r)
begun_rising (letter s) p ds xs r = (omega arith, r)

pub rising : (n p : ℕ) (bs : List ℕ) → Rising p (tokens n p bs)
rising n p [] = (omega arith, tt)
rising zero p (b ∷ bs) = begun_rising (class b) p (digits bs) _ (rising (more (class b) (digits bs)) (p + 1) bs)
rising (suc n) p (b ∷ bs) = rising_from p (p + 1) _ (omega arith) (rising n (p + 1) bs)

rising_at : (p : ℕ) (us : List Tok) (x : Tok) (vs : List Tok) → Rising p (us ++ x ∷ vs) → p ≤ x.place
rising_at p [] x vs r = r.0
rising_at p (u ∷ us) x vs r = omega (arith, rising_at (u.place + 1) us x vs r.1, r.0)

-- where two tokens of one text stand, by their places
pub same_place : (p : ℕ) (us vs ts ws : List Tok) (x y : Tok) → Rising p (us ++ x ∷ vs) → us ++ x ∷ vs ≡ ts ++ y ∷ ws → x.place ≡ y.place → (us ≡ ts) × (x ≡ y)
same_place p [] vs [] ws x y r e s = (refl, cc)
same_place p [] vs (t ∷ ts) ws x y r e s =
    let tl : vs ≡ ts ++ y ∷ ws = cc in
    absurd (omega (arith, rising_at (x.place + 1) ts y ws (subst (Rising (x.place + 1)) tl r.1)))
same_place p (u ∷ us) vs [] ws x y r e s =
    let hd : u ≡ y = cc in
    absurd (omega (arith, rising_at (u.place + 1) us x vs r.1, ap (λ v. v.place) hd))
same_place p (u ∷ us) vs (t ∷ ts) ws x y r e s =
    let hd : u ≡ t = cc in
    let tl : us ++ x ∷ vs ≡ ts ++ y ∷ ws = cc in
    let i = same_place (u.place + 1) us vs ts ws x y r.1 tl s in
    ((λ j. hd j ∷ i.0 j), i.1)

pub sooner : (p : ℕ) (us vs ts ws : List Tok) (x y : Tok) → Rising p (us ++ x ∷ vs) → us ++ x ∷ vs ≡ ts ++ y ∷ ws → x.place < y.place → (ms : List Tok) × (ts ≡ us ++ x ∷ ms)
sooner p [] vs [] ws x y r e s = let hd : x ≡ y = cc in absurd (omega (arith, ap (λ v. v.place) hd))
sooner p [] vs (t ∷ ts) ws x y r e s = let hd : t ≡ x = cc in (ts, ap (λ v. v ∷ ts) hd)
sooner p (u ∷ us) vs [] ws x y r e s =
    let hd : u ≡ y = cc in
    absurd (omega (arith, rising_at (u.place + 1) us x vs r.1, ap (λ v. v.place) hd))
sooner p (u ∷ us) vs (t ∷ ts) ws x y r e s =
    let hd : t ≡ u = cc in
    let tl : us ++ x ∷ vs ≡ ts ++ y ∷ ws = cc in
    let i = sooner (u.place + 1) us vs ts ws x y r.1 tl s in
    (i.0, λ j. hd j ∷ i.1 j)
