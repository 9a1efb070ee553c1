-- A text is refused for the first fault that its bytes meet.
use Rattle.std.proofs.Common.{◌≡◌, ◌≢◌, ℕ, ◌⊎◌, List, [], ◌∷◌, ◌++◌, length, Ok, sym, refl, ap, ◌∙◌}
use Rattle.std.proofs.Common.{subst, inl, inr, ⊎_elim, arith, length-append}
use Rattle.circuit.specs.declared.sizes.Sizes.{Sizes}
use Rattle.claim.specs.declared.fault.Fault.{Fault}
use Rattle.claim.specs.declared.fault.Fault.TheVariants.{Claim}
use Rattle.claim.specs.Tokens.{Kind, wrong, end, name, Tok, tok, tokens}
use Rattle.claim.specs.Spelling.{Spells, rest, space, mark, letter, NoneWrong}
use Rattle.claim.specs.Faults.{place_of, AtFault, Fails, First}
use Rattle.claim.specs.Refusals.{Meets, a_token, the_end, no_token, FirstFault}
use Rattle.claim.proofs.Each.{all_parts}
use Rattle.claim.proofs.Places.{Rising, rising, same_place}
use Rattle.claim.proofs.Runs.{start, scan_run, why, Halted}
use Rattle.claim.proofs.Prefixes.{push, viable}
use Rattle.claim.proofs.Outcomes.{fault_place, faulty, first}
use Rattle.claim.proofs.Readings.{text_right}
use Rattle.claim.proofs.Spellings.{Split, split, spells_tokens, stray_token}

-- the first tokens of those that are spelled are spelled
front : {p q : ℕ} {bs cs : List ℕ} {xs : List Tok} → Spells p bs xs q cs → (ts us : List Tok) → xs ≡ ts ++ us
    → (r : ℕ) × (ds : List ℕ) × Spells p bs ts r ds
front rest [] us e = (_, _, rest)
front rest (t ∷ ts) us e = absurd (cc)
front (space s) ts us e = let r = front s ts us e in (r.0, r.1, space r.2)
front (mark h s) [] us e = (_, _, rest)
front (mark {p = p} {m = m} {bs = bs} {k = k} {ts = xs} h s) (t ∷ ts) us e =
    let hd : tok p k ≡ t = cc in
    let tl : xs ≡ ts ++ us = cc in
    let r = front s ts us tl in
    (r.0, r.1, subst (λ x. Spells p (m ++ bs) (x ∷ ts) r.0 r.1) hd (mark h r.2))
front (letter h n stop s) [] us e = (_, _, rest)
front (letter {p = p} {l = l} {ds = ds} {bs = bs} {s = k} {ts = xs} h n stop s) (t ∷ ts) us e =
    let hd : tok p (name k ds) ≡ t = cc in
    let tl : xs ≡ ts ++ us = cc in
    let r = front s ts us tl in
    (r.0, r.1, subst (λ x. Spells p (l ++ (ds ++ bs)) (x ∷ ts) r.0 r.1) hd (letter h n stop r.2))

-- a token with none wrong before it is the last, or stands before the last, if that is wrong or nothing follows
found : (xs ys : List Tok) (l : Tok) (ts us : List Tok) (x : Tok) → xs ++ l ∷ ys ≡ ts ++ x ∷ us → NoneWrong ts
    → (l.kind ≡ wrong) ⊎ (ys ≡ [])
    → ((xs ≡ ts) × (l ≡ x)) ⊎ ((vs : List Tok) × (xs ≡ ts ++ x ∷ vs))
found [] ys l [] us x e n last = inl (refl, cc)
found [] ys l (t ∷ ts) us x e n last =
    let hd : l ≡ t = cc in
    let tl : ys ≡ ts ++ x ∷ us = cc in
    ⊎_elim (λ w. absurd (n.0 (ap (λ v. v.kind) (sym hd) ∙ w)))
    (λ none. absurd (omega (arith, ap length tl, ap length none, length-append ts (x ∷ us))))
    last
found (a ∷ xs) ys l [] us x e n last = let hd : a ≡ x = cc in inr (xs, ap (λ v. v ∷ xs) hd)
found (a ∷ xs) ys l (t ∷ ts) us x e n last =
    let hd : a ≡ t = cc in
    let tl : xs ++ l ∷ ys ≡ ts ++ x ∷ us = cc in
    ⊎_elim (λ h. inl ((λ j. hd j ∷ h.0 j), h.1)) (λ h. inr (h.0, λ j. hd j ∷ h.1 j))
    (found xs ys l ts us x tl n.1 last)

module _ (z : Sizes) (bs : List ℕ) where
  -- what is met is a token of the text
  met_token : {ts : List Tok} {p : ℕ} {k : Kind} → Meets bs ts p k
      → (us : List Tok) × (tokens 0 0 bs ≡ ts ++ tok p k ∷ us)
  met_token {ts = ts} {p = p} {k = k} (a_token q cs s) =
      (tokens 0 q cs, spells_tokens s ∙ push ts (tok p k) (tokens 0 q cs))
  met_token (the_end s) = ([], spells_tokens s)
  met_token {ts = ts} {p = p} (no_token s stray) =
      let w = stray_token p stray in (w.0, spells_tokens s ∙ ap (λ l. ts ++ l) w.1)

  pub met_fails : {ts : List Tok} {p : ℕ} {k : Kind} {f : Fault} → Meets bs ts p k → AtFault z ts p k f
      → Fails z (tokens 0 0 bs) f
  met_fails {ts = ts} {p = p} {k = k} m why =
      let w = met_token m in record { before = ts; place = p; kind = k; after = w.0; is = w.1; why = why }

  -- a token with none wrong before it is met
  token_met : (ts us : List Tok) (x : Tok) → tokens 0 0 bs ≡ ts ++ x ∷ us → NoneWrong ts → Meets bs ts x.place x.kind
  token_met ts us x e n = by (split (length bs) 0 bs (omega arith))
    where
      by : Split 0 bs → Meets bs ts x.place x.kind
      by r = ⊎_elim
          (λ none.
          let s = subst (Spells 0 bs r.ts r.q) none r.spells in
          met [] (tok r.q end) (sym (spells_tokens s) ∙ e) (inr refl) (the_end s))
          (λ stray.
          let w = stray_token r.q stray in
          let is = sym (spells_tokens r.spells ∙ ap (λ l. r.ts ++ l) w.1) ∙ e in
          met w.0 (tok r.q wrong) is (inl refl) (no_token r.spells stray))
          r.ends
        where
          met : (ys : List Tok) (l : Tok) → r.ts ++ l ∷ ys ≡ ts ++ x ∷ us → (l.kind ≡ wrong) ⊎ (ys ≡ [])
              → Meets bs r.ts l.place l.kind → Meets bs ts x.place x.kind
          met ys l is last here = ⊎_elim
              (λ h. subst (λ v. Meets bs ts v.place v.kind) h.1 (subst (λ v. Meets bs v l.place l.kind) h.0 here))
              (λ h. let s = front r.spells (ts ++ x ∷ []) h.0 (h.1 ∙ sym (push ts x h.0)) in a_token s.0 s.1 s.2)
              (found r.ts ys l ts us x is n last)

  -- where the machine halts
  pub halt_first : (f : Fault) → Halted z (Ok start) (tokens 0 0 bs) f → FirstFault bs z f
  halt_first f h =
      let v = viable h.ts h.from (scan_run z (Ok start) h.ts h.from h.before) in
      let n = all_parts (λ x. x.kind ≢ wrong) h.ts v.0 (text_right v.2) in
      let one = first z h.ts h.from h.before (tokens 0 0 bs) h.us h.x f 0 (rising 0 0 bs) h.is h.stops in
      let reason = faulty z h.ts h.from h.before h.x.place (why z h.from h.x f h.stops) in
      let at = fault_place reason in
      record {
        before = h.ts;
        place = h.x.place;
        kind = h.x.kind;
        met = token_met h.ts h.us h.x h.is n.0;
        why = reason;
        lowest = λ ts p k g m w. omega (arith, one.lowest g (met_fails m w), at, fault_place w);
        claim_wins = λ w.
            let claimed : Fails z (tokens 0 0 bs) (Claim h.x.place) =
            record { before = h.ts; place = h.x.place; kind = h.x.kind; after = h.us; is = h.is; why = w } in
            one.claim_wins (subst (λ q. Fails z (tokens 0 0 bs) (Claim q)) (sym at) claimed) ∙ ap Claim at;
      }

  pub first_from : {f g : Fault} → FirstFault bs z f → FirstFault bs z g → First z (tokens 0 0 bs) g
      → First z (tokens 0 0 bs) f
  first_from {f} {g} h k one =
      let at = fault_place h.why in
      record {
        fails = met_fails h.met h.why;
        lowest = λ e w.
            omega (arith, one.lowest e w, h.lowest k.before k.place k.kind g k.met k.why, at, fault_place k.why);
        claim_wins = λ w.
            let m = met_token h.met in
            let s = same_place 0 w.before w.after h.before m.0 (tok w.place w.kind) (tok h.place h.kind)
            (subst (Rising 0) w.is (rising 0 0 bs)) (sym w.is ∙ m.1) (sym (fault_place w.why) ∙ at) in
            let here = subst (λ l. AtFault z l w.place w.kind (Claim (place_of f))) s.0 w.why in
            let there = subst (λ v. AtFault z h.before v.place v.kind (Claim (place_of f))) s.1 here in
            h.claim_wins (subst (λ q. AtFault z h.before h.place h.kind (Claim q)) at there) ∙ ap Claim (sym at);
      }
