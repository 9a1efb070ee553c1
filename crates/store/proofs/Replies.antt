-- What a store answers, by the check of the call.
use Rattle.std.proofs.Common.{◌≡◌, ℕ, ◌^◌, Bool, true, false, Ok, Err, Result, ltb, refl, ap, arith}
use Rattle.std.proofs.lemmas.Bool.{true≢false, false≢true, both_ways, ltb-true, lt-ltb}
use Rattle.store.specs.declared.refusal.Refusal.{Refusal}
use Rattle.store.specs.declared.refusal.Refusal.TheVariants.{Number, Variable}
use Rattle.store.specs.Fun.{Fn}
use Rattle.store.specs.Meaning.{Shown, Lawful}
use Rattle.store.specs.Calls.{Answers, Reply, TellsValue}
use Rattle.store.specs.Tasks.{allowed}

pub allowed_ok : (held within : Bool) → allowed held within ≡ Ok tt → (held ≡ true) × (within ≡ true)
allowed_ok true true e = (refl, refl)
allowed_ok true false e = absurd (cc)
allowed_ok false within e = absurd (cc)

pub reply_refused : (s : Shown) (held within : Bool) (f : Fn) (e : Refusal) → Lawful s → allowed held within ≡ Err e → Reply s s held within f (Err e)
reply_refused s false within f e l q = let k : e ≡ Number = cc in record {
  lawful = l;
  after = l;
  number = λ _. (refl, ap Err k);
  variable = λ h _. absurd (false≢true h);
  answers = λ h _. absurd (false≢true h);
}
reply_refused s true false f e l q = let k : e ≡ Variable = cc in record {
  lawful = l;
  after = l;
  number = λ h. absurd (true≢false h);
  variable = λ _ _. (refl, ap Err k);
  answers = λ _ w. absurd (false≢true w);
}
reply_refused s true true f e l q = absurd (cc)

pub reply_made : (s t : Shown) (held within : Bool) (f : Fn) (r : Result ℕ Refusal) → Lawful s → Lawful t → allowed held within ≡ Ok tt → Answers s t f r
    → Reply s t held within f r
reply_made s t held within f r l m q a =
    let p = allowed_ok held within q in
    record {
      lawful = l;
      after = m;
      number = λ h. absurd (both_ways held h p.0);
      variable = λ _ w. absurd (both_ways within w p.1);
      answers = λ _ _. a;
    }

pub value_refused : (s : Shown) (a w : ℕ) (e : Refusal) → Lawful s → allowed (s.held a) (ltb w (2 ^ s.vars)) ≡ Err e → TellsValue s a w (Err e)
value_refused s a w e l q = tells (s.held a) (ltb w (2 ^ s.vars)) refl refl q
  where
    tells : (held within : Bool) → s.held a ≡ held → ltb w (2 ^ s.vars) ≡ within → allowed held within ≡ Err e → TellsValue s a w (Err e)
    tells false within h i q = let k : e ≡ Number = cc in record {
      lawful = l;
      number = λ _. ap Err k;
      variable = λ y _. absurd (both_ways _ h y);
      value = λ y _. absurd (both_ways _ h y);
    }
    tells true false h i q = let k : e ≡ Variable = cc in record {
      lawful = l;
      number = λ y. absurd (both_ways _ y h);
      variable = λ _ _. ap Err k;
      value = λ _ low. absurd (both_ways _ i (lt-ltb w (2 ^ s.vars) low));
    }
    tells true true h i q = absurd (cc)

pub value_told : (s : Shown) (a w : ℕ) (v : Bool) → Lawful s → allowed (s.held a) (ltb w (2 ^ s.vars)) ≡ Ok tt → v ≡ s.value a w → TellsValue s a w (Ok v)
value_told s a w v l q e =
    let p = allowed_ok _ _ q in
    let low = ltb-true w (2 ^ s.vars) p.1 in
    record {
      lawful = l;
      number = λ y. absurd (both_ways _ y p.0);
      variable = λ _ past. absurd (omega arith);
      value = λ _ _. ap Ok e;
    }
