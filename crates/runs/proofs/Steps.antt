-- One step back in functions is one step back in sets.
use Rattle.std.proofs.Common.{◌≡◌, ℕ, suc, ◌+◌, ◌*◌, ◌^◌, ◌<◌, ◌≤◌, Bool, true, false, not, ◌&&◌, ◌||◌, Decides, sym, refl, ap, ◌∙◌, subst, ap₂, arith, pow_pos, pow_mono}
use mathlib.Core.Path.{fun_ext}
use Rattle.std.proofs.lemmas.Bool.{not-true, not_from_false}
use Rattle.std.proofs.lemmas.Bool.Decides.{same_from_decides, Decides-like}
use Rattle.store.specs.Fun.{Fn, bit, fixed, some, Same, same}
use Rattle.store.proofs.Bit.{bit_fixed_other}
use Rattle.store.proofs.Same.{decides_same}
use Rattle.runs.specs.Numbers.{bits, number}
use Rattle.runs.specs.Systems.{System, Closed}
use Rattle.runs.specs.Search.{faulty, leads_into, bad, initial_in, meets_init}
use Rattle.runs.specs.Functions.{register, copy, input, state_of, input_of, on_states, spread, negated, both, quantified, copied, pre_image}
use Rattle.runs.specs.Steps.{state_at, input_at, Stands, SameRegisters, set_of, first_made, back_made, StepsBack, SetsSame}
use Rattle.runs.proofs.Some.{found, none, none_found}
use Rattle.runs.proofs.Numbers.{number_lt, number_like, number_bits, spreads}
use Rattle.runs.proofs.Composing.{fixed_all, bit_outside, bit_among, composed_all_is, quantified_seen, seen_quantified}

and_comm : (a b : Bool) → (a && b) ≡ (b && a)
and_comm true true = refl
and_comm true false = refl
and_comm false true = refl
and_comm false false = refl

or_comm : (a b : Bool) → (a || b) ≡ (b || a)
or_comm true true = refl
or_comm true false = refl
or_comm false true = refl
or_comm false false = refl

module _ (n m : ℕ) where
  -- a function of the state and the input, under some value of each input
  pub quantified_is : (k : ℕ → ℕ → Bool) (w : ℕ) → quantified (2 * n) (λ u. k (state_of n u) (input_of n m u)) m w ≡ some (k (state_of n w)) (2 ^ m)
  quantified_is k w = same_from_decides (quantified (2 * n) (λ u. k (state_of n u) (input_of n m u)) m w) (some (k (state_of n w)) (2 ^ m)) (there, back) (found (k (state_of n w)) (2 ^ m))
    where
      there : quantified (2 * n) (λ u. k (state_of n u) (input_of n m u)) m w ≡ true → (v : ℕ) × (v < 2 ^ m) × (k (state_of n w) v ≡ true)
      there e =
          let s = quantified_seen (2 * n) (λ u. k (state_of n u) (input_of n m u)) m w e in
          let q : state_of n s.at ≡ state_of n w = number_like n _ _ (λ i l. s.before (register i) (omega arith)) in
          (input_of n m s.at, number_lt m _, subst (λ x. k x (input_of n m s.at) ≡ true) q s.holds)

      back : (v : ℕ) × (v < 2 ^ m) × (k (state_of n w) v ≡ true) → quantified (2 * n) (λ u. k (state_of n u) (input_of n m u)) m w ≡ true
      back r =
          let u = fixed_all (input n) (bits r.0) m w in
          let q : state_of n u ≡ state_of n w = number_like n _ _ (λ i l. bit_outside (input n) (bits r.0) m w (register i) (λ j b e. omega arith)) in
          let p : input_of n m u ≡ r.0
          = number_like m _ _ (λ j l. bit_among (input n) (bits r.0) m w j (λ a b c e. omega arith) l) ∙ number_bits m r.0 r.1 in
          seen_quantified (2 * n) (λ u. k (state_of n u) (input_of n m u)) (bits r.0) m w (ap₂ k q p ∙ r.2)

  -- a set over the copies
  copied_is : (set : ℕ → Bool) (w : ℕ) → copied n (on_states n set) w ≡ set (number n (λ i. bit (copy i) w))
  copied_is set w =
      composed_all_is register (λ i. bit (copy i)) (on_states n set) n w (λ i k t u a b. bit_fixed_other (copy i) (register k) t u (λ e. omega arith))
      ∙ ap set (number_like n _ _ (λ i l. bit_among register (λ i. bit (copy i) w) n w i (λ a b c e. omega arith) l))

  -- and then over functions that do not depend on the copies
  pre_image_is : (next : ℕ → Fn) → ((i k : ℕ) (t : Bool) (u : ℕ) → i < n → k < n → next i (fixed (copy k) t u) ≡ next i u)
      → (set : ℕ → Bool) (w : ℕ) → pre_image n next (on_states n set) w ≡ set (number n (λ i. next i w))
  pre_image_is next apart set w =
      composed_all_is copy next (copied n (on_states n set)) n w apart
      ∙ copied_is set (fixed_all copy (λ i. next i w) n w)
      ∙ ap set (number_like n _ _ (λ i l. bit_among copy (λ i. next i w) n w i (λ a b c e. omega arith) l))

-- the valuation of a state
module _ (n vars : ℕ) (wide : 2 * n ≤ vars) (q : ℕ) (h : q < 2 ^ n) where
  spread_below : spread n q 0 < 2 ^ vars
  spread_below =
      let b = (spreads n 0 q 0 h (pow_pos 0)).below in
      let p = pow_mono {i = 2 * n + 0} {j = vars} (omega arith) in
      omega arith

  spread_is : state_of n (spread n q 0) ≡ q
  spread_is = (spreads n 0 q 0 h (pow_pos 0)).state

pub sets_same : SetsSame
sets_same n vars wide f g = Decides-like (same n f g)
    (λ e w l. e (state_of n w) (number_lt n _))
    (λ e q l. let x = spread_is n vars wide q l in ap f (sym x) ∙ e (spread n q 0) (spread_below n vars wide q l) ∙ ap g x)
    (decides_same n f g)

module _ (s : System) (next : ℕ → Fn) (init assumed property : Fn) (closed : Closed s) (st : Stands s next init assumed property) where
  -- no next value depends on a copy
  apart : (i k : ℕ) (t : Bool) (w : ℕ) → i < s.registers → k < s.registers → next i (fixed (copy k) t w) ≡ next i w
  apart i k t w a b =
      let q : state_at s (fixed (copy k) t w) ≡ state_at s w = number_like s.registers _ _ (λ x l. bit_fixed_other (register x) (copy k) t w (λ e. omega arith)) in
      let v : input_at s (fixed (copy k) t w) ≡ input_at s w = number_like s.inputs _ _ (λ x l. bit_fixed_other (input s.registers x) (copy k) t w (λ e. omega arith)) in
      st.nexts i a (fixed (copy k) t w) ∙ ap₂ (λ x y. bit i (s.next x y)) q v ∙ sym (st.nexts i a w)

  pre_images : (set : ℕ → Bool) (w : ℕ) → pre_image s.registers next (on_states s.registers set) w ≡ set (s.next (state_at s w) (input_at s w))
  pre_images set w =
      let n = s.registers in
      pre_image_is n s.inputs next apart set w
      ∙ ap set (number_like n _ _ (λ i l. st.nexts i l w) ∙ number_bits n _ (closed _ _ (number_lt n _) (number_lt s.inputs _)))

  first : (w : ℕ) → first_made s assumed property w ≡ set_of s 0 w
  unfolding bad
  first w = ap (λ f. quantified (2 * s.registers) f s.inputs w) (fun_ext faults) ∙ quantified_is s.registers s.inputs (faulty s) w
    where
      faults : (u : ℕ) → both (negated property) assumed u ≡ faulty s (state_at s u) (input_at s u)
      faults u = ap₂ (λ a b. not a && b) (st.claims u) (st.assumes u) ∙ and_comm (not (s.property (state_at s u) (input_at s u))) (s.assumed (state_at s u) (input_at s u))

  back : (j w : ℕ) → back_made s next assumed j w ≡ set_of s (suc j) w
  unfolding bad
  back j w =
      ap (λ f. quantified (2 * s.registers) f s.inputs w || bad s j (state_at s w)) (fun_ext leads)
      ∙ ap (λ b. b || bad s j (state_at s w)) (quantified_is s.registers s.inputs (leads_into s (bad s j)) w)
      ∙ or_comm (some (leads_into s (bad s j) (state_at s w)) (2 ^ s.inputs)) (bad s j (state_at s w))
    where
      leads : (u : ℕ) → both (pre_image s.registers next (set_of s j)) assumed u ≡ leads_into s (bad s j) (state_at s u) (input_at s u)
      leads u = ap₂ ◌&&◌ (pre_images (bad s j) u) (st.assumes u) ∙ and_comm (bad s j (s.next (state_at s u) (input_at s u))) (s.assumed (state_at s u) (input_at s u))

  alone : (j w w' : ℕ) → SameRegisters s w w' → set_of s j w ≡ set_of s j w'
  alone j w w' h = ap (bad s j) (number_like s.registers _ _ h)

  misses : (vars j : ℕ) → 2 * s.registers ≤ vars → Decides (not (meets_init s (bad s j))) (Same vars (both (set_of s j) init) (λ _. false))
  unfolding meets_init
  misses vars j wide = (
    (λ e w l. here w ∙ none _ (2 ^ s.registers) (not-true _ e) (state_at s w) (number_lt s.registers _)),
    (λ e. not_from_false _ (none_found _ (2 ^ s.registers) (λ q l.
        let x = spread_is s.registers vars wide q l in
        ap (initial_in s (bad s j)) (sym x) ∙ sym (here (spread s.registers q 0)) ∙ e (spread s.registers q 0) (spread_below s.registers vars wide q l)))),
  )
    where
      here : (w : ℕ) → both (set_of s j) init w ≡ initial_in s (bad s j) (state_at s w)
      here w = ap (λ b. bad s j (state_at s w) && b) (st.starts w) ∙ and_comm (bad s j (state_at s w)) (s.init (state_at s w))

pub steps_back : StepsBack
steps_back s next init assumed property closed st = record {
  pre_images = pre_images s next init assumed property closed st;
  first = first s next init assumed property closed st;
  back = back s next init assumed property closed st;
  first_alone = λ w w' h.
      let f = first s next init assumed property closed st in
      f w ∙ alone s next init assumed property closed st 0 w w' h ∙ sym (f w');
  back_alone = λ j w w' h.
      let f = back s next init assumed property closed st j in
      f w ∙ alone s next init assumed property closed st (suc j) w w' h ∙ sym (f w');
  misses = misses s next init assumed property closed st;
}
