-- The parts of one step back.
use Rattle.std.proofs.Common.{◌≡◌, ℕ, ◌+◌, ◌*◌, ◌<◌, ◌≤◌, List, length, Result, sym, refl, subst, arith}
use Rattle.store.specs.declared.refusal.Refusal.{Refusal}
use Rattle.store.specs.Fun.{Fn, bit}
use Rattle.store.specs.Meaning.{Shown, Grown}
use Rattle.description.specs.declared.part.Part.{Part}
use Rattle.runs.specs.Functions.{register, copy, composed_all}
use Rattle.making.specs.declared.parts.Polarities.{Polarities}
use Rattle.making.specs.declared.parts.Parts.{Parts}
use Rattle.making.specs.Making.{Means, Paired}
use Rattle.making.specs.Pieces.{composed_all_list}
use Rattle.making.specs.Loads.{registers_of, Kept}
use Rattle.making.specs.Ends.{plain, Gives}
use Rattle.making.specs.Promises.{ComposesAll}
use Rattle.making.proofs.Steps.{kept}
use Rattle.making.proofs.Loops.{paired_kept}

pub kept_all : {s t : Shown} {k : Parts} {next : ℕ → Fn} {h : Fn} → Grown s t → Kept s k next h → Kept t k next h
kept_all {k = p} g k = record {
  wide = subst (λ n. 2 * registers_of p + p.m ≤ n) (sym g.vars) k.wide;
  copies = paired_kept p.copies.items _ (registers_of p) g k.copies;
  nexts = paired_kept p.nexts.items _ (registers_of p) g k.nexts;
  assumed = kept g k.assumed;
}

module _ (p : Part) (l : ℕ) {s t : Shown} (f : Fn) (a : ℕ) (bs : List Polarities) (r : Result ℕ Refusal) (mf : Means s a f) where
  -- n pairs are put for variables
  puts : (first : ℕ) (x : ℕ → ℕ) (g : ℕ → Fn) (ps : List Polarities) (n : ℕ) → bs ≡ ps → length ps ≡ n → ((i : ℕ) → i < n → first + 2 * i ≡ x i) → Paired s ps g n
      → ((i : ℕ) → i < n → x i < s.vars) → ComposesAll s a first bs r t → Gives plain s t (composed_all_list p l x g f n) (composed_all x g f n) r
  puts first x g ps n e d vs mp li y =
      subst (λ k. Gives plain s t (composed_all_list p l x g f k) (composed_all x g f k) r) d
      (subst (λ xs. ComposesAll s a first xs r t) e y p l x f g (λ i lt. vs i (subst (λ k. i < k) d lt)) mf (subst (λ k. Paired s ps g k) (sym d) mp) (λ i lt. li i (subst (λ k. i < k) d lt)))

  module _ (k : Parts) (next : ℕ → Fn) (h : Fn) (keeps : Kept s k next h) where
    pub puts_copies : bs ≡ k.copies.items → ComposesAll s a 0 bs r t
        → Gives plain s t (composed_all_list p l register (λ i. bit (copy i)) f (registers_of k)) (composed_all register (λ i. bit (copy i)) f (registers_of k)) r
    puts_copies e y = puts 0 register (λ i. bit (copy i)) k.copies.items (registers_of k) e refl (λ i lt. omega arith) keeps.copies (λ i lt. omega (arith, keeps.wide)) y

    pub puts_nexts : bs ≡ k.nexts.items → ComposesAll s a 1 bs r t → Gives plain s t (composed_all_list p l copy next f (registers_of k)) (composed_all copy next f (registers_of k)) r
    puts_nexts e y = puts 1 copy next k.nexts.items (registers_of k) e k.led (λ i lt. omega arith) keeps.nexts (λ i lt. omega (arith, keeps.wide)) y
