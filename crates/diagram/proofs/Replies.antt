-- From what is made inside a diagram to what a store promises.
use Rattle.std.proofs.Common.{◌≡◌, ℕ, ◌-◌, List, length, take, Ok, Err, Result, sym, refl, ap, ◌∙◌, subst, arith}
use Rattle.store.specs.Fun.{Fn}
use Rattle.store.specs.Meaning.{Shown, Made}
use Rattle.store.specs.Calls.{Answers}
use Rattle.store.specs.declared.refusal.Refusal.{Refusal}
use Rattle.nodes.specs.declared.Node.{Node}
use Rattle.nodes.specs.Shows.{shown}
use Rattle.nodes.proofs.Extend.{ext_front}
use Rattle.nodes.proofs.Laws.{made, too_dear}
use Rattle.diagram.specs.declared.Diagram.{Diagram}
use Rattle.records.specs.declared.Full.{Full}
use Rattle.diagram.specs.Making.{Making, Finishes}
use Rattle.diagram.specs.Shows.{listed, capacity, showing}
use Rattle.diagram.proofs.Fields.{sound_of, sound_at, few_of}

shown_path : (n m : ℕ) (xs ys : List Node) (b c : ℕ) → n ≡ m → xs ≡ ys → b ≡ c → shown n xs b ≡ shown m ys c
shown_path n m xs ys b c p q r = λ i. shown (p i) (q i) (r i)

-- what is made and then finished is what a making call answers
pub answered : (d e b : Diagram) (v : ℕ) (f : Fn) (m : Result ℕ Full) (r : Result ℕ Refusal) (used : ℕ) → used ≡ length (listed d)
    → Making d e v f m → Finishes e b used m r → Answers (showing d) (showing b) f r
answered d e b v f (Ok a) r used u m q =
    let whole : shown d.n (listed e) (capacity d) ≡ showing e = shown_path d.n e.n (listed e) (listed e) (capacity d) (capacity e) (sym m.vars) refl (sym m.capacity) in
    subst (Answers (showing d) (showing b) f) (sym q.0)
    (subst (λ (t : Shown). Made (showing d) t f a) (whole ∙ sym q.1)
    (made d.n (capacity d) d.some d.wide d.small (listed d) (listed e) (sound_of d) (omega (arith, few_of e, m.capacity)) (sound_at e d.n m.vars) v f a m.outcome))
answered d e b v f (Err s) r used u m q =
    let back : take used (listed e) ≡ listed d = ap (λ k. take k (listed e)) u ∙ ext_front (listed d) (listed e) m.outcome.0 in
    subst (Answers (showing d) (showing b) f) (sym q.0) (
      q.1 ∙ shown_path e.n d.n _ (listed d) (capacity e) (capacity d) m.vars back m.capacity,
      too_dear d.n (capacity d) d.some d.wide d.small (listed d) (few_of d) (sound_of d) v f m.outcome.1,
      λ i. m.capacity i - length (back i),
    )
