use Rattle.std.proofs.Common.{refl, ◌∙◌, arith}
use Rattle.std.proofs.lemmas.Bool.{and_from}
use Rattle.runs.specs.Functions.{both, copied, pre_image}
use Rattle.making.specs.Loads.{registers_of}
use Rattle.making.proofs.Steps.{kept, grown_none, runs_grown, grown_more, runs_of, broke, ends_after, ends_before, and_answers, or_answers, gives_last, ends_here, reply_grown}
use Rattle.making.proofs.Backs.{kept_all, puts_copies, puts_nexts}
use Rattle.making.proofs.Telling.{tells_reply, no_variable, told, finishes, leaves, number_by, refused_by, accepted, held_pairs, still_unheld, and_refuses, held_copies, held_nexts, fit_copies, fit_nexts}
use Rattle.making.proofs.step.back.Goals as goal

pub returns-in_err-copied-clause-gives : goal.returns-in_err-copied-clause-gives
returns-in_err-copied-clause-gives g c p l f h next mf k =
    broke c.from_residual.result c.in_err-copied.field-0.0 c.from_residual.ensures.1
    (ends_before _ (puts_copies p l f _ _ _ mf c.args.parts.now next h k c.as_slice.ensures.items c.in_err-copied.ensures.gives))

pub returns-in_err-led-clause-gives : goal.returns-in_err-led-clause-gives
returns-in_err-led-clause-gives g c p l f h next mf k =
    let ps = c.args.parts.now in
    let r1 = runs_of (puts_copies p l f _ _ _ mf ps next h k c.as_slice.ensures.items c.in_ok-copied.ensures.gives) in
    broke c.from_residual-in_err-led.result c.in_err-led.field-0.0 c.from_residual-in_err-led.ensures.1
    (ends_after r1.0 (ends_before _ (puts_nexts p l (copied (registers_of ps) f) _ _ _ r1.1 ps next h (kept_all (runs_grown r1.0) k) c.as_slice-2.ensures.items c.in_err-led.ensures.gives)))

pub returns-in_err-allowed-clause-gives : goal.returns-in_err-allowed-clause-gives
returns-in_err-allowed-clause-gives g c p l f h next mf k =
    let ps = c.args.parts.now in
    let r1 = runs_of (puts_copies p l f _ _ _ mf ps next h k c.as_slice.ensures.items c.in_ok-copied.ensures.gives) in
    let k1 = kept_all (runs_grown r1.0) k in
    let r2 = runs_of (puts_nexts p l (copied (registers_of ps) f) _ _ _ r1.1 ps next h k1 c.as_slice-2.ensures.items c.in_ok-led.ensures.gives) in
    broke c.from_residual-in_err-allowed.result c.in_err-allowed.field-0.0 c.from_residual-in_err-allowed.ensures.1
    (ends_after r1.0 (ends_after r2.0 (ends_here c.in_err-allowed.ensures.lawful _ (and_answers c.in_err-allowed.ensures r2.1 (kept (runs_grown r2.0) k1.assumed)))))

pub returns-in_err-some-clause-gives : goal.returns-in_err-some-clause-gives
returns-in_err-some-clause-gives g c p l f h next mf k =
    let ps = c.args.parts.now in
    let r1 = runs_of (puts_copies p l f _ _ _ mf ps next h k c.as_slice.ensures.items c.in_ok-copied.ensures.gives) in
    let k1 = kept_all (runs_grown r1.0) k in
    let r2 = runs_of (puts_nexts p l (copied (registers_of ps) f) _ _ _ r1.1 ps next h k1 c.as_slice-2.ensures.items c.in_ok-led.ensures.gives) in
    let k2 = kept_all (runs_grown r2.0) k1 in
    let r3 = runs_of (gives_last c.in_ok-allowed.ensures.lawful c.in_ok-allowed.ensures.after _ (and_answers c.in_ok-allowed.ensures r2.1 k2.assumed)) in
    broke c.from_residual-in_err-some.result c.in_err-some.field-0.0 c.from_residual-in_err-some.ensures.1
    (ends_after r1.0 (ends_after r2.0 (ends_after r3.0 (ends_before _ ((rw (c.first_input.ensures, c.registers.ensures.counts) at c.in_err-some.ensures.gives) p l (both (pre_image (registers_of ps) next f) h) r3.1 (kept_all (runs_grown r3.0) k2).wide)))))

pub returns-clause-gives : goal.returns-clause-gives
returns-clause-gives g c p l f h next mf k =
    let ps = c.args.parts.now in
    let r1 = runs_of (puts_copies p l f _ _ _ mf ps next h k c.as_slice.ensures.items c.in_ok-copied.ensures.gives) in
    let k1 = kept_all (runs_grown r1.0) k in
    let r2 = runs_of (puts_nexts p l (copied (registers_of ps) f) _ _ _ r1.1 ps next h k1 c.as_slice-2.ensures.items c.in_ok-led.ensures.gives) in
    let k2 = kept_all (runs_grown r2.0) k1 in
    let r3 = runs_of (gives_last c.in_ok-allowed.ensures.lawful c.in_ok-allowed.ensures.after _ (and_answers c.in_ok-allowed.ensures r2.1 k2.assumed)) in
    let r4 = runs_of ((rw (c.first_input.ensures, c.registers.ensures.counts) at c.in_ok-some.ensures.gives) p l (both (pre_image (registers_of ps) next f) h) r3.1 (kept_all (runs_grown r3.0) k2).wide) in
    let g4 = grown_more (runs_grown r1.0) (grown_more (runs_grown r2.0) (grown_more (runs_grown r3.0) (runs_grown r4.0))) in
    ends_after r1.0 (ends_after r2.0 (ends_after r3.0 (ends_after r4.0 (gives_last c.or.ensures.lawful c.or.ensures.after c.or.result (or_answers c.or.ensures r4.1 (kept g4 mf))))))

pub returns-in_err-copied-clause-grown : goal.returns-in_err-copied-clause-grown
returns-in_err-copied-clause-grown g c = c.in_err-copied.ensures.grown

pub returns-in_err-led-clause-grown : goal.returns-in_err-led-clause-grown
returns-in_err-led-clause-grown g c = grown_more c.in_ok-copied.ensures.grown c.in_err-led.ensures.grown

pub returns-in_err-allowed-clause-grown : goal.returns-in_err-allowed-clause-grown
returns-in_err-allowed-clause-grown g c =
    grown_more c.in_ok-copied.ensures.grown (grown_more c.in_ok-led.ensures.grown (reply_grown c.in_err-allowed.ensures))

pub returns-in_err-some-clause-grown : goal.returns-in_err-some-clause-grown
returns-in_err-some-clause-grown g c =
    grown_more c.in_ok-copied.ensures.grown
    (grown_more c.in_ok-led.ensures.grown (grown_more (reply_grown c.in_ok-allowed.ensures) c.in_err-some.ensures.grown))

pub returns-clause-grown : goal.returns-clause-grown
returns-clause-grown g c =
    grown_more c.in_ok-copied.ensures.grown
    (grown_more c.in_ok-led.ensures.grown
    (grown_more (reply_grown c.in_ok-allowed.ensures) (grown_more c.in_ok-some.ensures.grown (reply_grown c.or.ensures))))

pub returns-in_err-copied-clause-behaves : goal.returns-in_err-copied-clause-behaves
returns-in_err-copied-clause-behaves g c =
    let b = c.from_residual.ensures.1 in
    record {
      tells = leaves c.from_residual.result c.in_err-copied.field-0.0 b grown_none (λ h. (h.source, held_copies c.as_slice.ensures.items h))
          (fit_copies c.args.parts.now c.as_slice.ensures.items) c.in_err-copied.ensures.tells;
      refuses = λ h. number_by c.from_residual.result c.in_err-copied.field-0.0 b (c.in_err-copied.ensures.passes h);
    }

pub returns-in_err-led-clause-behaves : goal.returns-in_err-led-clause-behaves
returns-in_err-led-clause-behaves g c =
    let b = c.from_residual-in_err-led.ensures.1 in
    let w = c.in_ok-copied.ensures.grown in
    record {
      tells = leaves c.from_residual-in_err-led.result c.in_err-led.field-0.0 b w
          (λ h. (told c.in_ok-copied.ensures.tells h.source, held_pairs _ w (held_nexts c.as_slice-2.ensures.items h)))
          (fit_nexts c.args.parts.now c.as_slice-2.ensures.items) c.in_err-led.ensures.tells;
      refuses = λ h.
          let first = c.in_ok-copied.ensures.passes h in
          let second = c.in_err-led.ensures.passes (still_unheld h first) in
          number_by c.from_residual-in_err-led.result c.in_err-led.field-0.0 b (second.0 ∙ first.0, second.1);
    }

pub returns-in_err-allowed-clause-behaves : goal.returns-in_err-allowed-clause-behaves
returns-in_err-allowed-clause-behaves g c =
    let b = c.from_residual-in_err-allowed.ensures.1 in
    let w = grown_more c.in_ok-copied.ensures.grown c.in_ok-led.ensures.grown in
    record {
      tells = leaves c.from_residual-in_err-allowed.result c.in_err-allowed.field-0.0 b w
          (λ h. and_from _ _ (told c.in_ok-led.ensures.tells (told c.in_ok-copied.ensures.tells h.source)) (w.kept _ h.assumed).0)
          (omega arith) (tells_reply 0 c.in_err-allowed.ensures no_variable);
      refuses = λ h.
          refused_by c.from_residual-in_err-allowed.result c.in_err-allowed.field-0.0 refl b
          (and_refuses _ c.in_ok-copied.ensures.passes c.in_ok-led.ensures.passes c.in_err-allowed.ensures h);
    }

pub returns-in_err-some-clause-behaves : goal.returns-in_err-some-clause-behaves
returns-in_err-some-clause-behaves g c =
    let w = grown_more c.in_ok-copied.ensures.grown (grown_more c.in_ok-led.ensures.grown (reply_grown c.in_ok-allowed.ensures)) in
    record {
      tells = leaves c.from_residual-in_err-some.result c.in_err-some.field-0.0 c.from_residual-in_err-some.ensures.1 w
          (λ _. (told (tells_reply 0 c.in_ok-allowed.ensures no_variable)).1)
          (omega arith) (rw (c.first_input.ensures, c.registers.ensures.counts) at c.in_err-some.ensures.tells);
      refuses = λ h. accepted _ refl (and_refuses _ c.in_ok-copied.ensures.passes c.in_ok-led.ensures.passes c.in_ok-allowed.ensures h);
    }

pub returns-clause-behaves : goal.returns-clause-behaves
returns-clause-behaves g c =
    let w = grown_more c.in_ok-copied.ensures.grown
    (grown_more c.in_ok-led.ensures.grown (grown_more (reply_grown c.in_ok-allowed.ensures) c.in_ok-some.ensures.grown)) in
    let allowed = told (tells_reply 0 c.in_ok-allowed.ensures no_variable) in
    record {
      tells = finishes c.or.result w (λ h. and_from _ _ (told c.in_ok-some.ensures.tells allowed.1) (w.kept _ h.source).0)
          (omega arith) (λ b p. p) (tells_reply 0 c.or.ensures no_variable);
      refuses = λ h. accepted _ refl (and_refuses _ c.in_ok-copied.ensures.passes c.in_ok-led.ensures.passes c.in_ok-allowed.ensures h);
    }
