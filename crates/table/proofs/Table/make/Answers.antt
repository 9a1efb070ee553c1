use Rattle.std.proofs.Common.{◌≡◌, ◌+◌, ◌<◌, ap, ◌∙◌, subst, rules, arith}
use Rattle.std.proofs.lemmas.Result.{err_from_is_err_and}
use Rattle.store.specs.Calls.{Answers}
use Rattle.records.specs.Contents.{entries, room}
use Rattle.records.proofs.Contents.{entries_fit}
use Rattle.store.specs.Tasks.{asked}
use Rattle.table.specs.Store.{shows}
use Rattle.table.specs.Tables.{FormOf}
use Rattle.table.proofs.Made.{reply, numbered, replied, Narrow, made_constant, sound_after, narrow_after, answers_after}
use Rattle.table.proofs.Table.make.Goals as goal
use Rattle.table.proofs.Table.make.Goals.{After-map_err, In_ok-place}

pub returns-in-Constant : goal.returns-in-Constant
returns-in-Constant c =
    let d = c.args.self.now in
    let f = asked (shows d) c.args.task in
    rw c.from.ensures (made_constant d.n (entries d.list) (room d.list) d.few (entries_fit d.list) d.small d.apart f c.in-Constant.t
    (subst (FormOf d.n f) c.in-Constant.is c.form.ensures))

pub invariant_of-self : goal.invariant_of-self
invariant_of-self c =
    let d = c.args.self.now in
    let f = asked (shows d) c.args.task in
    let t = subst (FormOf d.n f) c.in-Mixed.is c.form.ensures in
    let r = c.find_or_add in
    record {
      some = d.some;
      few = d.few;
      small = omega (arith, d.small, r.ensures.1);
      apart = sound_after d r.new.self f c.in-Mixed.table t.0 t.1 r.result r.ensures;
    }

-- the reply that is wanted
is : (c : After-map_err) → reply c.find_or_add.result ≡ numbered c.map_err.result
is c = replied c.find_or_add.result c.map_err.result c.map_err.ensures.cases (λ s e h. search rules)

narrow : (c : In_ok-place) → c.in_ok-place.place + 2 < 65536
narrow c =
    let d = c.args.self.now in
    let f = asked (shows d) c.args.task in
    let t = subst (FormOf d.n f) c.in-Mixed.is c.form.ensures in
    let r = c.find_or_add in
    subst Narrow (is (goal.at.overflow_cast-result c).After-map_err ∙ ap numbered c.in_ok-place.was)
    (narrow_after d r.new.self f c.in-Mixed.table t.0 t.1 r.result r.ensures)

pub overflow_cast-result : goal.overflow_cast-result
overflow_cast-result c = omega (arith, narrow c)

pub overflow_add-result : goal.overflow_add-result
overflow_add-result c = omega (arith, narrow c)

pub returns-in_err-place : goal.returns-in_err-place
returns-in_err-place c =
    let d = c.args.self.now in
    let f = asked (shows d) c.args.task in
    let t = subst (FormOf d.n f) c.in-Mixed.is c.form.ensures in
    let r = c.find_or_add in
    let e = err_from_is_err_and c.from_residual.result c.from_residual.ensures.1 in
    rw (e.1, e.2) (subst (Answers (shows d) _ f) (is (goal.at.returns-in_err-place c).After-map_err ∙ ap numbered c.in_err-place.was)
    (answers_after d r.new.self f c.in-Mixed.table t.0 t.1 r.result r.ensures))

pub returns : goal.returns
returns c =
    let d = c.args.self.now in
    let f = asked (shows d) c.args.task in
    let t = subst (FormOf d.n f) c.in-Mixed.is c.form.ensures in
    let r = c.find_or_add in
    subst (Answers (shows d) _ f) (is (goal.at.returns c).After-map_err ∙ ap numbered c.in_ok-place.was)
    (answers_after d r.new.self f c.in-Mixed.table t.0 t.1 r.result r.ensures)
