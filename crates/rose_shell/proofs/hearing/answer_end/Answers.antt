use Rattle.std.proofs.Common.{◌≡◌, ◌<◌, ℕ, List, ◌++◌, length, ap, sym, subst, arith}
use Rattle.std.proofs.lemmas.Bool.Decides.{nat_tests}
use Rattle.rose_shell.specs.Lines.{last_line, IsFrontOf}
use Rattle.rose_shell.specs.Loop.{IsWaiting, Went}
use Rattle.rose_shell.proofs.Results.{err_by}
use Rattle.rose_shell.proofs.Runs.{went_none, went_to_end, rest_behind, went_all, stopped_at, stopped_to_end, stopped_all}
use Rattle.rose_shell.proofs.Batches.{went_empty, went_last, stopped_last, went_held, held_stops}
use Rattle.rose_shell.proofs.hearing.answer_end.Goals as goal
use Rattle.rose_shell.proofs.hearing.answer_end.Goals.{Then-input-gt0, then-not-is_empty+in_ok-hear, else-not-is_empty}

-- the last line stops the run
pub returns-in_err-hear-clause-stopped : goal.returns-in_err-hear-clause-stopped
returns-in_err-hear-clause-stopped g c =
    let some : 0 < length c.args.input.now.kept.items = grind (arith, nat_tests, c.is_empty.ensures, c.if-not-is_empty.true) in
    err_by c.from_residual.result c.from_residual.ensures.1
    (λ fault same. λ line held is waits t.
    stopped_at same (stopped_last held line some is (stopped_to_end (c.in_err-hear.ensures.stopped line held is waits t))))

-- it was heard where something had come of it, and else there is none
heard : (g : _) (c : Then-input-gt0 g) (line : List ℕ) (held : List (List ℕ)) → IsFrontOf c.args.input.now.kept.items line
    → IsWaiting c.args.input.now.waiting held → g.W.Outside.tells c.if-not-is_empty.world
    → Went g.D.Desk.terms ⊥ (g.W.Outside.view c.args.world.now) (g.W.Outside.view c.if-not-is_empty.world)
    c.args.desk.now c.if-not-is_empty.desk (held ++ last_line line) c.if-not-is_empty.input.waiting
heard g c line held is waits t =
    elim c.if-not-is_empty.branch [
      | then-not-is_empty+in_ok-hear w ↦
          let some : 0 < length c.args.input.now.kept.items = grind (arith, nat_tests, c.is_empty.ensures, w.if-not-is_empty.true) in
          let told = subst (λ world. g.W.Outside.tells world) w.world-is t in
          rw (w.desk-is, w.world-is, w.input-is) (went_last held line some is (w.in_ok-hear.ensures.went line held is waits told))
      | else-not-is_empty w ↦
          let none : length c.args.input.now.kept.items ≡ 0 = grind (arith, nat_tests, c.is_empty.ensures, w.if-not-is_empty.false) in
          let told = subst (λ world. g.W.Outside.tells world) w.world-is t in
          rw (w.desk-is, w.world-is, w.input-is) (went_empty held line none is (went_none (c.requires.rest told) waits))
    ]

-- a batch that waits then is answered,
pub returns-in_ok-answer_waiting-clause-went : goal.returns-in_ok-answer_waiting-clause-went
returns-in_ok-answer_waiting-clause-went g c = λ line held is waits t.
    let ens = c.in_ok-answer_waiting.ensures in
    let first = heard g (goal.at.returns-in_ok-answer_waiting-clause-went g c).Then-input-gt0 line held is waits (ens.goes_on.tells t) in
    went_all first
    (went_held c.if-not-is_empty.input.waiting c.answer_waiting.new.waiting first.held tt first.waits c.if-input-gt0.true
    (rest_behind first) ens.none_waits (ens.told t))

-- or the sink or memory fails
pub returns-in_err-answer_waiting-clause-stopped : goal.returns-in_err-answer_waiting-clause-stopped
returns-in_err-answer_waiting-clause-stopped g c =
    err_by c.from_residual-in_err-answer_waiting.result c.from_residual-in_err-answer_waiting.ensures.1
    (λ fault same. λ line held is waits t.
    let ens = c.in_err-answer_waiting.ensures in
    let cut = ens.cut in
    let told = ens.goes_on.tells t in
    let first = heard g (goal.at.returns-in_err-answer_waiting-clause-stopped g c).Then-input-gt0 line held is waits told in
    stopped_at same
    (stopped_all first
    (held_stops c.if-not-is_empty.input.waiting c.in_err-answer_waiting.field-0.0 first.held tt first.waits c.if-input-gt0.true
    (rest_behind first) (cut.0 t) (λ memory. ap (λ w. g.W.Outside.view w) (sym (cut.1 memory))))))

-- and where none waits, all is answered
pub returns-else-input-gt0-clause-went : goal.returns-else-input-gt0-clause-went
returns-else-input-gt0-clause-went g c = λ line held is waits t.
    elim c.if-not-is_empty.branch [
      | then-not-is_empty+in_ok-hear w ↦
          let some : 0 < length c.args.input.now.kept.items = grind (arith, nat_tests, c.is_empty.ensures, w.if-not-is_empty.true) in
          let told = subst (λ world. g.W.Outside.tells world) w.world-is t in
          rw (w.desk-is, w.world-is, w.input-is)
          (went_to_end (went_last held line some is (w.in_ok-hear.ensures.went line held is waits told)))
      | else-not-is_empty w ↦
          let none : length c.args.input.now.kept.items ≡ 0 = grind (arith, nat_tests, c.is_empty.ensures, w.if-not-is_empty.false) in
          let told = subst (λ world. g.W.Outside.tells world) w.world-is t in
          rw (w.desk-is, w.world-is, w.input-is) (went_empty held line none is (went_none (c.requires.rest told) waits))
    ]
