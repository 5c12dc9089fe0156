use Rattle.std.proofs.Common.{arith}
use Rattle.outside_world.proofs.GoingOn.{goes_on_none, goes_on_then}
use Rattle.rose_shell.proofs.Takes.{keeping_none, keeping_more}
use Rattle.rose_shell.proofs.Exits.{served_source, served_limit, served_stop, served_all, served_last, served_err}
use Rattle.rose_shell.proofs.serving.answer_input.Goals as goal

-- nothing was taken, and all of the budget is left
pub loop-n-init : goal.loop-n-init
loop-n-init g c = record {
  goes_on = goes_on_none;
  intact = c.requires.intact;
  ready = c.requires.ready;
  keeping = λ t.
      keeping_none c.args.budget (c.new-input.ensures.missing, c.new-input.ensures.lines) c.new-input.ensures.kept
      (c.requires.rest t);
}

-- the lines that end in the bytes of this take are answered
pub loop-n-preserved : goal.loop-n-preserved
loop-n-preserved g c =
    let inv = c.loop-n.invariant in
    let took = c.in-Ok.ensures in
    let ens = c.in_ok-feed.ensures in
    record {
      goes_on = goes_on_then inv.goes_on (goes_on_then took.goes_on ens.goes_on);
      intact = ens.intact;
      ready = ens.ready (λ is. cc) (λ is. cc);
      keeping = λ t.
          let then = ens.goes_on.tells t in
          keeping_more (inv.keeping (took.goes_on.tells then)) (took.told then) took.within (omega (arith, took.room))
          (λ part held is waits. ens.went part held is waits t) (λ part is. ens.kept part is);
    }

-- the source has failed when all whole lines were answered
pub returns-in-Err-clause-told : goal.returns-in-Err-clause-told
returns-in-Err-clause-told g c = λ t.
    served_source (c.loop-n.invariant.keeping (c.in-Err.ensures.goes_on.tells t)) (c.in-Err.ensures.told t)

-- the budget was spent, and this take has given more
pub returns-then-room-eq0-clause-told : goal.returns-then-room-eq0-clause-told
returns-then-room-eq0-clause-told g c = λ t.
    let took = c.in-Ok.ensures in
    served_limit (c.loop-n.invariant.keeping (took.goes_on.tells t)) (took.told t) c.if-room-eq0.true (omega arith) took.within

-- the input has ended, and what had come of a line and of a batch is answered
pub returns-then-n-eq0-clause-told : goal.returns-then-n-eq0-clause-told
returns-then-n-eq0-clause-told g c = λ t.
    let took = c.in-Ok.ensures in
    let ens = c.in_ok-answer_end.ensures in
    let then = ens.goes_on.tells t in
    served_all (c.loop-n.invariant.keeping (took.goes_on.tells then)) (took.told then) c.if-n-eq0.true (omega arith)
    (λ line held is waits. ens.went line held is waits t) ens.none_waits

-- or the lines stop there
pub returns-in_err-answer_end-clause-told : goal.returns-in_err-answer_end-clause-told
returns-in_err-answer_end-clause-told g c = λ t.
    let took = c.in-Ok.ensures in
    let ens = c.in_err-answer_end.ensures in
    let then = ens.goes_on.tells t in
    served_err _ c.from_residual.result c.from_residual.ensures.1
    (served_last c.in_err-answer_end.field-0.0 (c.loop-n.invariant.keeping (took.goes_on.tells then)) (took.told then)
    c.if-n-eq0.true (omega arith)
    (λ line held is waits. ens.stopped line held is waits t))

-- or at a line among those of this take
pub returns-in_err-feed-clause-told : goal.returns-in_err-feed-clause-told
returns-in_err-feed-clause-told g c = λ t.
    let took = c.in-Ok.ensures in
    let ens = c.in_err-feed.ensures in
    let then = ens.goes_on.tells t in
    served_err _ c.from_residual-in_err-feed.result c.from_residual-in_err-feed.ensures.1
    (served_stop c.in_err-feed.field-0.0 (c.loop-n.invariant.keeping (took.goes_on.tells then)) (took.told then)
    took.within (omega (arith, took.room)) (λ part held is waits. ens.stopped part held is waits t))
