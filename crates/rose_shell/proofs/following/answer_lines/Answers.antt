use Rattle.std.proofs.Common.{arith}
use Rattle.outside_world.proofs.GoingOn.{goes_on_none, goes_on_then}
use Rattle.rose_shell.proofs.TakesAlone.{rest_behind_take, going_none, going_more, alone_source, alone_limit, alone_all}
use Rattle.rose_shell.proofs.TakesAlone.{alone_halt, alone_last}
use Rattle.rose_shell.proofs.Followers.{rests_for_follower, rests_of_follower}
use Rattle.rose_shell.proofs.following.answer_lines.Goals as goal
use Rattle.rose_shell.proofs.following.answer_lines.Goals.{in-Ok-answer_last, in-Err-answer_last}

-- nothing was taken, and all of the budget is left
pub loop-n-init : goal.loop-n-init
loop-n-init g c = record {
  goes_on = goes_on_none;
  intact = c.requires.intact;
  ready = c.requires.ready;
  alone = c.requires.alone;
  going = λ t. going_none c.args.budget c.new-line.ensures.items (rests_for_follower (c.requires.rest t));
}

-- the lines that end in the bytes of this take are answered
pub loop-n-preserved : goal.loop-n-preserved
loop-n-preserved g c =
    let inv = c.loop-n.invariant in
    let took = c.in-Ok.ensures in
    let ens = c.in_default.ensures in
    record {
      goes_on = goes_on_then inv.goes_on (goes_on_then took.goes_on ens.goes_on);
      intact = ens.intact;
      ready = ens.ready;
      alone = ens.alone;
      going = λ t.
          let then = ens.goes_on.tells t in
          going_more (inv.going (took.goes_on.tells then)) (took.told then) took.within (omega (arith, took.room))
          (ens.did t) ens.kept;
    }

-- the source has failed when all whole lines were answered
pub returns-in-Err-clause-told : goal.returns-in-Err-clause-told
returns-in-Err-clause-told g c = λ t.
    alone_source (c.loop-n.invariant.going (c.in-Err.ensures.goes_on.tells t)) (c.in-Err.ensures.told t)

-- the budget was spent, and this take has given more
pub returns-then-room-eq0-clause-told : goal.returns-then-room-eq0-clause-told
returns-then-room-eq0-clause-told g c = λ t.
    let took = c.in-Ok.ensures in
    alone_limit (c.loop-n.invariant.going (took.goes_on.tells t)) (took.told t) c.if-room-eq0.true (omega arith) took.within

-- the lines halt at one that ends in the bytes of this take
pub returns-in-Err-answer_chunk-clause-told : goal.returns-in-Err-answer_chunk-clause-told
returns-in-Err-answer_chunk-clause-told g c = λ t.
    let took = c.in-Ok.ensures in
    let ens = c.in-Err-answer_chunk.ensures in
    let then = ens.goes_on.tells t in
    alone_halt (c.loop-n.invariant.going (took.goes_on.tells then)) (took.told then) took.within (omega (arith, took.room))
    (ens.halted t)

-- the input has ended, and what had come of the last line is answered, or halts
pub returns-then-n-eq0-clause-told : goal.returns-then-n-eq0-clause-told
returns-then-n-eq0-clause-told g c = λ t.
    let took = c.in-Ok.ensures in
    let ens = c.answer_last.ensures in
    let then = ens.goes_on.tells t in
    let going = c.loop-n.invariant.going (took.goes_on.tells then) in
    elim c.match-answer_last.branch [
      | in-Ok-answer_last w ↦
          rw (w.result-is)
          (alone_all going (took.told then) c.if-n-eq0.true (omega arith) c.deref.ensures.value (w.in-Ok-answer_last.ensures.did t))
      | in-Err-answer_last w ↦
          rw (w.result-is)
          (alone_last going (took.told then) c.if-n-eq0.true (omega arith) c.deref.ensures.value
          (w.in-Err-answer_last.ensures.halted t))
    ]

-- the files are at rest when lines are answered
pub answer_chunk-requires-clause-rest : goal.answer_chunk-requires-clause-rest
answer_chunk-requires-clause-rest g c κs within = λ t.
    let took = c.in-Ok.ensures in
    rests_of_follower (rest_behind_take (c.loop-n.invariant.going (took.goes_on.tells t)) (took.told t))

pub answer_last-requires-clause-rest : goal.answer_last-requires-clause-rest
answer_last-requires-clause-rest g c κs within = λ t.
    let took = c.in-Ok.ensures in
    rests_of_follower (rest_behind_take (c.loop-n.invariant.going (took.goes_on.tells t)) (took.told t))
