use Rattle.std.proofs.Common.{[], ◌∷◌, ◌++◌, ◌+◌, take, drop, refl, ◌∙◌}
use Rattle.std.proofs.lemmas.List.{take_rest}
use Rattle.outside_world.proofs.GoingOn.{goes_on_none, goes_on_then}
use Rattle.rose_shell.proofs.Cuts.{part_from-line}
use Rattle.rose_shell.proofs.Results.{err_by}
use Rattle.rose_shell.proofs.Chunks.{cut_at_feed, part_at_end}
use Rattle.rose_shell.proofs.LinesAlone.{came_more, none_came, did_none, rest_of, halted_at, did_line, halted_line, halted_left, did_end}
use Rattle.rose_shell.proofs.Followers.{rests_for_follower, rests_of_follower}
use Rattle.rose_shell.proofs.following.answer_chunk.Goals as goal

-- nothing of the chunk is done
pub loop-end-init : goal.loop-end-init
loop-end-init g c = record {
  done = [];
  split = refl;
  goes_on = goes_on_none;
  intact = c.requires.intact;
  ready = c.requires.ready;
  alone = c.requires.alone;
  rest = c.requires.rest;
  kept = refl;
  did = λ t. did_none (rests_for_follower (c.requires.rest t));
}

-- one line more is answered, its line feed with it
pub loop-end-preserved : goal.loop-end-preserved
loop-end-preserved g c =
    let inv = c.loop-end.invariant in
    let ens = c.in_ok-answer_line.ensures in
    let at = c.in-Some.ensures in
    let part = c.args.line.now.items in
    let rest = c.loop-end.rest.now in
    let n = c.in-Some.end in
    let line = take n rest in
    record {
      done = inv.done ++ (line ++ 10 ∷ []);
      split = cut_at_feed inv.done rest n inv.split at.0 at.1 (take_rest rest (n + 1));
      goes_on = goes_on_then inv.goes_on ens.goes_on;
      intact = ens.intact;
      ready = ens.ready;
      alone = ens.alone;
      rest = λ t. rests_of_follower (rest_of (ens.did t));
      kept = none_came c.clear.ensures.items (part_from-line part inv.done line);
      did = λ t. did_line part inv.done line at.2
          (came_more line c.deref.ensures.value c.in_ok-keep.ensures.kept inv.kept)
          (inv.did (ens.goes_on.tells t)) (ens.did t);
    }

-- memory runs out before the line was whole, and the lines before were answered
pub returns-in_err-keep-clause-halted : goal.returns-in_err-keep-clause-halted
returns-in_err-keep-clause-halted g c =
    let inv = c.loop-end.invariant in
    err_by c.from_residual.result c.from_residual.ensures.1
    (λ status same. λ t.
    halted_at (same ∙ c.in_err-keep.ensures.memory)
    (halted_left c.args.line.now.items inv.done c.loop-end.rest.now inv.split (inv.did t)))

-- or the line halts the run
pub returns-in_err-answer_line-clause-halted : goal.returns-in_err-answer_line-clause-halted
returns-in_err-answer_line-clause-halted g c =
    let inv = c.loop-end.invariant in
    let ens = c.in_err-answer_line.ensures in
    let at = c.in-Some.ensures in
    let rest = c.loop-end.rest.now in
    let n = c.in-Some.end in
    let line = take n rest in
    err_by c.from_residual-in_err-answer_line.result c.from_residual-in_err-answer_line.ensures.1
    (λ status same. λ t.
    halted_at same
    (halted_line c.args.line.now.items inv.done line (drop (n + 1) rest) at.2
    (cut_at_feed inv.done rest n inv.split at.0 at.1 refl)
    (came_more line c.deref.ensures.value c.in_ok-keep.ensures.kept inv.kept)
    (inv.did (ens.goes_on.tells t)) (ens.halted t)))

-- what is left of the chunk ends no line, and is kept
pub returns-clause-kept : goal.returns-clause-kept
returns-clause-kept g c =
    let inv = c.loop-end.invariant in
    let came = came_more c.loop-end.rest.now refl c.in_ok-keep-2.ensures.kept inv.kept in
    let parts = part_at_end c.args.line.now.items inv.done c.loop-end.rest.now inv.split c.in_default.ensures in
    cc

-- so the lines that are done are all
pub returns-clause-did : goal.returns-clause-did
returns-clause-did g c = λ t.
    let inv = c.loop-end.invariant in
    did_end c.args.line.now.items inv.done c.loop-end.rest.now inv.split c.in_default.ensures (inv.did t)

-- or memory runs out
pub returns-in_err-keep-2-clause-halted : goal.returns-in_err-keep-2-clause-halted
returns-in_err-keep-2-clause-halted g c =
    let inv = c.loop-end.invariant in
    err_by c.from_residual-in_err-keep-2.result c.from_residual-in_err-keep-2.ensures.1
    (λ status same. λ t.
    halted_at (same ∙ c.in_err-keep-2.ensures.memory)
    (halted_left c.args.line.now.items inv.done c.loop-end.rest.now inv.split (inv.did t)))
