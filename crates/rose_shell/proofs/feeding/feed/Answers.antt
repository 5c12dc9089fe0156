use Rattle.std.proofs.Common.{[], ◌∷◌, ◌++◌, ◌+◌, take, drop, refl}
use Rattle.std.proofs.lemmas.List.{take_rest}
use Rattle.outside_world.proofs.GoingOn.{goes_on_none, goes_on_then}
use Rattle.rose_shell.specs.Lines.{longest_line, part_from}
use Rattle.rose_shell.proofs.Cuts.{part_from-line}
use Rattle.rose_shell.proofs.Keeps.{kept_none}
use Rattle.rose_shell.proofs.Results.{err_by}
use Rattle.rose_shell.proofs.Runs.{stopped_none, stopped_at}
use Rattle.rose_shell.proofs.Chunks.{cut_at_feed, part_at_end, nothing_heard, went_line, stopped_line, went_end, stopped_end}
use Rattle.rose_shell.proofs.feeding.feed.Goals as goal

-- nothing of the chunk is done
pub loop-end-init : goal.loop-end-init
loop-end-init g c = record {
  done = [];
  split = refl;
  goes_on = goes_on_none;
  intact = c.requires.intact;
  ready = c.requires.ready;
  rest = c.requires.rest;
  kept = λ part is. is;
  went = λ part held is waits t. nothing_heard held part (c.requires.rest t) waits;
}

-- one line more is done, its line feed with it
pub loop-end-preserved : goal.loop-end-preserved
loop-end-preserved g c =
    let inv = c.loop-end.invariant in
    let ens = c.in_ok-hear.ensures in
    let at = c.in-Some.ensures in
    let rest = c.loop-end.rest.now in
    let n = c.in-Some.end in
    let done = inv.done ++ (take n rest ++ 10 ∷ []) in
    record {
      done = done;
      split = cut_at_feed inv.done rest n inv.split at.0 at.1 (take_rest rest (n + 1));
      goes_on = goes_on_then inv.goes_on ens.goes_on;
      intact = ens.intact;
      ready = ens.ready (λ is. cc) (λ is. cc);
      rest = ens.rest;
      kept = λ part is. kept_none (longest_line + 1) (part_from-line part inv.done (take n rest)) ens.kept;
      went = λ part held is waits t.
          let first = inv.went part held is waits (ens.goes_on.tells t) in
          went_line held part inv.done (take n rest) at.2 first
          (ens.went (part_from part inv.done ++ take n rest) first.held
          (c.in_ok-keep.ensures (part_from part inv.done) (inv.kept part is)) first.waits t);
    }

-- memory runs out before the line was heard, and the lines before were
pub returns-in_err-keep-clause-stopped : goal.returns-in_err-keep-clause-stopped
returns-in_err-keep-clause-stopped g c =
    err_by c.from_residual.result c.from_residual.ensures.1
    (λ fault memory. λ part held is waits t.
    let inv = c.loop-end.invariant in
    let at = c.in-Some.ensures in
    let rest = c.loop-end.rest.now in
    let n = c.in-Some.end in
    let first = inv.went part held is waits t in
    stopped_at memory
    (stopped_line held part inv.done (take n rest) (drop (n + 1) rest) at.2 (cut_at_feed inv.done rest n inv.split at.0 at.1 refl)
    first (stopped_none (first.held ++ (part_from part inv.done ++ take n rest) ∷ []) (inv.rest t))))

-- or the line halts the run
pub returns-in_err-hear-clause-stopped : goal.returns-in_err-hear-clause-stopped
returns-in_err-hear-clause-stopped g c =
    err_by c.from_residual-in_err-hear.result c.from_residual-in_err-hear.ensures.1
    (λ fault same. λ part held is waits t.
    let inv = c.loop-end.invariant in
    let ens = c.in_err-hear.ensures in
    let at = c.in-Some.ensures in
    let rest = c.loop-end.rest.now in
    let n = c.in-Some.end in
    let first = inv.went part held is waits (ens.goes_on.tells t) in
    stopped_at same
    (stopped_line held part inv.done (take n rest) (drop (n + 1) rest) at.2 (cut_at_feed inv.done rest n inv.split at.0 at.1 refl)
    first
    (ens.stopped (part_from part inv.done ++ take n rest) first.held
    (c.in_ok-keep.ensures (part_from part inv.done) (inv.kept part is)) first.waits t)))

-- what is left of the chunk ends no line, and is kept
pub returns-clause-kept : goal.returns-clause-kept
returns-clause-kept g c = λ part is.
    let inv = c.loop-end.invariant in
    let kept = c.in_ok-keep-2.ensures (part_from part inv.done) (inv.kept part is) in
    let came = part_at_end part inv.done c.loop-end.rest.now inv.split c.in_default.ensures in
    cc

-- so the lines that are done are all
pub returns-clause-went : goal.returns-clause-went
returns-clause-went g c = λ part held is waits t.
    let inv = c.loop-end.invariant in
    went_end held part inv.done c.loop-end.rest.now inv.split c.in_default.ensures (inv.went part held is waits t)

-- or memory runs out
pub returns-in_err-keep-2-clause-stopped : goal.returns-in_err-keep-2-clause-stopped
returns-in_err-keep-2-clause-stopped g c =
    err_by c.from_residual-in_err-keep-2.result c.from_residual-in_err-keep-2.ensures.1
    (λ fault memory. λ part held is waits t.
    let inv = c.loop-end.invariant in
    stopped_at memory (stopped_end held part inv.done c.loop-end.rest.now inv.split c.in_default.ensures (inv.went part held is waits t)))
