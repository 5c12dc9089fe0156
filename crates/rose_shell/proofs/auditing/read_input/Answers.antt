use Rattle.std.proofs.Common.{[], ◌++◌, take, refl, ◌∙◌, arith, length-append}
use Rattle.std.proofs.lemmas.List.{length-take}
use Rattle.outside_world.proofs.GoingOn.{goes_on_none, goes_on_then}
use Rattle.rose_shell.specs.Lines.{whole_lines, part_from}
use Rattle.rose_shell.proofs.Audits.{calls_none, took_more, took_none, took_end, none_left, read_limit, read_err}
use Rattle.rose_shell.proofs.Certificates.{come_more}
use Rattle.rose_shell.proofs.auditing.read_input.Goals as goal

-- nothing was taken, and all of the budget is left
pub loop-n-init : goal.loop-n-init
loop-n-init g c = record {
  goes_on = goes_on_none;
  intact = c.requires.intact;
  no_file = refl;
  heard = c.new-certificate.ensures.heard;
  bytes = [];
  come = c.new-certificate.ensures.come;
  spent = omega arith;
  calls = λ t. calls_none;
}

-- the bytes of this take have come too
pub loop-n-preserved : goal.loop-n-preserved
loop-n-preserved g c =
    let inv = c.loop-n.invariant in
    let took = c.in-Ok.ensures in
    let ens = c.in_ok-hear.ensures in
    let more = take c.in-Ok.n c.next_bytes.new.chunk in
    record {
      goes_on = goes_on_then inv.goes_on took.goes_on;
      intact = took.intact;
      no_file = took.no_file ∙ inv.no_file;
      heard = ens.heard;
      bytes = inv.bytes ++ more;
      come = come_more inv.bytes more (ens.come (whole_lines inv.bytes) (part_from [] inv.bytes) inv.come);
      spent = omega (arith, inv.spent, length-append inv.bytes more, length-take c.in-Ok.n c.next_bytes.new.chunk, took.within, took.room);
      calls = λ t. took_more (inv.calls (took.goes_on.tells t)) (took.told t);
    }

-- the source has failed
pub returns-in-Err-clause-told : goal.returns-in-Err-clause-told
returns-in-Err-clause-told g c = λ t.
    let inv = c.loop-n.invariant in
    (inv.bytes, took_none (inv.calls (c.in-Err.ensures.goes_on.tells t)) (c.in-Err.ensures.told t), omega (arith, inv.spent))

-- the budget was spent, and this take has given more
pub returns-then-room-eq0-clause-told : goal.returns-then-room-eq0-clause-told
returns-then-room-eq0-clause-told g c = λ t.
    let inv = c.loop-n.invariant in
    let took = c.in-Ok.ensures in
    read_limit (inv.calls (took.goes_on.tells t)) (took.told t) inv.spent c.if-room-eq0.true (omega arith) took.within

-- the input has ended, and the reply to it is made
pub returns-then-n-eq0-clause-told : goal.returns-then-n-eq0-clause-told
returns-then-n-eq0-clause-told g c = λ t.
    let inv = c.loop-n.invariant in
    let took = c.in-Ok.ensures in (
      inv.bytes,
      took_end (inv.calls (took.goes_on.tells t)) (took.told t) c.if-n-eq0.true,
      (
        omega (arith, inv.spent),
        none_left (took.told t) c.if-n-eq0.true (omega arith),
        c.in_ok-reply.ensures.tells (whole_lines inv.bytes) (part_from [] inv.bytes) inv.come,
      ),
    )

-- or memory runs out for it
pub returns-in_err-reply-clause-told : goal.returns-in_err-reply-clause-told
returns-in_err-reply-clause-told g c = λ t.
    let inv = c.loop-n.invariant in
    let took = c.in-Ok.ensures in
    read_err _ c.from_residual.result c.from_residual.ensures.1
    (took_end (inv.calls (took.goes_on.tells t)) (took.told t) c.if-n-eq0.true) (omega (arith, inv.spent))

-- or for what was taken
pub returns-in_err-hear-clause-told : goal.returns-in_err-hear-clause-told
returns-in_err-hear-clause-told g c = λ t.
    let inv = c.loop-n.invariant in
    let took = c.in-Ok.ensures in
    let more = take c.in-Ok.n c.next_bytes.new.chunk in
    read_err _ c.from_residual-in_err-hear.result c.from_residual-in_err-hear.ensures.1
    (took_more (inv.calls (took.goes_on.tells t)) (took.told t))
    (omega (arith, inv.spent, length-append inv.bytes more, length-take c.in-Ok.n c.next_bytes.new.chunk, took.within, took.room))
