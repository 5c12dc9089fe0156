use Rattle.std.proofs.Common.{refl, ap, sym, subst, ◌∙◌, ◌+◌, drop}
use Rattle.outside_world.proofs.GoingOn.{goes_on_then}
use Rattle.rose_shell.specs.declared.status.Status.{Status}
use Rattle.rose_shell.specs.Faults.{status_of}
use Rattle.rose_shell.specs.Giving.{GaveSome}
use Rattle.rose_shell.specs.Shipping.{ShippingEndsBy}
use Rattle.rose_shell.proofs.GivenFrames.{frames_to, gave_to, gives_first}
use Rattle.rose_shell.proofs.frames.give_frames.Goals as goal

-- memory runs out before the next line is made
pub returns-in-Err-clause-told : goal.returns-in-Err-clause-told
returns-in-Err-clause-told g c = λ tells.
    let inv = c.loop-frame.invariant in
    gives_first c.loop-frame.frame-index inv.are_frames (inv.told tells) refl

-- the sink fails within it
pub returns-in-Err-give_all-clause-told : goal.returns-in-Err-give_all-clause-told
returns-in-Err-give_all-clause-told g c = λ tells.
    let inv = c.loop-frame.invariant in
    let i = c.loop-frame.frame-index in
    let frames = c.args.frames.now in
    let f = c.frame-item.result in
    let lt = c.loop-frame-test.true in
    let gave = c.in-Err-give_all.ensures.told tells in
    gives_first (i + 1) (frames_to frames i f lt c.frame-item.is inv.are_frames c.in-Ok.ensures.is_frame)
    (gave_to frames i f lt c.frame-item.is (inv.told (c.give_all.ensures.goes_on.tells tells)) (c.bytes.ensures ∙ c.in-Ok.ensures.line)
    gave.some)
    (subst (λ (s : Status). ShippingEndsBy (drop (i + 1) frames) gave.unsent s)
    (sym (c.from.ensures ∙ ap status_of c.in-Err-give_all.ensures.sink)) gave.short)

-- or it was given
pub loop-frame-preserved : goal.loop-frame-preserved
loop-frame-preserved g c =
    let inv = c.loop-frame.invariant in
    let i = c.loop-frame.frame-index in
    let frames = c.args.frames.now in
    let f = c.frame-item.result in
    let lt = c.loop-frame-test.true in
    record {
      goes_on = goes_on_then inv.goes_on c.give_all.ensures.goes_on;
      intact = c.in_default.ensures.intact;
      are_frames = frames_to frames i f lt c.frame-item.is inv.are_frames c.in-Ok.ensures.is_frame;
      told = λ tells.
          let gave = c.in_default.ensures.told tells in
          gave_to frames i f lt c.frame-item.is (inv.told (c.give_all.ensures.goes_on.tells tells)) (c.bytes.ensures ∙ c.in-Ok.ensures.line)
          (subst (λ l. GaveSome (g.W.Outside.view c.loop-frame.world) (g.W.Outside.view c.give_all.new.world) c.bytes.result.now l) gave.whole gave.some);
    }
