use Rattle.std.proofs.Common.{take, sym, subst}
use Rattle.std.specs.List.{All}
use Rattle.std.proofs.lemmas.List.Elements.{All-take}
use Rattle.record_codec.specs.Fitting.{IsRecord}
use Rattle.standby_core.specs.Frames.{HasText}
use Rattle.standby_core.proofs.Sending.{above_have_text}
use Rattle.standby_core.proofs.shipping.frames_above.Goals as goal

-- what was sent of the records so far has a text
pub returns-clause-with_text : goal.returns-clause-with_text
returns-clause-with_text c = λ all.
    let some = take c.loop-r.r-index c.args.records.now in
    let texts = above_have_text c.args.k some (All-take IsRecord c.loop-r.r-index c.args.records.now all) in
    subst (λ frames. All HasText frames) (sym c.loop-r.invariant) texts
