use Rattle.state_check.proofs.PartEnds.{even_by_ends, ends_are_even}
use Rattle.state_check.proofs.parts.are_even.Goals as goal

-- the originals are even exactly where their ends are
pub returns-in-Some : goal.returns-in-Some
returns-in-Some c =
    let d = c.args.drawing.now.drawing in
    let ids = c.args.ids.now in
    let list = c.in-Some.ends.items in
    let has = rw c.in-Some.is at c.in_ok-ends.ensures in (
      λ yes. even_by_ends d ids list has (c.is_even.ensures.0 yes),
      λ even. c.is_even.ensures.1 (ends_are_even d ids list has c.chain-rising.ensures.rising even),
    )
