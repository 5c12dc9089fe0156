use Rattle.std.proofs.Common.{refl, arith}
use Rattle.hook_chain.proofs.Slanted.{measured_by, rises_by, falls_by, rises_forth, falls_forth}
use Rattle.hook_chain.proofs.Slanted.{close_by_steeper, close_by_flatter, margin_by_close, steeper_by_close, flatter_by_close}
use Rattle.hook_chain.proofs.closeness.slanted_is_close.Goals as goal

-- an end of a close piece is less than a step from the original
pub returns-then-margin-line : goal.returns-then-margin-line
returns-then-margin-line c =
    let measured = measured_by _ _ _ _ _ _ _ c.margin_of-margin.result c.raised-line.ensures.raised c.raised-piece.ensures.raised
    c.raised-piece.ensures.some.0 c.requires.within c.requires.slanted c.margin_of-margin.ensures.margin in
    (λ no. cc, λ close. let below = margin_by_close _ _ _ _ _ _ _ _ measured close in absurd (omega arith))

-- a piece that rises against the original is as steep as it, or steeper
pub all_climb-requires-clause-forth : goal.all_climb-requires-clause-forth
all_climb-requires-clause-forth c =
    let measured = measured_by _ _ _ _ _ _ _ c.margin_of-margin.result c.raised-line.ensures.raised c.raised-piece.ensures.raised
    c.raised-piece.ensures.some.0 c.requires.within c.requires.slanted c.margin_of-margin.ensures.margin in
    rises_forth _ _ _ _ _ _ _ _ measured (rises_by _ _ (c.if-rises_against.ensures.0 refl))

-- and one that falls against it isn't steeper
pub all_climb-requires-else-rises_against-clause-forth :
    goal.all_climb-requires-else-rises_against-clause-forth
all_climb-requires-else-rises_against-clause-forth c =
    let measured = measured_by _ _ _ _ _ _ _ c.margin_of-margin.result c.raised-line.ensures.raised c.raised-piece.ensures.raised
    c.raised-piece.ensures.some.0 c.requires.within c.requires.slanted c.margin_of-margin.ensures.margin in
    let line = c.flipped.ensures in
    let piece = c.flipped-else-rises_against.ensures in
    let falls = falls_by _ _ (λ below. let no = c.if-rises_against.ensures.1 below in cc) in
    rw (line.p, line.q, piece.p, piece.q) (falls_forth _ _ _ _ _ _ _ _ measured falls)

-- a piece that rises is close where all steeper ways climb
pub returns-then-rises_against : goal.returns-then-rises_against
returns-then-rises_against c =
    let measured = measured_by _ _ _ _ _ _ _ c.margin_of-margin.result c.raised-line.ensures.raised c.raised-piece.ensures.raised
    c.raised-piece.ensures.some.0 c.requires.within c.requires.slanted c.margin_of-margin.ensures.margin in
    let rises = rises_by _ _ (c.if-rises_against.ensures.0 refl) in (
      λ climb. close_by_steeper _ _ _ _ _ _ _ _ measured c.if-margin-line.false (c.all_climb.ensures.steeper climb),
      λ close. c.all_climb.ensures.only (steeper_by_close _ _ _ _ _ _ _ _ measured rises close),
    )

-- and one that falls where all less steep ways do
pub returns-else-rises_against : goal.returns-else-rises_against
returns-else-rises_against c =
    let measured = measured_by _ _ _ _ _ _ _ c.margin_of-margin.result c.raised-line.ensures.raised c.raised-piece.ensures.raised
    c.raised-piece.ensures.some.0 c.requires.within c.requires.slanted c.margin_of-margin.ensures.margin in
    let falls = falls_by _ _ (λ below. let no = c.if-rises_against.ensures.1 below in cc) in
    let line = c.flipped.ensures in
    let piece = c.flipped-else-rises_against.ensures in
    let answer = rw (line.p, line.q, piece.p, piece.q) at c.all_climb-else-rises_against.ensures in (
      λ climb. close_by_flatter _ _ _ _ _ _ _ _ measured c.if-margin-line.false (answer.steeper climb),
      λ close. answer.only (flatter_by_close _ _ _ _ _ _ _ _ measured falls close),
    )
