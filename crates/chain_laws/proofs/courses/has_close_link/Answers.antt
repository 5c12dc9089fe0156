use Rattle.std.proofs.Common.{◌+◌, refl, arith}
use Rattle.hook_chain.specs.ValidChain.{IsMonotone}
use Rattle.chain_laws.proofs.Boxes.{read_in_box}
use Rattle.chain_laws.proofs.CloseChains.{close_at}
use Rattle.chain_laws.proofs.LinkPlaces.{read_link}
use Rattle.chain_laws.proofs.courses.has_close_link.Goals as goal

-- a course stays in the box
pub is_close-requires-clause-in_box : goal.is_close-requires-clause-in_box
is_close-requires-clause-in_box c =
    let o = c.args.o.now in
    let points = c.args.points.now in (
      read_in_box o points c.requires.course c.args.place _ (omega arith) c.index-points-place.is,
      read_in_box o points c.requires.course (c.args.place + 1) _ (omega arith) c.index-points-place-2.is,
    )

-- and no two neighbours are one point
pub is_close-requires-clause-apart : goal.is_close-requires-clause-apart
is_close-requires-clause-apart c =
    let o = c.args.o.now in
    let at_first = c.index-points-place.is in
    let at_second = c.index-points-place-2.is in
    let next = read_link (IsMonotone o.a o.b) c.args.points.now c.args.place (c.args.place + 1) _ _ refl c.requires.within in
    (next at_first at_second c.requires.course.monotone).0

-- what is close between the two that were read is close at this place
pub returns : goal.returns
returns c =
    let at_first = c.index-points-place.is in
    let at_second = c.index-points-place-2.is in
    let at = close_at c.args.o.now c.args.points.now c.args.place _ _ c.requires.within at_first at_second in
    (λ h. at.0 (c.is_close.ensures.0 h), λ close. c.is_close.ensures.1 (at.1 close))
