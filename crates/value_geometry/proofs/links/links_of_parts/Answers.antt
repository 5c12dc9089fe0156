use Rattle.std.proofs.Common.{refl}
use Rattle.value_geometry.proofs.ListedParts.{no_part, one_part}
use Rattle.value_geometry.proofs.links.links_of_parts.Goals as goal
use Rattle.value_geometry.proofs.links.links_of_parts.Goals.{in-Some+in_ok-add_links, in_default}

-- the links of one part more, which is in the drawing
pub loop-id-preserved : goal.loop-id-preserved
loop-id-preserved c =
    let d = c.args.drawing.now.drawing in
    let ids = c.args.ids.now in
    let i = c.loop-id.id-index in
    let list = c.loop-id.list.items in
    let within = c.loop-id-test.true in
    elim c.match-chain_at.branch [
      | in-Some+in_ok-add_links w ↦ (
        λ parts are.
            rw w.list-is
            (one_part d ids parts are i w.in-Some.chain.now list w.add_links.new.list.items within w.in-Some.ensures.chain
            c.chains_from-walk.ensures.stand (c.loop-id.invariant.0 parts are) w.in_ok-add_links.ensures),
        c.chain_at.ensures.chains,
      )
      | in_default w ↦ (
        λ parts are. absurd (no_part d ids parts are i within (w.in_default.ensures.none refl)),
        c.chain_at.ensures.chains,
      )
    ]
