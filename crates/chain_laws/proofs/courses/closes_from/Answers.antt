use Rattle.std.proofs.Common.{true≢false, sym, ◌∙◌, inl, inr}
use Rattle.chain_laws.proofs.CloseChains.{closes_by, closes_by_link, closes_by_corner}
use Rattle.chain_laws.proofs.courses.closes_from.Goals as goal

-- a close link begins here
pub returns-then-begins_with_link : goal.returns-then-begins_with_link
returns-then-begins_with_link c =
    let link = c.begins_with_link.ensures.0 c.if-begins_with_link.true in (
      λ h. closes_by_link c.args.o.now c.args.points.now c.args.place link.1 (c.requires.here.0 link.0),
      λ chain. c.if-begins_with_link.true,
    )

-- none does, so a corner must
pub returns-else-begins_with_link : goal.returns-else-begins_with_link
returns-else-begins_with_link c =
    let o = c.args.o.now in
    let points = c.args.points.now in
    let i = c.args.place in (
      λ h.
          let corner = c.begins_with_corner.ensures.0 h in
          closes_by_corner o points i corner.1 (c.requires.next.0 corner.0),
      λ chain. elim (closes_by o points i c.requires.within chain) [
        | inl link ↦
            let begins = c.begins_with_link.ensures.1 (c.requires.here.1 link.1, link.0) in
            absurd (true≢false (sym begins ∙ c.if-begins_with_link.false))
        | inr corner ↦ c.begins_with_corner.ensures.1 (c.requires.next.1 corner.1, corner.0)
      ],
    )
