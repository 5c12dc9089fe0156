use Rattle.std.proofs.Common.{◌∙◌, ◌+◌, refl, sym, inl, inr, true≢false}
use Rattle.chain_laws.proofs.PathLinks.{link_more, link_from_take}
use Rattle.realm_drawing.proofs.shares.has_link.Goals as goal

-- the link from the point before to this one is a link of the path
pub returns-then-is_link : goal.returns-then-is_link
returns-then-is_link c =
    let path = c.args.path.now in
    let piece = c.args.piece.now in
    let v = c.index-path-i in
    let w = c.index-path-i-in-loop-i in
    let more = link_more path c.loop-i.i v.result w.result piece c.loop-i.auto.i c.loop-i-test.true v.is w.is in
    let here = c.is_link.ensures.0 c.if-is_link.true in
    (λ h. link_from_take (c.loop-i.i + 1) path piece (more.1 (inr here)), λ h. refl)

-- and where it isn't the piece, no link so far is
pub loop-i-preserved : goal.loop-i-preserved
loop-i-preserved c =
    let path = c.args.path.now in
    let piece = c.args.piece.now in
    let v = c.index-path-i in
    let w = c.index-path-i-in-loop-i in
    let more = link_more path c.loop-i.i v.result w.result piece c.loop-i.auto.i c.loop-i-test.true v.is w.is in
    λ link. elim (more.0 link) [
      | inl before ↦ c.loop-i.invariant before
      | inr here ↦ true≢false (sym (c.is_link.ensures.1 here) ∙ c.if-is_link.false)
    ]
