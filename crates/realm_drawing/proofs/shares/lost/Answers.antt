use Rattle.std.proofs.Common.{get_or, sym, ◌∙◌}
use Rattle.std.proofs.lemmas.Bool.{false≢true}
use Rattle.std.proofs.lemmas.List.{get_or_default}
use Rattle.grid_base.specs.Drawing.{HasLink}
use Rattle.realm_drawing.specs.Shares.{share_of}
use Rattle.realm_drawing.proofs.OwnerShares.{lists_next_owner, lists_lost}
use Rattle.realm_drawing.proofs.ShareLists.{lists_one_where}
use Rattle.realm_drawing.proofs.shares.lost.Goals as goal

-- the share of one owner more
pub loop-id-preserved : goal.loop-id-preserved
loop-id-preserved c =
    let piece = c.args.piece.now in
    let path = c.args.path.now in
    let ids = c.args.owners.now in
    let i = c.loop-id.id-index in
    let x = get_or ids i 0 in
    let gone : ¬ HasLink path piece = λ link. false≢true (sym c.if-has_link.false ∙ c.has_link.ensures.1 link) in
    let one = lists_one_where _ _ (share_of piece x) (¬ HasLink path piece) gone c.in_ok-push.ensures.items in
    let here = get_or_default ids i 0 x c.loop-id-test.true in
    lists_next_owner (λ y. ¬ HasLink path piece) _ _ _ piece ids i x c.loop-id-test.true here c.loop-id.invariant one

-- at the end those of all owners
pub returns : goal.returns
returns c = record {
  ok = lists_lost c.args.owners.now _ c.args.path.now c.loop-id.id-index _ _ c.loop-id-test.false c.loop-id.invariant;
}
