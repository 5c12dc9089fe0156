use Rattle.std.proofs.Common.{◌↔◌, List, Any, subst, sym}
use Rattle.grid_base.specs.Segment.{GridSegment}
use Rattle.realm_audit.specs.Clashes.{HasClash}
use Rattle.realm_audit.specs.Groups.{ClashesAmong}
use Rattle.realm_audit.proofs.GroupedPieces.{told_near, some_told}
use Rattle.realm_audit.proofs.fresh.some_clashes.Goals as goal

-- the pieces near tell it of each
pub returns : goal.returns
returns c =
    let points = c.args.explicit.now in
    let shares = c.args.shares.now in
    let near = c.in_ok-near.near.items in
    let b = c.args.bounds.now in
    let told = subst (λ (l : List GridSegment). Any (ClashesAmong points l) c.args.pieces.now ↔ Any (HasClash points shares) c.args.pieces.now)
    (sym c.as_slice.ensures.value)
    (some_told (ClashesAmong points near) (HasClash points shares) b
    (λ t around. told_near points shares near b t c.in_ok-near.ensures.shared c.in_ok-near.ensures.all c.in_ok-near.ensures.ordered around)
    c.args.pieces.now c.requires) in
    (λ yes. told.0 (c.some_clashes_among.ensures.0 yes), λ some. c.some_clashes_among.ensures.1 (told.1 some))
