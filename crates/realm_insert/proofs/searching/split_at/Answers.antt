use Rattle.realm_insert.proofs.FoundSteps.{split_is_permitted}
use Rattle.realm_insert.proofs.searching.split_at.Goals as goal

-- a point inside a piece splits it
pub returns-then-is_point : goal.returns-then-is_point
returns-then-is_point c =
    split_is_permitted c.args.drawing.now.drawing c.args.p.now c.args.t.now (c.is_point.ensures.0 c.if-is_point.true)
    c.requires.piece (c.is_inside.ensures.0 c.if-is_inside.true)
