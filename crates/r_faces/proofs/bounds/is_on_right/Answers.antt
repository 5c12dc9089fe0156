use Rattle.std.proofs.Common.{◌≡◌, ℕ, ◌<◌, List, length, Contains, AllPairs, sym, subst, ◌∙◌}
use Rattle.grid_base.specs.Point.{GridPoint}
use Rattle.grid_base.specs.Segment.{GridSegment, IsSegmentBefore, segment_of}
use Rattle.plane_cells.specs.Numbered.{numbered}
use Rattle.plane_cells.specs.declared.classes.SideClasses.{SideClasses}
use Rattle.class_borders.specs.ClassLinks.{class_rim}
use Rattle.class_borders.proofs.EvenRims.{rim_part}
use Rattle.r_faces.proofs.CycleRounds.{alone_at, IsHere, on_right, on_left, before_is}
use Rattle.r_faces.proofs.bounds.is_on_right.Goals as goal

-- the segment is one of the rim
pub place_of-requires-clause-there : goal.place_of-requires-clause-there
place_of-requires-clause-there c = subst (Contains c.args.rim.now) (sym c.in-Some.ensures.ends)
    (rim_part c.args.number c.args.rim.now c.args.classes.now _ c.requires.there)

-- where the segment is, and that the class is on one side of it
here : (R : List GridSegment) (N : List SideClasses) (n at : ℕ) (v w : GridPoint) (s : GridSegment) → AllPairs IsSegmentBefore R
    → length N ≡ length R → s ≡ segment_of v w → at < length R → numbered R at ≡ s → Contains (class_rim n R N) (segment_of v w)
    → IsHere R N n at v w
here R N n at v w s ascending even e within is there = record {
  even = even;
  within = within;
  is = is ∙ e;
  alone = alone_at R N n at (segment_of v w) ascending within (is ∙ e) there;
}

pub returns-in-Some-clause-right : goal.returns-in-Some-clause-right
returns-in-Some-clause-right c = on_right c.args.rim.now c.args.classes.now c.args.number c.place_of.result c.args.v c.args.w
    c.comes_before.result c.is_right.result
    (here c.args.rim.now c.args.classes.now c.args.number c.place_of.result c.args.v c.args.w c.in-Some.s c.requires.ascending
    c.requires.one_each c.in-Some.ensures.ends c.place_of.ensures.within c.place_of.ensures.place c.requires.there)
    (before_is c.args.v c.args.w c.comes_before.result c.comes_before.ensures) c.is_right.ensures

pub returns-in-Some-clause-left : goal.returns-in-Some-clause-left
returns-in-Some-clause-left c = on_left c.args.rim.now c.args.classes.now c.args.number c.place_of.result c.args.v c.args.w
    c.comes_before.result c.is_right.result
    (here c.args.rim.now c.args.classes.now c.args.number c.place_of.result c.args.v c.args.w c.in-Some.s c.requires.ascending
    c.requires.one_each c.in-Some.ensures.ends c.place_of.ensures.within c.place_of.ensures.place c.requires.there)
    (before_is c.args.v c.args.w c.comes_before.result c.comes_before.ensures) c.is_right.ensures
