use Rattle.std.proofs.Common.{sym, subst}
use Rattle.grid_base.specs.Border.{AreNoded, IsEvenBorder}
use Rattle.rose_values.specs.Border.{IsBorder}
use Rattle.rose_predicates.proofs.answering.holds.Goals as goal

-- the segments of a region are a border
pub of_points_and_region-requires-clause-noded : goal.of_points_and_region-requires-clause-noded
of_points_and_region-requires-clause-noded c =
    let e = c.segments-in-P-R.ensures in
    subst AreNoded (sym e.segments) e.noded

pub of_points_and_region-requires-clause-even : goal.of_points_and_region-requires-clause-even
of_points_and_region-requires-clause-even c =
    let e = c.segments-in-P-R.ensures in
    subst IsEvenBorder (sym e.segments) e.even

pub of_lines_and_region-requires-clause-border : goal.of_lines_and_region-requires-clause-border
of_lines_and_region-requires-clause-border c =
    let e = c.segments-in-L-R-2.ensures in
    subst IsBorder (sym e.segments) (record { ascending = e.ascending; noded = e.noded; even = e.even })

pub of_regions-requires-clause-first : goal.of_regions-requires-clause-first
of_regions-requires-clause-first c =
    let e = c.segments-in-R-R.ensures in
    subst IsBorder (sym e.segments) (record { ascending = e.ascending; noded = e.noded; even = e.even })

pub of_regions-requires-clause-second : goal.of_regions-requires-clause-second
of_regions-requires-clause-second c =
    let e = c.segments-in-R-R-2.ensures in
    subst IsBorder (sym e.segments) (record { ascending = e.ascending; noded = e.noded; even = e.even })

-- what the lists are answered is answered of the values
pub returns-in-P-P-clause-holds : goal.returns-in-P-P-clause-holds
returns-in-P-P-clause-holds c =
    rw (c.in-P-P.is-0, c.in-P-P.is-1)
    (rw (c.points.ensures.points, c.points-in-P-P.ensures.points) at c.of_points.ensures.holds)

pub returns-in-P-L-clause-holds : goal.returns-in-P-L-clause-holds
returns-in-P-L-clause-holds c =
    rw (c.in-P-L.is-0, c.in-P-L.is-1)
    (rw (c.points-in-P-L.ensures.points, c.segments.ensures.segments) at c.of_points_and_lines.ensures.holds)

pub returns-in-P-R-clause-holds : goal.returns-in-P-R-clause-holds
returns-in-P-R-clause-holds c =
    rw (c.in-P-R.is-0, c.in-P-R.is-1)
    (rw (c.points-in-P-R.ensures.points, c.segments-in-P-R.ensures.segments) at c.of_points_and_region.ensures.holds)

pub returns-in-L-L-clause-holds : goal.returns-in-L-L-clause-holds
returns-in-L-L-clause-holds c =
    rw (c.in-L-L.is-0, c.in-L-L.is-1)
    (rw (c.segments-in-L-L.ensures.segments, c.segments-in-L-L-2.ensures.segments) at c.of_lines.ensures.holds)

pub returns-in-L-R-clause-holds : goal.returns-in-L-R-clause-holds
returns-in-L-R-clause-holds c =
    rw (c.in-L-R.is-0, c.in-L-R.is-1)
    (rw (c.segments-in-L-R.ensures.segments, c.segments-in-L-R-2.ensures.segments) at c.of_lines_and_region.ensures.holds)

pub returns-in-R-R-clause-holds : goal.returns-in-R-R-clause-holds
returns-in-R-R-clause-holds c =
    rw (c.in-R-R.is-0, c.in-R-R.is-1)
    (rw (c.segments-in-R-R.ensures.segments, c.segments-in-R-R-2.ensures.segments) at c.of_regions.ensures.holds)
