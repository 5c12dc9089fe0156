use Rattle.std.proofs.Common.{◌∙◌, sym, ap, subst, List}
use Rattle.std.specs.Prelude.{AllPairs}
use Rattle.grid_base.specs.Segment.{GridSegment, IsSegmentBefore}
use Rattle.grid_base.specs.Border.{AreNoded, IsEvenBorder}
use Rattle.rose_values.specs.Areas.{IsRegionWhere}
use Rattle.plane_classes.specs.Classes.{IsOuter}
use Rattle.plane_cells.specs.Rims.{rims}
use Rattle.plane_cells.specs.declared.classes.SideClasses.{SideClasses}
use Rattle.plane_cells.proofs.OfRealm.{of_realm, ascending_of, no_others}
use Rattle.segment_lists.proofs.Noding.{noded_part}
use Rattle.plane_cells.proofs.RimCounts.{rims_part, rims_ascend}
use Rattle.plane_cells.proofs.interiors.interior.Goals as goal

-- the lines are what the sweep asks for
pub find_numbers-requires-clause-realm : goal.find_numbers-requires-clause-realm
find_numbers-requires-clause-realm c =
    let b = c.segments-border in
    of_realm b.result.now b.result.now (subst AreNoded (sym b.ensures.segments) b.ensures.noded) (λ s there. there)
    (subst (AllPairs IsSegmentBefore) (sym b.ensures.segments) b.ensures.ascending) c.each_is_on_grid.ensures

pub find_numbers-requires-clause-ascending : goal.find_numbers-requires-clause-ascending
find_numbers-requires-clause-ascending c =
    let b = c.segments-border in
    ascending_of b.result.now (subst (AllPairs IsSegmentBefore) (sym b.ensures.segments) b.ensures.ascending) c.each_is_on_grid.ensures

pub find_numbers-requires-clause-others : goal.find_numbers-requires-clause-others
find_numbers-requires-clause-others c = no_others c.segments-border.result.now

-- the rims are the border of what isn't outer
pub new-requires-clause-ascending : goal.new-requires-clause-ascending
new-requires-clause-ascending c =
    let b = c.segments-border in
    let sides = c.in_ok-numbers.numbers.sides.items in
    subst (AllPairs IsSegmentBefore) (sym (c.in_ok-list.ensures ∙ ap (λ (n : List SideClasses). rims b.result.now n) c.deref.ensures.value))
    (rims_ascend b.result.now sides (subst (AllPairs IsSegmentBefore) (sym b.ensures.segments) b.ensures.ascending))

pub new-requires-clause-noded : goal.new-requires-clause-noded
new-requires-clause-noded c =
    let b = c.segments-border in
    let sides = c.in_ok-numbers.numbers.sides.items in
    subst AreNoded (sym (c.in_ok-list.ensures ∙ ap (λ (n : List SideClasses). rims b.result.now n) c.deref.ensures.value))
    (noded_part (rims b.result.now sides) b.result.now (rims_part b.result.now sides)
    (subst AreNoded (sym b.ensures.segments) b.ensures.noded))

pub new-requires-clause-even : goal.new-requires-clause-even
new-requires-clause-even c =
    subst IsEvenBorder (sym
    (c.in_ok-list.ensures ∙ ap (λ (n : List SideClasses). rims c.segments-border.result.now n) c.deref.ensures.value))
    c.in_ok-numbers.ensures.interior.even

pub returns : goal.returns
returns c =
    let b = c.segments-border in
    let sides = c.in_ok-numbers.numbers.sides.items in
    subst (IsRegionWhere c.args.lines.now (λ q. ¬ IsOuter c.args.lines.now q))
    (sym (c.new.ensures ∙ c.in_ok-list.ensures ∙ ap (λ (n : List SideClasses). rims b.result.now n) c.deref.ensures.value))
    (subst (λ (U : List GridSegment). IsRegionWhere U (λ q. ¬ IsOuter U q) (rims b.result.now sides)) b.ensures.segments (record {
      of_these = rims_part b.result.now sides;
      even = c.in_ok-numbers.ensures.interior.even;
      places = c.in_ok-numbers.ensures.interior.places;
    }))
