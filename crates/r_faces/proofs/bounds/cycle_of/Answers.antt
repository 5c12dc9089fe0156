use Rattle.std.proofs.Common.{◌≡◌, List, [], ◌∷◌, length, get_or, Contains, sym, ap, subst, ◌∙◌}
use Rattle.std.proofs.lemmas.List.Elements.{Contains-get_or, All-head}
use Rattle.grid_base.specs.Point.{GridPoint}
use Rattle.grid_base.specs.Segment.{GridSegment, segment_of}
use Rattle.grid_base.specs.Border.{IsEvenBorder}
use Rattle.rose_values.specs.Border.{AreSegmentsAscending}
use Rattle.r_cycles.specs.Cycles.{IsCycle, CutsIntoCycles, link}
use Rattle.plane_cells.specs.Numbered.{nowhere}
use Rattle.plane_cells.proofs.OfRealm.{of_realm}
use Rattle.class_borders.proofs.EvenRims.{rim_part, rim_ascends, rim_is_even}
use Rattle.class_borders.proofs.OneCycles.{along_border}
use Rattle.r_faces.specs.Rounds.{IsRound}
use Rattle.r_faces.proofs.CycleRounds.{between, goes_along_class, round_of, if_three, one_is, first_link}
use Rattle.r_faces.proofs.bounds.cycle_of.Goals as goal

-- the part is a border by itself
pub cycles-requires-clause-ascending : goal.cycles-requires-clause-ascending
cycles-requires-clause-ascending c = subst AreSegmentsAscending (sym c.requires.part)
    (rim_ascends c.args.number c.args.rim.now c.args.classes.now c.requires.ascending)

pub cycles-requires-clause-even : goal.cycles-requires-clause-even
cycles-requires-clause-even c = subst IsEvenBorder (sym c.requires.part)
    (rim_is_even c.args.rim.now c.args.classes.now c.args.number
    (of_realm c.args.rim.now c.args.rim.now c.requires.noded (λ s there. there) c.requires.ascending c.each_is_on_grid.ensures)
    c.requires.classes)

-- and lies between two classes
pub one_cycle_between_classes-requires-clause-part : goal.one_cycle_between_classes-requires-clause-part
one_cycle_between_classes-requires-clause-part c = λ s there. rim_part c.args.number c.args.rim.now c.args.classes.now s
    (subst (λ (l : List GridSegment). Contains l s) c.requires.part there)

pub one_cycle_between_classes-requires-clause-between : goal.one_cycle_between_classes-requires-clause-between
one_cycle_between_classes-requires-clause-between c =
    let R = c.args.rim.now in
    let N = c.args.classes.now in
    let s = get_or c.args.part.now 0 nowhere in
    let first = Contains-get_or c.args.part.now 0 nowhere c.requires.some in
    let b = between R N c.requires.face.0 c.args.number s c.requires.classes c.requires.face.2 c.requires.face.1
    (subst (λ (l : List GridSegment). Contains l s) c.requires.part first) in
    (b.0, b.1, λ s there. b.2 s (subst (λ (l : List GridSegment). Contains l s) c.requires.part there))

-- the first link of the cycle leads along a segment of the part
pub is_on_right-forward-requires-clause-there : goal.is_on_right-forward-requires-clause-there
is_on_right-forward-requires-clause-there c =
    let cycle = c.points-cycle.result.now in
    let found = c.in_ok-found.found.items in
    let same : cycle ≡ c.index.result.now = c.points-cycle.ensures in
    let one = one_is found c.index.result.now
    (ap (λ (l : List (List GridPoint)). length l) (sym c.deref.ensures.value) ∙ c.one_cycle_between_classes.ensures) c.index.ensures in
    let cut = subst (λ (l : List (List GridPoint)). CutsIntoCycles c.args.part.now l) one c.in_ok-found.ensures in
    let is_cycle = All-head IsCycle c.index.result.now [] cut.are_cycles in
    let first = first_link c.index.result.now c.index-cycle-0.result c.index-cycle-1.result is_cycle
    (subst (λ (l : List GridPoint). c.index-cycle-0.result ≡ get_or l 0 c.index-cycle-0.result) same c.index-cycle-0.is)
    (subst (λ (l : List GridPoint). c.index-cycle-1.result ≡ get_or l 1 c.index-cycle-1.result) same c.index-cycle-1.is) in
    subst (λ (l : List GridSegment). Contains l (segment_of c.index-cycle-0.result c.index-cycle-1.result)) c.requires.part
    (along_border c.args.part.now c.index.result.now [] (link c.index-cycle-0.result c.index-cycle-1.result) cut first)

-- the cycle goes with the links of the class, or against them, as its first link does
pub returns : goal.returns
returns c =
    let R = c.args.rim.now in
    let N = c.args.classes.now in
    let n = c.args.number in
    let realm = of_realm R R c.requires.noded (λ s there. there) c.requires.ascending c.each_is_on_grid.ensures in
    let cycle = c.points-cycle.result.now in
    let found = c.in_ok-found.found.items in
    let same : cycle ≡ c.index.result.now = c.points-cycle.ensures in
    let one = one_is found c.index.result.now
    (ap (λ (l : List (List GridPoint)). length l) (sym c.deref.ensures.value) ∙ c.one_cycle_between_classes.ensures) c.index.ensures
    ∙ ap (λ (l : List GridPoint). l ∷ []) (sym same) in
    let cut = subst (λ (l : List (List GridPoint)). CutsIntoCycles c.args.part.now l) one c.in_ok-found.ensures in
    let cut_rim = subst (λ (l : List GridSegment). CutsIntoCycles l (cycle ∷ [])) c.requires.part cut in
    let is_cycle = All-head IsCycle cycle [] cut.are_cycles in
    let goes = goes_along_class R N n cycle c.requires.classes.one_each cut_rim in
    let first = first_link cycle c.index-cycle-0.result c.index-cycle-1.result is_cycle c.index-cycle-0.is c.index-cycle-1.is in
    if_three _ _ _ _ _ (IsRound R N n) c.turned.result
    (λ t turn least have. round_of R N n cycle t c.is_on_right-forward.result c.index-cycle-0.result c.index-cycle-1.result realm
    c.requires.classes is_cycle goes first c.is_on_right-forward.ensures.right c.is_on_right-forward.ensures.left turn least have)
    c.turned.ensures.turned c.turned.ensures.begins_least c.turned.ensures.links
