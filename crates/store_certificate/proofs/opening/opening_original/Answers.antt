use Rattle.std.proofs.Common.{◌≤◌, List, length, sym, subst, ◌∙◌}
use Rattle.std.specs.List.{AllByRecursion}
use Rattle.grid_base.specs.Point.{GridPoint, OnGrid}
use Rattle.store_certificate.proofs.Openings.{two_points}
use Rattle.store_certificate.proofs.opening.opening_original.Goals as goal

-- its chain leads from the lesser end to the greater, by two points at least
pub returns-clause-line : goal.returns-clause-line
returns-clause-line c =
    let o = c.args.o.now in
    let copy = c.new.ensures ∙ c.in_ok-points.ensures.same ∙ c.points.ensures in
    let two = two_points o.a o.b o.chain c.requires.chain.ends c.requires.chain.leads in (
      c.is_id.ensures,
      subst (λ (l : List GridPoint). 2 ≤ length l) (sym copy) two,
      subst (AllByRecursion OnGrid) (sym c.new.ensures) c.in_ok-points.ensures.fits.1,
    )
