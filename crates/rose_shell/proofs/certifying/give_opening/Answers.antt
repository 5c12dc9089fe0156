use Rattle.std.proofs.Common.{List, ◌++◌, map, ap, ◌∙◌}
use Rattle.grid_base.specs.declared.original.Original.{Original}
use Rattle.grid_base.specs.declared.point.Point.{Point}
use Rattle.realm_audit.specs.declared.item.Item.TheVariants as items
use Rattle.certificate_law.specs.Certificates.{chain_item}
use Rattle.rose_shell.proofs.GivenItems.{gave_then, gave_no_more, gave_same, gave_err}
use Rattle.rose_shell.proofs.certifying.give_opening.Goals as goal

-- a fault comes within the points
pub returns-in_err-give_points : goal.returns-in_err-give_points
returns-in_err-give_points g c =
    let left = map chain_item c.args.base.now.originals in
    gave_err c.from_residual.result c.from_residual.ensures.1
    (gave_same (ap (λ (l : List Point). map (λ p. items.Point p) l ++ left) c.items.ensures)
    (gave_no_more left c.in_err-give_points.ensures))

-- or the originals are given behind them, or begun
pub returns : goal.returns
returns g c =
    gave_same
    (ap (λ (l : List Point). map (λ p. items.Point p) l ++ map chain_item c.items-2.result.now) c.items.ensures
    ∙ ap (λ (l : List Original). map (λ p. items.Point p) c.args.base.now.points ++ map chain_item l) c.items-2.ensures)
    (gave_then c.in_ok-give_points.ensures c.give_originals.ensures)
