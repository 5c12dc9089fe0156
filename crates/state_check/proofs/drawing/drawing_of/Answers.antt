use Rattle.std.proofs.Common.{sym, ap, subst, ◌∙◌}
use Rattle.grid_base.specs.Drawing.{Drawing}
use Rattle.state_check.specs.Drawable.{drawing_with, IsDrawable}
use Rattle.state_check.proofs.drawing.drawing_of.Goals as goal

-- the points came to the originals
pub returns-in-Ok : goal.returns-in-Ok
returns-in-Ok c =
    let points = c.args.points.now in
    let is = c.in_ok-mark_all-in-Ok.ensures ∙ ap (λ (d : Drawing). drawing_with points d.originals) c.in-Ok.ensures.placed in (
      is,
      subst IsDrawable (sym is) (record {
        points_ascend = c.points_ascend.ensures.0 c.if-not-points_ascend.false;
        ids_rise = c.ids_rise.ensures.0 c.if-not-ids_rise.false;
        chains = c.in-Ok.ensures.valid;
      }),
    )
