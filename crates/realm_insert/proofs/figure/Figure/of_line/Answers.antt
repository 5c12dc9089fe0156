use Rattle.std.proofs.Common.{All, sym, subst}
use Rattle.realm_insert.specs.Lines.{IsDrawable}
use Rattle.realm_insert.proofs.Drawable.{drawable}
use Rattle.realm_insert.proofs.figure.Figure.of_line.Goals as goal

-- both places are on the grid each time, and they are two
pub segments_between-requires : goal.segments_between-requires
segments_between-requires c = record {
  drawable = subst (All IsDrawable) (sym c.requires.ends) (drawable c.args.c.now c.requires.on_grid c.requires.apart);
}

pub segments_between-requires-in_default : goal.segments_between-requires-in_default
segments_between-requires-in_default c = record {
  drawable = subst (All IsDrawable) (sym c.requires.ends) (drawable c.args.c.now c.requires.on_grid c.requires.apart);
}
