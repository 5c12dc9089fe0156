-- What keeps two segments from being of one realm.
use Rattle.std.specs.Prelude.{◌⊎◌}
use Rattle.grid_base.specs.Segment.{GridSegment}
use Rattle.grid_base.specs.Crossing.{Inside, Cross}

-- t crosses s, or has an end inside it
abbrev pub Disturbs : GridSegment → GridSegment → Type 0
Disturbs s t = Cross s t ⊎ (Inside t.a s ⊎ Inside t.b s)
