-- A drawing with a path in the place of a piece, in every chain that has it.
use Rattle.std.specs.Prelude.{◌+◌, ◌&&◌, if◌then◌else◌, List, [], ◌∷◌, ◌++◌, map, reverse}
use Rattle.grid_base.specs.Point.{GridPoint, is_point}
use Rattle.grid_base.specs.Segment.{GridSegment}
use Rattle.grid_base.specs.Drawing.{Drawing}
use Rattle.grid_base.specs.declared.original.Original.{Original}

-- the path without its last point
abbrev pub front : List GridPoint → List GridPoint
front [] = []
front (p ∷ []) = []
front (p ∷ q ∷ path) = p ∷ front (q ∷ path)

-- the chain with the path, which leads from t.a to t.b, in the place of each link that is t, in the chain's own order
abbrev pub redrawn : GridSegment → List GridPoint → List GridPoint → List GridPoint
redrawn t path [] = []
redrawn t path (v ∷ []) = v ∷ []
redrawn t path (v ∷ w ∷ chain) =
    (if is_point v t.a && is_point w t.b then front path
    else if is_point v t.b && is_point w t.a then front (reverse path)
    else v ∷ [])
    ++ redrawn t path (w ∷ chain)

abbrev pub redrawn_original : GridSegment → List GridPoint → Original → Original
redrawn_original t path o = record o { chain = redrawn t path o.chain }

-- the drawing with the path in the place of the piece t
abbrev pub redraw : GridSegment → List GridPoint → Drawing → Drawing
redraw t path d = record d { originals = map (redrawn_original t path) d.originals }

-- the way of the falling diagonal u round the lower left corner z of a cell that it crosses, without repeats
abbrev pub round_corner : GridSegment → GridPoint → List GridPoint
round_corner u z =
    let first : GridPoint = record { x = z.x; y = z.y + 1 } in
    let last : GridPoint = record { x = z.x + 1; y = z.y } in
    (if is_point u.a first then [] else u.a ∷ []) ++ first ∷ z ∷ last ∷ []
    ++ (if is_point u.b last then [] else u.b ∷ [])

-- the rising diagonal t, cut at z unless that is its end
abbrev pub cut_at : GridSegment → GridPoint → List GridPoint
cut_at t z = if is_point t.a z then t.a ∷ t.b ∷ [] else t.a ∷ z ∷ t.b ∷ []
