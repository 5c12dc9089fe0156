-- The bytes of each reply. Numbers are written in decimal digits, and each line ends with a line feed.
use Rattle.std.specs.Prelude.{ℕ, Bool, true, false, List, [], ◌∷◌, ◌++◌, length, codes, Option, Some, None}
use Rattle.std.specs.List.{flat_map}
use Rattle.std.specs.Fmt.{decimal}
use Rattle.grid_base.specs.Point.{GridPoint}
use Rattle.grid_base.specs.Segment.{GridSegment}
use Rattle.grid_base.specs.declared.kinds.Step.{Step}
use Rattle.grid_base.specs.declared.kinds.Step.TheVariants.{Split, Meet, Corner}
use Rattle.rose_values.specs.declared.geometry.Geometry.{Geometry}
use Rattle.rose_values.specs.declared.geometry.Geometry.TheVariants.{P, L, R}
use Rattle.line_grammar.specs.Spelling.{space}
use Rattle.r_faces.specs.declared.face.Face.{Face}
use Rattle.rose_sets.specs.declared.pair.Pair.{Pair}
use Rattle.rose_sets.specs.declared.group.Group.{Group}
use Rattle.realm_insert.specs.declared.refusal.Refusal.{Refusal}
use Rattle.realm_insert.specs.declared.refusal.Refusal.TheVariants.{Range, Shape, Degenerate, NameTaken}
use Rattle.realm_insert.specs.declared.refusal.Refusal.TheVariants.{NoName, Types, NoId, NoPoint, NoTrace}
use Rattle.realm_insert.specs.declared.refusal.Refusal.TheVariants.{InUse, Ids, Changes, Full, Generations}

abbrev pub line_feed : List ℕ
line_feed = 10 ∷ []

-- ---- refusals

-- the word of a refusal
abbrev pub word_of : Refusal → List ℕ
word_of Range = codes "range"
word_of Shape = codes "shape"
word_of Degenerate = codes "degenerate"
word_of NameTaken = codes "name-taken"
word_of NoName = codes "no-name"
word_of Types = codes "types"
word_of NoId = codes "no-id"
word_of NoPoint = codes "no-point"
word_of NoTrace = codes "no-trace"
word_of InUse = codes "in-use"
word_of Ids = codes "ids"
word_of Changes = codes "changes"
word_of Full = codes "full"
word_of Generations = codes "generations"

-- the reply to a command that is refused
abbrev pub no_reply : Refusal → List ℕ
no_reply refusal = codes "no " ++ (word_of refusal ++ line_feed)

-- ---- points, segments and steps

-- the two numbers of a point
abbrev pub point_text : GridPoint → List ℕ
point_text p = decimal p.x ++ (space ++ decimal p.y)

-- the two numbers of a vertex, each behind a space
abbrev pub vertex_text : GridPoint → List ℕ
vertex_text p = space ++ point_text p

-- the four numbers of the ends of a segment, the lesser first
abbrev pub ends_text : GridSegment → List ℕ
ends_text s = point_text s.a ++ (space ++ point_text s.b)

-- the line of a point
abbrev pub point_line : GridPoint → List ℕ
point_line p = point_text p ++ line_feed

-- the line of a segment
abbrev pub segment_line : GridSegment → List ℕ
segment_line s = ends_text s ++ line_feed

-- the line of a step: what it mends, with its point and its pieces
abbrev pub step_line : Step → List ℕ
step_line (Split p t) = codes "split " ++ (point_text p ++ (space ++ (ends_text t ++ line_feed)))
step_line (Meet t u x) =
    codes "meet " ++ (ends_text t ++ (space ++ (ends_text u ++ (space ++ (point_text x ++ line_feed)))))
step_line (Corner t u) = codes "corner " ++ (ends_text t ++ (space ++ (ends_text u ++ line_feed)))

-- ---- queries

-- how many points and pieces a drawing has, and a line for each
abbrev pub realm_reply : List GridPoint → List GridSegment → List ℕ
realm_reply points pieces =
    codes "realm " ++ (decimal (length points) ++ (space ++ (decimal (length pieces) ++ (line_feed
    ++ (flat_map point_line points ++ flat_map segment_line pieces)))))

-- what they are, how many points there are, and a line for each in order
abbrev pub points_reply : List ℕ → List GridPoint → List ℕ
points_reply word points =
    word ++ (space ++ (decimal (length points) ++ (line_feed ++ flat_map point_line points)))

-- the same of segments
abbrev pub segments_reply : List ℕ → List GridSegment → List ℕ
segments_reply word segments =
    word ++ (space ++ (decimal (length segments) ++ (line_feed ++ flat_map segment_line segments)))

-- the vertices of a chain
abbrev pub chain_reply : List GridPoint → List ℕ
chain_reply points = points_reply (codes "chain") points

-- the points, the segments or the border of a value
abbrev pub value_reply : Geometry → List ℕ
value_reply (P points) = points_reply (codes "points") points
value_reply (L segments) = segments_reply (codes "lines") segments
value_reply (R border) = segments_reply (codes "regions") border

-- how many steps a trace has, and a line for each in order
abbrev pub trace_reply : List Step → List ℕ
trace_reply steps = codes "trace " ++ (decimal (length steps) ++ (line_feed ++ flat_map step_line steps))

-- a cycle on one line: its word and its vertices, with one space before each number
abbrev pub cycle_line : List ℕ → List GridPoint → List ℕ
cycle_line word cycle = word ++ (flat_map vertex_text cycle ++ line_feed)

-- the lines of a face: its outer cycle, and each of its holes
abbrev pub face_lines : Face → List ℕ
face_lines face = cycle_line (codes "outer") face.outer ++ flat_map (cycle_line (codes "hole")) face.holes

-- how many faces there are, and the lines of each in order
abbrev pub faces_reply : List Face → List ℕ
faces_reply faces = codes "faces " ++ (decimal (length faces) ++ (line_feed ++ flat_map face_lines faces))

-- how many entries a set has, and the lines of each in order
abbrev pub set_reply : {X : Type 0} → (X → List ℕ) → List X → List ℕ
set_reply lines entries = codes "set " ++ (decimal (length entries) ++ (line_feed ++ flat_map lines entries))

-- the parts of a value, each as `show` lists it
abbrev pub parts_reply : List Geometry → List ℕ
parts_reply parts = set_reply value_reply parts

-- the positions of two regions, from 1, and what they have in common
abbrev pub pair_lines : Pair → List ℕ
pair_lines pair =
    codes "pair " ++ (decimal pair.i ++ (space ++ (decimal pair.j ++ (line_feed ++ value_reply pair.g))))

abbrev pub pairs_reply : List Pair → List ℕ
pairs_reply pairs = set_reply pair_lines pairs

-- a key, and the sum of its values
abbrev pub group_lines : Group → List ℕ
group_lines group = codes "key " ++ (decimal group.key ++ (line_feed ++ value_reply group.g))

abbrev pub groups_reply : List Group → List ℕ
groups_reply groups = set_reply group_lines groups

-- whether a predicate is true
abbrev pub truth_reply : Bool → List ℕ
truth_reply true = codes "true" ++ line_feed
truth_reply false = codes "false" ++ line_feed

-- a number, or that there is none
abbrev pub number_reply : Option ℕ → List ℕ
number_reply None = codes "num none" ++ line_feed
number_reply (Some n) = codes "num " ++ (decimal n ++ line_feed)
