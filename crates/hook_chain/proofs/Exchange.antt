-- That the order in which the ends of a segment are named doesn't matter to its places, nor to what is close by columns.
use Rattle.std.proofs.Common.{◌≡◌, Bool, true, false, if◌then◌else◌, MatchBool, subst, sym}
use Rattle.grid_base.specs.Point.{GridPoint, is_before}
use Rattle.grid_base.specs.Segment.{GridSegment, segment_of, is_flat}
use Rattle.grid_base.specs.Places.{RationalPoint, IsPlace}
pub use Rattle.segment_envelope.proofs.Ways.{way, place_back}
use Rattle.hook_chain.specs.Close.{IsCloseUp, Close}
use Rattle.grid_base.specs.Segment.{exchanged, exchanged_point}

-- the same segment with its ends exchanged
abbrev pub reversed : GridSegment → GridSegment
reversed s = way s.b s.a

-- what is close by columns with the ends of both exchanged is close
pub close_by_reversed : (o p : GridSegment) → IsCloseUp (reversed o) (reversed p) → IsCloseUp o p
close_by_reversed o p close g r q of_o of_p = close g r q (place_back o.a o.b r of_o) (place_back p.a p.b q of_p)

-- the way, turned round where the test says no
abbrev turned_unless : Bool → GridPoint → GridPoint → GridSegment
turned_unless straight v w = if straight then way v w else way w v

place_of_turned : (straight : Bool) (v w : GridPoint) (q : RationalPoint) → IsPlace (turned_unless straight v w) q → IsPlace (way v w) q
place_of_turned true v w q place = place
place_of_turned false v w q place = place_back w v q place

turned_place : (straight : Bool) (v w : GridPoint) (q : RationalPoint) → IsPlace (way v w) q → IsPlace (turned_unless straight v w) q
turned_place true v w q place = place
turned_place false v w q place = place_back v w q place

-- what is close by columns with its ends in order is close with its ends as they are named
pub close_by_sorted : (a b v w : GridPoint) → IsCloseUp (segment_of a b) (segment_of v w) → IsCloseUp (way a b) (way v w)
close_by_sorted a b v w close g r q of_o of_p =
    close g r q (turned_place (is_before a b) a b r of_o) (turned_place (is_before v w) v w q of_p)

-- and the other way
pub sorted_by_close : (a b v w : GridPoint) → IsCloseUp (way a b) (way v w) → IsCloseUp (segment_of a b) (segment_of v w)
sorted_by_close a b v w close g r q of_o of_p =
    close g r q (place_of_turned (is_before a b) a b r of_o) (place_of_turned (is_before v w) v w q of_p)

-- ---- a steep original
-- what is close by rows, in the names of columns and with the ends in order
abbrev pub IsCloseAcross : GridSegment → GridSegment → Type 0
IsCloseAcross o p =
    IsCloseUp (segment_of (exchanged_point o.a) (exchanged_point o.b)) (segment_of (exchanged_point p.a) (exchanged_point p.b))

-- where o is steep, a piece is close where it is so by rows
pub close_by_rows : (o p : GridSegment) → false ≡ is_flat o → IsCloseAcross o p → Close o p
close_by_rows o p steep close =
    let by_rows = close_by_sorted (exchanged_point o.a) (exchanged_point o.b) (exchanged_point p.a) (exchanged_point p.b) close in
    subst (λ (flat : Bool). MatchBool flat (IsCloseUp o p) (IsCloseUp (exchanged o) (exchanged p))) steep by_rows

-- and only there
pub rows_by_close : (o p : GridSegment) → false ≡ is_flat o → Close o p → IsCloseAcross o p
rows_by_close o p steep close =
    let by_rows = subst (λ (flat : Bool). MatchBool flat (IsCloseUp o p) (IsCloseUp (exchanged o) (exchanged p))) (sym steep) close in
    sorted_by_close (exchanged_point o.a) (exchanged_point o.b) (exchanged_point p.a) (exchanged_point p.b) by_rows
