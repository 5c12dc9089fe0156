-- The two parts of a bent hook are taut paths, so there is one.
use Rattle.std.proofs.Common.{◌≡◌, ◌≢◌, List, [], ◌∷◌, ◌++◌, refl, sym, ap, ◌∙◌, arith, append_assoc}
use Rattle.std.proofs.lemmas.Int.{ints}
use Rattle.std.specs.List.{AllByRecursion}
use Rattle.grid_base.specs.Point.{GridPoint}
use Rattle.grid_base.specs.Segment.{GridSegment}
use Rattle.grid_base.specs.Sides.{Side, Left, On, Right, side}
use Rattle.hook_chain.specs.Close.{Close}
use Rattle.hook_chain.specs.Chains.{AllLinks}
use Rattle.hook_chain.specs.Hook.{InTriangle, IsOnward, IsBent}
use Rattle.hook_chain.proofs.Axes.{Axis, bend_above, bend_not_below}
use Rattle.hook_chain.proofs.TautPaths.{Frame, frame, frame_sound, IsBeyond, IsForth, BendsUp, IsBare, IsTaut, one_taut}
use Rattle.hook_chain.proofs.Paths.{vertices_map, links_map, links_both, bends_map, vertices_to, vertices_from, links_to, links_from}
use Rattle.hook_chain.proofs.Paths.{leads_on, IsForthAlong, IsWithin, links_within, rest_of}
use Rattle.hook_chain.proofs.Directions.{Follows, AllApart}

-- the frame of t along an axis that it follows, seen from the side of x
abbrev pub frame_of : GridSegment → Axis → GridPoint → Frame
frame_of t axis x = frame axis (side t.a t.b x) t.a t.b

-- the link from v to w is close to t
abbrev pub IsCloseLink : GridSegment → GridPoint → GridPoint → Type 0
IsCloseLink t v w = Close t (record { a = v; b = w })

-- the way from u by v to w bends to the side s
abbrev IsOnSide : Side → GridPoint → GridPoint → GridPoint → Type 0
IsOnSide s u v w = side u v w ≡ s

-- what is apart from a link has nothing under it, on either side
bare_of_apart : (s : Side) (axis : Axis) (t : GridSegment) (v w : GridPoint) → s ≢ On → AllApart t axis v w
    → IsBare (frame axis s t.a t.b) v w
bare_of_apart Left axis t v w off apart q from to beyond under = (apart q from to).over beyond under
bare_of_apart On axis t v w off apart q from to beyond under = off refl
bare_of_apart Right axis t v w off apart q from to beyond under = (apart q from to).under (omega (arith, ints)) (omega (arith, ints))

-- what holds of a whole bent hook
record IsForthAndBare (f : Frame) (path : List GridPoint) : Type 0 where
  forth : AllLinks (IsForth f) path
  beyond : AllByRecursion (IsBeyond f) path
  bare : AllLinks (IsBare f) path

forth_and_bare : (t : GridSegment) (axis : Axis) (x : GridPoint) (to from : List GridPoint) → Follows t axis → side t.a t.b x ≢ On
    → IsBent t x to from
    → IsForthAndBare (frame_of t axis x) (to ++ x ∷ from)
forth_and_bare t axis x to from follows off bent =
    let path = to ++ x ∷ from in
    let forth = links_map (IsOnward t) (IsForthAlong axis) follows.forth path bent.runs_forward in
    let within = links_within axis t.a t.b path (leads_on t.a x t.b to from bent.leads_to_x bent.leads_from_x) forth in
    let facts = links_both (λ v w. IsForthAlong axis v w × IsWithin axis t.a t.b v w) (IsCloseLink t) path
    (links_both (IsForthAlong axis) (IsWithin axis t.a t.b) path forth within) bent.no_point_between in
    record {
      forth = forth;
      beyond = vertices_map (InTriangle t.a t.b x) (IsBeyond (frame_of t axis x))
          (λ p inside. bend_not_below (side t.a t.b x) t.a t.b p off inside.first) path bent.all_in_triangle;
      bare = links_map (λ v w. (IsForthAlong axis v w × IsWithin axis t.a t.b v w) × IsCloseLink t v w) (IsBare (frame_of t axis x))
          (λ v w fact. bare_of_apart (side t.a t.b x) axis t v w off (follows.apart v w fact.0.0 fact.0.1 fact.1)) path facts;
    }

-- the part to x is taut
to_taut : (t : GridSegment) (axis : Axis) (x : GridPoint) (to from : List GridPoint) → Follows t axis → side t.a t.b x ≢ On
    → IsBent t x to from
    → IsTaut (frame_of t axis x) t.a x (to ++ x ∷ [])
to_taut t axis x to from follows off bent =
    let f = frame_of t axis x in
    let facts = forth_and_bare t axis x to from follows off bent in
    record {
      leads = bent.leads_to_x;
      onward = links_to (IsForth f) x to from facts.forth;
      bent = bends_map (IsOnSide (side t.a t.b x)) (BendsUp f) (λ u v w is. bend_above (side t.a t.b x) u v w off is)
          (to ++ x ∷ []) bent.bulges_before_x;
      beyond = vertices_to (IsBeyond f) x to from facts.beyond;
      bare = links_to (IsBare f) x to from facts.bare;
    }

-- and so is the part from x
from_taut : (t : GridSegment) (axis : Axis) (x : GridPoint) (to from : List GridPoint) → Follows t axis → side t.a t.b x ≢ On
    → IsBent t x to from
    → IsTaut (frame_of t axis x) x t.b (x ∷ from)
from_taut t axis x to from follows off bent =
    let f = frame_of t axis x in
    let facts = forth_and_bare t axis x to from follows off bent in
    record {
      leads = bent.leads_from_x;
      onward = links_from (IsForth f) x to from facts.forth;
      bent = bends_map (IsOnSide (side t.a t.b x)) (BendsUp f) (λ u v w is. bend_above (side t.a t.b x) u v w off is)
          (x ∷ from) bent.bulges_after_x;
      beyond = vertices_from (IsBeyond f) x to from facts.beyond;
      bare = links_from (IsBare f) x to from facts.bare;
    }

-- a path in two parts is one path where each part is
same_whole : (x : GridPoint) (to from other_to other_from : List GridPoint) → to ++ x ∷ [] ≡ other_to ++ x ∷ [] → x ∷ from ≡ x ∷ other_from
    → to ++ x ∷ from ≡ other_to ++ x ∷ other_from
unfolding rest_of
same_whole x to from other_to other_from first second =
    let same_rest : from ≡ other_from = ap rest_of second in
    sym (append_assoc to (x ∷ []) from) ∙ (λ i. first i ++ same_rest i) ∙ append_assoc other_to (x ∷ []) other_from

-- there is one bent hook
pub one_bent : (t : GridSegment) (axis : Axis) (x : GridPoint) (to from other_to other_from : List GridPoint) → Follows t axis
    → side t.a t.b x ≢ On
    → IsBent t x to from → IsBent t x other_to other_from → to ++ x ∷ from ≡ other_to ++ x ∷ other_from
one_bent t axis x to from other_to other_from follows off first second =
    same_whole x to from other_to other_from
    (one_taut (frame_of t axis x) (frame_sound axis (side t.a t.b x) t.a t.b) t.a x _ _ (to_taut t axis x to from follows off first)
    (to_taut t axis x other_to other_from follows off second))
    (one_taut (frame_of t axis x) (frame_sound axis (side t.a t.b x) t.a t.b) x t.b _ _ (from_taut t axis x to from follows off first)
    (from_taut t axis x other_to other_from follows off second))
