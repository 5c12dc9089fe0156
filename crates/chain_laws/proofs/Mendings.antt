-- This file shows which step mends a crossing, and that a step is permitted where it mends and the drawing has its parts.
use Rattle.std.proofs.Common.{◌≡◌, ◌≢◌, ℕ, ◌+◌, ◌*◌, ◌%◌, ◌<◌, ◌-◌, Bool, false, IsTrue, None}
use Rattle.std.proofs.Common.{refl, ap, sym, ◌∙◌, arith, eq-eqb}
use Rattle.std.proofs.lemmas.Nat.{mod-mul-add}
use Rattle.grid_base.specs.Point.{GridPoint, IsBefore}
use Rattle.grid_base.specs.Segment.{GridSegment, IsSegmentBefore, is_diagonal}
use Rattle.grid_base.specs.Crossing.{Inside}
use Rattle.grid_base.specs.Places.{RationalPoint}
use Rattle.grid_base.specs.MeetPoint.{MeetPoint, IsCell, crossing_of, is_centre, meet_at}
use Rattle.grid_base.specs.Realm.Violation.{PointInside, TwoCross}
use Rattle.grid_base.specs.Drawing.{Drawing, HasViolation}
use Rattle.grid_base.specs.declared.kinds.Step.{Step}
use Rattle.grid_base.specs.declared.kinds.Step.TheVariants.{Split, Meet, Corner}
use Rattle.grid_base.proofs.Turns.{on_is}
use Rattle.grid_base.proofs.Crossings.{cross_differ}
use Rattle.grid_rational.specs.Meeting.{CrossAtCorner, IsCornerOf, IsCorner}
use Rattle.grid_rational.specs.declared.meeting.Meet.{Meet as Meeting}
use Rattle.grid_rational.specs.declared.meeting.Meet.TheVariants.{At, Corner as AtCorner, Apart}
use Rattle.grid_rational.proofs.Crossings.{crossing_is_place}
use Rattle.segment_envelope.specs.Near.{Near}
use Rattle.segment_envelope.proofs.MeetPoints.{meet_point_near}
use Rattle.segment_envelope.proofs.Sizes.{on_line_is_near}
use Rattle.hook_chain.specs.Redrawing.{redraw, round_corner, cut_at}
use Rattle.hook_chain.proofs.Existence.{has_hook}
use Rattle.hook_chain.specs.Steps.{Permitted}
use Rattle.hook_chain.specs.Mending.{IsPermitted, IsMending, HasParts, MendsCrossing}

-- ---- the step that mends a crossing
-- two pieces that cross are two, so the lesser is named first
pub mends_at : (first second : GridSegment) (x : GridPoint) → (first ≢ second → IsSegmentBefore first second)
    → MeetPoint first second x → MendsCrossing first second (Meet first second x)
mends_at first second x ordered meets = record {
  mending = (ordered (cross_differ first second meets.cross), meets);
  parts = λ d has_first has_second. (has_first, has_second);
}

-- the rising one is named first
pub mends_corner : (first second : GridSegment) (z : GridPoint) → IsCornerOf first second z false
    → MendsCrossing first second (Corner first second)
mends_corner first second z corner =
    let diagonal = corner.diagonal in
    let falling = corner.falling in
    record {
      mending = (corner.crossing.cross, diagonal.0, falling.0, diagonal.1, falling.1, z, corner.cell);
      parts = λ d has_first has_second. (has_first, has_second);
    }

-- what mends the crossing of u and t mends that of t and u
pub mends_swapped : (t u : GridSegment) (step : Step) → MendsCrossing u t step → MendsCrossing t u step
mends_swapped t u step mends = record { mending = mends.mending; parts = λ d has_t has_u. mends.parts d has_u has_t }

-- ---- two diagonals that cross at the centre of a cell have no meet point
-- half a step after z is what has half of w for its rest
half_rest : (at z w : ℕ) → 0 < w → 2 * at ≡ (2 * z + 1) * w → 2 * (at % w) ≡ w
half_rest at z w real half =
    let double : 2 * at ≡ 2 * (z * w) + w = omega arith in
    let parts : z * w + (at - z * w) ≡ at = omega arith in
    let rest : at % w ≡ at - z * w = ap (λ (n : ℕ). n % w) (sym parts) ∙ mod-mul-add z w (at - z * w) (omega arith) in
    omega arith

centre_by : (q : RationalPoint) (z : GridPoint) → 0 < q.w → IsCell q z → IsTrue (is_centre q)
centre_by q z real cell =
    let column = eq-eqb (2 * (q.x % q.w)) q.w (half_rest q.x z.x q.w real cell.0) in
    let row = eq-eqb (2 * (q.y % q.w)) q.w (half_rest q.y z.y q.w real cell.1) in
    rw (column, row) refl

pub corner_crosses : (t u : GridSegment) → IsMending (Corner t u) → CrossAtCorner t u
corner_crosses t u mending =
    let cross = mending.0 in
    let place = crossing_is_place t u cross in
    let centre = centre_by (crossing_of t u) mending.5 place.first.real mending.6 in
    record { cross = cross; none = none_by (crossing_of t u) centre mending.1 mending.3 }
  where
    none_by : (q : RationalPoint) → IsTrue (is_centre q) → IsTrue (is_diagonal t) → IsTrue (is_diagonal u)
        → meet_at t u q ≡ None
    none_by q centre first second = rw (centre, first, second) refl

-- an answer that names a corner has one
pub names_corner : (m : Meeting) → IsCorner m
    → ((z : GridPoint) (falling_first : Bool) → m ≡ AtCorner z falling_first → ⊥) → ⊥
names_corner (At x) named other = absurd named
names_corner (AtCorner z falling_first) named other = other z falling_first refl
names_corner Apart named other = absurd named

-- ---- when a step is permitted
pub inside_near : (t : GridSegment) (p : GridPoint) → IsBefore t.a t.b → Inside p t → Near t p
inside_near t p ordered inside =
    let on = inside.on in
    on_line_is_near t p ordered on.box (on_is t.a t.b p on.line)

-- a permitted step mends, and the drawing has its parts
pub permitted_mends : (d new : Drawing) (step : Step) → Permitted d step new → IsMending step × HasParts d step
permitted_mends d new (Split p t) permitted = (permitted.2, (permitted.0, permitted.1))
permitted_mends d new (Meet t u x) permitted =
    ((permitted.2, record { cross = permitted.3; at = permitted.4 }), (permitted.0, permitted.1))
permitted_mends d new (Corner t u) permitted =
    let mending : IsMending (Corner t u) =
    (permitted.2, permitted.3, permitted.4, permitted.5, permitted.6, permitted.7, permitted.8) in
    (mending, (permitted.0, permitted.1))

-- where it mends and the drawing has its parts there is a violation
pub mending_is_violation : (d : Drawing) (step : Step) → IsMending step → HasParts d step → HasViolation d
mending_is_violation d (Split p t) inside parts = PointInside p t parts.0 parts.1 inside
mending_is_violation d (Meet t u x) mending parts = TwoCross t u parts.0 parts.1 mending.1.cross
mending_is_violation d (Corner t u) mending parts = TwoCross t u parts.0 parts.1 mending.0

-- and it is permitted, since each piece has its hook
pub mending_is_permitted : (d : Drawing) (step : Step) → IsMending step → HasParts d step → IsPermitted d step
mending_is_permitted d (Split p t) inside parts =
    let hook = has_hook t p parts.1.0 (inside_near t p parts.1.0 inside) in
    (redraw t hook.chain d, (parts.0, parts.1, inside, hook.chain, hook.is.hook, refl))
mending_is_permitted d (Meet t u x) mending parts =
    let near = meet_point_near t u x parts.0.0 parts.1.0 mending.1 in
    let first = has_hook t x parts.0.0 near.0 in
    let second = has_hook u x parts.1.0 near.1 in (
      redraw u second.chain (redraw t first.chain d),
      (
        parts.0,
        parts.1,
        mending.0,
        mending.1.cross,
        mending.1.at,
        first.chain,
        second.chain,
        first.is.hook,
        second.is.hook,
        refl,
      ),
    )
mending_is_permitted d (Corner t u) mending parts =
    let z = mending.5 in (
      redraw u (round_corner u z) (redraw t (cut_at t z) d),
      (parts.0, parts.1, mending.0, mending.1, mending.2, mending.3, mending.4, z, mending.6, refl),
    )
