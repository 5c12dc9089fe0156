-- This file shows that the paths of a step may stand for its pieces, one beside the other, and lead to where it leads.
use Rattle.std.proofs.Common.{◌≡◌, ◌≢◌, ◌+◌, ◌<◌, List, [], ◌∷◌, map, Option, Some, None, refl, ap, sym, subst, ◌∙◌, inl, inr, arith}
use Rattle.grid_base.specs.Point.{GridPoint, IsBefore, point_at}
use Rattle.grid_base.specs.Segment.{GridSegment}
use Rattle.grid_base.specs.Sides.{Side, side}
use Rattle.grid_base.specs.Crossing.{IsOn, Inside, Cross}
use Rattle.grid_base.specs.MeetPoint.{IsCell, crossing_of}
use Rattle.grid_base.specs.Drawing.{Drawing}
use Rattle.grid_base.specs.declared.original.Original.{Original}
use Rattle.grid_base.specs.declared.kinds.Step.TheVariants.{Split, Meet, Corner}
use Rattle.grid_base.proofs.Ends.{columns_in_order}
use Rattle.grid_base.proofs.Crossings.{cross_differ}
use Rattle.grid_base.proofs.Turns.{on_is}
use Rattle.segment_envelope.specs.Near.{Near}
use Rattle.segment_envelope.proofs.MeetPoints.{meet_point_near}
use Rattle.segment_envelope.proofs.Sizes.{on_line_is_near}
use Rattle.hook_chain.specs.Hook.{Hook}
use Rattle.hook_chain.specs.Redrawing.{redraw, redrawn_original, round_corner, cut_at}
use Rattle.hook_chain.proofs.HookLaw.{hook_leads}
use Rattle.chain_laws.specs.declared.redrawing.Redrawing.{Redrawing}
use Rattle.chain_laws.specs.declared.redrawing.Redrawings.{Redrawings}
use Rattle.hook_chain.specs.Mending.{IsMending}
use Rattle.chain_laws.specs.Redraws.{IsRedrawingsOf, redrawn_drawing, IsPathFor, AreApart}
use Rattle.chain_laws.proofs.RedrawnChains.{redrawn_valid}
use Rattle.chain_laws.proofs.Corners.{cornered_valid, cut_is_hook}
use Rattle.chain_laws.proofs.CrossedCells.{AreOnDiagonals, corner_is_on}
use Rattle.chain_laws.proofs.Mendings.{inside_near}
use Rattle.chain_laws.proofs.PathSides.{StaysBeside, beside_lacks, hook_beside, round_beside, round_leads}

-- ---- the paths
-- a hook at a near point may stand for its piece
hook_path : (r : Redrawing) (x : GridPoint) → IsBefore r.piece.a r.piece.b → Near r.piece x → Hook r.piece x r.path
    → IsPathFor r
hook_path r x ordered near hook = record {
  ordered = ordered;
  leads = hook_leads r.piece x r.path hook;
  keeps = λ o chain. redrawn_valid o r.piece x r.path chain ordered near hook;
}

-- two pieces that cross are apart where the path of each stays on one side of it
apart : (first second : Redrawing) (s r : Side) → Cross first.piece second.piece → StaysBeside first.piece s first.path
    → StaysBeside second.piece r second.path → AreApart first second
apart first second s r cross on_first on_second = record {
  other = λ same. cross_differ first.piece second.piece cross (sym same);
  not_on_first = beside_lacks first.piece second.piece s first.path cross.first on_first;
  not_on_second = beside_lacks second.piece first.piece r second.path cross.second on_second;
}

-- ---- a piece, split at a point inside it
-- the redrawing alone
abbrev pub one : Redrawing → Redrawings
one r = record { first = r; second = None }

split_by : (p : GridPoint) (r : Redrawing) → IsBefore r.piece.a r.piece.b → Inside p r.piece → Hook r.piece p r.path
    → IsRedrawingsOf (Split p r.piece) (one r)
split_by p r ordered inside hook = record {
  sound = record { first = hook_path r p ordered (inside_near r.piece p ordered inside) hook; second = tt };
  pieces = λ s. (λ is. inl is, λ is. elim is [ inl same ↦ same | inr never ↦ absurd never ]);
  leads = λ d parts. (parts.0, parts.1, inside, r.path, hook, refl);
}

pub split_redrawings : (p : GridPoint) (t : GridSegment) (r : Redrawing) → r.piece ≡ t → IsBefore t.a t.b → Inside p t
    → Hook t p r.path → IsRedrawingsOf (Split p t) (one r)
split_redrawings p t r is =
    subst (λ (s : GridSegment). IsBefore s.a s.b → Inside p s → Hook s p r.path → IsRedrawingsOf (Split p s) (one r)) is
    (split_by p r)

-- ---- two pieces that cross
abbrev pub two : Redrawing → Redrawing → Redrawings
two first second = record { first = first; second = Some second }

map_twice : {X Y Z : Type 0} (f : X → Y) (g : Y → Z) (xs : List X) → map g (map f xs) ≡ map (λ x. g (f x)) xs
map_twice f g [] = refl
map_twice f g (x ∷ xs) = ap (λ l. g (f x) ∷ l) (map_twice f g xs)

-- to draw both paths at once is to draw them one after the other
pub both_drawn : (d : Drawing) (first second : Redrawing)
    → redrawn_drawing (two first second) d ≡ redraw second.piece second.path (redraw first.piece first.path d)
both_drawn d first second =
    ap (λ (l : List Original). record { points = d.points; originals = l })
    (sym (map_twice (redrawn_original first.piece first.path) (redrawn_original second.piece second.path) d.originals))

-- so it is with the redrawings of a step, of which there is a second
pub drawn_in_turn : (d : Drawing) (step : Redrawings) (r : Redrawing) → step.second ≡ Some r
    → redrawn_drawing step d ≡ redraw r.piece r.path (redraw step.first.piece step.first.path d)
drawn_in_turn d step r is =
    ap (λ (o : Option Redrawing). redrawn_drawing (record { first = step.first; second = o }) d) is ∙ both_drawn d step.first r

-- or none
pub drawn_alone : (d : Drawing) (step : Redrawings) → step.second ≡ None
    → redrawn_drawing step d ≡ redraw step.first.piece step.first.path d
drawn_alone d step is = ap (λ (o : Option Redrawing). redrawn_drawing (record { first = step.first; second = o }) d) is

met_by : (x : GridPoint) (first second : Redrawing) → IsBefore first.piece.a first.piece.b
    → IsBefore second.piece.a second.piece.b → IsMending (Meet first.piece second.piece x)
    → Hook first.piece x first.path → Hook second.piece x second.path
    → IsRedrawingsOf (Meet first.piece second.piece x) (two first second)
met_by x first second ordered_first ordered_second mending on_first on_second =
    let t = first.piece in
    let u = second.piece in
    let meets = mending.1 in
    let near = meet_point_near t u x ordered_first ordered_second meets in
    let are_apart = apart first second (side t.a t.b x) (side u.a u.b x) meets.cross
    (hook_beside t x first.path on_first) (hook_beside u x second.path on_second) in
    record {
      sound = record {
        first = hook_path first x ordered_first near.0 on_first;
        second = (hook_path second x ordered_second near.1 on_second, are_apart);
      };
      pieces = λ s. (λ is. is, λ is. is);
      leads = λ d parts. (
        parts.0,
        parts.1,
        mending.0,
        meets.cross,
        meets.at,
        first.path,
        second.path,
        on_first,
        on_second,
        both_drawn d first second,
      );
    }

pub met_redrawings : (t u : GridSegment) (x : GridPoint) (first second : Redrawing) → first.piece ≡ t → second.piece ≡ u
    → IsBefore t.a t.b → IsBefore u.a u.b → IsMending (Meet t u x) → Hook t x first.path → Hook u x second.path
    → IsRedrawingsOf (Meet t u x) (two first second)
met_redrawings t u x first second is_t is_u =
    subst (λ (s : GridSegment). IsBefore s.a s.b → IsBefore u.a u.b → IsMending (Meet s u x) → Hook s x first.path
    → Hook u x second.path → IsRedrawingsOf (Meet s u x) (two first second)) is_t
    (subst (λ (s : GridSegment). IsBefore first.piece.a first.piece.b → IsBefore s.a s.b → IsMending (Meet first.piece s x)
    → Hook first.piece x first.path → Hook s x second.path → IsRedrawingsOf (Meet first.piece s x) (two first second)) is_u
    (met_by x first second))

-- ---- two diagonals that cross at the centre of a cell
-- the lower left corner of the cell isn't the greater end of the one that has the upper right corner
not_greater_end : (t : GridSegment) (z : GridPoint) → IsBefore t.a t.b → IsOn t (point_at (z.x + 1) (z.y + 1)) → z ≢ t.b
not_greater_end t z ordered on same =
    let columns = columns_in_order t.a t.b ordered in
    let column = ap (λ (p : GridPoint). p.x) same in
    let box = on.box in
    absurd (omega arith)

-- the rising one is cut at the corner, and the falling one drawn round it
abbrev pub drawn_at_corner : GridSegment → GridSegment → GridPoint → Redrawings
drawn_at_corner t u z = two (record { piece = t; path = cut_at t z }) (record { piece = u; path = round_corner u z })

-- the corners of the cell are on the two
pub on_diagonals : (t u : GridSegment) (z : GridPoint) → IsBefore t.a t.b → IsBefore u.a u.b → IsMending (Corner t u)
    → IsCell (crossing_of t u) z → AreOnDiagonals t u z
on_diagonals t u z ordered_t ordered_u mending cell =
    corner_is_on t u z ordered_t mending.1 mending.2 ordered_u mending.3 mending.4 mending.0 cell

-- so the way round it stays in the box of u
pub cell_within : (t u : GridSegment) (z : GridPoint) → IsBefore t.a t.b → IsBefore u.a u.b → IsMending (Corner t u)
    → IsCell (crossing_of t u) z → (z.x < u.b.x) × (z.y < u.a.y)
cell_within t u z ordered_t ordered_u mending cell =
    let corners = on_diagonals t u z ordered_t ordered_u mending cell in
    let columns = columns_in_order u.a u.b ordered_u in
    let down = mending.4 in
    let first = corners.first.box in
    let last = corners.last.box in
    (omega arith, omega arith)

pub corner_redrawings : (t u : GridSegment) (z : GridPoint) → IsBefore t.a t.b → IsBefore u.a u.b → IsMending (Corner t u)
    → IsCell (crossing_of t u) z → IsRedrawingsOf (Corner t u) (drawn_at_corner t u z)
corner_redrawings t u z ordered_t ordered_u mending cell =
    let first : Redrawing = record { piece = t; path = cut_at t z } in
    let second : Redrawing = record { piece = u; path = round_corner u z } in
    let corners = on_diagonals t u z ordered_t ordered_u mending cell in
    let not_b = not_greater_end t z ordered_t corners.upper_right in
    let cut = cut_is_hook t z corners.lower_left not_b in
    let near = on_line_is_near t z ordered_t corners.lower_left.box (on_is t.a t.b z corners.lower_left.line) in
    let second_path : IsPathFor second = record {
      ordered = ordered_u;
      leads = round_leads u z;
      keeps = λ o chain. cornered_valid o u z chain ordered_u mending.3 mending.4 corners.first corners.last;
    } in
    let are_apart = apart first second (side t.a t.b z) (side u.a u.b z) mending.0 (hook_beside t z (cut_at t z) cut)
    (round_beside u z corners.first corners.last) in
    record {
      sound = record { first = hook_path first z ordered_t near cut; second = (second_path, are_apart) };
      pieces = λ s. (λ is. is, λ is. is);
      leads = λ d parts.
          (parts.0, parts.1, mending.0, mending.1, mending.2, mending.3, mending.4, z, cell, both_drawn d first second);
    }
