-- This file shows that a hook of a piece that is close to an original is close to the original.
use Rattle.std.proofs.Common.{◌≡◌, ◌<◌, Bool, true, false, List, refl, sym, subst, ◌∙◌, arith, inl, inr}
use Rattle.grid_base.specs.Point.{GridPoint, gap, IsBefore, InBox}
use Rattle.grid_base.specs.Segment.{GridSegment, width, height, is_flat, exchanged, exchanged_point}
use Rattle.grid_base.specs.Crossing.{IsOn}
use Rattle.grid_base.proofs.Turns.{leftward, rightward, on_by}
use Rattle.grid_base.proofs.Signs.{three_ways}
use Rattle.segment_envelope.specs.Near.{Near}
use Rattle.segment_envelope.proofs.Sizes.{size_is}
use Rattle.segment_envelope.proofs.Diagonals.{rises_or_falls, rising_point, falling_point}
use Rattle.hook_chain.specs.Close.{Close}
use Rattle.hook_chain.specs.Chains.{AllLinks}
use Rattle.hook_chain.specs.Hook.{Hook}
use Rattle.hook_chain.proofs.Paths.{links_map}
use Rattle.hook_chain.proofs.BentPaths.{IsCloseLink}
use Rattle.hook_chain.proofs.Exchange.{way}
use Rattle.hook_chain.proofs.CloseParts.{CloseWhere, part_close, close_to_close, flat_is, steep_is}
use Rattle.chain_laws.proofs.SteepPieces.{IsReached, beside_rising, beside_falling, close_across}
use Rattle.chain_laws.proofs.HookVertices.{IsNearLink, hook_is_near}

-- ---- a diagonal
-- what is near a diagonal is on it
on_diagonal : (t : GridSegment) (p : GridPoint) → IsBefore t.a t.b → height t ≡ width t → Near t p → IsOn t p
on_diagonal t p ordered diagonal near =
    let box = near.box in
    let size = size_is t p in
    let step : gap (leftward t.a t.b p) (rightward t.a t.b p) < height t = omega (arith, near.near) in
    record {
      line = on_by t.a t.b p (elim (rises_or_falls t ordered (sym diagonal)) [
        | inl rising ↦
            let across = rising.across in
            let even = rising.even in
            let beside = beside_rising t p 0 (omega arith) (omega arith) box step in
            rising_point t p rising (omega (arith, beside.0, beside.1))
        | inr falling ↦
            let across = falling.across in
            let even = falling.even in
            let beside = beside_falling t p 0 (omega arith) (omega arith) box step in
            falling_point t p falling (omega (arith, beside.0, beside.1))
      ]);
      box = box;
    }

-- ---- links near a close piece
-- what is near a steep piece is within a step along the rows
reached : (t : GridSegment) (p : GridPoint) → width t < height t → Near t p → IsReached t p
reached t p steep near =
    let size = size_is t p in
    record { box = near.box; near = omega (arith, near.near) }

-- and what is near one that is wider than it is high, along the columns
reached_exchanged : (t : GridSegment) (p : GridPoint) → height t < width t → Near t p
    → IsReached (exchanged t) (exchanged_point p)
reached_exchanged t p flat near =
    let size = size_is t p in
    record { box = (near.box.1, near.box.0); near = omega (arith, near.near) }

-- a near link of a close piece is close to the original, whether the two are flat or steep
link_stays : (flat_o flat_t : Bool) (o t : GridSegment) (v w : GridPoint) → flat_o ≡ is_flat o → flat_t ≡ is_flat t
    → IsBefore o.a o.b → IsBefore t.a t.b → InBox o.a o.b t.a → InBox o.a o.b t.b → IsNearLink t v w → Close o t
    → Close o (way v w)
link_stays true true o t v w flat_o flat_t ordered_o ordered_t box_a box_b link close =
    close_to_close o t (way v w) (sym flat_o ∙ flat_t) ordered_t link.near_v.box link.near_w.box close link.close
link_stays false false o t v w steep_o steep_t ordered_o ordered_t box_a box_b link close =
    close_to_close o t (way v w) (sym steep_o ∙ steep_t) ordered_t link.near_v.box link.near_w.box close link.close
link_stays true false o t v w flat_o steep_t ordered_o ordered_t box_a box_b link close =
    let flat = flat_is o flat_o in
    let steep = steep_is t steep_t in
    let by_columns = close_across o t v w (λ same. omega arith) flat steep box_a box_b
    (subst (λ (flat : Bool). CloseWhere flat o t) (sym flat_o) close)
    (reached t v steep link.near_v) (reached t w steep link.near_w) in
    subst (λ (flat : Bool). CloseWhere flat o (way v w)) flat_o by_columns
link_stays false true o t v w steep_o flat_t ordered_o ordered_t box_a box_b link close =
    let steep = steep_is o steep_o in
    let flat = flat_is t flat_t in
    elim (three_ways (height t) (width t)) [
      | inl wide ↦
          let by_rows = close_across (exchanged o) (exchanged t) (exchanged_point v) (exchanged_point w)
          (λ same. omega arith) (omega arith) wide (box_a.1, box_a.0) (box_b.1, box_b.0)
          (subst (λ (flat : Bool). CloseWhere flat o t) (sym steep_o) close)
          (reached_exchanged t v wide link.near_v) (reached_exchanged t w wide link.near_w) in
          subst (λ (flat : Bool). CloseWhere flat o (way v w)) steep_o by_rows
      | inr rest ↦
          let diagonal : height t ≡ width t = omega arith in
          part_close o t v w (on_diagonal t v ordered_t diagonal link.near_v)
          (on_diagonal t w ordered_t diagonal link.near_w) link.apart close
    ]

-- each link of a hook of a close piece is close to the original
pub hook_stays_close : (o t : GridSegment) (x : GridPoint) (path : List GridPoint) → IsBefore o.a o.b → IsBefore t.a t.b
    → InBox o.a o.b t.a → InBox o.a o.b t.b → Near t x → Hook t x path → Close o t → AllLinks (IsCloseLink o) path
hook_stays_close o t x path ordered_o ordered_t box_a box_b near hook close =
    links_map (IsNearLink t) (IsCloseLink o)
    (λ v w link. link_stays (is_flat o) (is_flat t) o t v w refl refl ordered_o ordered_t box_a box_b link close) path
    (hook_is_near t x path ordered_t near hook)
