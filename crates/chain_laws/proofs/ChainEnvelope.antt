-- This file shows that a valid chain stays in the envelope of its original, and that close links have near ends.
use Rattle.std.proofs.Common.{◌≡◌, ◌⊎◌, ℕ, ◌+◌, ◌*◌, ◌<◌, max, List, [], ◌∷◌}
use Rattle.std.proofs.Common.{refl, ap, sym, subst, arith, inl, inr}
use Rattle.grid_base.specs.Point.{GridPoint, gap, IsBefore, IsFromTo, InBox}
use Rattle.grid_base.specs.Segment.{GridSegment, width, height, IsEnd}
use Rattle.grid_base.specs.Crossing.{IsOn}
use Rattle.grid_base.proofs.Turns.{leftward, rightward}
use Rattle.grid_base.proofs.Crossings.{end_on_line}
use Rattle.grid_base.proofs.Ends.{same_point}
use Rattle.segment_envelope.specs.Near.{Near}
use Rattle.segment_envelope.specs.Envelope.{Env}
use Rattle.segment_envelope.proofs.Sizes.{size_is}
use Rattle.hook_chain.specs.Chains.{AllLinks}
use Rattle.hook_chain.specs.Close.{Close}
use Rattle.hook_chain.specs.ValidChain.{IsCorner, IsCloseChain, ValidChain}
use Rattle.hook_chain.proofs.Exchange.{way}
use Rattle.hook_chain.proofs.Paths.{links_map}
use Rattle.hook_chain.proofs.CloseNear.{near_by_close}
use Rattle.hook_chain.specs.StandingChains.{StaysInEnvelope, HasNearEnds}
use Rattle.chain_laws.proofs.Boxes.{IsInChain, links_in_chain}

-- ---- close links
-- an end of a segment is on it
end_is_on : (s : GridSegment) (p : GridPoint) → IsEnd p s → IsOn s p
end_is_on s p (inl is) = record { line = end_on_line s p (inl is); box = rw is (omega arith) }
end_is_on s p (inr is) = record { line = end_on_line s p (inr is); box = rw is (omega arith) }

-- a grid point on a close link in the box is near
on_close_is_near : (o : GridSegment) (v w p : GridPoint) → IsBefore o.a o.b → InBox o.a o.b p → IsOn (way v w) p
    → Close o (way v w) → Near o p
on_close_is_near o v w p ordered box on close =
    record { box = box; near = near_by_close o (way v w) p ordered box on close }

near_ends : (o : GridSegment) (v w : GridPoint) → IsBefore o.a o.b → InBox o.a o.b v → InBox o.a o.b w
    → Close o (way v w) → Near o v × Near o w
near_ends o v w ordered box_v box_w close = (
  on_close_is_near o v w v ordered box_v (end_is_on (way v w) v (inl refl)) close,
  on_close_is_near o v w w ordered box_w (end_is_on (way v w) w (inr refl)) close,
)

-- the ends of each close link of a valid chain are near its original
pub ends_are_near : (o : GridSegment) (chain : List GridPoint) → ValidChain o chain → HasNearEnds o chain
ends_are_near o chain valid =
    links_map (IsInChain o) (λ v w. Close o (way v w) → Near o v × Near o w)
    (λ v w inside. near_ends o v w valid.ends inside.first_in_box inside.second_in_box) chain
    (links_in_chain o chain valid.leads valid.monotone)

-- ---- the envelope
-- near points are in the envelope: the greater run is at most both together
pub near_in_envelope : (o : GridSegment) (p : GridPoint) → Near o p → Env o p
near_in_envelope o p near = record { box = near.box; close = omega (arith, near.near) }

-- a grid point on a link in a box is in the box
on_link_in_box : (o : GridSegment) (v w p : GridPoint) → IsInChain o v w → IsOn (way v w) p → InBox o.a o.b p
on_link_in_box o v w p box on = let range = on.box in omega (arith, box.first_in_box, box.second_in_box)

-- by how much the side numbers of the three points of a corner differ
record AreCornerSums (o : GridSegment) (u v w : GridPoint) : Type 0 where
  up_left : leftward o.a o.b u ≡ leftward o.a o.b v + o.b.x
  up_right : rightward o.a o.b u ≡ rightward o.a o.b v + o.a.x
  across_left : leftward o.a o.b w ≡ leftward o.a o.b v + o.a.y
  across_right : rightward o.a o.b w ≡ rightward o.a o.b v + o.b.y

corner_sums : (o : GridSegment) (u v w : GridPoint) → IsCorner o u v w → AreCornerSums o u v w
corner_sums o u v w corner =
    let up_b = ap (λ (n : ℕ). o.b.x * n) corner.down.1 in
    let up_a = ap (λ (n : ℕ). o.a.x * n) corner.down.1 in
    let column_b = ap (λ (n : ℕ). o.b.y * n) corner.down.0 in
    let column_a = ap (λ (n : ℕ). o.a.y * n) corner.down.0 in
    let across_b = ap (λ (n : ℕ). o.b.y * n) corner.right.0 in
    let across_a = ap (λ (n : ℕ). o.a.y * n) corner.right.0 in
    let row_b = ap (λ (n : ℕ). o.b.x * n) corner.right.1 in
    let row_a = ap (λ (n : ℕ). o.a.x * n) corner.right.1 in
    record { up_left = omega arith; up_right = omega arith; across_left = omega arith; across_right = omega arith }

-- the vertex of a corner is in the envelope: it is one row under one near point and one column before another, so its side
-- number is the width less than that of the one, and the height more or less than that of the other
vertex_in_envelope : (o : GridSegment) (u v w : GridPoint) → IsBefore o.a o.b → InBox o.a o.b v → IsCorner o u v w
    → Near o u → Near o w → Env o v
vertex_in_envelope o u v w ordered box corner near_u near_w =
    let sums = corner_sums o u v w corner in
    let size = λ (g : GridPoint). gap (leftward o.a o.b g) (rightward o.a o.b g) in
    let first : size u < max (width o) (height o) = rw (← size_is o u) near_u.near in
    let third : size w < max (width o) (height o) = rw (← size_is o w) near_w.near in
    let second : size v < width o + height o =
    omega (arith, sums.up_left, sums.up_right, sums.across_left, sums.across_right) in
    record { box = box; close = rw (size_is o v) second }

-- ---- the links of a corner
-- of two numbers next to each other, what lies from one to the other is one of them
pub next_numbers : (m n k : ℕ) → m ≡ n + 1 → IsFromTo m n k → (k ≡ m) ⊎ (k ≡ n)
next_numbers m n k next range = grind arith

-- the grid points on the first link are its ends
on_down : (o : GridSegment) (u v w p : GridPoint) → IsCorner o u v w → IsOn (way u v) p → IsEnd p (way u v)
on_down o u v w p corner on =
    let column = corner.down.0 in
    let range = on.box.0 in
    elim (next_numbers u.y v.y p.y corner.down.1 on.box.1) [
      | inl top ↦ inl (same_point p u (omega arith) top)
      | inr bottom ↦ inr (same_point p v (omega arith) bottom)
    ]

-- and so are those on the second
on_right : (o : GridSegment) (u v w p : GridPoint) → IsCorner o u v w → IsOn (way v w) p → IsEnd p (way v w)
on_right o u v w p corner on =
    let row = corner.right.1 in
    let range = on.box.1 in
    let across = on.box.0 in
    elim (next_numbers w.x v.x p.x corner.right.0 (omega arith)) [
      | inl last ↦ inr (same_point p w last (omega arith))
      | inr first ↦ inl (same_point p v first (omega arith))
    ]

-- ---- all links
-- each grid point on the link is in the envelope of o
abbrev IsLinkInEnvelope : GridSegment → GridPoint → GridPoint → Type 0
IsLinkInEnvelope o v w = (p : GridPoint) → IsOn (way v w) p → Env o p

close_link_in_envelope : (o : GridSegment) (v w : GridPoint) → IsBefore o.a o.b → IsInChain o v w → Close o (way v w)
    → IsLinkInEnvelope o v w
close_link_in_envelope o v w ordered box close = λ p on.
    near_in_envelope o p (on_close_is_near o v w p ordered (on_link_in_box o v w p box on) on close)

-- where both ends of a link are in the envelope, an end is
ends_in_envelope : (o : GridSegment) (v w p : GridPoint) → Env o v → Env o w → IsEnd p (way v w) → Env o p
ends_in_envelope o v w p first second (inl is) = subst (Env o) (sym is) first
ends_in_envelope o v w p first second (inr is) = subst (Env o) (sym is) second

-- the two links of a corner have no other grid points than their ends
corner_in_envelope : (o : GridSegment) (u v w : GridPoint) → IsBefore o.a o.b → IsInChain o u v → IsInChain o v w
    → IsCorner o u v w → IsLinkInEnvelope o u v × IsLinkInEnvelope o v w
corner_in_envelope o u v w ordered first second corner =
    let near = near_ends o u w ordered first.first_in_box second.second_in_box corner.diagonal in
    let at_u = near_in_envelope o u near.0 in
    let at_v = vertex_in_envelope o u v w ordered first.second_in_box corner near.0 near.1 in
    let at_w = near_in_envelope o w near.1 in (
      λ p on. ends_in_envelope o u v p at_u at_v (on_down o u v w p corner on),
      λ p on. ends_in_envelope o v w p at_v at_w (on_right o u v w p corner on),
    )

links_in_envelope : (o : GridSegment) (chain : List GridPoint) → IsBefore o.a o.b → AllLinks (IsInChain o) chain
    → IsCloseChain o chain → AllLinks (IsLinkInEnvelope o) chain
links_in_envelope o [] ordered boxes close = tt
links_in_envelope o (v ∷ []) ordered boxes close = tt
links_in_envelope o (v ∷ w ∷ []) ordered boxes close = (close_link_in_envelope o v w ordered boxes.0 close, tt)
links_in_envelope o (u ∷ v ∷ w ∷ chain) ordered boxes (inl link) = (
  close_link_in_envelope o u v ordered boxes.0 link.0,
  links_in_envelope o (v ∷ w ∷ chain) ordered boxes.1 link.1,
)
links_in_envelope o (u ∷ v ∷ w ∷ chain) ordered boxes (inr corner) =
    let both = corner_in_envelope o u v w ordered boxes.0 boxes.1.0 corner.0 in
    (both.0, (both.1, links_in_envelope o (w ∷ chain) ordered boxes.1.1 corner.1))

-- each grid point on a valid chain is in the envelope of its original
pub chain_in_envelope : (o : GridSegment) (chain : List GridPoint) → ValidChain o chain → StaysInEnvelope o chain
chain_in_envelope o chain valid =
    links_in_envelope o chain valid.ends (links_in_chain o chain valid.leads valid.monotone) valid.close
