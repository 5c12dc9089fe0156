-- This file shows that an end whose column is before that of a place, and whose sheared column is behind it, tells a side.
use Rattle.std.proofs.Common.{ℕ, ◌+◌, ◌*◌, ◌<◌, ◌≤◌}
use Rattle.std.proofs.Common.{pos, ◌+ℤ◌, ◌*ℤ◌, ◌<ℤ◌, ◌≤ℤ◌, arith}
use Rattle.std.proofs.lemmas.Int.{ints}
use borrow.Author.Differences.{up, down}
use Rattle.grid_base.specs.Point.{GridPoint}
use Rattle.grid_base.specs.Segment.{GridSegment}
use Rattle.grid_base.proofs.Turns.{times, times_le}
use Rattle.grid_base.specs.Plane.{Place, side_number_at}
use Rattle.plane_classes.proofs.Heights.{height_is}

-- ---- an end in the lower wedge at q is above nothing of s, and one in the upper wedge below it
abbrev pub IsLower : ℕ → Place → GridPoint → Type 0
IsLower n q v = (q.x <ℤ pos (v.x * q.w)) × (pos ((n * v.x + v.y) * q.w) ≤ℤ (pos n *ℤ q.x +ℤ q.y))

abbrev pub IsUpper : ℕ → Place → GridPoint → Type 0
IsUpper n q v = (pos (v.x * q.w) ≤ℤ q.x) × ((pos n *ℤ q.x +ℤ q.y) <ℤ pos ((n * v.x + v.y) * q.w))

pub lower_a : (n : ℕ) (s : GridSegment) (q : Place) → s.a.x ≤ s.b.x → n * s.a.x + s.a.y < n * s.b.x + s.b.y → IsLower n q s.a
    → pos 0 <ℤ side_number_at s q
lower_a n s q o c h =
    let t1 = times_le s.a.x s.b.x (n * (s.a.x * q.w + down q.x) + s.a.y * q.w + down q.y) (n * up q.x + up q.y) o
    (omega (arith, ints, h.1)) in
    let t2 = times (n * s.a.x + s.a.y) (n * s.b.x + s.b.y) (up q.x) (s.a.x * q.w + down q.x) c (omega (arith, ints, h.0)) in
    omega (arith, ints, height_is s q)

pub lower_b : (n : ℕ) (s : GridSegment) (q : Place) → s.a.x ≤ s.b.x → n * s.a.x + s.a.y < n * s.b.x + s.b.y → IsLower n q s.b
    → pos 0 <ℤ side_number_at s q
lower_b n s q o c h =
    let t1 = times_le s.a.x s.b.x (n * (s.b.x * q.w + down q.x) + s.b.y * q.w + down q.y) (n * up q.x + up q.y) o
    (omega (arith, ints, h.1)) in
    let t2 = times (n * s.a.x + s.a.y) (n * s.b.x + s.b.y) (up q.x) (s.b.x * q.w + down q.x) c (omega (arith, ints, h.0)) in
    omega (arith, ints, height_is s q)

pub upper_a : (n : ℕ) (s : GridSegment) (q : Place) → s.a.x < s.b.x → n * s.a.x + s.a.y < n * s.b.x + s.b.y → IsUpper n q s.a
    → side_number_at s q <ℤ pos 0
upper_a n s q o c h =
    let t1 = times s.a.x s.b.x (n * up q.x + up q.y) (n * (s.a.x * q.w + down q.x) + s.a.y * q.w + down q.y) o
    (omega (arith, ints, h.1)) in
    let t2 = times_le (n * s.a.x + s.a.y) (n * s.b.x + s.b.y) (s.a.x * q.w + down q.x) (up q.x) (omega arith)
    (omega (arith, ints, h.0)) in
    omega (arith, ints, height_is s q)

pub upper_b : (n : ℕ) (s : GridSegment) (q : Place) → s.a.x < s.b.x → n * s.a.x + s.a.y < n * s.b.x + s.b.y → IsUpper n q s.b
    → side_number_at s q <ℤ pos 0
upper_b n s q o c h =
    let t1 = times s.a.x s.b.x (n * up q.x + up q.y) (n * (s.b.x * q.w + down q.x) + s.b.y * q.w + down q.y) o
    (omega (arith, ints, h.1)) in
    let t2 = times_le (n * s.a.x + s.a.y) (n * s.b.x + s.b.y) (s.b.x * q.w + down q.x) (up q.x) (omega arith)
    (omega (arith, ints, h.0)) in
    omega (arith, ints, height_is s q)
