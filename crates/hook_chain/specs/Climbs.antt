-- Ways that climb against a line. A way is some columns across and some rows up. No public clause cites
-- this file.
use Rattle.std.specs.Prelude.{◌≡◌, ℕ, ◌+◌, ◌*◌, ◌<◌, ◌≤◌}
use Rattle.grid_base.specs.Segment.{GridSegment}

-- the way of b across and a up climbs: it gains more than margin / dx against a line of slope dy / dx
abbrev pub Climbs : ℕ → ℕ → ℕ → ℕ → ℕ → Type 0
Climbs dx dy margin b a = margin + dy * b < dx * a

-- each way steeper than r / q climbs
abbrev pub AllSteeperClimb : ℕ → ℕ → ℕ → ℕ → ℕ → Type 0
AllSteeperClimb dx dy margin q r = (b a : ℕ) → r * b < q * a → Climbs dx dy margin b a

-- each way steeper than r / q climbs that goes at most q across and r up
abbrev pub AllSteeperWithinClimb : ℕ → ℕ → ℕ → ℕ → ℕ → Type 0
AllSteeperWithinClimb dx dy margin q r =
    (b a : ℕ) → b ≤ q → a ≤ r → r * b < q * a → Climbs dx dy margin b a

-- s runs dx across and dy up, where each column is raised by slant rows above the one before it
pub record IsRaised (slant : ℕ) (s : GridSegment) (dx dy : ℕ) : Type 0 where
  pub across : s.b.x ≡ s.a.x + dx
  pub up : s.b.y + slant * dx ≡ s.a.y + dy
