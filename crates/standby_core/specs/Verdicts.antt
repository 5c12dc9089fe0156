-- Which frames come next.
use Rattle.std.specs.Prelude.{◌≡◌, ◌<◌, ◌+◌, ℕ}
use Rattle.standby_core.specs.declared.frame.Frame.{Frame}
use Rattle.standby_core.specs.declared.frame.Frame.TheVariants.{Rec, Snap}

-- The frame comes next where so many changes are there: its first change has the next number, or it is a
-- state with more.
abbrev pub ComesNext : ℕ → Frame → Type 0
ComesNext have (Rec r) = r.number ≡ have + 1
ComesNext have (Snap s) = have < s.changes

-- it doesn't
abbrev pub IsPassedOver : ℕ → Frame → Type 0
IsPassedOver have f = ComesNext have f → ⊥
