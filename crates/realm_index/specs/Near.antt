-- What a search in clusters looks for. No public clause cites this file.
use Rattle.std.specs.Prelude.{◌≡◌, ℕ, ◌+◌, ◌&&◌, List, Bool, true, not, cond, Option, None, Some}
use Rattle.std.specs.List.{sum_by}
use Rattle.grid_base.specs.Segment.{GridSegment}
use Rattle.realm_index.specs.Aside.{is_aside}
use Rattle.realm_index.specs.Bounds.{Bounds, bounds_of, meets}
use Rattle.realm_index.specs.declared.near.Near.{Near}
use Rattle.realm_index.specs.declared.tree.Entry.{Entry}

-- whether there is no line, or the box doesn't lie off it
abbrev pub is_open : Option GridSegment → Bounds → Bool
is_open None b = true
is_open (Some s) b = not (is_aside s b)

-- what meets the box w
abbrev pub at_box : Bounds → Near
at_box w = record { bounds = w; line = None }

-- what meets the box of s and doesn't lie off its line
abbrev pub along_line : GridSegment → Near
along_line s = record { bounds = bounds_of s; line = Some s }

-- whether the box is one of those that are looked for
abbrev pub passes : Near → Bounds → Bool
passes n b = is_open n.line b && meets n.bounds b

-- what f gives of the key, where the box passes, and else nothing
abbrev pub if_passed : Near → (ℕ → ℕ) → Entry → ℕ
if_passed n f e = cond (passes n e.bounds) (f e.key) 0

-- the new list has the old keys and those of the entries whose boxes pass, in whichever order
abbrev pub AddsPassed : Near → List Entry → List ℕ → List ℕ → Type 0
AddsPassed n entries old new = (f : ℕ → ℕ) → sum_by f new ≡ sum_by f old + sum_by (if_passed n f) entries

-- none of the entries has a box that passes
abbrev pub PassesNone : Near → List Entry → Type 0
PassesNone n entries = (f : ℕ → ℕ) → sum_by (if_passed n f) entries ≡ 0
