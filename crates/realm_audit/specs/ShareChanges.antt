-- Lists of shares with more of them and with fewer. No public clause cites this file.
use Rattle.std.specs.Prelude.{◌⊎◌, ◌↔◌, ℕ, List, Contains}
use Rattle.grid_base.specs.Point.{GridPoint, IsBefore}
use Rattle.grid_base.specs.Segment.{GridSegment}
use Rattle.grid_base.specs.Drawing.{HasLink}
use Rattle.realm_audit.specs.Shelves.{HasShare}
use Rattle.realm_audit.specs.declared.shares.Share.{Share}

-- the new list has the shares of the old one, and each with P
abbrev pub HasMore : List Share → List Share → (GridSegment → ℕ → Type 0) → Type 0
HasMore old new P = (s : GridSegment) (x : ℕ) → HasShare new s x ↔ (HasShare old s x ⊎ P s x)

-- the new list has the shares of the old one but those with P
abbrev pub HasFewer : List Share → List Share → (GridSegment → ℕ → Type 0) → Type 0
HasFewer old new P = (s : GridSegment) (x : ℕ) → HasShare new s x ↔ (HasShare old s x × (P s x → ⊥))

-- s is a link of the path, its lesser end first
abbrev pub IsLinkOf : List GridPoint → GridSegment → Type 0
IsLinkOf path s = HasLink path s × IsBefore s.a s.b

-- the new list of pieces has those of the old one, and each with P
abbrev pub ListsAlso : List GridSegment → List GridSegment → (GridSegment → Type 0) → Type 0
ListsAlso old new P = (s : GridSegment) → Contains new s ↔ (Contains old s ⊎ P s)
