-- Shares, each a piece and an id: registries with more of them and with fewer, and lists of them.
use Rattle.std.specs.Prelude.{◌≡◌, ◌⊎◌, ◌↔◌, ℕ, List, Contains, Some}
use Rattle.grid_base.specs.Point.{GridPoint, IsBefore}
use Rattle.grid_base.specs.Segment.{GridSegment}
use Rattle.grid_base.specs.Drawing.{HasLink}
use Rattle.component_registry.specs.Registry.{Holdings, key_of, Owns}
use Rattle.realm_drawing.specs.declared.shares.Share.{Share}

-- the share of s and x
abbrev pub share_of : GridSegment → ℕ → Share
share_of s x = record { piece = s; id = x }

-- the registry has this share
abbrev pub Held : Holdings → Share → Type 0
Held r y = Owns r y.piece y.id

-- what is a piece before and after has one key in both
abbrev pub KeepsKeys : Holdings → Holdings → Type 0
KeepsKeys old new =
    (s : GridSegment) (k j : ℕ) → key_of old s ≡ Some k → key_of new s ≡ Some j → j ≡ k

-- the new registry has the shares of the old one and those of the list
abbrev pub HasMore : Holdings → Holdings → List Share → Type 0
HasMore old new list =
    (s : GridSegment) (x : ℕ) → Owns new s x ↔ (Owns old s x ⊎ Contains list (share_of s x))

-- the new registry has the shares of the old one without those of the list
abbrev pub HasFewer : Holdings → Holdings → List Share → Type 0
HasFewer old new list =
    (s : GridSegment) (x : ℕ) → Owns new s x ↔ (Owns old s x × ¬ Contains list (share_of s x))

-- ---- lists of shares
-- the new list has what the old one has, and each share with P
abbrev pub ListsAlso : List Share → List Share → (Share → Type 0) → Type 0
ListsAlso old new P = (y : Share) → Contains new y ↔ (Contains old y ⊎ P y)

-- with the path one of the owners gains y: it is of a link of the path, and isn't held yet
pub record IsGained (r : Holdings) (owners : List ℕ) (path : List GridPoint) (y : Share)
    : Type 0 where
  pub owner : Contains owners y.id
  pub link : HasLink path y.piece
  pub ordered : IsBefore y.piece.a y.piece.b
  pub new : ¬ Held r y

-- with the path one of the owners loses y: it is of the piece, which is no link of the path
pub record IsLost (owners : List ℕ) (piece : GridSegment) (path : List GridPoint) (y : Share)
    : Type 0 where
  pub of_piece : y.piece ≡ piece
  pub owner : Contains owners y.id
  pub no_link : ¬ HasLink path piece

-- y is the share of a link of the chain with this id
pub record IsOfChain (id : ℕ) (chain : List GridPoint) (y : Share) : Type 0 where
  pub has_id : y.id ≡ id
  pub link : HasLink chain y.piece
  pub ordered : IsBefore y.piece.a y.piece.b
