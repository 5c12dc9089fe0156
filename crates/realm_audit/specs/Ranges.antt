-- How shares compare, and what of a list of them lies between two. No public clause cites this file.
use Rattle.std.specs.Prelude.{◌≡◌, ℕ, ◌≤◌, List, map}
use Rattle.std.specs.List.{filter}
use Rattle.std.specs.declared.cmp.Ordering.{Ordering}
use Rattle.std.specs.declared.cmp.Ordering.TheVariants.{Less}
use Rattle.std.specs.declared.ops.Bound.{Bound}
use Rattle.std.specs.declared.ops.Bound.TheVariants.{Included}
use Rattle.std.specs.Ordering.{ordering_then, nat_cmp}
use Rattle.std.specs.BTreeMap.Range.{range_contains}
use Rattle.grid_base.specs.Segment.{segment_cmp}
use Rattle.realm_audit.specs.declared.shelves.Shelf.{Shelf}
use Rattle.realm_audit.specs.declared.shares.Share.{Share}

-- shelves compare by level, column and row
abbrev pub shelf_cmp : Shelf → Shelf → Ordering
shelf_cmp p q =
    ordering_then (nat_cmp p.level q.level) (ordering_then (nat_cmp p.column q.column) (nat_cmp p.row q.row))

-- shares compare by shelf, piece and id
abbrev pub share_cmp : Share → Share → Ordering
share_cmp y z =
    ordering_then (shelf_cmp y.shelf z.shelf) (ordering_then (segment_cmp y.piece z.piece) (nat_cmp y.id z.id))

-- the shares of the list from the one up to the other
abbrev pub among : List Share → Bound Share → Bound Share → List Share
among keys lo hi = filter (range_contains share_cmp lo hi) keys

-- the ids of the shares from the one to the other, both counted
abbrev pub ids_among : List Share → Share → Share → List ℕ
ids_among keys first last = map (λ y. y.id) (among keys (Included first) (Included last))

-- z comes behind the place
abbrev pub LiesBehind : Share → Share → Type 0
LiesBehind at z = share_cmp at z ≡ Less

-- p isn't behind q: by level, then by column, then by row
pub record IsUpTo (p q : Shelf) : Type 0 where
  pub level : p.level ≤ q.level
  pub column : p.level ≡ q.level → p.column ≤ q.column
  pub row : p.level ≡ q.level → p.column ≡ q.column → p.row ≤ q.row
