-- The columns and rows in which pieces that reach a box stand, level by level. No public clause cites this file.
use Rattle.std.specs.Prelude.{◌≡◌, ◌⊎◌, ℕ, ◌+◌, ◌-◌, ◌/◌, ◌<◌, ◌≤◌, false, List, Contains}
use Rattle.realm_audit.specs.declared.bounds.Bounds.{Bounds}
use Rattle.realm_audit.specs.declared.shelves.Shelf.{Shelf}
use Rattle.realm_audit.specs.declared.window.Window.{Window}
use Rattle.realm_audit.specs.declared.shares.Share.{Share}
use Rattle.realm_audit.specs.Shelves.{reach_of, width_of, share_of, IsShelved, HasShare, MeetsBounds, ListsPieces}
use Rattle.realm_audit.specs.Ranges.{share_cmp, IsUpTo, LiesBehind}
use Rattle.std.specs.Ordering.{is_gt}
use Rattle.std.specs.declared.option.Option.{Option}
use Rattle.std.specs.declared.option.Option.TheVariants.{Some}
use Rattle.grid_base.specs.Segment.{GridSegment}

-- the window of the bounds on a level
abbrev pub window_at : Bounds → ℕ → Window
window_at b level = record {
  first = (b.left - reach_of level) / width_of level;
  last = b.right / width_of level;
  below = b.low - reach_of level;
  top = b.high + 1;
}

-- the shelf is in the window, on whose level it is
pub record IsWithin (w : Window) (q : Shelf) : Type 0 where
  pub from_first : w.first ≤ q.column
  pub to_last : q.column ≤ w.last
  pub above : w.below < q.row
  pub to_top : q.row ≤ w.top

-- the shelf is in the window, or just below it in one of its columns
pub record IsAtWindow (w : Window) (q : Shelf) : Type 0 where
  pub from_first : w.first ≤ q.column
  pub to_last : q.column ≤ w.last
  pub from_below : w.below ≤ q.row
  pub to_top : q.row ≤ w.top

-- the shelf is in the window of the bounds on its level
abbrev pub IsInWindow : Bounds → Shelf → Type 0
IsInWindow b q = IsWithin (window_at b q.level) q

-- no shelf from p up to next is in its window
abbrev pub NoneUpTo : Bounds → Shelf → Shelf → Type 0
NoneUpTo b p next = (q : Shelf) → IsUpTo p q → IsUpTo q next → IsInWindow b q → ⊥

-- a share from y on up to the place, of a piece that reaches the bounds, is of this piece, if there is one
abbrev pub PassesBut : Option GridSegment → Bounds → Share → Share → Type 0
PassesBut piece b y place = (s : GridSegment) (x : ℕ) → IsShelved (share_of s x)
    → is_gt (share_cmp y (share_of s x)) ≡ false → is_gt (share_cmp (share_of s x) place) ≡ false
    → MeetsBounds b s → piece ≡ Some s

-- the list has pieces of shares alone, and of those up to the place all that reach the bounds
pub record ListsUpTo (shares : List Share) (b : Bounds) (place : Share) (list : List GridSegment) : Type 0 where
  pub lists : ListsPieces shares list
  pub all : (s : GridSegment) (x : ℕ) → HasShare shares s x → is_gt (share_cmp (share_of s x) place) ≡ false
      → MeetsBounds b s → Contains list s

-- the list has pieces of shares alone, and all that reach the bounds
pub record ListsAll (shares : List Share) (b : Bounds) (list : List GridSegment) : Type 0 where
  pub lists : ListsPieces shares list
  pub all : (s : GridSegment) (x : ℕ) → HasShare shares s x → MeetsBounds b s → Contains list s

-- a share stands behind the one place, up to the other
pub record StandsBetween (shares : List Share) (at place : Share) : Type 0 where
  pub share : Share
  pub there : Contains shares share
  pub behind : LiesBehind at share
  pub up_to : is_gt (share_cmp share place) ≡ false

-- a search has come from the one place to the other, over a share at least
pub record ListsOn (shares : List Share) (b : Bounds) (at : Share) (list : List GridSegment) (place : Share) : Type 0 where
  pub listed : ListsUpTo shares b place list
  pub on : StandsBetween shares at place

-- the new list has what the old one had, and the piece where it reaches the bounds, and nothing else
pub record AddsReached (b : Bounds) (piece : GridSegment) (old new : List GridSegment) : Type 0 where
  pub stay : (s : GridSegment) → Contains old s → Contains new s
  pub own : MeetsBounds b piece → Contains new piece
  pub only : (s : GridSegment) → Contains new s → Contains old s ⊎ (s ≡ piece)
