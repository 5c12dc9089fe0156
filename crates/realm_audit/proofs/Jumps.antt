-- This file shows that a search jumps over no share of a piece that reaches the box, but over those of the piece just found.
use Rattle.std.proofs.Common.{◌≡◌, false, ap, sym, subst, ◌∙◌, Option, Some}
use Rattle.std.specs.Ordering.{is_gt}
use Rattle.grid_base.specs.Segment.{GridSegment}
use Rattle.realm_audit.specs.Shelves.{shelf_of, share_of}
use Rattle.realm_audit.specs.Ranges.{shelf_cmp}
use Rattle.realm_audit.specs.Windows.{NoneUpTo, PassesBut}
use Rattle.realm_audit.specs.declared.bounds.Bounds.{Bounds}
use Rattle.realm_audit.specs.declared.shelves.Shelf.{Shelf}
use Rattle.realm_audit.specs.declared.shares.Share.{Share}
use Rattle.realm_audit.proofs.ShareOrder.{up_to, shelf_not_behind, of_piece}
use Rattle.realm_audit.proofs.Windows.{meets_in_window}

-- to a place at that shelf
pub passes_to_shelf : (piece : Option GridSegment) (b : Bounds) (y place : Share) (next : Shelf) → place.shelf ≡ next
    → NoneUpTo b y.shelf next → PassesBut piece b y place
passes_to_shelf piece b y place next is none s x at from to reaches =
    let to_place = subst (λ (q : Shelf). is_gt (shelf_cmp (shelf_of s) q) ≡ false) is (shelf_not_behind (share_of s x) place to) in
    absurd (none (shelf_of s) (up_to y.shelf (shelf_of s) (shelf_not_behind y (share_of s x) from))
    (up_to (shelf_of s) next to_place) (meets_in_window b s x at reaches))

-- over the shares of one piece
pub passes_own_piece : (piece : Option GridSegment) (b : Bounds) (y place : Share) → piece ≡ Some y.piece
    → place.shelf ≡ y.shelf → place.piece ≡ y.piece → PassesBut piece b y place
passes_own_piece piece b y place is shelves pieces s x at from to reaches =
    is ∙ ap (λ (t : GridSegment). Some t) (sym (of_piece y place (share_of s x) shelves pieces from to).1)
