-- This file shows how shares compare: by level, column and row, then by piece, then by id; and what lies in ranges of them.
use Rattle.std.proofs.Common.{◌≡◌, ℕ, ◌≤◌, false, Ordering, Less, Equal, Greater, nat_cmp}
use Rattle.std.proofs.Common.{◌⊎◌, refl, sym, ap, subst, ◌∙◌, inl, inr, arith}
use Rattle.std.specs.Cmp.{IsTotalOrder}
use Rattle.std.specs.Ordering.{ordering_then, ordering_reverse, is_gt}
use Rattle.std.proofs.lemmas.Cmp.{nat_cmp_total, on_total, then_total, tied_itself}
use Rattle.std.proofs.lemmas.Bool.Decides.{nat_tests}
use Rattle.grid_base.specs.Segment.{GridSegment, segment_cmp}
use Rattle.grid_base.proofs.Orders.{segment_cmp-total, segment_cmp-Equal}
use Rattle.realm_audit.specs.Shelves.{shelf_of, share_of}
use Rattle.realm_audit.specs.Ranges.{shelf_cmp, share_cmp, IsUpTo}
use Rattle.realm_audit.specs.declared.shelves.Shelf.{Shelf}
use Rattle.realm_audit.specs.declared.shares.Share.{Share}

-- ---- how shelves and shares compare
pub shelf_cmp-total : IsTotalOrder shelf_cmp
shelf_cmp-total = then_total (on_total (λ p. p.level) nat_cmp_total)
    (then_total (on_total (λ p. p.column) nat_cmp_total) (on_total (λ p. p.row) nat_cmp_total))

pub share_cmp-total : IsTotalOrder share_cmp
share_cmp-total = then_total (on_total (λ y. y.shelf) shelf_cmp-total)
    (then_total (on_total (λ y. y.piece) segment_cmp-total) (on_total (λ y. y.id) nat_cmp_total))

-- ---- one share

then-Equal : (o r : Ordering) → ordering_then o r ≡ Equal → (o ≡ Equal) × (r ≡ Equal)
then-Equal Less r h = cc
then-Equal Equal r h = (refl, h)
then-Equal Greater r h = cc

nat-Equal : (m n : ℕ) → nat_cmp m n ≡ Equal → m ≡ n
nat-Equal m n h = grind (arith, nat_tests)

pub same_shelf : (p q : Shelf) → p.level ≡ q.level → p.column ≡ q.column → p.row ≡ q.row → p ≡ q
same_shelf p q levels columns rows =
    let to_level : p ≡ record p { level = q.level } = ap (λ (n : ℕ). record p { level = n }) levels in
    let to_column : record p { level = q.level } ≡ record p { level = q.level; column = q.column } =
    ap (λ (n : ℕ). record p { level = q.level; column = n }) columns in
    let to_row : record p { level = q.level; column = q.column } ≡ q =
    ap (λ (n : ℕ). record p { level = q.level; column = q.column; row = n }) rows in
    to_level ∙ to_column ∙ to_row

pub shelf_exact : (p q : Shelf) → shelf_cmp p q ≡ Equal → p ≡ q
shelf_exact p q tie =
    let first = then-Equal (nat_cmp p.level q.level) (ordering_then (nat_cmp p.column q.column) (nat_cmp p.row q.row)) tie in
    let second = then-Equal (nat_cmp p.column q.column) (nat_cmp p.row q.row) first.1 in
    same_shelf p q (nat-Equal p.level q.level first.0) (nat-Equal p.column q.column second.0) (nat-Equal p.row q.row second.1)

same_share : (y z : Share) → y.shelf ≡ z.shelf → y.piece ≡ z.piece → y.id ≡ z.id → y ≡ z
same_share y z shelves pieces ids =
    let to_shelf : y ≡ record y { shelf = z.shelf } = ap (λ (p : Shelf). record y { shelf = p }) shelves in
    let to_piece : record y { shelf = z.shelf } ≡ record y { shelf = z.shelf; piece = z.piece } =
    ap (λ (s : GridSegment). record y { shelf = z.shelf; piece = s }) pieces in
    let to_id : record y { shelf = z.shelf; piece = z.piece } ≡ z =
    ap (λ (n : ℕ). record y { shelf = z.shelf; piece = z.piece; id = n }) ids in
    to_shelf ∙ to_piece ∙ to_id

-- only one share ties with a share
pub share_exact : (y z : Share) → share_cmp y z ≡ Equal → y ≡ z
share_exact y z tie =
    let first = then-Equal (shelf_cmp y.shelf z.shelf) (ordering_then (segment_cmp y.piece z.piece) (nat_cmp y.id z.id)) tie in
    let second = then-Equal (segment_cmp y.piece z.piece) (nat_cmp y.id z.id) first.1 in
    same_share y z (shelf_exact y.shelf z.shelf first.0) ((segment_cmp-Equal y.piece z.piece).0 second.0)
    (nat-Equal y.id z.id second.1)

-- a share that stands where it should is that of its piece and its id
pub shelved_is : (y : Share) → y.shelf ≡ shelf_of y.piece → y ≡ share_of y.piece y.id
shelved_is y is = ap (λ (p : Shelf). record y { shelf = p }) is

-- shares of pieces are one where the pieces are one and the ids are
pub share_of-same : (s t : GridSegment) (x w : ℕ) → share_of s x ≡ share_of t w → (s ≡ t) × (x ≡ w)
share_of-same s t x w same = (ap (λ (y : Share). y.piece) same, ap (λ (y : Share). y.id) same)

-- ---- what comes before what
-- what isn't behind isn't at a shelf behind
then-not_greater : (o r : Ordering) → is_gt (ordering_then o r) ≡ false → is_gt o ≡ false
then-not_greater Less r h = refl
then-not_greater Equal r h = refl
then-not_greater Greater r h = h

pub shelf_not_behind : (y z : Share) → is_gt (share_cmp y z) ≡ false → is_gt (shelf_cmp y.shelf z.shelf) ≡ false
shelf_not_behind y z h = then-not_greater _ _ h

-- what that means in numbers
pub up_to : (p q : Shelf) → is_gt (shelf_cmp p q) ≡ false → IsUpTo p q
up_to p q h = record {
  level = grind (arith, nat_tests);
  column = λ levels. grind (arith, nat_tests);
  row = λ levels columns. grind (arith, nat_tests);
}

-- a share isn't behind the place, or comes behind it
pub up_to_or_behind : (at z : Share) → (is_gt (share_cmp z at) ≡ false) ⊎ (share_cmp at z ≡ Less)
up_to_or_behind at z = by_case (share_cmp z at) (share_cmp at z) refl (share_cmp-total.antisymm at z)
  where
    by_case : (o r : Ordering) → share_cmp z at ≡ o → r ≡ ordering_reverse o → (is_gt o ≡ false) ⊎ (r ≡ Less)
    by_case Less r is e = inl refl
    by_case Equal r is e = inl refl
    by_case Greater r is e = inr e

-- what comes behind the place comes behind what isn't behind the place
pub less_through : (x y z : Share) → is_gt (share_cmp x y) ≡ false → share_cmp y z ≡ Less → share_cmp x z ≡ Less
less_through x y z first second = by_case (share_cmp x y) refl first
  where
    by_case : (o : Ordering) → share_cmp x y ≡ o → is_gt o ≡ false → share_cmp x z ≡ Less
    by_case Less is f = share_cmp-total.trans x y z is second
    by_case Equal is f = share_cmp-total.congr x y z is ∙ second
    by_case Greater is f = cc

-- ---- the shares of one piece
-- two keys are one where neither is behind the other
between : {K : Type 0} (R : K → K → Ordering) → IsTotalOrder R → (x y : K) → is_gt (R x y) ≡ false → is_gt (R y x) ≡ false
    → R x y ≡ Equal
between R total x y forth back = by_case (R x y) (R y x) forth back (total.antisymm x y)
  where
    by_case : (o r : Ordering) → is_gt o ≡ false → is_gt r ≡ false → o ≡ ordering_reverse r → o ≡ Equal
    by_case Less Less f b e = cc
    by_case Less Equal f b e = cc
    by_case Less Greater f b e = cc
    by_case Equal r f b e = refl
    by_case Greater r f b e = cc

then-second : (o r : Ordering) → o ≡ Equal → is_gt (ordering_then o r) ≡ false → is_gt r ≡ false
then-second o r tie h = subst (λ (p : Ordering). is_gt (ordering_then p r) ≡ false) tie h

-- what lies between two shares of one piece is a share of it
pub of_piece : (first last y : Share) → last.shelf ≡ first.shelf → last.piece ≡ first.piece
    → is_gt (share_cmp first y) ≡ false → is_gt (share_cmp y last) ≡ false → (y.shelf ≡ first.shelf) × (y.piece ≡ first.piece)
of_piece first last y shelves pieces from to =
    let to_shelf : is_gt (shelf_cmp y.shelf first.shelf) ≡ false =
    subst (λ (p : Shelf). is_gt (shelf_cmp y.shelf p) ≡ false) shelves (shelf_not_behind y last to) in
    let tie = between shelf_cmp shelf_cmp-total first.shelf y.shelf (shelf_not_behind first y from) to_shelf in
    let tie_back = between shelf_cmp shelf_cmp-total y.shelf first.shelf to_shelf (shelf_not_behind first y from) in
    let from_piece = then-not_greater (segment_cmp first.piece y.piece) (nat_cmp first.id y.id)
    (then-second (shelf_cmp first.shelf y.shelf) _ tie from) in
    let tie_last : shelf_cmp y.shelf last.shelf ≡ Equal =
    subst (λ (p : Shelf). shelf_cmp y.shelf p ≡ Equal) (sym shelves) tie_back in
    let to_piece : is_gt (segment_cmp y.piece first.piece) ≡ false =
    subst (λ (s : GridSegment). is_gt (segment_cmp y.piece s) ≡ false) pieces
    (then-not_greater (segment_cmp y.piece last.piece) (nat_cmp y.id last.id)
    (then-second (shelf_cmp y.shelf last.shelf) _ tie_last to)) in (
      sym (shelf_exact first.shelf y.shelf tie),
      sym ((segment_cmp-Equal first.piece y.piece).0
          (between segment_cmp segment_cmp-total first.piece y.piece from_piece to_piece)),
    )

-- and a share of the piece lies between two of them where its id does
pub in_order : (y z : Share) → y.shelf ≡ z.shelf → y.piece ≡ z.piece → y.id ≤ z.id → is_gt (share_cmp y z) ≡ false
in_order y z shelves pieces ids =
    let tie_shelf : shelf_cmp y.shelf z.shelf ≡ Equal =
    subst (λ (p : Shelf). shelf_cmp y.shelf p ≡ Equal) shelves (tied_itself shelf_cmp-total y.shelf) in
    let tie_piece : segment_cmp y.piece z.piece ≡ Equal =
    subst (λ (s : GridSegment). segment_cmp y.piece s ≡ Equal) pieces (tied_itself segment_cmp-total y.piece) in
    let by_id : is_gt (nat_cmp y.id z.id) ≡ false = grind (arith, nat_tests) in
    rw (tie_shelf, tie_piece) by_id
