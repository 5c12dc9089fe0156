-- This file shows which pieces a search has listed, and that fewer shares are left behind the place at each turn.
use Rattle.std.proofs.Common.{◌≡◌, ◌<◌, ◌≤◌, Bool, true, false, not, ◌&&◌, cond, Ordering, Less, Equal, Greater, List, [], ◌∷◌, length, Contains, All}
use Rattle.std.proofs.Common.{refl, sym, ap, subst, inl, inr, arith, true≢false, Option, Some, None}
use Rattle.std.specs.Prelude.{⊤}
use Rattle.std.specs.Ordering.{is_gt, is_lt, ordering_reverse}
use Rattle.std.specs.List.{filter}
use Rattle.std.specs.BTreeMap.Range.{range_contains}
use Rattle.std.specs.declared.ops.Bound.TheVariants.{Excluded, Unbounded}
use Rattle.std.proofs.lemmas.List.Elements.{All-contains}
use Rattle.std.proofs.lemmas.Map.Views.{range_contains-from_IsInRange, IsInRange-from_range_contains}
use Rattle.grid_base.specs.Segment.{GridSegment}
use Rattle.grid_base.proofs.Elements.{Contains-nil, Contains-cases}
use Rattle.realm_audit.specs.Shelves.{shelf_of, share_of, IsShelved, HasShare, MeetsBounds}
use Rattle.realm_audit.specs.Ranges.{share_cmp, IsUpTo}
use Rattle.realm_audit.proofs.Behind.{shares_behind, NoneBehind, IsFirstBehind}
use Rattle.realm_audit.specs.Windows.{PassesBut, ListsUpTo, ListsAll, StandsBetween, AddsReached}
use Rattle.realm_audit.specs.declared.bounds.Bounds.{Bounds}
use Rattle.realm_audit.specs.declared.shelves.Shelf.{Shelf}
use Rattle.realm_audit.specs.declared.shares.Share.{Share}
use Rattle.realm_audit.proofs.ShareOrder.{share_cmp-total, shelved_is, up_to, of_piece, shelf_not_behind, up_to_or_behind, less_through}

-- ---- what is listed
-- no share stands up to the first place
pub none_yet : (shares : List Share) (b : Bounds) (place : Share) → place.shelf ≡ record { level = 0; column = 0; row = 0 }
    → ListsUpTo shares b place []
none_yet shares b place is = record {
  lists = λ s has. absurd (Contains-nil s has);
  all = λ s x has to reaches.
      let from_start = subst (λ (q : Shelf). IsUpTo (shelf_of s) q) is
      (up_to (shelf_of s) place.shelf (shelf_not_behind (share_of s x) place to)) in
      let level = from_start.level in
      let at_level : (shelf_of s).level ≡ 0 = omega (arith, level) in
      let column = from_start.column at_level in
      let row = from_start.row at_level (omega (arith, column)) in
      absurd (omega (arith, row));
}

-- the piece is listed, if there is one and it reaches the bounds
abbrev pub IsListedWhere : Bounds → List GridSegment → Option GridSegment → Type 0
IsListedWhere b list None = ⊤
IsListedWhere b list (Some s) = MeetsBounds b s → Contains list s

-- the piece of a share of the list
shared_piece : (shares : List Share) (y : Share) → All IsShelved shares → Contains shares y → HasShare shares y.piece y.id
shared_piece shares y shelved there =
    subst (λ (z : Share). Contains shares z) (shelved_is y (All-contains IsShelved shares y shelved there).shelf_is) there

-- up to a share they are listed once its piece is, where it reaches the bounds
pub next_listed : (shares : List Share) (b : Bounds) (at y : Share) (list new : List GridSegment) → All IsShelved shares
    → IsFirstBehind shares at y → ListsUpTo shares b at list → AddsReached b y.piece list new → ListsUpTo shares b y new
next_listed shares b at y list new shelved first before adds = record {
  lists = λ s has. elim (adds.only s has) [
    | inl had ↦ before.lists s had
    | inr here ↦
        (y.id, subst (λ (t : GridSegment). HasShare shares t y.id) (sym here) (shared_piece shares y shelved first.there))
  ];
  all = λ s x has to reaches. elim (up_to_or_behind at (share_of s x)) [
    | inl early ↦ adds.stay s (before.all s x has early reaches)
    | inr late ↦
        let same = (of_piece y y (share_of s x) refl refl (first.first (share_of s x) late has) to).1 in
        subst (λ (t : GridSegment). Contains new t) (sym same)
        (adds.own (subst (λ (t : GridSegment). MeetsBounds b t) same reaches))
  ];
}

-- up to where the search jumps they are listed, where the piece is that it jumps over
pub jumped_listed : (shares : List Share) (b : Bounds) (at y place : Share) (piece : Option GridSegment) (list : List GridSegment)
    → All IsShelved shares → IsFirstBehind shares at y → PassesBut piece b y place → IsListedWhere b list piece
    → ListsUpTo shares b at list → ListsUpTo shares b place list
jumped_listed shares b at y place piece list shelved first passes own before = record {
  lists = before.lists;
  all = λ s x has to reaches. elim (up_to_or_behind at (share_of s x)) [
    | inl early ↦ before.all s x has early reaches
    | inr late ↦
        let is = passes s x (All-contains IsShelved shares (share_of s x) shelved has)
        (first.first (share_of s x) late has) to reaches in
        subst (λ (t : Option GridSegment). IsListedWhere b list t) is own reaches
  ];
}

-- where none is left behind the place, all are listed
pub all_listed : (shares : List Share) (b : Bounds) (at : Share) (list : List GridSegment) → NoneBehind shares at
    → ListsUpTo shares b at list → ListsAll shares b list
all_listed shares b at list none listed = record {
  lists = listed.lists;
  all = λ s x has reaches. elim (up_to_or_behind at (share_of s x)) [
    | inl early ↦ listed.all s x has early reaches
    | inr late ↦ absurd (none (share_of s x) late has)
  ];
}

-- ---- how many are left
-- a filter that lets through less leaves no more
fewer_pass : {X : Type 0} (p q : X → Bool) → ((x : X) → q x ≡ true → p x ≡ true) → (xs : List X)
    → length (filter q xs) ≤ length (filter p xs)
fewer_pass p q weaker [] = omega arith
fewer_pass {X} p q weaker (x ∷ xs) = by_case (p x) (q x) (weaker x) (fewer_pass p q weaker xs)
  where
    by_case : (a c : Bool) → (c ≡ true → a ≡ true) → length (filter q xs) ≤ length (filter p xs)
        → length (cond c (x ∷ filter q xs) (filter q xs)) ≤ length (cond a (x ∷ filter p xs) (filter p xs))
    by_case true true imp rest = omega (arith, rest)
    by_case true false imp rest = omega (arith, rest)
    by_case false true imp rest = absurd (true≢false (sym (imp refl)))
    by_case false false imp rest = rest

-- and one fewer where it holds back an element more
one_fewer_passes : {X : Type 0} (p q : X → Bool) → ((x : X) → q x ≡ true → p x ≡ true) → (xs : List X) (y : X)
    → Contains xs y → p y ≡ true → q y ≡ false → length (filter q xs) < length (filter p xs)
one_fewer_passes p q weaker [] y has through held = absurd (Contains-nil y has)
one_fewer_passes {X} p q weaker (x ∷ xs) y has through held = elim (Contains-cases x xs y has) [
  | inl here ↦
      let at_p = subst (λ (z : X). p z ≡ true) (sym here) through in
      let at_q = subst (λ (z : X). q z ≡ false) (sym here) held in
      this (p x) (q x) at_p at_q (fewer_pass p q weaker xs)
  | inr later ↦ other (p x) (q x) (weaker x) (one_fewer_passes p q weaker xs y later through held)
]
  where
    this : (a c : Bool) → a ≡ true → c ≡ false → length (filter q xs) ≤ length (filter p xs)
        → length (cond c (x ∷ filter q xs) (filter q xs)) < length (cond a (x ∷ filter p xs) (filter p xs))
    this true false is_p is_q rest = omega (arith, rest)
    this true true is_p is_q rest = absurd (true≢false is_q)
    this false c is_p is_q rest = absurd (true≢false (sym is_p))

    other : (a c : Bool) → (c ≡ true → a ≡ true) → length (filter q xs) < length (filter p xs)
        → length (cond c (x ∷ filter q xs) (filter q xs)) < length (cond a (x ∷ filter p xs) (filter p xs))
    other true true imp rest = omega (arith, rest)
    other true false imp rest = omega (arith, rest)
    other false true imp rest = absurd (true≢false (sym (imp refl)))
    other false false imp rest = rest

-- fewer shares are left behind a place up to which there was a share more
pub fewer_left : (keys : List Share) (at place : Share) → StandsBetween keys at place
    → length (shares_behind keys place) < length (shares_behind keys at)
fewer_left keys at place on =
    let y = on.share in
    one_fewer_passes (range_contains share_cmp (Excluded at) Unbounded) (range_contains share_cmp (Excluded place) Unbounded)
    (λ z passes. test_of at z
    (share_cmp-total.trans at y z on.behind (less_through y place z on.up_to (of_test place z passes))))
    keys y on.there (test_of at y on.behind) (held_back (share_cmp y place) (share_cmp place y) on.up_to
    (share_cmp-total.antisymm place y))
  where
    test_of : (from z : Share) → share_cmp from z ≡ Less → range_contains share_cmp (Excluded from) Unbounded z ≡ true
    test_of from z less = range_contains-from_IsInRange share_cmp-total (Excluded from) Unbounded z (less, tt)

    of_test : (from z : Share) → range_contains share_cmp (Excluded from) Unbounded z ≡ true → share_cmp from z ≡ Less
    of_test from z passes = (IsInRange-from_range_contains share_cmp-total (Excluded from) Unbounded z passes).0

    held_back : (o r : Ordering) → is_gt o ≡ false → r ≡ ordering_reverse o → (is_lt r && not false) ≡ false
    held_back Less r f e = ap (λ (p : Ordering). is_lt p && not false) e
    held_back Equal r f e = ap (λ (p : Ordering). is_lt p && not false) e
    held_back Greater r f e = cc
