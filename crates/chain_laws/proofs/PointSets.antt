-- This file shows which points a set has after a change, that its list ascends, and what of the list lies in a box.
use Rattle.std.proofs.Common.{◌≡◌, ◌⊎◌, ◌↔◌, ◌≤◌, ◌&&◌, Bool, true, false, not, nat_le, min, max, true≢false}
use Rattle.std.proofs.Common.{cond, List, [], ◌∷◌, ◌++◌, map, filter, Contains, AllPairs, IsTrue}
use Rattle.std.proofs.Common.{refl, sym, ap, subst, ◌∙◌, inl, inr, arith}
use Rattle.std.specs.BTreeMap.Range.{range_contains}
use Rattle.std.specs.declared.ops.Bound.TheVariants.{Included}
use Rattle.std.specs.Ordering.{is_gt}
use Rattle.std.specs.BTreeSet.{BTreeSet, IsOrdered, Updates, contains}
use Rattle.std.proofs.lemmas.Bool.Decides.{nat_tests}
use Rattle.std.proofs.lemmas.List.Elements.{filter-append}
use Rattle.std.proofs.lemmas.List.Kept.{AllPairs-filter}
use Rattle.std.proofs.lemmas.List.{append-nil, map-append}
use Rattle.std.proofs.lemmas.Map.Keys.{Less-from_sorted}
use Rattle.std.proofs.lemmas.Map.Views.{range_contains-from_IsInRange, btree_set_contains_iff}
use Rattle.grid_base.specs.Point.{GridPoint, point_at, InBox, IsBefore, point_cmp}
use Rattle.grid_base.proofs.Orders.{point_cmp-total, point_cmp-Less}
use Rattle.grid_base.proofs.Elements.{Contains-later, Contains-cases, Contains-nil}
use Rattle.chain_laws.proofs.Lookups.{point_exact, this_point_or_other, other_point_passed}
use Rattle.chain_laws.proofs.Elements.{Contains-head}

-- ---- the list of a set
-- it ascends
pub set_ascends : (s : BTreeSet GridPoint) → IsOrdered point_cmp s → AllPairs IsBefore s.keys
set_ascends s ordered = λ i j d before within.
    (point_cmp-Less _ _).0 (Less-from_sorted point_cmp s.keys i j d ordered before within)

-- a look-up finds its points
pub set_has : (s : BTreeSet GridPoint) (p : GridPoint) → IsTrue (contains point_cmp s p) ↔ Contains s.keys p
set_has s p = btree_set_contains_iff point_cmp-total point_exact s p

-- and no other
pub set_lacks : (s : BTreeSet GridPoint) (p : GridPoint) → IsTrue (not (contains point_cmp s p)) ↔ (Contains s.keys p → ⊥)
set_lacks s p = by_test (contains point_cmp s p) refl
  where
    by_test : (found : Bool) → contains point_cmp s p ≡ found → IsTrue (not found) ↔ (Contains s.keys p → ⊥)
    by_test true is = (λ no. cc, λ none. absurd (none ((set_has s p).0 is)))
    by_test false is = (λ no there. true≢false (sym ((set_has s p).1 there) ∙ is), λ none. refl)

-- ---- one change
-- p is put
pub put_members : (old new : BTreeSet GridPoint) (p : GridPoint) → Updates point_cmp old new p true → (q : GridPoint)
    → Contains new.keys q ↔ ((q ≡ p) ⊎ Contains old.keys q)
put_members old new p updates q =
    let before = set_has old q in
    let after = set_has new q in
    elim (this_point_or_other p q) [
      | inl same ↦
          let found = subst (λ r. contains point_cmp new r ≡ true) (sym same) updates.1 in
          (λ there. inl same, λ either. after.0 found)
      | inr other ↦
          let stays = updates.2 q (other_point_passed p q other) in (
            λ there. inr (before.0 (sym stays ∙ after.1 there)),
            λ either. elim either [ inl same ↦ absurd (other same) | inr was ↦ after.0 (stays ∙ before.1 was) ],
          )
    ]

-- p is taken out
pub take_members : (old new : BTreeSet GridPoint) (p : GridPoint) → Updates point_cmp old new p false → (q : GridPoint)
    → Contains new.keys q ↔ (Contains old.keys q × (q ≡ p → ⊥))
take_members old new p updates q =
    let before = set_has old q in
    let after = set_has new q in
    elim (this_point_or_other p q) [
      | inl same ↦
          let gone = subst (λ r. contains point_cmp new r ≡ false) (sym same) updates.1 in (
            λ there. absurd (true≢false (sym (after.1 there) ∙ gone)),
            λ both. absurd (both.1 same),
          )
      | inr other ↦
          let stays = updates.2 q (other_point_passed p q other) in (
            λ there. (before.0 (sym stays ∙ after.1 there), other),
            λ both. after.0 (stays ∙ before.1 both.0),
          )
    ]

-- ---- filters
-- what a filter leaves of a list with one more element in front
filter_more : {X : Type 0} (test : X → Bool) (y : X) (xs : List X) (x : X) (passes : Bool) → test y ≡ passes
    → Contains (filter test xs) x ↔ (Contains xs x × IsTrue (test x))
    → Contains (cond passes (y ∷ filter test xs) (filter test xs)) x ↔ (Contains (y ∷ xs) x × IsTrue (test x))
filter_more test y xs x true is rest = (
  λ there. elim (Contains-cases y (filter test xs) x there) [
    | inl first ↦ (Contains-head y xs x first, subst (λ z. IsTrue (test z)) first is)
    | inr later ↦ (Contains-later y xs x (rest.0 later).0, (rest.0 later).1)
  ],
  λ both. elim (Contains-cases y xs x both.0) [
    | inl first ↦ Contains-head y (filter test xs) x first
    | inr later ↦ Contains-later y (filter test xs) x (rest.1 (later, both.1))
  ],
)
filter_more test y xs x false is rest = (
  λ there. (Contains-later y xs x (rest.0 there).0, (rest.0 there).1),
  λ both. elim (Contains-cases y xs x both.0) [
    | inl first ↦ absurd (true≢false (sym both.1 ∙ subst (λ z. test z ≡ false) first is))
    | inr later ↦ rest.1 (later, both.1)
  ],
)

-- what a filter leaves is what passes
pub Contains-filter : {X : Type 0} (test : X → Bool) (xs : List X) (x : X)
    → Contains (filter test xs) x ↔ (Contains xs x × IsTrue (test x))
Contains-filter test [] x = (λ none. absurd (Contains-nil x none), λ both. absurd (Contains-nil x both.0))
Contains-filter test (y ∷ xs) x = filter_more test y xs x (test y) refl (Contains-filter test xs x)

-- what is left of a list stays where one more element doesn't pass
pub filter_skips : {X Y : Type 0} (test : Y → Bool) (shows : X → Y) (xs : List X) (x : X) (left : List Y)
    → left ≡ filter test (map shows xs) → test (shows x) ≡ false → left ≡ filter test (map shows (xs ++ x ∷ []))
filter_skips test shows xs x left is fails =
    let skipped : filter test (map shows (x ∷ [])) ≡ [] = ap (λ (b : Bool). cond b (shows x ∷ []) []) fails in
    let parts = filter-append test (map shows xs) (map shows (x ∷ [])) in
    is ∙ sym (append-nil (filter test (map shows xs))) ∙ ap (λ l. filter test (map shows xs) ++ l) (sym skipped) ∙ sym parts
    ∙ ap (filter test) (sym (map-append shows xs (x ∷ [])))

-- ---- boxes
-- whether p is in the box of v and w
abbrev pub is_in_box : GridPoint → GridPoint → GridPoint → Bool
is_in_box v w p =
    nat_le (min v.x w.x) p.x && nat_le p.x (max v.x w.x) && nat_le (min v.y w.y) p.y && nat_le p.y (max v.y w.y)

pub in_box_passes : (v w p : GridPoint) → IsTrue (is_in_box v w p) ↔ InBox v w p
in_box_passes v w p = (λ passes. grind (arith, nat_tests), λ inside. grind (arith, nat_tests))

-- what isn't in the box doesn't pass
pub out_of_box_fails : (v w p : GridPoint) → (InBox v w p → ⊥) → is_in_box v w p ≡ false
out_of_box_fails v w p outside = by_test (is_in_box v w p) refl
  where
    by_test : (passes : Bool) → is_in_box v w p ≡ passes → passes ≡ false
    by_test true is = absurd (outside ((in_box_passes v w p).0 is))
    by_test false is = refl

-- the least corner of the box, and the greatest, in the order of points
abbrev pub least_corner : GridPoint → GridPoint → GridPoint
least_corner v w = point_at v.x (min v.y w.y)

abbrev pub greatest_corner : GridPoint → GridPoint → GridPoint
greatest_corner v w = point_at w.x (max v.y w.y)

-- the points between the two
abbrev pub is_between_corners : GridPoint → GridPoint → GridPoint → Bool
is_between_corners v w p = range_contains point_cmp (Included (least_corner v w)) (Included (greatest_corner v w)) p

-- the box lies between its least and its greatest corner
pub box_between_corners : (v w p : GridPoint) → v.x ≤ w.x → InBox v w p → is_between_corners v w p ≡ true
box_between_corners v w p across inside =
    let from_least : is_gt (point_cmp (least_corner v w) p) ≡ false = grind (arith, nat_tests) in
    let to_greatest : is_gt (point_cmp p (greatest_corner v w)) ≡ false = grind (arith, nat_tests) in
    range_contains-from_IsInRange point_cmp-total (Included (least_corner v w)) (Included (greatest_corner v w)) p
    (from_least, to_greatest)

-- so what of the points between passes is what of all points is in the box
pub box_members : (v w : GridPoint) (points : List GridPoint) (p : GridPoint) → v.x ≤ w.x
    → Contains (filter (is_in_box v w) (filter (is_between_corners v w) points)) p ↔ (Contains points p × InBox v w p)
box_members v w points p across =
    let left = Contains-filter (is_in_box v w) (filter (is_between_corners v w) points) p in
    let between = Contains-filter (is_between_corners v w) points p in
    let box = in_box_passes v w p in (
      λ there. ((between.0 (left.0 there).0).0, box.0 (left.0 there).1),
      λ both. left.1 (between.1 (both.0, box_between_corners v w p across both.1), box.1 both.1),
    )

pub box_ascends : (v w : GridPoint) (points : List GridPoint) → AllPairs IsBefore points
    → AllPairs IsBefore (filter (is_in_box v w) (filter (is_between_corners v w) points))
box_ascends v w points ascend =
    AllPairs-filter IsBefore (is_in_box v w) (filter (is_between_corners v w) points)
    (AllPairs-filter IsBefore (is_between_corners v w) points ascend)
