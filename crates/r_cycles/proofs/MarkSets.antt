-- This file shows which points a set has after a change.
use Rattle.std.proofs.Common.{◌≡◌, ◌≢◌, ◌⊎◌, ◌↔◌, true, false, true≢false, Contains, IsTrue}
use Rattle.std.proofs.Common.{Ordering, Less, Equal, Greater, refl, sym, subst, ◌∙◌, inl, inr}
use Rattle.std.specs.Ordering.{is_eq}
use Rattle.std.specs.BTreeSet.{BTreeSet, Updates, contains}
use Rattle.std.proofs.lemmas.Map.Views.{btree_set_contains_iff}
use Rattle.grid_base.specs.Point.{GridPoint, point_cmp}
use Rattle.grid_base.proofs.Orders.{point_cmp-total, point_cmp-Equal}
use Rattle.grid_base.proofs.Ends.{same_or_not}

-- a look-up finds the points of the set
pub set_has : (s : BTreeSet GridPoint) (p : GridPoint) → IsTrue (contains point_cmp s p) ↔ Contains s.keys p
set_has s p = btree_set_contains_iff point_cmp-total (λ v w. (point_cmp-Equal v w).0) s p

-- a search for p passes over other points
passed : (p q : GridPoint) → q ≢ p → is_eq (point_cmp p q) ≡ false
passed p q other = by_order (point_cmp p q) refl
  where
    by_order : (o : Ordering) → point_cmp p q ≡ o → is_eq o ≡ false
    by_order Less e = refl
    by_order Equal e = absurd (other (sym ((point_cmp-Equal p q).0 e)))
    by_order Greater e = refl

-- p is put
pub put_members : (old new : BTreeSet GridPoint) (p : GridPoint) → Updates point_cmp old new p true → (q : GridPoint)
    → Contains new.keys q ↔ ((q ≡ p) ⊎ Contains old.keys q)
put_members old new p updates q =
    let before = set_has old q in
    let after = set_has new q in
    elim (same_or_not q p) [
      | inl same ↦
          let found = subst (λ r. contains point_cmp new r ≡ true) (sym same) updates.1 in
          (λ there. inl same, λ either. after.0 found)
      | inr other ↦
          let stays = updates.2 q (passed p q other) in (
            λ there. inr (before.0 (sym stays ∙ after.1 there)),
            λ either. elim either [ inl same ↦ absurd (other same) | inr was ↦ after.0 (stays ∙ before.1 was) ],
          )
    ]

-- p is taken out
pub take_members : (old new : BTreeSet GridPoint) (p : GridPoint) → Updates point_cmp old new p false → (q : GridPoint)
    → Contains new.keys q ↔ (Contains old.keys q × (q ≡ p → ⊥))
take_members old new p updates q =
    let before = set_has old q in
    let after = set_has new q in
    elim (same_or_not q p) [
      | inl same ↦
          let gone = subst (λ r. contains point_cmp new r ≡ false) (sym same) updates.1 in (
            λ there. absurd (true≢false (sym (after.1 there) ∙ gone)),
            λ both. absurd (both.1 same),
          )
      | inr other ↦
          let stays = updates.2 q (passed p q other) in (
            λ there. (before.0 (sym stays ∙ after.1 there), other),
            λ both. after.0 (stays ∙ before.1 both.0),
          )
    ]
