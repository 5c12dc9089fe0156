-- This file shows which shares a set has after a change, and what of it lies in a range.
use Rattle.std.proofs.Common.{◌≡◌, ◌⊎◌, ◌↔◌, ℕ, true, false, List, map, Contains, All, IsTrue, true≢false}
use Rattle.std.proofs.Common.{get_or, refl, sym, ap, subst, ◌∙◌, inl, inr, arith}
use Rattle.std.specs.BTreeMap.Range.{range_contains}
use Rattle.std.specs.declared.ops.Bound.TheVariants.{Included}
use Rattle.std.specs.BTreeSet.{BTreeSet, Updates, contains}
use Rattle.std.proofs.lemmas.Map.Views.{range_contains-from_IsInRange, IsInRange-from_range_contains, btree_set_contains_iff}
use Rattle.std.proofs.lemmas.List.Elements.{All-contains, Contains-get_or}
use Rattle.grid_base.specs.Segment.{GridSegment}
use Rattle.realm_audit.specs.Shelves.{share_of, IsShelved, HasShare}
use Rattle.realm_audit.specs.declared.shares.Share.{Share}
use Rattle.chain_laws.proofs.Elements.{Contains-map}
use Rattle.chain_laws.proofs.Lookups.{same_or_other, passed_over}
use Rattle.chain_laws.proofs.PointSets.{Contains-filter}
use Rattle.realm_audit.specs.Ranges.{share_cmp, among}
use Rattle.realm_audit.proofs.ShareOrder.{share_cmp-total, share_exact, shelved_is, share_of-same, of_piece, in_order}

-- ---- one change
set_has : (s : BTreeSet Share) (y : Share) → IsTrue (contains share_cmp s y) ↔ Contains s.keys y
set_has s y = btree_set_contains_iff share_cmp-total share_exact s y

pub has_by_test : (s : BTreeSet Share) (y : Share) → Contains s.keys y → IsTrue (contains share_cmp s y)
has_by_test s y there = (set_has s y).1 there

-- y is put
put_members : (old new : BTreeSet Share) (y : Share) → Updates share_cmp old new y true → (z : Share)
    → Contains new.keys z ↔ ((z ≡ y) ⊎ Contains old.keys z)
put_members old new y updates z =
    let before = set_has old z in
    let after = set_has new z in
    elim (same_or_other share_cmp-total share_exact y z) [
      | inl same ↦
          let found = subst (λ r. contains share_cmp new r ≡ true) (sym same) updates.1 in
          (λ there. inl same, λ either. after.0 found)
      | inr other ↦
          let stays = updates.2 z (passed_over share_cmp-total share_exact y z other) in (
            λ there. inr (before.0 (sym stays ∙ after.1 there)),
            λ either. elim either [ inl same ↦ absurd (other same) | inr was ↦ after.0 (stays ∙ before.1 was) ],
          )
    ]

-- y is taken out
take_members : (old new : BTreeSet Share) (y : Share) → Updates share_cmp old new y false → (z : Share)
    → Contains new.keys z ↔ (Contains old.keys z × (z ≡ y → ⊥))
take_members old new y updates z =
    let before = set_has old z in
    let after = set_has new z in
    elim (same_or_other share_cmp-total share_exact y z) [
      | inl same ↦
          let gone = subst (λ r. contains share_cmp new r ≡ false) (sym same) updates.1 in (
            λ there. absurd (true≢false (sym (after.1 there) ∙ gone)),
            λ both. absurd (both.1 same),
          )
      | inr other ↦
          let stays = updates.2 z (passed_over share_cmp-total share_exact y z other) in (
            λ there. (before.0 (sym stays ∙ after.1 there), other),
            λ both. after.0 (stays ∙ before.1 both.0),
          )
    ]

-- ---- the same of pieces and ids
pub share_put : (old new : BTreeSet Share) (piece : GridSegment) (id : ℕ) → Updates share_cmp old new (share_of piece id) true
    → (s : GridSegment) (x : ℕ) → HasShare new.keys s x ↔ (((s ≡ piece) × (x ≡ id)) ⊎ HasShare old.keys s x)
share_put old new piece id updates s x =
    let members = put_members old new (share_of piece id) updates (share_of s x) in (
      λ has. elim (members.0 has) [ inl same ↦ inl (share_of-same s piece x id same) | inr had ↦ inr had ],
      λ either. members.1 (elim either [
        | inl same ↦ inl (subst (λ (t : GridSegment). share_of s x ≡ share_of t id) same.0
            (ap (λ (n : ℕ). share_of s n) same.1))
        | inr had ↦ inr had
      ]),
    )

pub share_taken : (old new : BTreeSet Share) (piece : GridSegment) (id : ℕ)
    → Updates share_cmp old new (share_of piece id) false
    → (s : GridSegment) (x : ℕ) → HasShare new.keys s x ↔ (HasShare old.keys s x × ((s ≡ piece) × (x ≡ id) → ⊥))
share_taken old new piece id updates s x =
    let members = take_members old new (share_of piece id) updates (share_of s x) in (
      λ has.
          let (had, other) = members.0 has in (
            had,
            λ same. other (subst (λ (t : GridSegment). share_of s x ≡ share_of t id) same.0
                (ap (λ (n : ℕ). share_of s n) same.1)),
          ),
      λ (had, other). members.1 (had, λ same. other (share_of-same s piece x id same)),
    )

-- what holds of each element holds of all
all_of : {X : Type 0} (P : X → Type 0) (xs : List X) → ((x : X) → Contains xs x → P x) → All P xs
all_of P xs each = λ k d within. each (get_or xs k d) (Contains-get_or xs k d within)

-- all stand where they should
pub shelved_put : (old new : BTreeSet Share) (y : Share) → Updates share_cmp old new y true → IsShelved y
    → All IsShelved old.keys → All IsShelved new.keys
shelved_put old new y updates shelved all = all_of IsShelved new.keys (λ z there.
    elim ((put_members old new y updates z).0 there) [
      | inl same ↦ subst IsShelved (sym same) shelved
      | inr was ↦ All-contains IsShelved old.keys z all was
    ])

pub shelved_taken : (old new : BTreeSet Share) (y : Share) → Updates share_cmp old new y false
    → All IsShelved old.keys → All IsShelved new.keys
shelved_taken old new y updates all = all_of IsShelved new.keys (λ z there.
    All-contains IsShelved old.keys z all ((take_members old new y updates z).0 there).0)

-- ---- owners
-- a share of the piece with this id
abbrev pub mark : GridSegment → ℕ → Share
mark s x = share_of s x

-- the ids of the shares from that with the least id to that with the greatest are those of the owners
pub owner_ids : (keys : List Share) (s : GridSegment) (x : ℕ) → All IsShelved keys
    → Contains (map (λ y. y.id) (among keys (Included (mark s 0)) (Included (mark s 4294967295)))) x ↔ HasShare keys s x
owner_ids keys s x all =
    let range = among keys (Included (mark s 0)) (Included (mark s 4294967295)) in
    let ids = Contains-map (λ (y : Share). y.id) range x in
    let inside = λ (y : Share). Contains-filter (range_contains share_cmp (Included (mark s 0)) (Included (mark s 4294967295)))
    keys y in (
      λ there.
          let (k, y, within, is, id_is) = ids.0 there in
          let (in_keys, passes) = (inside y).0 (k, within, is) in
          let (from, to) = IsInRange-from_range_contains share_cmp-total (Included (mark s 0)) (Included (mark s 4294967295)) y
          passes in
          let (shelf, piece) = of_piece (mark s 0) (mark s 4294967295) y refl refl from to in
          let shelved = shelved_is y (All-contains IsShelved keys y all in_keys).shelf_is in
          let one : y ≡ share_of s x = shelved ∙ ap (λ (t : GridSegment). share_of t y.id) piece
          ∙ ap (λ (n : ℕ). share_of s n) id_is in
          subst (λ (z : Share). Contains keys z) one in_keys,
      λ has.
          let small = (All-contains IsShelved keys (share_of s x) all has).small_id in
          let passes = range_contains-from_IsInRange share_cmp-total (Included (mark s 0)) (Included (mark s 4294967295))
          (share_of s x) (
            in_order (mark s 0) (share_of s x) refl refl (omega arith),
            in_order (share_of s x) (mark s 4294967295) refl refl (omega (arith, small)),
          ) in
          let (k, within, is) = (inside (share_of s x)).1 (has, passes) in
          ids.1 (k, share_of s x, within, is, refl),
    )
