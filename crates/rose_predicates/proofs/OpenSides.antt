-- This file shows that none of the sides that are looked at is open exactly where an area is closed off.
use Rattle.std.proofs.Common.{◌≡◌, ◌⊎◌, ◌↔◌, ℕ, zero, suc, ◌+◌, ◌<◌, false, ◌&&◌, ◌||◌, IsTrue, List, [], ◌∷◌, ◌++◌, Contains}
use Rattle.std.proofs.Common.{length, slice_index_or, refl, sym, ap, subst, ◌∙◌, arith, inl, inr}
use Rattle.std.specs.List.{AllZip}
use Rattle.std.proofs.lemmas.List.Elements.{Contains-append_left, Contains-append_right}
use Rattle.grid_base.specs.Segment.{GridSegment}
use Rattle.grid_base.specs.Sides.{Side, Left, Right}
use Rattle.grid_base.specs.Plane.{Place, IsBeside}
use Rattle.grid_base.specs.Odd.{AreSides, Odd}
use Rattle.grid_base.specs.declared.kinds.Sides.{Sides}
use Rattle.grid_base.proofs.Elements.{same_place}
use Rattle.grid_base.proofs.Booleans.{both_true, one_true}
use Rattle.side_parity.proofs.BothSides.{odd_on_left, odd_on_right}
use Rattle.side_parity.proofs.SidesBy.{IsSound}
use Rattle.plane_classes.specs.Classes.{IsOuter}
use Rattle.rose_overlay.proofs.OneRegion.{fewer_beside}
use Rattle.rose_overlay.proofs.Parted.{AreBorders, is_odd_by, odd_is, says_both, says_first}
use Rattle.rose_overlay.proofs.Parted.{says_second, sound_second}
use Rattle.plane_cells.specs.OuterSides.{AreOuterSides}
use Rattle.rose_predicates.specs.Closing.{HasOpenSide, NoneIsOpen}
use Rattle.rose_predicates.proofs.OuterWays.{AreClosedOff}
use Rattle.rose_predicates.proofs.RegionSides.{IsWhole, left_place, right_place, whole}

-- ---- what is told of sides
pub zip_at : {X Y : Type 0} (S : X → Y → Type 0) (xs : List X) (ys : List Y) (k : ℕ) (d : X) (e : Y) → AllZip S xs ys → k < length xs
    → S (slice_index_or xs k d) (slice_index_or ys k e)
zip_at S [] ys k d e all within = absurd (omega (arith, within))
zip_at S (x ∷ xs) [] k d e all within = absurd all
zip_at S (x ∷ xs) (y ∷ ys) zero d e all within = all.0
zip_at S (x ∷ xs) (y ∷ ys) (suc k) d e all within = zip_at S xs ys k d e all.1 (omega (arith, within))

pub zip_length : {X Y : Type 0} (S : X → Y → Type 0) (xs : List X) (ys : List Y) → AllZip S xs ys → length ys ≡ length xs
zip_length S [] [] all = refl
zip_length S [] (y ∷ ys) all = absurd all
zip_length S (x ∷ xs) [] all = absurd all
zip_length S (x ∷ xs) (y ∷ ys) all = ap suc (zip_length S xs ys all.1)

-- the sides by the border, and what is told of them
pub open_side : (B : List GridSegment) (s : GridSegment) (odd outer : Sides) → AreSides B s odd
    → IsTrue ((odd.left && outer.left) || (odd.right && outer.right)) ↔ HasOpenSide B s outer
open_side B s odd outer sides = (
  λ e. elim (one_true _ _ e) [
    | inl l ↦
        (let both = both_true odd.left outer.left l in
        inl (sides.left.one.0, sides.left.one.1, (sides.left.all sides.left.one.0 sides.left.one.1).0 both.0, both.1))
    | inr r ↦
        (let both = both_true odd.right outer.right r in
        inr (sides.right.one.0, sides.right.one.1, (sides.right.all sides.right.one.0 sides.right.one.1).0 both.0, both.1))
  ],
  λ open'. elim open' [
    | inl l ↦ says_first _ (odd.right && outer.right) (says_both odd.left outer.left ((sides.left.all l.0 l.1).1 l.2) l.3)
    | inr r ↦ says_second (odd.left && outer.left) _ (says_both odd.right outer.right ((sides.right.all r.0 r.1).1 r.2) r.3)
  ],
)

same_open : (B : List GridSegment) (s t : GridSegment) (o p : Sides) → s ≡ t → o ≡ p → HasOpenSide B s o → HasOpenSide B t p
same_open B s t o p e f open' = subst (HasOpenSide B t) f (subst (λ (u : GridSegment). HasOpenSide B u o) e open')

-- the next segment has none either
pub one_more : (B : List GridSegment) (outer : List Sides) (n : ℕ) (s : GridSegment) (o : Sides) → NoneIsOpen B outer n
    → s ≡ slice_index_or B n s → n < length B → n < length outer → (HasOpenSide B s (slice_index_or outer n o) → ⊥)
    → NoneIsOpen B outer (n + 1)
one_more B outer n s o so_far is_s in_b in_o shut k t p within open' = elim (less_or_same k n within) [
  | inl l ↦ so_far k t p l open'
  | inr e ↦ shut
      (same_open B _ s _ _ (ap (λ (j : ℕ). slice_index_or B j t) e ∙ same_place B n t s in_b ∙ sym is_s)
      (ap (λ (j : ℕ). slice_index_or outer j p) e ∙ same_place outer n p o in_o) open')
]
  where
    less_or_same : (k n : ℕ) → k < n + 1 → (k < n) ⊎ (k ≡ n)
    less_or_same k n h = grind arith

-- and where it has one, not all have none
pub not_all : (B : List GridSegment) (outer : List Sides) (n : ℕ) (s : GridSegment) (o : Sides) → s ≡ slice_index_or B n s → n < length B
    → HasOpenSide B s (slice_index_or outer n o) → NoneIsOpen B outer (length B) → ⊥
not_all B outer n s o is_s in_b open' none =
    none n s o in_b (subst (λ (t : GridSegment). HasOpenSide B t (slice_index_or outer n o)) is_s open')

module _ (A B : List GridSegment) (outer : List Sides) (h : AreBorders A B) (told : AllZip (AreOuterSides A) B outer) where
  open_outer : (t : GridSegment) (o : Sides) (d : Side) (z : Place) → AreOuterSides A t o → (d ≡ Left) ⊎ (d ≡ Right)
      → IsBeside (A ++ B) t d z → Odd B z → IsOuter A z → HasOpenSide B t o
  open_outer t o d z sides (inl is_left) beside odd out =
      let there : IsBeside (A ++ B) t Left z = subst (λ (e : Side). IsBeside (A ++ B) t e z) is_left beside in
      inl (
        z,
        fewer_beside (A ++ B) B t Left z (Contains-append_right A B) there,
        odd,
        (sides.left.all z (fewer_beside (A ++ B) A t Left z (Contains-append_left A B) there)).1 out,
      )
  open_outer t o d z sides (inr is_right) beside odd out =
      let there : IsBeside (A ++ B) t Right z = subst (λ (e : Side). IsBeside (A ++ B) t e z) is_right beside in
      inr (
        z,
        fewer_beside (A ++ B) B t Right z (Contains-append_right A B) there,
        odd,
        (sides.right.all z (fewer_beside (A ++ B) A t Right z (Contains-append_left A B) there)).1 out,
      )

  -- an open side is an odd side in the outer class
  outer_open : (t : GridSegment) (o : Sides) → AreOuterSides A t o → Contains B t → HasOpenSide B t o → AreClosedOff A B → ⊥
  outer_open t o sides there open' closed = go open'
    where
      w : IsWhole (A ++ B) t
      w = whole A B t h (Contains-append_right A B t there)

      sound : IsSound B t
      sound = sound_second A B t h (Contains-append_right A B t there)

      go : HasOpenSide B t o → ⊥
      go (inl (y, beside, odd, is_out)) =
          let z = left_place (A ++ B) t w in
          let in_b = fewer_beside (A ++ B) B t Left z.0 (Contains-append_right A B) z.1 in
          closed t Left z.0 there (inl refl) z.1
          (is_odd_by B z.0 (odd_on_left B t z.0 sound in_b ∙ sym (odd_on_left B t y sound beside) ∙ odd_is B y odd))
          ((sides.left.all z.0 (fewer_beside (A ++ B) A t Left z.0 (Contains-append_left A B) z.1)).0 is_out)
      go (inr (y, beside, odd, is_out)) =
          let z = right_place (A ++ B) t w in
          let in_b = fewer_beside (A ++ B) B t Right z.0 (Contains-append_right A B) z.1 in
          closed t Right z.0 there (inr refl) z.1
          (is_odd_by B z.0 (odd_on_right B t z.0 sound in_b ∙ sym (odd_on_right B t y sound beside) ∙ odd_is B y odd))
          ((sides.right.all z.0 (fewer_beside (A ++ B) A t Right z.0 (Contains-append_left A B) z.1)).0 is_out)

  pub open_told : NoneIsOpen B outer (length B) ↔ AreClosedOff A B
  open_told = (
    λ none t d z there side beside odd out.
        (let o : Sides = record { left = false; right = false } in
        let at_k = slice_index_or outer there.0 o in
        none there.0 t o there.1
        (subst (λ (s : GridSegment). HasOpenSide B s at_k) (sym there.2)
        (open_outer t at_k d z (subst (λ (s : GridSegment). AreOuterSides A s at_k) there.2
        (zip_at (AreOuterSides A) B outer there.0 t o told there.1))
        side beside odd out))),
    λ closed k s o within open'.
        (let t = slice_index_or B k s in
        outer_open t (slice_index_or outer k o) (zip_at (AreOuterSides A) B outer k s o told within) (k, within, same_place B k t s within)
        open' closed),
  )
