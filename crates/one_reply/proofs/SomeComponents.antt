-- This file shows that lines have connected parts, and a region faces, which can be counted.
use Rattle.std.proofs.Common.{◌≡◌, ℕ, zero, suc, ◌+◌, ◌<◌, ◌≤◌, List, [], ◌∷◌, ◌++◌, length, get_or, map, flat_map, if◌then◌else◌}
use Rattle.std.proofs.Common.{All, AllPairs, Contains, refl, sym, subst, ◌∙◌, inl, inr, arith}
use Rattle.std.proofs.lemmas.Bool.{cases_eq, cases_lt}
use Rattle.std.proofs.lemmas.List.Elements.{All-contains}
use Rattle.grid_base.specs.Border.{AreNoded, IsEvenBorder}
use Rattle.grid_base.specs.Odd.{AreSides}
use Rattle.grid_base.specs.Point.{GridPoint, IsBefore}
use Rattle.grid_base.specs.Segment.{GridSegment, IsSegmentBefore, IsEnd}
use Rattle.grid_base.specs.Sides.{Left, Right}
use Rattle.grid_base.proofs.Elements.{same_place}
use Rattle.grid_base.proofs.Ends.{same_or_not}
use Rattle.segment_lists.specs.OnGrid.{IsOnGrid}
use Rattle.linked_parts.specs.Parts.{Links}
use Rattle.linked_parts.proofs.LinkedNumbers.{linked_by}
use Rattle.plane_classes.proofs.Counts.{one_parity}
use Rattle.plane_classes.proofs.Outer.{outer_is_even}
use Rattle.plane_cells.specs.ClassNumbers.{number_at}
use Rattle.plane_cells.specs.Numbered.{nowhere, numbered}
use Rattle.plane_cells.proofs.ShearedRealm.{numbered_in}
use Rattle.r_blocks.specs.Blocks.{ShareAnEnd, AreBlocks, AreInOrder}
use Rattle.r_blocks.specs.Ends.{IsShared}
use Rattle.r_blocks.specs.Places.{those, AreLeast, ArePlaces}
use Rattle.r_blocks.proofs.Placed.{placed_new, placed_again}
use Rattle.r_blocks.proofs.AtPlaces.{those_ascend}
use Rattle.r_blocks.proofs.Together.{AreLinksOf, AreGathered, labels_least, blocks_are, blocks_in_order}
use Rattle.r_faces.specs.Faces.{IsNumberOfFaces}
use Rattle.r_faces.specs.Rims.{HasOddNumber, AreOddSides}
use Rattle.r_faces.proofs.FaceNumbers.{by_sides, faces_by_numbers}
use Rattle.r_faces.proofs.FaceRims.{IsKnown, known, in_order, odd_number}
use Rattle.rose_measure.specs.Components.{IsNumberOfBlocks}
use Rattle.rose_measure.proofs.AreaCounts.{sound_border}
use Rattle.rose_measure.proofs.ColumnSigns.{sound_at}
use Rattle.rose_measure.proofs.Members.{Contains-flat_map, Contains-map}
use Rattle.side_parity.proofs.BothSides.{left_answer, right_answer, tells_left, tells_right}
use Rattle.rose_predicates.proofs.Truths.{each}
use Rattle.one_reply.proofs.Decisions.{Decided, same_decided, either_decided, picked}
use Rattle.one_reply.proofs.Listings.{listed_numbers}
use Rattle.one_reply.proofs.SomeClassNumbers.{table, table_long, table_at, some_labels, HasClassNumbers, some_numbers, border_of_realm}

-- ---- segments with a common end
end_or_not : (p : GridPoint) (t : GridSegment) → Decided (IsEnd p t)
end_or_not p t = either_decided (same_or_not p t.a) (same_or_not p t.b)

share_or_not : (s t : GridSegment) → Decided (ShareAnEnd s t)
share_or_not s t = same_decided (
  λ one. elim one [ inl lesser ↦ (s.a, inl refl, lesser) | inr greater ↦ (s.b, inr refl, greater) ],
  λ (v, of_s, of_t). elim of_s [
    | inl lesser ↦ inl (subst (λ p. IsEnd p t) lesser of_t)
    | inr greater ↦ inr (subst (λ p. IsEnd p t) greater of_t)
  ],
) (either_decided (end_or_not s.a t) (end_or_not s.b t))

-- all pairs of numbers below n
abbrev below : ℕ → List ℕ
below n = table (λ k. k) n

abbrev pairs : ℕ → List (ℕ × ℕ)
pairs n = flat_map (λ i. map (λ j. (i, j)) (below n)) (below n)

has_number : (n i : ℕ) → i < n → Contains (below n) i
has_number n i within = (i, subst (λ m. i < m) (sym (table_long (λ k. k) n)) within, table_at (λ k. k) n i i within)

has_pair : (n i j : ℕ) → i < n → j < n → Contains (pairs n) (i, j)
has_pair n i j first second =
    Contains-flat_map (λ m. map (λ k. (m, k)) (below n)) (below n) i (i, j) (has_number n i first)
    (Contains-map (λ k. (i, k)) (below n) j (has_number n j second))

module _ (list : List GridSegment) where
  shared_at : (l : ℕ × ℕ) → l.0 < length list → l.1 < length list → ShareAnEnd (numbered list l.0) (numbered list l.1)
      → IsShared list (length list) l
  shared_at l first second share = record {
    first_below = first;
    second_below = second;
    share = λ d.
        subst (λ s. ShareAnEnd s (get_or list l.1 d)) (same_place list l.0 nowhere d first)
        (subst (λ t. ShareAnEnd (numbered list l.0) t) (same_place list l.1 nowhere d second) share);
  }

  shared_or_not : (l : ℕ × ℕ) → Decided (IsShared list (length list) l)
  shared_or_not l = elim (cases_lt l.0 (length list)) [
    | inl first ↦ elim (cases_lt l.1 (length list)) [
      | inl second ↦ same_decided (shared_at l first second, λ is. is.share nowhere)
          (share_or_not (numbered list l.0) (numbered list l.1))
      | inr off ↦ inr (λ is. omega (arith, off, is.second_below))
    ]
    | inr off ↦ inr (λ is. omega (arith, off, is.first_below))
  ]

  some_links : (links : Links) × AreLinksOf list links
  some_links =
      let n = length list in
      let (links, are) = picked (IsShared list n) (pairs n) (λ l there. shared_or_not l) in (
        links,
        record {
          below = each (λ l. (l.0 < n) × (l.1 < n)) links
              (λ l there. let is = ((are l).0 there).1 in (is.first_below, is.second_below));
          share = each (λ l. (d : GridSegment) → ShareAnEnd (get_or list l.0 d) (get_or list l.1 d)) links
              (λ l there. ((are l).0 there).1.share);
          linked = λ i j d first second share. linked_by links i j (inl ((are (i, j)).1 (
            has_pair n i j first second,
            shared_at (i, j) first second
                (subst (λ s. ShareAnEnd s (numbered list j)) (same_place list i d nowhere first)
                (subst (λ t. ShareAnEnd (get_or list i d) t) (same_place list j d nowhere second) share)),
          )));
        },
      )

-- ---- the parts
-- a place for each label
some_places : (n : ℕ) (labels : List ℕ) → AreLeast labels → n ≤ length labels
    → (places : List ℕ) × (count : ℕ) × ArePlaces n labels places count
some_places zero labels least within = (
  [],
  0,
  record {
    one_each = refl;
    below = λ k early. absurd (omega (arith, early));
    by_label = λ i j early late. absurd (omega (arith, early));
    first = λ p early. absurd (omega (arith, early));
    in_order = λ i j before early i_root j_root. absurd (omega (arith, early));
  },
)
some_places (suc n) labels least within =
    let (places, count, are) = some_places n labels least (omega (arith, within)) in
    elim (cases_eq (get_or labels n 0) n) [
      | inl itself ↦ (
        places ++ count ∷ [],
        count + 1,
        subst (λ m. ArePlaces m labels (places ++ count ∷ []) (count + 1)) next
            (placed_new n labels places count least (omega (arith, within)) itself are),
      )
      | inr other ↦
          let lower : get_or labels n 0 < n = omega (arith, other, least n (omega (arith, within))) in (
            places ++ get_or places (get_or labels n 0) 0 ∷ [],
            count,
            subst (λ m. ArePlaces m labels (places ++ get_or places (get_or labels n 0) 0 ∷ []) count) next
                (placed_again n labels places count least (omega (arith, within)) lower are),
          )
    ]
  where
    next : n + 1 ≡ suc n
    next = omega arith

-- the connected parts of lines, in their order, each ascending
pub record HasBlocks (list : List GridSegment) : Type 0 where
  pub blocks : List (List GridSegment)
  pub are : AreBlocks list blocks
  pub in_order : AreInOrder blocks
  pub ascending : (block : List GridSegment) → Contains blocks block → AllPairs IsSegmentBefore block

pub blocks_of : (list : List GridSegment) → AllPairs IsSegmentBefore list → HasBlocks list
blocks_of list up =
    let (links, of) = some_links list in
    let (labels, are) = some_labels (length list) links of.below in
    let least = labels_least (length list) links labels are in
    let (places, count, placed) = some_places (length list) labels least (omega (arith, are.one_each)) in
    let parts = table (λ p. those p places list) count in
    let those_are = λ (p : ℕ) (d : List GridSegment) (within : p < length parts). table_at (λ q. those q places list) count p d
    (subst (λ n. p < n) (table_long (λ q. those q places list) count) within) in
    let gathered : AreGathered list links labels places count parts = record {
      of = of;
      labels_are = are;
      places_are = placed;
      as_many = table_long (λ p. those p places list) count;
      those_are = those_are;
    } in record {
      blocks = parts;
      are = blocks_are list links labels places count parts gathered up;
      in_order = blocks_in_order list links labels places count parts up gathered;
      ascending = λ block (p, below, is).
          subst (AllPairs IsSegmentBefore) (sym (those_are p block below) ∙ is) (those_ascend p places list up);
    }

pub some_blocks : (list : List GridSegment) → AllPairs IsSegmentBefore list → (n : ℕ) × IsNumberOfBlocks list n
some_blocks list up = let has = blocks_of list up in (length has.blocks, (has.blocks, has.are, refl))

-- ---- the faces
-- the numbers of the odd sides of a border
module _ (B : List GridSegment) (noded : AreNoded B) (up : AllPairs IsSegmentBefore B) (even : IsEvenBorder B) (grid : All IsOnGrid B) where
  pub has_numbers : HasClassNumbers B
  has_numbers = some_numbers B (border_of_realm B noded up grid)

  pub is_known : IsKnown B has_numbers.numbers
  is_known = known B has_numbers.numbers noded up even grid has_numbers.are

  ordered : All (λ s. IsBefore s.a s.b) B
  ordered = each (λ s. IsBefore s.a s.b) B (λ s there. (All-contains IsOnGrid B s grid there).order)

  both_sides : (s : GridSegment) → Contains B s → AreSides B s (record { left = left_answer B s; right = right_answer B s })
  both_sides s there =
      let sound = sound_at B s (sound_border B up noded even ordered) there in
      record { left = tells_left B s sound; right = tells_right B s sound }

  abbrev pub odd_side : ℕ → ℕ
  odd_side i =
      if left_answer B (numbered B i) then number_at has_numbers.numbers i Left else number_at has_numbers.numbers i Right

  abbrev pub odd_sides : List ℕ
  odd_sides = table odd_side (length B)

  pub are_odd : AreOddSides B has_numbers.numbers (length B) odd_sides
  are_odd = record {
    one_each = table_long odd_side (length B);
    each = λ i within.
        let s = numbered B i in
        let odd = odd_number B has_numbers.numbers i (record { left = left_answer B s; right = right_answer B s }) is_known within
        (both_sides s (numbered_in B i within)) in
        subst (λ n. HasOddNumber B has_numbers.numbers i n) (sym (table_at odd_side (length B) i 0 within)) odd;
  }

  pub some_faces_number : (n : ℕ) × IsNumberOfFaces B n
  some_faces_number =
      let (ns, are) = listed_numbers odd_sides in (
        length ns,
        faces_by_numbers B has_numbers.numbers odd_sides ns has_numbers.are
            (outer_is_even B (in_order B is_known.realm) even) (one_parity B ordered even)
            (by_sides B has_numbers.numbers (length B) odd_sides are_odd) are.ascending are.exact,
      )
