-- This file shows that operators on lists of values have one answer each.
use Rattle.std.proofs.Common.{◌≡◌, ◌≢◌, ℕ, ◌<◌, List, [], ◌∷◌, map, length, All, AllPairs, Contains}
use Rattle.std.proofs.Common.{refl, sym, ap, ap₂, subst, ◌∙◌, inl, inr, arith}
use Rattle.std.specs.List.{AllZip}
use Rattle.std.proofs.lemmas.List.Elements.{All-contains, Contains-get_or}
use Rattle.grid_base.specs.Border.{AreNoded}
use Rattle.grid_base.specs.Point.{IsBefore}
use Rattle.grid_base.specs.Segment.{GridSegment, IsSegmentBefore}
use Rattle.grid_base.proofs.Elements.{Contains-here, Contains-later, Contains-nil, same_place}
use Rattle.rose_values.specs.declared.geometry.Geometry.{Geometry}
use Rattle.rose_values.specs.declared.geometry.Geometry.TheVariants.{P, L, R}
use Rattle.rose_overlay.proofs.Parted.{noded_part}
use Rattle.rose_overlay.proofs.Sorts.{not_both, one_list}
use Rattle.rose_operators.specs.Results.{IsAscending}
use Rattle.rose_operators.proofs.AscendingLists.{same_segments}
use Rattle.r_blocks.specs.Blocks.{AreBlocks, AreInOrder, ComesFirst}
use Rattle.r_faces.specs.declared.face.Face.{Face}
use Rattle.rose_sets.specs.Sums.{all_segments, IsSum}
use Rattle.rose_sets.specs.Parts.{IsBorderOfFace, AreParts}
use Rattle.rose_sets.specs.Overlays.{IsPair, IsPairBefore, IsOverlay}
use Rattle.rose_sets.specs.Fusions.{values_with, IsFusion}
use Rattle.rose_sets.specs.declared.group.Group.{Group}
use Rattle.rose_sets.specs.declared.pair.Pair.{Pair}
use Rattle.rose_sets.specs.Picked.{value_at}
use Rattle.rose_sets.proofs.OneSum.{one_sum}
use Rattle.rose_sets.proofs.PickedValues.{with_key, have_key}
use Rattle.rose_sets.proofs.ValueLists.{some_of, found_in, all_of, all_in, made_there}
use Rattle.realm_insert.specs.State.{State}
use Rattle.realm_insert.proofs.OneFigure.{one_named}
use Rattle.rose_query.specs.Sets.{ArePresentValues}
use Rattle.rose_query.proofs.PresentValues.{present_pieces}
use Rattle.one_reply.proofs.OneFace.{rim_part, one_faces}

-- ---- the values with the names of a list
pub one_list_of : (s : State) (names : List (List ℕ)) (list more : List Geometry) → ArePresentValues s names list
    → ArePresentValues s names more → list ≡ more
one_list_of s [] [] [] zip other = refl
one_list_of s [] [] (h ∷ more) zip other = absurd other
one_list_of s [] (g ∷ list) more zip other = absurd zip
one_list_of s (name ∷ names) [] more zip other = absurd zip
one_list_of s (name ∷ names) (g ∷ list) [] zip other = absurd other
one_list_of s (name ∷ names) (g ∷ list) (h ∷ more) zip other =
    ap₂ (λ (k : Geometry) (l : List Geometry). k ∷ l) (one_named s name g h zip.0.0 other.0.0 zip.0.1 other.0.1)
    (one_list_of s names list more zip.1 other.1)

-- the lesser end of each segment comes first
pub present_ordered : (s : State) (names : List (List ℕ)) (list : List Geometry) → ArePresentValues s names list
    → All (λ t. IsBefore t.a t.b) (all_segments list)
present_ordered s names list are =
    all_of (λ (t : GridSegment). IsBefore t.a t.b) (all_segments list) (λ t there. (present_pieces s names list are t there).0)

-- ---- connected parts
-- what is connected with s is in one block with it, of either list
moved : (lines : List GridSegment) (blocks others : List (List GridSegment)) → AreBlocks lines blocks → AreBlocks lines others
    → (B C : List GridSegment) (s t : GridSegment) → Contains blocks B → Contains others C → Contains B s → Contains C s
    → Contains B t → Contains C t
moved lines blocks others are also B C s t in_blocks in_others of_B of_C there =
    let connected = (are.connected B B s t in_blocks in_blocks of_B there).0 refl in
    let (D, listed, t_there) = found_in (λ (D : List GridSegment). Contains D t) others
    (also.each t (are.of_these B t in_blocks there)) in
    subst (λ (X : List GridSegment). Contains X t) (sym ((also.connected C D s t in_others listed of_C t_there).1 connected)) t_there

-- the list of each block ascends
abbrev Ascend : List (List GridSegment) → Type 0
Ascend lists = (B : List GridSegment) → Contains lists B → AllPairs IsSegmentBefore B

block_too : (lines : List GridSegment) (blocks others : List (List GridSegment)) → AreBlocks lines blocks → AreBlocks lines others
    → Ascend blocks → Ascend others → (B : List GridSegment) → Contains blocks B → Contains others B
block_too lines blocks others are also up up_too B there =
    let (s, of_B) = are.some B there in
    let (C, listed, of_C) = found_in (λ (C : List GridSegment). Contains C s) others (also.each s (are.of_these B s there of_B)) in
    let same = same_segments (Contains C) B C (up B there) (up_too C listed)
    (λ t. (
      moved lines blocks others are also B C s t there listed of_B of_C,
      moved lines others blocks also are C B s t listed there of_C of_B,
    )) (λ t. (λ h. h, λ h. h)) in
    subst (Contains others) (sym same) listed

first_one_way : (B C : List GridSegment) → ComesFirst B C → ComesFirst C B → ⊥
first_one_way B C (s, of_B, before) (t, of_C, also) = not_both s t (before t of_C) (also s of_B)

one_blocks : (lines : List GridSegment) (blocks others : List (List GridSegment)) → AreBlocks lines blocks → AreBlocks lines others
    → AreInOrder blocks → AreInOrder others → Ascend blocks → Ascend others → blocks ≡ others
one_blocks lines blocks others are also order order_too up up_too =
    one_list ComesFirst first_one_way blocks others order order_too (block_too lines blocks others are also up up_too)
    (block_too lines others blocks also are up_too up)

-- values that are lists of segments by themselves
lists_ascend : (f : List GridSegment → Geometry) (lists : List (List GridSegment)) (parts : List Geometry)
    → ((C : List GridSegment) → IsAscending (f C) → AllPairs IsSegmentBefore C) → parts ≡ map f lists → All IsAscending parts
    → Ascend lists
lists_ascend f lists parts own is up B there =
    own B (All-contains IsAscending parts (f B) up (subst (λ (l : List Geometry). Contains l (f B)) (sym is) (made_there f lists B there)))

-- ---- faces
-- the rims of one face have the same segments
one_rim : (border : List GridSegment) (f : Face) (B C : List GridSegment) → IsBorderOfFace border f B → IsBorderOfFace border f C
    → AllPairs IsSegmentBefore B → AllPairs IsSegmentBefore C → B ≡ C
one_rim border f B C one other up up_too =
    let z = one.place in
    let first = one.is_rim z one.of_face in
    let second = other.is_rim z one.of_face in
    same_segments (Contains C) B C up up_too (λ s. (rim_part border B C z first second s, rim_part border C B z second first s))
    (λ s. (λ h. h, λ h. h))

one_borders : (border : List GridSegment) (faces : List Face) (borders others : List (List GridSegment))
    → AllZip (IsBorderOfFace border) faces borders → AllZip (IsBorderOfFace border) faces others → Ascend borders → Ascend others
    → borders ≡ others
one_borders border [] [] [] zip other up up_too = refl
one_borders border [] [] (C ∷ others) zip other up up_too = absurd other
one_borders border [] (B ∷ borders) others zip other up up_too = absurd zip
one_borders border (f ∷ faces) [] others zip other up up_too = absurd zip
one_borders border (f ∷ faces) (B ∷ borders) [] zip other up up_too = absurd other
one_borders border (f ∷ faces) (B ∷ borders) (C ∷ others) zip other up up_too =
    ap₂ (λ (x : List GridSegment) (l : List (List GridSegment)). x ∷ l)
    (one_rim border f B C zip.0 other.0 (up B (Contains-here B borders)) (up_too C (Contains-here C others)))
    (one_borders border faces borders others zip.1 other.1 (λ D there. up D (Contains-later B borders D there))
    (λ D there. up_too D (Contains-later C others D there)))

-- ---- the parts of a value
pub one_parts : (g : Geometry) (parts more : List Geometry) → AreParts g parts → AreParts g more → All IsAscending parts
    → All IsAscending more → parts ≡ more
one_parts (P points) parts more is also up up_too = is ∙ sym also
one_parts (L lines) parts more is also up up_too =
    let own = λ (C : List GridSegment) (ascending : AllPairs IsSegmentBefore C). ascending in
    is.as_lines
    ∙ ap (λ (l : List (List GridSegment)). map (λ (C : List GridSegment). L C) l)
    (one_blocks lines is.blocks also.blocks is.are_blocks also.are_blocks is.in_order also.in_order
    (lists_ascend (λ C. L C) is.blocks parts own is.as_lines up) (lists_ascend (λ C. L C) also.blocks more own also.as_lines up_too))
    ∙ sym also.as_lines
one_parts (R border) parts more is also up up_too =
    let own = λ (C : List GridSegment) (ascending : AllPairs IsSegmentBefore C). ascending in
    let faces = one_faces border is.faces also.faces is.are_faces also.are_faces in
    is.as_regions
    ∙ ap (λ (l : List (List GridSegment)). map (λ (C : List GridSegment). R C) l)
    (one_borders border is.faces is.borders also.borders is.own
    (subst (λ (l : List Face). AllZip (IsBorderOfFace border) l also.borders) (sym faces) also.own)
    (lists_ascend (λ C. R C) is.borders parts own is.as_regions up) (lists_ascend (λ C. R C) also.borders more own also.as_regions up_too))
    ∙ sym also.as_regions

-- ---- overlays
pairs_one_way : (p q : Pair) → IsPairBefore p q → IsPairBefore q p → ⊥
pairs_one_way p q (inl h) (inl k) = omega (arith, h, k)
pairs_one_way p q (inl h) (inr k) = let same = k.0 in omega (arith, h, same)
pairs_one_way p q (inr h) (inl k) = let same = h.0 in omega (arith, k, same)
pairs_one_way p q (inr h) (inr k) = let less = h.1 in let more = k.1 in omega (arith, less, more)

pair_too : (a b : List Geometry) (pairs more : List Pair) → IsOverlay a b pairs → IsOverlay a b more → (p : Pair) → Contains pairs p
    → Contains more p
pair_too a b pairs more one other p there =
    other.each p (All-contains (λ (q : Pair). IsPair a b q × Unit {0}) pairs p one.only there).0 tt

-- each list has every pair, in one order
pub one_overlay : (a b : List Geometry) (pairs more : List Pair) → IsOverlay a b pairs → IsOverlay a b more → pairs ≡ more
one_overlay a b pairs more one other =
    one_list IsPairBefore pairs_one_way pairs more one.ascending other.ascending (pair_too a b pairs more one other)
    (pair_too a b more pairs other one)

-- ---- fusions
same_group : (f g : Group) → f.key ≡ g.key → f.g ≡ g.g → f ≡ g
same_group f g e h = λ t. record { key = e t; g = h t }

-- the values with a key are values of the list, and some if the key is one
pub in_list_too : (list : List Geometry) (keys : List ℕ) (key : ℕ) (g : Geometry) → Contains (values_with key keys list) g → Contains list g
in_list_too list keys key g there =
    let stands = with_key key keys list g there in
    subst (Contains list) stands.is (Contains-get_or list stands.at (P []) stands.within)

pub some_with : (list : List Geometry) (keys : List ℕ) (key : ℕ) → length keys ≡ length list → Contains keys key
    → values_with key keys list ≢ []
some_with list keys key even (i, within, is) none =
    Contains-nil (value_at list i) (subst (λ (l : List Geometry). Contains l (value_at list i)) none
    (have_key key keys list i even (omega (arith, within, even)) (same_place keys i 0 key within ∙ is)))

module _ (list : List Geometry) (keys : List ℕ) (even : length keys ≡ length list) (noded : AreNoded (all_segments list))
    (ordered : All (λ t. IsBefore t.a t.b) (all_segments list)) where
  of_list : (key : ℕ) (t : GridSegment) → Contains (all_segments (values_with key keys list)) t → Contains (all_segments list) t
  of_list key t there = all_in (values_with key keys list) list (in_list_too list keys key) t there

  group_too : (groups more : List Group) → IsFusion list keys groups → IsFusion list keys more → All (λ h. IsAscending h.g) groups
      → All (λ h. IsAscending h.g) more → (f : Group) → Contains groups f → Contains more f
  group_too groups more one other up up_too f there =
      let key_there = (one.same f.key).1 (some_of (λ (h : Group). h.key ≡ f.key) groups f there refl) in
      let (h, listed, same) = found_in (λ (h : Group). h.key ≡ f.key) more ((other.same f.key).0 key_there) in
      let of_f = All-contains (λ (k : Group). IsSum (values_with k.key keys list) k.g) groups f one.sums there in
      let of_h = subst (λ (key : ℕ). IsSum (values_with key keys list) h.g) same
      (All-contains (λ (k : Group). IsSum (values_with k.key keys list) k.g) more h other.sums listed) in
      let made = one_sum (values_with f.key keys list) h.g f.g (some_with list keys f.key even key_there)
      (noded_part (all_segments list) (all_segments (values_with f.key keys list)) (of_list f.key) noded)
      (all_of (λ (t : GridSegment). IsBefore t.a t.b) (all_segments (values_with f.key keys list))
      (λ t in_those. All-contains (λ (u : GridSegment). IsBefore u.a u.b) (all_segments list) t ordered (of_list f.key t in_those)))
      (All-contains (λ (k : Group). IsAscending k.g) more h up_too listed) (All-contains (λ (k : Group). IsAscending k.g) groups f up there)
      of_h of_f in
      subst (Contains more) (same_group h f same made) listed

  pub one_fusion : (groups more : List Group) → IsFusion list keys groups → IsFusion list keys more → All (λ h. IsAscending h.g) groups
      → All (λ h. IsAscending h.g) more → groups ≡ more
  one_fusion groups more one other up up_too =
      one_list (λ (f g : Group). f.key < g.key) (λ f g less greater. omega (arith, less, greater)) groups more one.ascending
      other.ascending (group_too groups more one other up up_too) (group_too more groups other one up_too up)
