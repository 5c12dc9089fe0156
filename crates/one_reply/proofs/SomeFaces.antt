-- This file shows that each region on the grid has a list of its faces.
use Rattle.std.proofs.Common.{◌≡◌, ◌≢◌, ◌==◌, ℕ, zero, suc, ◌+◌, ◌<◌, true, false, List, [], ◌∷◌, length, get_or, slice_index}
use Rattle.std.proofs.Common.{map, remove, All, AllPairs, Any, Contains, IsTrue, if◌then◌else◌, refl, sym, ap, subst, ◌∙◌, inl, inr, arith}
use Rattle.std.specs.List.{AllZip}
use Rattle.std.specs.List.Sorted.{IsPermutation}
use Rattle.std.proofs.lemmas.List.Elements.{All-contains, All-head, All-tail, Contains-get_or}
use Rattle.std.proofs.lemmas.List.Kept.{AllPairs-cons}
use Rattle.std.proofs.lemmas.List.Sorted.{Contains-permutation, IsPermutation-sym}
use Rattle.grid_base.specs.Border.{AreNoded, IsEvenBorder}
use Rattle.grid_base.specs.Plane.{Place}
use Rattle.grid_base.specs.Point.{GridPoint, IsBefore}
use Rattle.grid_base.specs.Segment.{GridSegment, IsSegmentBefore}
use Rattle.grid_base.specs.Sides.{Left, Right}
use Rattle.grid_base.proofs.Elements.{same_place}
use Rattle.rose_values.specs.Areas.{IsInteriorPoint}
use Rattle.segment_lists.specs.OnGrid.{IsOnGrid}
use Rattle.plane_classes.specs.Classes.{AreInOneClass}
use Rattle.plane_classes.proofs.RealmPlaces.{alone_in_realm}
use Rattle.plane_cells.specs.ClassNumbers.{number_at}
use Rattle.plane_cells.specs.Numbered.{nowhere}
use Rattle.plane_cells.specs.declared.classes.SideClasses.{SideClasses}
use Rattle.r_blocks.specs.Places.{those}
use Rattle.r_blocks.proofs.AtPlaces.{those_ascend}
use Rattle.r_cycles.specs.Cycles.{IsCycle, CutsIntoCycles}
use Rattle.class_borders.specs.ClassLinks.{class_rim}
use Rattle.class_borders.proofs.EvenRims.{rim_is_even, rim_part}
use Rattle.class_borders.proofs.OneCycles.{one_cycle, along_border}
use Rattle.class_borders.proofs.SomeOuter.{some_outer}
use Rattle.r_faces.specs.FaceCycles.{IsBorderCycle, IsBounded, AreFaces}
use Rattle.r_faces.specs.Rims.{IsInside, IsFaceRim, IsSomeRim, HaveNone, IsWithin, AreOddSides}
use Rattle.r_faces.specs.Rounds.{IsRound}
use Rattle.r_faces.specs.Turned.{IsListBefore}
use Rattle.r_faces.specs.declared.face.Face.{Face}
use Rattle.r_faces.proofs.CycleRounds.{between, goes_along_class, class_link_of, round_of}
use Rattle.r_faces.proofs.FaceBounds.{IsCut, AreRounds, some_link, face_number_is, key_other, zero_key, some_of_key, rim_of_key}
use Rattle.r_faces.proofs.FaceBounds.{outer_of, hole_of, of_hole, cycles_apart, rest_at, rest_long, rest_apart}
use Rattle.r_faces.proofs.FaceLists.{are_faces}
use Rattle.r_faces.proofs.FaceRims.{IsKnown, known, in_order, some_rim, rim_of_place, rims_apart}
use Rattle.r_faces.proofs.ListsApart.{ascends_strictly}
use Rattle.rose_measure.proofs.Members.{Contains-map, mapped_from}
use Rattle.rose_predicates.proofs.Truths.{each, some}
use Rattle.one_reply.proofs.Listings.{IsListed, listed_numbers}
use Rattle.one_reply.proofs.SomeComponents.{has_numbers, is_known, odd_sides, are_odd}
use Rattle.one_reply.proofs.SomeCycles.{some_cycles}
use Rattle.one_reply.proofs.SomeClassNumbers.{table, table_long, table_at, HasClassNumbers, some_numbers, border_of_realm}
use Rattle.one_reply.proofs.SortedCycles.{sorted_by, turned_least}

-- ---- lists made element by element
pairs_map : {X Y : Type 0} (R : X → X → Type 0) (S : Y → Y → Type 0) (f : X → Y) → ((x y : X) → R x y → S (f x) (f y))
    → (xs : List X) → AllPairs R xs → AllPairs S (map f xs)
pairs_map R S f h [] up = λ i j d before within. absurd (omega (arith, within))
pairs_map {X} R S f h (x ∷ xs) up =
    AllPairs-cons S (f x) (map f xs) (λ k d within.
    let (y, (j, inside, at), is) = mapped_from f xs _ (Contains-get_or (map f xs) k d within) in
    subst (S (f x)) is (h x y (subst (R x) at (up 0 (suc j) y (omega arith) (omega (arith, inside))))))
    (pairs_map R S f h xs (λ i j d before within. up (suc i) (suc j) d (omega (arith, before)) (omega (arith, within))))

pub zipped : {X Y : Type 0} (P : X → Type 0) (R : X → Y → Type 0) → ((x : X) → P x → (y : Y) × R x y) → (xs : List X) → All P xs
    → (ys : List Y) × AllZip R xs ys
zipped P R make [] all = ([], tt)
zipped P R make (x ∷ xs) all =
    let (y, one) = make x (All-head P x xs all) in
    let (ys, rest) = zipped P R make xs (All-tail P x xs all) in
    (y ∷ ys, (one, rest))

-- ---- the one cycle round a class
module _ (R : List GridSegment) (N : List SideClasses) (h : IsKnown R N) where
  -- with the class on its right
  some_round : (n : ℕ) (cycles : List (List GridPoint)) (c : List GridPoint) → cycles ≡ c ∷ []
      → CutsIntoCycles (class_rim n R N) cycles → (t : List GridPoint) × IsRound R N n t
  some_round n cycles c one all =
      let cut = subst (CutsIntoCycles (class_rim n R N)) one all in
      let is_cycle = All-head IsCycle c [] cut.are_cycles in
      let goes = goes_along_class R N n c h.numbers.one_each cut in
      let (l, first) = some_link c is_cycle in
      elim (class_link_of R N n l h.numbers.one_each (along_border (class_rim n R N) c [] l cut first)) [
        | inl on_left ↦
            let (t, turned) = turned_least false c is_cycle in (
              t,
              round_of R N n c t false l.from l.to h.realm h.numbers is_cycle goes first (λ e. absurd (never e)) (λ no. on_left)
                  turned.turn turned.least turned.have,
            )
        | inr on_right ↦
            let (t, turned) = turned_least true c is_cycle in (
              t,
              round_of R N n c t true l.from l.to h.realm h.numbers is_cycle goes first (λ e. on_right) (λ no. absurd (no refl))
                  turned.turn turned.least turned.have,
            )
      ]
    where
      never : IsTrue false → ⊥
      never e = cc

-- ---- a face by its rim
-- the number beyond the face at each segment
abbrev beyond : List SideClasses → ℕ → ℕ → ℕ
beyond N face i = if number_at N i Left == face then number_at N i Right else number_at N i Left

-- a cycle for each number
all_rounds : (R : List GridSegment) (N : List SideClasses) (keys : List ℕ)
    → ((k : ℕ) → k < length keys → (c : List GridPoint) × IsRound R N (slice_index keys k) c)
    → (cycles : List (List GridPoint)) × (length cycles ≡ length keys) × AreRounds R N keys cycles
all_rounds R N [] make = ([], refl, λ k d within. absurd (omega (arith, within)))
all_rounds R N (key ∷ keys) make =
    let (c, first) = make 0 (omega arith) in
    let (cycles, as_many, rounds) = all_rounds R N keys (λ k within. make (suc k) (omega (arith, within))) in
    (c ∷ cycles, ap suc as_many, both c first cycles rounds)
  where
    both : (c : List GridPoint) → IsRound R N key c → (cycles : List (List GridPoint)) → AreRounds R N keys cycles
        → AreRounds R N (key ∷ keys) (c ∷ cycles)
    both c first cycles rounds zero d within = first
    both c first cycles rounds (suc k) d within = rounds k d (omega (arith, within))

module _ (B R : List GridSegment) (grid : All IsOnGrid R) (rim : IsSomeRim B R) where
  has : HasClassNumbers R
  has = some_numbers R (border_of_realm R rim.noded rim.ascending grid)

  abbrev N : List SideClasses
  N = has.numbers

  rim_known : IsKnown R N
  rim_known = known R N rim.noded rim.ascending rim.even grid has.are

  outer : (i : ℕ) × (i < length R) × (number_at N i Right ≡ 0)
  outer = some_outer R N rim_known.realm has.are rim.some

  abbrev face : ℕ
  face = number_at N outer.0 Left

  abbrev U : List ℕ
  U = table (beyond N face) (length R)

  listed : (keys : List ℕ) × IsListed (λ m n. m < n) U keys
  listed = listed_numbers U

  abbrev keys : List ℕ
  keys = listed.0

  is_cut : IsCut R N face U keys
  is_cut = record {
    known = rim_known;
    key = record { at = outer.0; within = outer.1; outer = outer.2; is = refl };
    beyond = record {
      one_each = table_long (beyond N face) (length R);
      each = λ i within. table_at (beyond N face) (length R) i 0 within;
    };
    keys_are = record {
      ascending = λ k within. listed.1.ascending k (k + 1) 0 (omega arith) within;
      same = listed.1.exact;
    };
  }

  -- the segments beyond which a key is lie between two classes, so they are cut into one cycle
  round_of_key : (k : ℕ) → k < length keys → (c : List GridPoint) × IsRound R N (slice_index keys k) c
  round_of_key k within =
      let n = slice_index keys k in
      let inside = rim.of_face.inside in
      let same = rim_of_key R N rim.place face U keys k is_cut inside within in
      let part = class_rim n R N in
      let order = λ (s : GridSegment) (there : Contains part s). in_order R rim_known.realm s (rim_part n R N s there) in
      let up = subst (AllPairs IsSegmentBefore) same (those_ascend n U R rim.ascending) in
      let (cycles, cut) = some_cycles part up (each (λ s. IsBefore s.a s.b) part order) (rim_is_even R N n rim_known.realm has.are) in
      let filled = subst (λ (l : List GridSegment). 0 < length l) same (some_of_key R N face U keys k is_cut within) in
      let first = Contains-get_or part 0 nowhere filled in
      let (p, q, across) = between R N face n (get_or part 0 nowhere) has.are
      (face_number_is R N rim.place face is_cut.key rim_known inside) (key_other R N rim.place face U keys k is_cut inside within) first in
      let (c, one) = one_cycle R part p q cycles (get_or part 0 nowhere) (record {
        order = order;
        part = rim_part n R N;
        alone = λ s there. alone_in_realm R R s rim.noded (λ t in_R. in_R) (rim_part n R N s there);
        across = across;
      }) cut first in
      some_round R N rim_known n cycles c one cut

  -- the first cycle is the border to the outside, and each other one that to an enclosed class
  bounded : (cycles : List (List GridPoint)) → length cycles ≡ length keys → AreRounds R N keys cycles → (holes : List (List GridPoint))
      → IsPermutation (remove cycles 0) holes → AllPairs (λ c d. IsListBefore d c → ⊥) holes → (z : Place) → IsInside R z
      → IsBounded R z (record { outer = get_or cycles 0 []; holes = holes })
  bounded cycles as_many rounds holes moved sorted z inside = record {
    outer_cycle = outer_of R N z face U keys cycles (get_or cycles 0 []) is_cut inside as_many rounds
        (same_place cycles 0 [] (get_or cycles 0 []) filled);
    only = λ hole there.
        let in_rest = Contains-permutation holes rest hole (IsPermutation-sym rest holes moved) there in
        of_hole R N z face U keys cycles in_rest.0 hole is_cut inside as_many rounds (omega (arith, in_rest.1, long))
        (sym (rest_at cycles in_rest.0 hole) ∙ in_rest.2);
    each = λ y enclosed.
        let hole = hole_of R N z y face U keys cycles is_cut inside as_many rounds enclosed in
        let found = get_or rest hole.0 [] in
        let in_rest : Contains rest found = Contains-get_or rest hole.0 [] (omega (arith, hole.1, long)) in
        let in_holes = Contains-permutation rest holes found moved in_rest in (
          in_holes.0,
          found,
          in_holes.1,
          in_holes.2,
          subst (IsBorderCycle R z (AreInOneClass R y)) (sym (rest_at cycles hole.0 [])) (hole.2 []),
        );
    ascending = ascends_strictly (λ (l : List GridPoint). l) rest holes moved
        (rest_apart (λ a b. a ≢ b) cycles (cycles_apart R N face U keys cycles is_cut as_many rounds)) sorted;
  }
    where
      rest : List (List GridPoint)
      rest = remove cycles 0

      filled : 0 < length cycles
      filled = let there = zero_key R N face U keys is_cut in omega (arith, there.1, as_many)

      long : length rest + 1 ≡ length cycles
      long = rest_long cycles filled

  pub some_face : (f : Face) × IsWithin R f
  some_face =
      let (cycles, as_many, rounds) = all_rounds R N keys round_of_key in
      let (holes, moved, sorted) = sorted_by (λ (c : List GridPoint). c) (remove cycles 0) in
      (record { outer = get_or cycles 0 []; holes = holes }, bounded cycles as_many rounds holes moved sorted)

-- ---- the faces of a region
module _ (B : List GridSegment) (noded : AreNoded B) (up : AllPairs IsSegmentBefore B) (even : IsEvenBorder B) (grid : All IsOnGrid B) where
  abbrev M : List SideClasses
  M = (has_numbers B noded up even grid).numbers

  border_known : IsKnown B M
  border_known = is_known B noded up even grid

  abbrev K : List ℕ
  K = odd_sides B noded up even grid

  odd : AreOddSides B M (length B) K
  odd = are_odd B noded up even grid

  -- one rim for each number of an odd side
  odd_numbers : (ns : List ℕ) × IsListed (λ m n. m < n) K ns
  odd_numbers = listed_numbers K

  abbrev rims : List (List GridSegment)
  rims = map (λ n. those n K B) odd_numbers.0

  are_rims : All (IsSomeRim B) rims
  are_rims = each (IsSomeRim B) rims (λ r there.
      let (n, in_list, is) = mapped_from (λ n. those n K B) odd_numbers.0 r there in
      subst (IsSomeRim B) is (some_rim B M K n border_known odd ((odd_numbers.1.exact n).0 in_list)))

  each_place : (z : Place) → IsInteriorPoint B z → Any (λ r. IsFaceRim B r z) rims
  each_place z inner =
      let (n, there, is) = rim_of_place B M K z border_known odd inner in
      some (λ r. IsFaceRim B r z) rims (those n K B)
      (Contains-map (λ m. those m K B) odd_numbers.0 n ((odd_numbers.1.exact n).1 there)) is

  rims_apart_all : AllPairs HaveNone rims
  rims_apart_all = pairs_map (λ m n. m < n) HaveNone (λ n. those n K B) (λ m n less s there again.
      let same = rims_apart B K m n s border_known.realm there again in omega (arith, same, less)) odd_numbers.0 odd_numbers.1.ascending

  face_within : (r : List GridSegment) → IsSomeRim B r → (f : Face) × IsWithin r f
  face_within r rim =
      some_face B r (each IsOnGrid r (λ s there. All-contains IsOnGrid B s grid (rim.of_face.is_rim.of_these s there).0)) rim

  pub some_faces : (faces : List Face) × AreFaces B faces
  some_faces =
      let (faces, zip) = zipped (IsSomeRim B) IsWithin face_within rims are_rims in
      let (sorted, moved, order) = sorted_by (λ (f : Face). f.outer) faces in
      (sorted, are_faces (λ (r : List GridSegment). r) B rims faces sorted grid are_rims each_place rims_apart_all zip moved order)
