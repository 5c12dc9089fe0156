-- This file shows that two lists of regions have an overlay: each two of them have a common region, with a border or without.
use Rattle.std.proofs.Common.{◌≡◌, ◌⊎◌, ◌↔◌, ℕ, zero, suc, ◌+◌, ◌<◌, ◌≤◌, List, [], ◌∷◌, ◌++◌, length, get_or, All, Contains}
use Rattle.std.proofs.Common.{refl, ◌∙◌, inl, inr, arith}
use Rattle.std.proofs.lemmas.List.Elements.{All-contains, All-weaker, Contains-get_or, Contains-append_cases}
use Rattle.std.proofs.lemmas.List.Elements.{Contains-append_left, Contains-append_right}
use Rattle.grid_base.specs.Border.{AreNoded, IsEvenBorder}
use Rattle.grid_base.specs.Point.{IsBefore}
use Rattle.grid_base.specs.Segment.{GridSegment}
use Rattle.grid_base.specs.declared.kinds.Kind.TheVariants.{Points, Lines, Regions}
use Rattle.grid_base.proofs.Elements.{same_place}
use Rattle.rose_values.specs.Geometry.{kind_of}
use Rattle.rose_values.specs.Operators.{segments_of}
use Rattle.rose_values.specs.declared.geometry.Geometry.{Geometry}
use Rattle.rose_values.specs.declared.geometry.Geometry.TheVariants.{P, L, R}
use Rattle.rose_values.specs.declared.operators.Op.TheVariants.{Intersection}
use Rattle.rose_overlay.proofs.OneRegion.{one_combination}
use Rattle.rose_overlay.proofs.Parted.{noded_part}
use Rattle.rose_sets.specs.Overlays.{HasPairs, IsPair, IsOverlay}
use Rattle.rose_sets.specs.Sums.{all_segments, AreOfKind}
use Rattle.rose_sets.specs.declared.pair.Pair.{Pair}
use Rattle.rose_sets.proofs.PairSteps.{IsBy, are_next, found_more, none_more}
use Rattle.rose_sets.proofs.ValueLists.{all_of, all_have}
use Rattle.one_reply.proofs.Decisions.{Decided}
use Rattle.one_reply.proofs.SomeGeometry.{IsEvenValue}
use Rattle.one_reply.proofs.SomeMade.{are_borders, some_combination}

-- the regions of both lists are of one realm, and even
pub record AreRegions (a b : List Geometry) : Type 0 where
  pub first : AreOfKind Regions a
  pub second : AreOfKind Regions b
  pub noded : AreNoded (all_segments a ++ all_segments b)
  pub ordered : All (λ s. IsBefore s.a s.b) (all_segments a ++ all_segments b)
  pub first_even : All IsEvenValue a
  pub second_even : All IsEvenValue b

-- ---- which pairs are asked for
next_column : (i j m n : ℕ) → IsBy i (j + 1) m n → IsBy i (suc j) m n
next_column i j m n (inl early) = inl early
next_column i j m n (inr (same, by)) = inr (same, omega (arith, by))

same_column : (i j m n : ℕ) → IsBy i (suc j) m n → IsBy i (j + 1) m n
same_column i j m n (inl early) = inl early
same_column i j m n (inr (same, by)) = inr (same, omega (arith, by))

no_column : (i m n : ℕ) → 0 < n → IsBy i 0 m n → m ≤ i
no_column i m n some (inl early) = early
no_column i m n some (inr (same, by)) = absurd (omega (arith, some, by))

past_row : (i l m n : ℕ) → IsBy i l m n → m ≤ suc i
past_row i l m n (inl early) = omega (arith, early)
past_row i l m n (inr (same, by)) = omega (arith, same)

in_row : (i l m n : ℕ) → n ≤ l → m ≤ suc i → IsBy i l m n
in_row i l m n within by = elim (earlier_or_next i m by) [ inl early ↦ inl early | inr next ↦ inr (next, within) ]
  where
    earlier_or_next : (i m : ℕ) → m ≤ suc i → (m ≤ i) ⊎ (m ≡ i + 1)
    earlier_or_next i m by = grind arith

-- a region has an even border
even_border : (g : Geometry) → kind_of g ≡ Regions → IsEvenValue g → IsEvenBorder (segments_of g)
even_border (P points) kind even = let no : Points ≡ Regions = kind in absurd cc
even_border (L lines) kind even = let no : Lines ≡ Regions = kind in absurd cc
even_border (R border) kind even = even

empty_or_not : (border : List GridSegment) → Decided (border ≡ [])
empty_or_not [] = inl refl
empty_or_not (s ∷ border) = inr (λ e. cc)

module _ (a b : List Geometry) (are : AreRegions a b) where
  -- ---- the regions at two places
  module _ (i j : ℕ) (in_a : i < length a) (in_b : j < length b) where
    abbrev g : Geometry
    g = get_or a i (R [])

    abbrev h : Geometry
    h = get_or b j (R [])

    in_all : (s : GridSegment) → Contains (segments_of g ++ segments_of h) s → Contains (all_segments a ++ all_segments b) s
    in_all s there = elim (Contains-append_cases (segments_of g) (segments_of h) s there) [
      | inl own ↦ Contains-append_left (all_segments a) (all_segments b) s (all_have a g s (Contains-get_or a i (R []) in_a) own)
      | inr own ↦ Contains-append_right (all_segments a) (all_segments b) s (all_have b h s (Contains-get_or b j (R []) in_b) own)
    ]

    both_noded : AreNoded (segments_of g ++ segments_of h)
    both_noded = noded_part (all_segments a ++ all_segments b) (segments_of g ++ segments_of h) in_all are.noded

    both_ordered : All (λ s. IsBefore s.a s.b) (segments_of g ++ segments_of h)
    both_ordered = all_of (λ (s : GridSegment). IsBefore s.a s.b) (segments_of g ++ segments_of h)
        (λ s there. All-contains (λ (t : GridSegment). IsBefore t.a t.b) (all_segments a ++ all_segments b) s are.ordered (in_all s there))

    -- the pairs so far, and those with these two
    one_more_pair : (pairs : List Pair) → HasPairs a b (IsBy i j) pairs → (more : List Pair) × HasPairs a b (IsBy i (j + 1)) more
    one_more_pair pairs so_far =
        let A = segments_of g in
        let B = segments_of h in
        let (C, up, made) = some_combination Intersection A B
        (are_borders A B both_noded both_ordered (even_border g (are.first i (R []) in_a) (are.first_even i (R []) in_a))
        (even_border h (are.second j (R []) in_b) (are.second_even j (R []) in_b))) in
        let next = are_next a b i j g h A B in_a in_b (same_read a i in_a) (same_read b j in_b) refl refl in
        elim (empty_or_not C) [
          | inl none ↦ (
            pairs,
            none_more a b i j A B pairs next
                (λ D also other. one_combination Intersection A B D C both_noded both_ordered also up other made ∙ none) so_far,
          )
          | inr some ↦
              (let found : Pair = record { i = i + 1; j = j + 1; g = R C } in (
                pairs ++ found ∷ [],
                found_more a b i j A B C pairs found next in_a in_b both_noded both_ordered
                    (record { at_i = refl; at_j = refl; is = refl; made = made; ascending = up; some = some }) so_far,
              ))
        ]
      where
        same_read : (list : List Geometry) (k : ℕ) → k < length list → get_or list k (R []) ≡ get_or list k (get_or list k (R []))
        same_read list k within = same_place list k (R []) (get_or list k (R [])) within

  -- ---- one region of the first list after another, each with one of the second after another
  abbrev HaveSome : (ℕ → ℕ → Type 0) → Type 0
  HaveSome Asked = (pairs : List Pair) × HasPairs a b Asked pairs

  -- the same pairs, where others are asked for in other words
  same_pairs : (Asked Now : ℕ → ℕ → Type 0) → ((p : Pair) → IsPair a b p → Asked p.i p.j ↔ Now p.i p.j) → HaveSome Asked → HaveSome Now
  same_pairs Asked Now same (pairs, has) = (
    pairs,
    record {
      ascending = has.ascending;
      only = All-weaker (λ (p : Pair). IsPair a b p × Asked p.i p.j) (λ (p : Pair). IsPair a b p × Now p.i p.j)
          (λ p both. (both.0, (same p both.0).0 both.1)) pairs has.only;
      each = λ p is asked. has.each p is ((same p is).1 asked);
    },
  )

  row : (i j : ℕ) → i < length a → j ≤ length b → HaveSome (IsBy i 0) → HaveSome (IsBy i j)
  row i zero in_a within so_far = so_far
  row i (suc j) in_a within so_far =
      let (pairs, has) = row i j in_a (omega (arith, within)) so_far in
      same_pairs (IsBy i (j + 1)) (IsBy i (suc j)) (λ p is. (next_column i j p.i p.j, same_column i j p.i p.j))
      (one_more_pair i j in_a (omega (arith, within)) pairs has)

  rows : (i : ℕ) → i ≤ length a → HaveSome (λ m n. m ≤ i)
  rows zero within = (
    [],
    record {
      ascending = λ i j d before late. absurd (omega (arith, late));
      only = λ k d late. absurd (omega (arith, late));
      each = λ p is early. let first = is.first.0 in absurd (omega (arith, first, early));
    },
  )
  rows (suc i) within =
      let before = same_pairs (λ m n. m ≤ i) (IsBy i 0) (λ p is. (λ early. inl early, no_column i p.i p.j is.second.0))
      (rows i (omega (arith, within))) in
      same_pairs (IsBy i (length b)) (λ m n. m ≤ suc i) (λ p is. (past_row i (length b) p.i p.j, in_row i (length b) p.i p.j is.second.1))
      (row i (length b) (omega (arith, within)) (omega arith) before)

  pub some_pairs : HaveSome (λ m n. Unit {0})
  some_pairs = same_pairs (λ m n. m ≤ length a) (λ m n. Unit {0}) (λ p is. (λ early. tt, λ any. is.first.1)) (rows (length a) (omega arith))

-- ---- both lists
pub some_overlay : (a b : List Geometry) → AreRegions a b → (pairs : List Pair) × IsOverlay a b pairs
some_overlay a b are = some_pairs a b are
