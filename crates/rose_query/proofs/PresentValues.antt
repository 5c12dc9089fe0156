-- This file shows what is known of the values with the names of a list, as they are at present.
use Rattle.std.proofs.Common.{◌≡◌, ◌≢◌, ◌↔◌, ℕ, ◌+◌, ◌<◌, List, [], ◌∷◌, ◌++◌, length, map, get_or, take, Contains}
use Rattle.std.proofs.Common.{refl, sym, ap, ◌∙◌, inl, inr, arith}
use Rattle.std.proofs.lemmas.List.{take_more}
use Rattle.std.proofs.lemmas.List.Elements.{Contains-append_left, Contains-append_right, Contains-append_cases}
use Rattle.grid_base.specs.Border.{AreNoded}
use Rattle.grid_base.specs.Drawing.{IsPiece, IsDrawnRealm}
use Rattle.grid_base.specs.Segment.{GridSegment}
use Rattle.grid_base.specs.declared.kinds.Kind.TheVariants.{Regions}
use Rattle.rose_values.specs.declared.geometry.Geometry.{Geometry}
use Rattle.rose_sets.specs.Overlays.{HasOther}
use Rattle.rose_sets.specs.Sums.{all_segments, AreMixed}
use Rattle.r_faces.proofs.FaceLists.{zip_more}
use Rattle.r_faces.proofs.FaceRims.{long_zip}
use Rattle.rose_sets.proofs.ValueLists.{HasSegment, some_of, found_in, segment_in_all, at_map}
use Rattle.rose_sets.proofs.ZippedLists.{of_first, of_second}
use Rattle.value_geometry.proofs.RealmPieces.{pieces_are_noded}
use Rattle.realm_insert.specs.State.{State}
use Rattle.realm_insert.specs.Operands.{LacksName}
use Rattle.realm_insert.proofs.NamedOperands.{named_pieces}
use Rattle.rose_query.specs.Outlines.{IsNoRegion}
use Rattle.rose_query.specs.Sets.{IsPresentValue, ArePresentValues, LacksSome, HasMixedKinds, HasNonRegion, names_of, keys_of}
use Rattle.rose_query.proofs.FaceAnswers.{is_named}
use Rattle.rose_query.proofs.NamedKinds.{kind_of_one, kinds_of_both}

-- ---- one list of names
module _ (s : State) (names : List (List ℕ)) (list : List Geometry) (are : ArePresentValues s names list) where
  -- each name is that of a value
  pub lacks_none : LacksSome names s.values → ⊥
  lacks_none lacks =
      let (name, there, no_value) = found_in (λ (name : List ℕ). LacksName name s.values) names lacks in
      let (g, in_list, is) = of_first (IsPresentValue s) names list name are there in
      no_value (is_named s name g is.0)

  -- each segment of a value is a piece of the drawing
  pub present_pieces : (t : GridSegment) → Contains (all_segments list) t → IsPiece s.drawing t
  present_pieces t there =
      let (g, in_list, own) = found_in (HasSegment t) list (segment_in_all list t there) in
      let (name, in_names, is) = of_second (IsPresentValue s) names list g are in_list in
      named_pieces s name g is.0 t own

  pub present_noded : IsDrawnRealm s.drawing → AreNoded (all_segments list)
  present_noded realm = pieces_are_noded s.drawing realm (all_segments list) present_pieces

  -- two names of values of different kinds are two such values
  pub mixed_kinds : HasMixedKinds names s.values ↔ AreMixed list
  mixed_kinds = (
    λ mixed. elim mixed [
      | inl none ↦ inl (no_values names list are none)
      | inr (first, second, in_first, in_second, differ) ↦
          (let (g, there, is) = of_first (IsPresentValue s) names list first are in_first in
          let (h, also, too) = of_first (IsPresentValue s) names list second are in_second in
          inr (g, h, there, also, (kinds_of_both s first second g h (λ k l. k ≢ l) is.0 too.0).0 differ))
    ],
    λ mixed. elim mixed [
      | inl none ↦ inl (no_names names list are none)
      | inr (g, h, there, also, differ) ↦
          (let (first, in_first, is) = of_second (IsPresentValue s) names list g are there in
          let (second, in_second, too) = of_second (IsPresentValue s) names list h are also in
          inr (first, second, in_first, in_second, (kinds_of_both s first second g h (λ k l. k ≢ l) is.0 too.0).1 differ))
    ],
  )
    where
      no_values : (ns : List (List ℕ)) (gs : List Geometry) → ArePresentValues s ns gs → ns ≡ [] → gs ≡ []
      no_values [] [] zip none = refl
      no_values [] (g ∷ gs) zip none = absurd zip
      no_values (n ∷ ns) gs zip none = cc

      no_names : (ns : List (List ℕ)) (gs : List Geometry) → ArePresentValues s ns gs → gs ≡ [] → ns ≡ []
      no_names [] [] zip none = refl
      no_names (n ∷ ns) [] zip none = absurd zip
      no_names ns (g ∷ gs) zip none = cc

-- ---- two lists of names
module _ (s : State) (first second : List (List ℕ)) (a b : List Geometry) (are : ArePresentValues s first a)
    (also : ArePresentValues s second b) where
  pub both_lack_none : LacksSome (first ++ second) s.values → ⊥
  both_lack_none lacks =
      let (name, there, no_value) = found_in (λ (name : List ℕ). LacksName name s.values) (first ++ second) lacks in
      elim (Contains-append_cases first second name there) [
        | inl of_a ↦ lacks_none s first a are (some_of (λ (n : List ℕ). LacksName n s.values) first name of_a no_value)
        | inr of_b ↦ lacks_none s second b also (some_of (λ (n : List ℕ). LacksName n s.values) second name of_b no_value)
      ]

  pub both_noded : IsDrawnRealm s.drawing → AreNoded (all_segments a ++ all_segments b)
  both_noded realm = pieces_are_noded s.drawing realm (all_segments a ++ all_segments b)
      (λ t there. elim (Contains-append_cases (all_segments a) (all_segments b) t there) [
        | inl of_a ↦ present_pieces s first a are t of_a
        | inr of_b ↦ present_pieces s second b also t of_b
      ])

  -- a name of a value that is no region is such a value of one of the lists
  pub other_kinds : HasNonRegion (first ++ second) s.values ↔ HasOther a b
  other_kinds = (
    λ some.
        (let (name, there, other) = found_in (λ (name : List ℕ). IsNoRegion name s.values) (first ++ second) some in
        elim (Contains-append_cases first second name there) [
          | inl of_a ↦
              (let (g, in_list, is) = of_first (IsPresentValue s) first a name are of_a in
              (g, inl in_list, (kind_of_one s name g (λ k. k ≢ Regions) is.0).0 other))
          | inr of_b ↦
              (let (g, in_list, is) = of_first (IsPresentValue s) second b name also of_b in
              (g, inr in_list, (kind_of_one s name g (λ k. k ≢ Regions) is.0).0 other))
        ]),
    λ (g, either, other). elim either [
      | inl in_list ↦
          (let (name, of_a, is) = of_second (IsPresentValue s) first a g are in_list in
          some_of (λ (n : List ℕ). IsNoRegion n s.values) (first ++ second) name (Contains-append_left first second name of_a)
          ((kind_of_one s name g (λ k. k ≢ Regions) is.0).1 other))
      | inr in_list ↦
          (let (name, of_b, is) = of_second (IsPresentValue s) second b g also in_list in
          some_of (λ (n : List ℕ). IsNoRegion n s.values) (first ++ second) name (Contains-append_right first second name of_b)
          ((kind_of_one s name g (λ k. k ≢ Regions) is.0).1 other))
    ],
  )

-- ---- names with keys
same_length : {X Y : Type 0} (f : X → Y) (xs : List X) → length (map f xs) ≡ length xs
same_length f [] = refl
same_length f (x ∷ xs) = let behind = same_length f xs in omega (arith, behind)

-- there are as many keys as values
pub one_key_each : (s : State) (entries : List (List ℕ × ℕ)) (list : List Geometry) → ArePresentValues s (names_of entries) list
    → length (keys_of entries) ≡ length list
one_key_each s entries list are =
    same_length (λ (entry : List ℕ × ℕ). entry.1) entries ∙ sym (same_length (λ (entry : List ℕ × ℕ). entry.0) entries)
    ∙ sym (long_zip (IsPresentValue s) (names_of entries) list are)

-- what is read of the entry at place k
read_at : {X Y : Type 0} (f : X → Y) (xs : List X) (k : ℕ) (x : X) → k < length xs → x ≡ get_or xs k x → f x ≡ get_or (map f xs) k (f x)
read_at f xs k x within at = ap f at ∙ sym (at_map f xs k (f x) x within)

-- the value of one entry more
pub one_value_more : (s : State) (entries : List (List ℕ × ℕ)) (list more : List Geometry) (k : ℕ) (entry : List ℕ × ℕ) (g : Geometry)
    → k < length entries → entry ≡ get_or entries k entry → more ≡ list ++ g ∷ []
    → ArePresentValues s (take k (names_of entries)) list → IsPresentValue s entry.0 g
    → ArePresentValues s (take (k + 1) (names_of entries)) more
one_value_more s entries list more k entry g within at longer so_far is =
    let name = λ (e : List ℕ × ℕ). e.0 in
    let long = same_length name entries in
    zip_more (IsPresentValue s) (names_of entries) list more k entry.0 g (omega (arith, within, long))
    (read_at name entries k entry within at) longer so_far is

-- and its key
pub one_key_more : (entries : List (List ℕ × ℕ)) (keys more : List ℕ) (k : ℕ) (entry : List ℕ × ℕ) → k < length entries
    → entry ≡ get_or entries k entry → more ≡ keys ++ entry.1 ∷ [] → keys ≡ take k (keys_of entries)
    → more ≡ take (k + 1) (keys_of entries)
one_key_more entries keys more k entry within at longer so_far =
    let key = λ (e : List ℕ × ℕ). e.1 in
    let long = same_length key entries in
    longer ∙ ap (λ (l : List ℕ). l ++ entry.1 ∷ []) so_far
    ∙ ap (λ (n : ℕ). take k (keys_of entries) ++ n ∷ []) (read_at key entries k entry within at)
    ∙ sym (take_more (keys_of entries) k entry.1 (omega (arith, within, long)))
