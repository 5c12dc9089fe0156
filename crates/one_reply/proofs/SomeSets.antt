-- This file shows that in a valid state operators on lists of values have a reply.
use Rattle.std.proofs.Common.{◌≡◌, ◌≢◌, ◌⊎◌, ℕ, List, [], ◌∷◌, ◌++◌, Contains, All, refl, sym, ◌∙◌, inl, inr, arith}
use Rattle.std.proofs.lemmas.List.Elements.{All-contains, All-cons, Contains-append_left, Contains-append_right, Contains-append_cases}
use Rattle.grid_base.specs.Point.{IsBefore}
use Rattle.grid_base.specs.Segment.{GridSegment}
use Rattle.grid_base.specs.declared.kinds.Kind.TheVariants.{Regions}
use Rattle.grid_base.proofs.Elements.{Contains-here, Contains-later}
use Rattle.rose_values.specs.Geometry.{kind_of}
use Rattle.rose_values.specs.Operators.{segments_of}
use Rattle.rose_values.specs.declared.geometry.Geometry.{Geometry}
use Rattle.rose_operators.specs.Results.{IsAscending}
use Rattle.rose_sets.specs.Overlays.{HasOther}
use Rattle.rose_sets.specs.Sums.{all_segments, AreOfKind, AreMixed}
use Rattle.rose_sets.proofs.ValueLists.{some_of, all_of, any_in}
use Rattle.rose_sets.proofs.ZippedLists.{all_of_zip}
use Rattle.segment_lists.specs.OnGrid.{IsOnGrid}
use Rattle.value_geometry.proofs.RealmPieces.{pieces_are_noded}
use Rattle.realm_insert.specs.State.{State}
use Rattle.realm_insert.specs.Operands.{LacksName}
use Rattle.realm_insert.specs.Snapshots.{IsValidState}
use Rattle.realm_insert.specs.declared.refusal.Refusal.TheVariants.{NoName, Types}
use Rattle.realm_insert.proofs.NamedOperands.{named_pieces}
use Rattle.rose_query.specs.Causes.{Answer}
use Rattle.rose_query.specs.Replies.{no_reply, value_reply, parts_reply, pairs_reply, groups_reply}
use Rattle.rose_query.specs.Sets.{IsPresentValue, ArePresentValues, LacksSome, names_of, keys_of}
use Rattle.rose_query.specs.Sets.{AnswersSum, AnswersDecompose, AnswersOverlay, AnswersFusion}
use Rattle.rose_query.proofs.FaceAnswers.{is_named}
use Rattle.rose_query.proofs.PresentValues.{lacks_none, both_lack_none, mixed_kinds, other_kinds, one_key_each, present_noded, both_noded}
use Rattle.rose_query.proofs.PresentValues.{present_pieces}
use Rattle.one_reply.specs.Answerable.{IsDrawnOnGrid}
use Rattle.one_reply.proofs.OneSet.{present_ordered}
use Rattle.one_reply.proofs.SomeGeometry.{IsEvenValue, some_value}
use Rattle.one_reply.proofs.SomeOperands.{piece_on_grid}
use Rattle.one_reply.proofs.SomeOverlay.{some_overlay}
use Rattle.one_reply.proofs.SomeParts.{some_parts}
use Rattle.one_reply.proofs.SomeSums.{AreSound, AreAlike, alike_or_mixed, regions_or_other, some_sum, some_fusion}

-- the answer allows some reply in the state
abbrev pub IsTold : Answer → State → Type 0
IsTold answer s = (reply : List ℕ) × answer s reply

-- ---- the values with the names of a list
record HasValues (s : State) (names : List (List ℕ)) : Type 0 where
  values : List Geometry
  are : ArePresentValues s names values
  even : All IsEvenValue values

-- each name is a value's, or one is lacking
some_values : (s : State) (names : List (List ℕ)) → IsValidState s → LacksSome names s.values ⊎ HasValues s names
some_values s [] valid = inr (record { values = []; are = tt; even = λ k d within. absurd (omega (arith, within)) })
some_values s (name ∷ names) valid = elim (some_value s name valid) [
  | inl lacks ↦ inl (some_of (λ (n : List ℕ). LacksName n s.values) (name ∷ names) name (Contains-here name names) lacks)
  | inr (g, is) ↦ elim (some_values s names valid) [
    | inl lacks ↦ inl (any_in (λ (n : List ℕ). LacksName n s.values) names (name ∷ names) (Contains-later name names) lacks)
    | inr behind ↦ inr (record {
      values = g ∷ behind.values;
      are = ((is.is_geometry, is.ascending), behind.are);
      even = All-cons IsEvenValue g behind.values is.even behind.even;
    })
  ]
]

-- they are of one realm, even where they are regions, and each ascends
sound : (s : State) (names : List (List ℕ)) → IsValidState s → (of : HasValues s names) → AreSound of.values
sound s names valid of = record {
  noded = present_noded s names of.values of.are valid.realm;
  ordered = present_ordered s names of.values of.are;
  even = of.even;
}

ascend : (s : State) (names : List (List ℕ)) → (of : HasValues s names) → All IsAscending of.values
ascend s names of = all_of_zip (IsPresentValue s) IsAscending names of.values (λ name g is. is.1) of.are

-- values of one kind aren't of two
not_mixed : (list : List Geometry) → AreAlike list → AreMixed list → ⊥
not_mixed list alike (inl none) = alike.some none
not_mixed list alike (inr (g, h, there, also, differ)) =
    differ (All-contains (λ (k : Geometry). kind_of k ≡ alike.kind) list g alike.of_kind there
    ∙ sym (All-contains (λ (k : Geometry). kind_of k ≡ alike.kind) list h alike.of_kind also))

-- ---- sums
pub told_sum : (names : List (List ℕ)) (s : State) → IsValidState s → IsTold (AnswersSum names) s
told_sum names s valid = elim (some_values s names valid) [
  | inl lacks ↦ (no_reply NoName, inl (lacks, refl))
  | inr of ↦
      let none = lacks_none s names of.values of.are in
      let same = mixed_kinds s names of.values of.are in
      elim (alike_or_mixed of.values) [
        | inr mixed ↦ (no_reply Types, inr (none, inl (same.1 mixed, refl)))
        | inl alike ↦
            let sum = some_sum of.values alike (sound s names valid of) (ascend s names of) in (
              value_reply sum.made,
              inr (
                none,
                inr (
                  λ cause. not_mixed of.values alike (same.0 cause),
                  record {
                    values = of.values;
                    are_present = of.are;
                    noded = present_noded s names of.values of.are valid.realm;
                    made = sum.made;
                    is_sum = sum.is_sum;
                    ascending = sum.ascending;
                    reply_is = refl;
                  },
                ),
              ),
            )
      ]
]

-- ---- fusions
pub told_fusion : (entries : List (List ℕ × ℕ)) (s : State) → IsValidState s → IsTold (AnswersFusion entries) s
told_fusion entries s valid = elim (some_values s (names_of entries) valid) [
  | inl lacks ↦ (no_reply NoName, inl (lacks, refl))
  | inr of ↦
      let names = names_of entries in
      let none = lacks_none s names of.values of.are in
      let same = mixed_kinds s names of.values of.are in
      elim (alike_or_mixed of.values) [
        | inr mixed ↦ (no_reply Types, inr (none, inl (same.1 mixed, refl)))
        | inl alike ↦
            let fusion = some_fusion of.values (keys_of entries) (one_key_each s entries of.values of.are) alike
            (sound s names valid of) (ascend s names of) in (
              groups_reply fusion.groups,
              inr (
                none,
                inr (
                  λ cause. not_mixed of.values alike (same.0 cause),
                  record {
                    values = of.values;
                    are_present = of.are;
                    noded = present_noded s names of.values of.are valid.realm;
                    groups = fusion.groups;
                    is_fusion = fusion.is_fusion;
                    ascending = fusion.ascending;
                    reply_is = refl;
                  },
                ),
              ),
            )
      ]
]

-- ---- overlays
-- a value of one of the lists is no region, or all are regions
abbrev RegionsOrOther : List Geometry → Type 0
RegionsOrOther list = AreOfKind Regions list ⊎ ((g : Geometry) × Contains list g × (kind_of g ≢ Regions))

no_other : (a b : List Geometry) → AreOfKind Regions a → AreOfKind Regions b → HasOther a b → ⊥
no_other a b first second (g, inl there, other) = other (All-contains (λ (h : Geometry). kind_of h ≡ Regions) a g first there)
no_other a b first second (g, inr there, other) = other (All-contains (λ (h : Geometry). kind_of h ≡ Regions) b g second there)

told_both : (first second : List (List ℕ)) (s : State) → IsValidState s → (a : HasValues s first) (b : HasValues s second)
    → RegionsOrOther a.values → RegionsOrOther b.values → IsTold (AnswersOverlay first second) s
told_both first second s valid a b (inr (g, there, other)) of_b = (
  no_reply Types,
  inr (
    both_lack_none s first second a.values b.values a.are b.are,
    inl ((other_kinds s first second a.values b.values a.are b.are).1 (g, inl there, other), refl),
  ),
)
told_both first second s valid a b (inl regions) (inr (g, there, other)) = (
  no_reply Types,
  inr (
    both_lack_none s first second a.values b.values a.are b.are,
    inl ((other_kinds s first second a.values b.values a.are b.are).1 (g, inr there, other), refl),
  ),
)
told_both first second s valid a b (inl regions) (inl also) =
    let noded = both_noded s first second a.values b.values a.are b.are valid.realm in
    let (pairs, are) = some_overlay a.values b.values (record {
      first = regions;
      second = also;
      noded = noded;
      ordered = both_ordered;
      first_even = a.even;
      second_even = b.even;
    }) in (
      pairs_reply pairs,
      inr (
        both_lack_none s first second a.values b.values a.are b.are,
        inr (
          λ cause. no_other a.values b.values regions also ((other_kinds s first second a.values b.values a.are b.are).0 cause),
          record {
            a = a.values;
            b = b.values;
            are_first = a.are;
            are_second = b.are;
            noded = noded;
            pairs = pairs;
            is_overlay = are;
            reply_is = refl;
          },
        ),
      ),
    )
  where
    both_ordered : All (λ t. IsBefore t.a t.b) (all_segments a.values ++ all_segments b.values)
    both_ordered = all_of (λ (t : GridSegment). IsBefore t.a t.b) (all_segments a.values ++ all_segments b.values)
        (λ t there. elim (Contains-append_cases (all_segments a.values) (all_segments b.values) t there) [
          | inl of_a ↦ (present_pieces s first a.values a.are t of_a).0
          | inr of_b ↦ (present_pieces s second b.values b.are t of_b).0
        ])

pub told_overlay : (first second : List (List ℕ)) (s : State) → IsValidState s → IsTold (AnswersOverlay first second) s
told_overlay first second s valid = elim (some_values s first valid) [
  | inl lacks ↦ (
    no_reply NoName,
    inl (
      any_in (λ (n : List ℕ). LacksName n s.values) first (first ++ second) (Contains-append_left first second) lacks,
      refl,
    ),
  )
  | inr a ↦ elim (some_values s second valid) [
    | inl lacks ↦ (
      no_reply NoName,
      inl (
        any_in (λ (n : List ℕ). LacksName n s.values) second (first ++ second) (Contains-append_right first second) lacks,
        refl,
      ),
    )
    | inr b ↦ told_both first second s valid a b (regions_or_other a.values) (regions_or_other b.values)
  ]
]

-- ---- parts
pub told_parts : (name : List ℕ) (s : State) → IsDrawnOnGrid s → IsValidState s → IsTold (AnswersDecompose name) s
told_parts name s grid valid = elim (some_value s name valid) [
  | inl lacks ↦ (no_reply NoName, inl (lacks, refl))
  | inr (g, is) ↦
      let pieces = named_pieces s name g is.is_geometry in
      let has = some_parts g (pieces_are_noded s.drawing valid.realm (segments_of g) pieces) is.ascending is.even
      (all_of IsOnGrid (segments_of g) (λ t there. piece_on_grid s valid.realm grid t (pieces t there))) in (
        parts_reply has.parts,
        inr (
          (λ none. none (is_named s name g is.is_geometry)),
          record {
            value = g;
            is_present = (is.is_geometry, is.ascending);
            parts = has.parts;
            are_parts = has.are;
            ascending = has.ascending;
            reply_is = refl;
          },
        ),
      )
]
