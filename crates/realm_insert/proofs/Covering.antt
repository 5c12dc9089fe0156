-- This file shows which violations the pieces that are still to be looked at cover.
use Rattle.std.proofs.Common.{◌≡◌, ◌⊎◌, ◌-◌, Option, Some, None, List, [], ◌∷◌, ◌++◌, length, map, Contains, inl, inr}
use Rattle.std.proofs.Common.{refl, ap, subst, sym, ◌∙◌, arith}
use Rattle.std.specs.Option.{option_to_list}
use Rattle.std.specs.List.{slice_get}
use Rattle.std.proofs.lemmas.Option.{slice_get_cases}
use Rattle.std.proofs.lemmas.List.Elements.{Contains-append_left, Contains-append_right, Contains-push_cases}
use Rattle.grid_base.specs.Segment.{GridSegment, IsEnd}
use Rattle.grid_base.specs.Crossing.{Inside, Cross}
use Rattle.grid_base.specs.Realm.{PointInside, TwoCross}
use Rattle.grid_base.specs.Drawing.{Drawing, IsPiece, HasViolation}
use Rattle.grid_base.specs.declared.kinds.Step.{Step}
use Rattle.grid_base.proofs.Crossings.{Cross-swap}
use Rattle.grid_base.proofs.Elements.{Contains-nil}
use Rattle.realm_drawing.specs.Draws.{DrawsAnew}
use Rattle.realm_drawing.specs.Keyed.{KeyedDrawing, AreKeyed, keyed as keyed_with}
use Rattle.realm_drawing.specs.declared.keyed.KeyedPiece.{KeyedPiece}
use Rattle.chain_laws.proofs.Elements.{Any-nil, Any-single, Any-append_cases, Any-append_left, Any-append_right}
use Rattle.chain_laws.proofs.Elements.{Any-map, Contains-map}
use Rattle.realm_insert.specs.Work.{IsCoveredBy, IsClean}

-- ---- after a step
-- A violation with a piece that wasn't there has a piece that the step draws anew, and one with a point that wasn't there
-- an end of such a piece. All others were there before.
pub covered_after : (old new : KeyedDrawing) (step : Step) (fresh : List GridSegment) (drawn : List KeyedPiece) → AreKeyed new
    → IsCoveredBy old.drawing fresh → DrawsAnew step old new drawn → IsCoveredBy new.drawing (fresh ++ map (λ f. f.piece) drawn)
covered_after old new step fresh drawn keyed covered draws = record {
  points = λ p t point piece inside. elim (was t piece) [
    | inr listed ↦ inl (Contains-append_right fresh pieces t listed)
    | inl old_piece ↦ elim (draws.ends p point) [
      | inr end ↦
          inr (Any-append_right (λ s. IsEnd p s) fresh pieces (Any-map (λ s. IsEnd p s) (λ (f : KeyedPiece). f.piece) drawn end))
      | inl old_point ↦ elim (covered.points p t old_point old_piece inside) [
        | inl listed ↦ inl (Contains-append_left fresh pieces t listed)
        | inr end ↦ inr (Any-append_left (λ s. IsEnd p s) fresh pieces end)
      ]
    ]
  ];
  crossings = λ t u piece_t piece_u cross. elim (was t piece_t) [
    | inr listed ↦ inl (Contains-append_right fresh pieces t listed)
    | inl old_t ↦ elim (was u piece_u) [
      | inr listed ↦ inr (Contains-append_right fresh pieces u listed)
      | inl old_u ↦ elim (covered.crossings t u old_t old_u cross) [
        | inl listed ↦ inl (Contains-append_left fresh pieces t listed)
        | inr listed ↦ inr (Contains-append_left fresh pieces u listed)
      ]
    ]
  ];
}
  where
    pieces : List GridSegment
    pieces = map (λ f. f.piece) drawn

    was : (t : GridSegment) → IsPiece new.drawing t → IsPiece old.drawing t ⊎ Contains pieces t
    was t piece =
        let key = keyed.some_key t piece in
        elim (draws.all_pieces t key.0 key.1) [
          | inl old_piece ↦ inl old_piece
          | inr (i, within, is) ↦
              inr ((Contains-map (λ (f : KeyedPiece). f.piece) drawn t).1 (i, keyed_with t key.0, within, is, refl))
        ]

-- ---- after a look at a piece
-- a clean piece has no part in a violation, so the list does without it
pub covered_without : (d : Drawing) (fresh : List GridSegment) (s : GridSegment) → IsCoveredBy d (fresh ++ s ∷ [])
    → IsClean d s → IsCoveredBy d fresh
covered_without d fresh s covered clean = record {
  points = λ p t point piece inside. elim (covered.points p t point piece inside) [
    | inl listed ↦ elim (Contains-push_cases fresh s t listed) [
      | inl rest ↦ inl rest
      | inr same ↦ absurd (clean.nothing_inside p point
          (subst (IsPiece d) (sym same) piece) (subst (Inside p) (sym same) inside))
    ]
    | inr end ↦ elim (Any-append_cases (λ s. IsEnd p s) fresh (s ∷ []) end) [
      | inl rest ↦ inr rest
      | inr last ↦ absurd (clean.no_end_inside p t (Any-single (λ s. IsEnd p s) s last) point piece inside)
    ]
  ];
  crossings = λ t u piece_t piece_u cross. elim (covered.crossings t u piece_t piece_u cross) [
    | inl listed ↦ elim (Contains-push_cases fresh s t listed) [
      | inl rest ↦ inl rest
      | inr same ↦ absurd (clean.no_crossing u
          (subst (IsPiece d) (sym same) piece_t) piece_u (subst (λ (r : GridSegment). Cross r u) (sym same) cross))
    ]
    | inr listed ↦ elim (Contains-push_cases fresh s u listed) [
      | inl rest ↦ inr rest
      | inr same ↦ absurd (clean.no_crossing t (subst (IsPiece d) (sym same) piece_u) piece_t
          (subst (λ (r : GridSegment). Cross r t) (sym same) (Cross-swap t u cross)))
    ]
  ];
}

-- an empty list covers no violation
pub covered_by_none : (d : Drawing) → IsCoveredBy d [] → HasViolation d → ⊥
covered_by_none d covered (PointInside p t point piece inside) =
    elim (covered.points p t point piece inside) [
      | inl listed ↦ Contains-nil t listed
      | inr end ↦ Any-nil (λ s. IsEnd p s) end
    ]
covered_by_none d covered (TwoCross t u piece_t piece_u cross) =
    elim (covered.crossings t u piece_t piece_u cross) [
      | inl listed ↦ Contains-nil t listed
      | inr listed ↦ Contains-nil u listed
    ]

-- ---- the end of the list
-- so the list does without a clean piece that is taken from its end
pub covered_after_pop : (d : Drawing) (fresh rest : List GridSegment) (s : GridSegment) (last : Option GridSegment)
    → fresh ≡ rest ++ option_to_list last → last ≡ Some s → IsCoveredBy d fresh → IsClean d s → IsCoveredBy d rest
covered_after_pop d fresh rest s last is last_is covered clean =
    let parts = is ∙ ap (λ (o : Option GridSegment). rest ++ option_to_list o) last_is in
    covered_without d rest s (subst (IsCoveredBy d) parts covered) clean

-- a list without a last piece is empty
no_last : (list : List GridSegment) → slice_get list (length list - 1) ≡ None → list ≡ []
no_last [] none = refl
no_last (s ∷ list) none = elim (slice_get_cases (s ∷ list) (length (s ∷ list) - 1)).1 [
  | inl within ↦ let found = within.2 in absurd cc
  | inr past ↦ absurd (omega arith)
]

pub covered_to_the_end : (d : Drawing) (list : List GridSegment) → slice_get list (length list - 1) ≡ None
    → IsCoveredBy d list → HasViolation d → ⊥
covered_to_the_end d list none covered = covered_by_none d (subst (IsCoveredBy d) (no_last list none) covered)
