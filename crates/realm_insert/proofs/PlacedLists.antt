-- This file shows what straight originals and explicit points make of a drawing some of whose violations are covered.
use Rattle.std.proofs.Common.{◌≡◌, ◌⊎◌, ◌↔◌, ℕ, ◌+◌, ◌<◌, ◌≤◌, List, [], ◌∷◌, ◌++◌, length, get_or, take, drop}
use Rattle.std.proofs.Common.{Contains, All, inl, inr, refl, sym, ap, subst, append_assoc, ◌∙◌}
use Rattle.std.proofs.lemmas.List.{take_more, drop_more, drop_all}
use Rattle.std.proofs.lemmas.List.Elements.{Contains-append_left, Contains-append_right, Contains-push, Contains-push_cases}
use Rattle.grid_base.specs.Point.{GridPoint, IsBefore}
use Rattle.grid_base.specs.Segment.{GridSegment, IsEnd}
use Rattle.grid_base.specs.Crossing.{Inside}
use Rattle.grid_base.specs.Realm.{PointInside, TwoCross}
use Rattle.grid_base.specs.Drawing.{Drawing, IsPiece, HasViolation}
use Rattle.grid_base.specs.declared.original.Original.{Original}
use Rattle.hook_chain.specs.StandingChains.{AllValid, HasValidChain}
use Rattle.hook_chain.specs.Straight.{placed}
use Rattle.realm_drawing.specs.Keyed.{KeyedDrawing, AddsPoint}
use Rattle.realm_drawing.proofs.Additions.{piece_is_old_or_new, point_is_old_or_end}
use Rattle.grid_base.proofs.Elements.{Contains-nil}
use Rattle.chain_laws.proofs.Elements.{Any-head, Any-append_left, Any-append_right, Contains-head}
use Rattle.realm_insert.specs.Changes.{placed_all}
use Rattle.realm_insert.specs.Work.{IsCoveredBy, AddsPoints}
use Rattle.realm_insert.proofs.MarkedPoints.{marked_piece, marked_point}

-- where there is no violation, none has to be covered
pub nothing_to_cover : (d : Drawing) → (HasViolation d → ⊥) → IsCoveredBy d []
nothing_to_cover d settled = record {
  points = λ p t point piece inside. absurd (settled (PointInside p t point piece inside));
  crossings = λ t u piece_t piece_u cross. absurd (settled (TwoCross t u piece_t piece_u cross));
}

-- a violation that a straight original makes has its piece or an end of it
pub covered_with : (d : Drawing) (id : ℕ) (s : GridSegment) (list : List GridSegment) → IsBefore s.a s.b → IsCoveredBy d list
    → IsCoveredBy (placed d id s) (list ++ s ∷ [])
covered_with d id s list ordered covered = record {
  points = λ p t point piece inside. elim (was t piece) [
    | inr same ↦ inl (last t same)
    | inl old ↦ elim (point_is_old_or_end d id s p ordered point) [
      | inr end ↦ inr (Any-append_right (λ r. IsEnd p r) list (s ∷ []) (Any-head (λ r. IsEnd p r) s [] end))
      | inl old_point ↦ elim (covered.points p t old_point old inside) [
        | inl listed ↦ inl (Contains-append_left list (s ∷ []) t listed)
        | inr end ↦ inr (Any-append_left (λ r. IsEnd p r) list (s ∷ []) end)
      ]
    ]
  ];
  crossings = λ t u piece_t piece_u cross. elim (was t piece_t) [
    | inr same ↦ inl (last t same)
    | inl old_t ↦ elim (was u piece_u) [
      | inr same ↦ inr (last u same)
      | inl old_u ↦ elim (covered.crossings t u old_t old_u cross) [
        | inl listed ↦ inl (Contains-append_left list (s ∷ []) t listed)
        | inr listed ↦ inr (Contains-append_left list (s ∷ []) u listed)
      ]
    ]
  ];
}
  where
    was : (t : GridSegment) → IsPiece (placed d id s) t → IsPiece d t ⊎ (s ≡ t)
    was t piece = piece_is_old_or_new d id s t ordered piece

    last : (t : GridSegment) → s ≡ t → Contains (list ++ s ∷ []) t
    last t same = Contains-append_right list (s ∷ []) t (Contains-head s [] t same)

-- a violation that an explicit point makes has a piece with the point inside
pub covered_round : (old new : KeyedDrawing) (p : GridPoint) (list round : List GridSegment) → AddsPoint old new p
    → IsCoveredBy old.drawing list → ((t : GridSegment) → Contains round t ↔ (IsPiece new.drawing t × Inside p t))
    → IsCoveredBy new.drawing (list ++ round)
covered_round old new p list round adds covered exact = record {
  points = λ q t point piece inside. elim (marked_point old new p adds q point) [
    | inr same ↦
        inl (Contains-append_right list round t ((exact t).1 (piece, subst (λ (r : GridPoint). Inside r t) same inside)))
    | inl old_point ↦ elim (covered.points q t old_point (was t piece) inside) [
      | inl listed ↦ inl (Contains-append_left list round t listed)
      | inr end ↦ inr (Any-append_left (λ r. IsEnd q r) list round end)
    ]
  ];
  crossings = λ t u piece_t piece_u cross. elim (covered.crossings t u (was t piece_t) (was u piece_u) cross) [
    | inl listed ↦ inl (Contains-append_left list round t listed)
    | inr listed ↦ inr (Contains-append_left list round u listed)
  ];
}
  where
    was : (t : GridSegment) → IsPiece new.drawing t → IsPiece old.drawing t
    was t piece = marked_piece old new p adds t piece

-- ---- one after the other
-- one more is placed, and the others are still to be
pub placed_next : (d e : Drawing) (f : Drawing) (id : ℕ) (list : List GridSegment) (i : ℕ) (s : GridSegment) → i < length list
    → s ≡ get_or list i s → placed_all d id (drop i list) ≡ f → e ≡ placed d id s
    → placed_all e (id + 1) (drop (i + 1) list) ≡ f
placed_next d e f id list i s within is was placed_one =
    let rest = drop (i + 1) list in
    let front : drop i list ≡ s ∷ rest =
    drop_more list i s within ∙ ap (λ (t : GridSegment). t ∷ rest) (sym is) in
    ap (λ (g : Drawing). placed_all g (id + 1) rest) placed_one
    ∙ ap (λ (l : List GridSegment). placed_all d id l) (sym front) ∙ was

-- and where none is left all are placed
pub placed_to_the_end : (d f : Drawing) (id : ℕ) (list : List GridSegment) (i : ℕ) → length list ≤ i
    → placed_all d id (drop i list) ≡ f → d ≡ f
placed_to_the_end d f id list i past was =
    ap (λ (l : List GridSegment). placed_all d id l) (sym (drop_all i list past)) ∙ was

pub covered_next : (d : Drawing) (before list : List GridSegment) (i : ℕ) (s : GridSegment) → i < length list
    → s ≡ get_or list i s → IsCoveredBy d ((before ++ take i list) ++ s ∷ []) → IsCoveredBy d (before ++ take (i + 1) list)
covered_next d before list i s within is covered =
    let longer : take i list ++ s ∷ [] ≡ take (i + 1) list =
    ap (λ (t : GridSegment). take i list ++ t ∷ []) is ∙ sym (take_more list i s within) in
    subst (IsCoveredBy d)
    (append_assoc before (take i list) (s ∷ []) ∙ ap (λ (l : List GridSegment). before ++ l) longer) covered

-- the points so far are explicit, and one more
pub adds_none : (d : KeyedDrawing) → AddsPoints [] d d
adds_none d = record {
  points = λ q. (λ has. inr has, λ either. elim either [ inl none ↦ absurd (Contains-nil q none) | inr has ↦ has ]);
  originals = refl;
  keys = refl;
}

pub adds_next : (old mid new : KeyedDrawing) (path : List GridPoint) (i : ℕ) (p : GridPoint) → i < length path
    → p ≡ get_or path i p → AddsPoints (take i path) old mid → AddsPoint mid new p → AddsPoints (take (i + 1) path) old new
adds_next old mid new path i p within is was one =
    let longer : take i path ++ p ∷ [] ≡ take (i + 1) path =
    ap (λ (q : GridPoint). take i path ++ q ∷ []) is ∙ sym (take_more path i p within) in
    subst (λ (l : List GridPoint). AddsPoints l old new) longer record {
      points = λ q. (
        λ has. elim ((one.points q).0 has) [
          | inl same ↦ inl (subst (Contains (take i path ++ p ∷ [])) (sym same) (Contains-push (take i path) p))
          | inr had ↦ elim ((was.points q).0 had) [
            | inl earlier ↦ inl (Contains-append_left (take i path) (p ∷ []) q earlier)
            | inr first ↦ inr first
          ]
        ],
        λ either. elim either [
          | inl listed ↦ elim (Contains-push_cases (take i path) p q listed) [
            | inl earlier ↦ (one.points q).1 (inr ((was.points q).1 (inl earlier)))
            | inr same ↦ (one.points q).1 (inl (sym same))
          ]
          | inr first ↦ (one.points q).1 (inr ((was.points q).1 (inr first)))
        ],
      );
      originals = one.originals ∙ was.originals;
      keys = one.keys ∙ was.keys;
    }

pub valid_marked : (old new : KeyedDrawing) (p : GridPoint) → AddsPoint old new p → AllValid old.drawing → AllValid new.drawing
valid_marked old new p adds valid = subst (λ (l : List Original). All HasValidChain l) (sym adds.originals) valid
