-- This file shows that an index in which all pieces are put is that of the drawing, and that all pieces cover its violations.
use Rattle.std.proofs.Common.{◌≡◌, ◌↔◌, ℕ, ◌+◌, ◌<◌, ◌≤◌, Some, None, List, [], ◌∷◌, ◌++◌, length, get_or, take, take_all, Contains}
use Rattle.std.proofs.Common.{sym, ap, subst, ◌∙◌, inl, inr}
use Rattle.std.specs.FinMap as map
use Rattle.std.specs.Ordering.{nat_cmp}
use Rattle.std.proofs.lemmas.List.{take_more}
use Rattle.std.proofs.lemmas.List.Elements.{Contains-append_left, Contains-push, Contains-push_cases}
use Rattle.grid_base.specs.Segment.{GridSegment}
use Rattle.grid_base.specs.Drawing.{Drawing, IsPiece}
use Rattle.grid_base.proofs.Elements.{Contains-nil}
use Rattle.realm_drawing.specs.Keyed.{KeyedDrawing, HasKey, AreKeyed}
use Rattle.realm_index.specs.Index.{Entries}
use Rattle.realm_insert.specs.Indexing.{HasPiecesOnly, AddsPiece}
use Rattle.realm_insert.specs.Kept.{IsIndexed}
use Rattle.realm_insert.specs.Work.{IsCoveredBy}

-- the index has the first i of the pieces
abbrev pub HasFirstOf : KeyedDrawing → List GridSegment → ℕ → Entries → Type 0
HasFirstOf d pieces i index =
    (t : GridSegment) (k : ℕ) → (map.get index k ≡ Some t) ↔ (Contains (take i pieces) t × HasKey d t k)

-- none is there
pub has_none : (d : KeyedDrawing) (pieces : List GridSegment) (index : Entries) → index ≡ map.empty → HasFirstOf d pieces 0 index
has_none d pieces index is = λ t k. (
  λ found.
      let none : map.get index k ≡ None = ap (λ (i : Entries). map.get i k) is ∙ map.get-empty nat_cmp k in
      absurd cc,
  λ (listed, has). absurd (Contains-nil t listed),
)

pub has_pieces : (d : KeyedDrawing) (pieces : List GridSegment) (i : ℕ) (index : Entries) → HasFirstOf d pieces i index
    → HasPiecesOnly d index
has_pieces d pieces i index was = λ s k found. ((was s k).0 found).1

-- one more is there
pub has_next : (d : KeyedDrawing) (pieces : List GridSegment) (i : ℕ) (s : GridSegment) (old new : Entries) → i < length pieces
    → s ≡ get_or pieces i s → HasFirstOf d pieces i old → AddsPiece d s old new → HasFirstOf d pieces (i + 1) new
has_next d pieces i s old new within is was adds = λ t k. (
  λ found. elim ((adds t k).0 found) [
    | inl before ↦
        let (listed, has) = (was t k).0 before in
        (subst (λ (l : List GridSegment). Contains l t) more (Contains-append_left (take i pieces) (s ∷ []) t listed), has)
    | inr (same, has) ↦ (
      subst (λ (l : List GridSegment). Contains l t) more
          (subst (Contains (take i pieces ++ s ∷ [])) (sym same) (Contains-push (take i pieces) s)),
      subst (λ (u : GridSegment). HasKey d u k) (sym same) has,
    )
  ],
  λ (listed, has). (adds t k).1 (elim (Contains-push_cases (take i pieces) s t
      (subst (λ (l : List GridSegment). Contains l t) (sym more) listed)) [
        | inl earlier ↦ inl ((was t k).1 (earlier, has))
        | inr last ↦ inr (sym last, subst (λ (u : GridSegment). HasKey d u k) (sym last) has)
      ]),
)
  where
    more : take i pieces ++ s ∷ [] ≡ take (i + 1) pieces
    more = ap (λ (u : GridSegment). take i pieces ++ u ∷ []) is ∙ sym (take_more pieces i s within)

-- all are there
pub has_all : (d : KeyedDrawing) (pieces : List GridSegment) (i : ℕ) (index : Entries) → length pieces ≤ i → AreKeyed d
    → ((t : GridSegment) → Contains pieces t ↔ IsPiece d.drawing t) → HasFirstOf d pieces i index → IsIndexed d index
has_all d pieces i index past keyed all was = λ s k. (
  λ found. ((was s k).0 found).1,
  λ has. (was s k).1
      (subst (λ (l : List GridSegment). Contains l s) (sym (take_all i pieces past)) ((all s).1 (keyed.of_pieces s k has)), has),
)

-- each violation has a piece
pub all_covered : (d : Drawing) (pieces : List GridSegment) → ((t : GridSegment) → Contains pieces t ↔ IsPiece d t)
    → IsCoveredBy d pieces
all_covered d pieces all = record {
  points = λ p t point piece inside. inl ((all t).1 piece);
  crossings = λ t u piece_t piece_u cross. inl ((all t).1 piece_t);
}
