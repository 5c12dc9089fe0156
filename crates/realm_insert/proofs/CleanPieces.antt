-- This file shows that the search round a segment comes to all pieces that a violation there may have.
use Rattle.std.proofs.Common.{◌≡◌, ◌↔◌, ℕ, ◌+◌, ◌<◌, List, [], ◌∷◌, ◌++◌, length, take, get_or, All, Contains, IsSomeAnd}
use Rattle.std.proofs.Common.{sym, ap, subst, ◌∙◌, inl, inr}
use Rattle.std.proofs.lemmas.List.{take_more}
use Rattle.std.proofs.lemmas.List.Elements.{All-contains, All-contains_itself, All-weaker, Contains-push_cases}
use Rattle.std.specs.FinMap as map
use Rattle.grid_base.specs.Point.{GridPoint}
use Rattle.grid_base.specs.Segment.{GridSegment, IsEnd, BoxesMeet}
use Rattle.grid_base.specs.Crossing.{Inside}
use Rattle.grid_base.specs.Drawing.{Drawing, IsPoint, IsPiece}
use Rattle.hook_chain.specs.StandingChains.{AllValid}
use Rattle.realm_drawing.specs.Keyed.{KeyedDrawing, HasKey, AreKeyed}
use Rattle.realm_index.specs.Aside.{IsAlong}
use Rattle.realm_index.specs.Index.{Entries}
use Rattle.realm_insert.specs.Kept.{IsIndexed}
use Rattle.realm_insert.specs.Clashes.{IsInsideNone, NoClash, AreClear, IsWithin, HasKeyAmong, HasPiecesRound}
use Rattle.realm_insert.specs.Clashes.{HasPiecesMet, CanBeSearched}
use Rattle.realm_insert.specs.Work.{IsClean}
use Rattle.realm_insert.proofs.AsidePieces.{clear_unless_along}
use Rattle.realm_insert.proofs.CommonBoxes.{boxes_meet_at_end, boxes_meet_inside, boxes_meet_crossing, boxes_meet_within}
use Rattle.realm_insert.proofs.Vertices.{explicit_or_end}

-- what holds of the first elements and of the next one
pub next_too : {X : Type 0} (P : X → Type 0) (xs : List X) (i : ℕ) (d y : X) → i < length xs → y ≡ get_or xs i d
    → ((x : X) → Contains (take i xs) x → P x) → P y → (x : X) → Contains (take (i + 1) xs) x → P x
next_too P xs i d y within is before here x there =
    let next = take_more xs i d within ∙ ap (λ z. take i xs ++ z ∷ []) (sym is) in
    elim (Contains-push_cases (take i xs) y x (subst (λ l. Contains l x) next there)) [
      | inl earlier ↦ before x earlier
      | inr last ↦ subst P last here
    ]

-- the index lists the key of each piece as P says
pub key_is_listed : (P : GridSegment → Type 0) (d : KeyedDrawing) (index : Entries) (keys : List ℕ) → IsIndexed d index
    → ((k : ℕ) → Contains keys k ↔ IsSomeAnd (map.get index k) P) → (t : GridSegment) (k : ℕ) → HasKey d t k → P t
    → Contains keys k
key_is_listed P d index keys indexed exact t k has is =
    (exact k).1 (subst (λ o. IsSomeAnd o P) (sym ((indexed t k).1 has)) is)

-- the index lists the keys of exactly the pieces that are as P says
pub has_found_key : (P : GridSegment → Type 0) (d : KeyedDrawing) (index : Entries) (keys : List ℕ) → AreKeyed d
    → IsIndexed d index → ((k : ℕ) → Contains keys k ↔ IsSomeAnd (map.get index k) P) → (t : GridSegment)
    → HasKeyAmong d keys t ↔ (IsPiece d.drawing t × P t)
has_found_key P d index keys keyed indexed exact t = (
  λ (k, (there, has)).
      (keyed.of_pieces t k has, subst (λ o. IsSomeAnd o P) ((indexed t k).1 has) ((exact k).0 there)),
  λ (piece, is).
      let has = keyed.some_key t piece in
      (has.0, (key_is_listed P d index keys indexed exact t has.0 has.1 is, has.1)),
)

-- the pieces whose boxes meet a box are what is looked for round it
pub met_round : (d : Drawing) (near : GridSegment) (found list : List GridSegment) → AllValid d
    → ((t : GridSegment) → Contains found t ↔ (IsPiece d t × BoxesMeet near t)) → list ≡ found → HasPiecesMet d near list
met_round d near found list valid met is = subst (HasPiecesMet d near) (sym is) (record {
  pieces = All-weaker (Contains found) (IsPiece d) (λ t there. ((met t).0 there).0) found (All-contains_itself found);
  round = λ t piece meet. (met t).1 (piece, meet);
  valid = valid;
})

-- and so they are round each segment in it
pub searched_within : (d : Drawing) (near s : GridSegment) (list : List GridSegment) → IsWithin near s → HasPiecesMet d near list
    → CanBeSearched d s list
searched_within d near s list within met = record {
  pieces = met.pieces;
  round = λ t piece meet absent. absurd (absent (met.round t piece (boxes_meet_within near s t within meet)));
  valid = met.valid;
}

-- for the violations at s the pieces suffice whose boxes don't lie off its line
pub searched_along : (d : Drawing) (s : GridSegment) (found list : List GridSegment) → AllValid d
    → ((t : GridSegment) → Contains found t ↔ (IsPiece d t × IsAlong s t)) → list ≡ found → CanBeSearched d s list
searched_along d s found list valid along is = subst (CanBeSearched d s) (sym is) (record {
  pieces = All-weaker (Contains found) (IsPiece d) (λ t there. ((along t).0 there).0) found (All-contains_itself found);
  round = λ t piece meet absent. clear_unless_along d s t (λ off. absent ((along t).1 (piece, (meet, off))));
  valid = valid;
})

-- what is looked for round a segment is what has an end of it inside
pub round_end : (d : Drawing) (s : GridSegment) (p : GridPoint) (list : List GridSegment) → IsEnd p s → CanBeSearched d s list
    → HasPiecesRound d p list
round_end d s p list end search t point piece inside absent =
    (search.round t piece (boxes_meet_at_end s t p end inside) absent).no_end_of_s p end point inside

-- what the index finds of those is all of them
pub found_round : (d : Drawing) (p : GridPoint) (found list : List GridSegment)
    → ((t : GridSegment) → Contains found t ↔ (IsPiece d t × Inside p t)) → list ≡ found
    → All (IsPiece d) list × HasPiecesRound d p list
found_round d p found list round is = subst (λ these. All (IsPiece d) these × HasPiecesRound d p these) (sym is) (
  All-weaker (Contains found) (IsPiece d) (λ t there. ((round t).0 there).0) found (All-contains_itself found),
  λ t point piece inside absent. absent ((round t).1 (piece, inside)),
)

-- where none of the pieces that have p inside is listed, p is inside no piece
pub inside_none : (d : Drawing) (p : GridPoint) (list : List GridSegment) → HasPiecesRound d p list → All (λ t. Inside p t → ⊥) list
    → IsInsideNone d p
inside_none d p list round none t point piece inside =
    round t point piece inside (λ there. All-contains (λ u. Inside p u → ⊥) list t none there inside)

-- no violation is left at the piece s where no explicit point is inside it, and no listed piece whose box meets its box
-- clashes with it
pub clean_by : (d : Drawing) (list : List GridSegment) (s : GridSegment) → CanBeSearched d s list
    → All (λ p. Inside p s → ⊥) d.points → AreClear d s list → IsClean d s
clean_by d list s search explicit each =
    let refuted : (t : GridSegment) → IsPiece d t → BoxesMeet s t → (NoClash d s t → ⊥) → ⊥ = λ t piece meet clash.
    clash (search.round t piece meet
    (λ there. clash (All-contains (λ u. BoxesMeet s u → NoClash d s u) list t each there meet))) in
    record {
      nothing_inside = λ p point piece inside. elim (explicit_or_end d p search.valid point) [
        | inl there ↦ All-contains (λ q. Inside q s → ⊥) d.points p explicit there inside
        | inr (t, (is_piece, end)) ↦
            refuted t is_piece (boxes_meet_inside s t p end inside) (λ clear. clear.no_end_of_t p end point inside)
      ];
      no_end_inside = λ p t end point piece inside.
          refuted t piece (boxes_meet_at_end s t p end inside) (λ clear. clear.no_end_of_s p end point inside);
      no_crossing = λ t piece other cross.
          refuted t other (boxes_meet_crossing s t cross) (λ clear. clear.no_crossing cross);
    }

-- nor is one at s where it is no piece and neither end is inside a piece
pub clean_by_ends : (d : Drawing) (s : GridSegment) → (IsPiece d s → ⊥) → IsInsideNone d s.a → IsInsideNone d s.b → IsClean d s
clean_by_ends d s no_piece at_a at_b = record {
  nothing_inside = λ p point piece inside. no_piece piece;
  no_end_inside = λ p t end point piece inside. elim end [
    | inl first ↦ at_a t (subst (IsPoint d) first point) piece (subst (λ (q : GridPoint). Inside q t) first inside)
    | inr last ↦ at_b t (subst (IsPoint d) last point) piece (subst (λ (q : GridPoint). Inside q t) last inside)
  ];
  no_crossing = λ t piece other cross. no_piece piece;
}
