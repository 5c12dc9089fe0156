-- This file shows what a drawing without a violation is like with an original less, or with an explicit point less.
use Rattle.std.proofs.Common.{◌≡◌, ◌⊎◌, ℕ, ◌<◌, ◌≤◌, Bool, true, false, not, ◌==◌, List, filter, Contains, All, Any}
use Rattle.std.proofs.Common.{[], ◌∷◌, cond, ◌↔◌, inl, inr, refl, sym, subst, ap, arith}
use Rattle.std.proofs.lemmas.List.Elements.{All-filter}
use Rattle.std.proofs.lemmas.Bool.Decides.{nat_tests}
use Rattle.grid_base.specs.Point.{GridPoint}
use Rattle.grid_base.specs.Segment.{GridSegment}
use Rattle.grid_base.specs.Realm.{PointInside, TwoCross}
use Rattle.grid_base.specs.Drawing.{Drawing, HasLink, IsPiece, IsPoint, HasViolation}
use Rattle.grid_base.specs.declared.original.Original.{Original}
use Rattle.hook_chain.specs.Changed.{without_id}
use Rattle.hook_chain.specs.StandingChains.{AllValid, HasValidChain}
use Rattle.realm_drawing.specs.Keyed.{KeyedDrawing, KeepsKeys, AreKeyed, TakesPoint, keyed}
use Rattle.chain_laws.proofs.Elements.{Any-nil, Any-head, Any-later, Any-cons_cases, Any-weaker}
use Rattle.realm_drawing.specs.declared.keyed.KeyedPiece.{KeyedPiece}
use Rattle.realm_index.specs.Index.{Entries}
use Rattle.value_geometry.specs.Geometry.{IsOnChainOf}
use Rattle.realm_insert.specs.Indexing.{ListsKeyed, ForgetsGone}
use Rattle.realm_insert.specs.Kept.{IsAtRest}
use Rattle.realm_insert.specs.State.{HasIdsBelow}
use Rattle.realm_insert.proofs.IndexAfter.{has_still, had_key}

-- ---- a drawing with fewer points or pieces
-- it has no violation that the larger one hasn't
pub fewer_violations : (d e : Drawing) → ((p : GridPoint) → IsPoint e p → IsPoint d p)
    → ((t : GridSegment) → IsPiece e t → IsPiece d t) → (HasViolation d → ⊥) → HasViolation e → ⊥
fewer_violations d e points pieces settled (PointInside p t point piece inside) =
    settled (PointInside p t (points p point) (pieces t piece) inside)
fewer_violations d e points pieces settled (TwoCross t u piece_t piece_u cross) =
    settled (TwoCross t u (pieces t piece_t) (pieces u piece_u) cross)

-- ---- filters
-- some element that passes has P where some element passes and has P
pub Any-passes : {X : Type 0} (p : X → Bool) (P : X → Type 0) (xs : List X)
    → Any P (filter p xs) ↔ Any (λ x. (p x ≡ true) × P x) xs
Any-passes p P [] = (λ some. absurd (Any-nil P some), λ some. absurd (Any-nil (λ x. (p x ≡ true) × P x) some))
Any-passes p P (x ∷ xs) = by_first (p x) refl (Any-passes p P xs)
  where
    by_first : (b : Bool) → p x ≡ b → Any P (filter p xs) ↔ Any (λ y. (p y ≡ true) × P y) xs
        → Any P (cond b (x ∷ filter p xs) (filter p xs)) ↔ Any (λ y. (p y ≡ true) × P y) (x ∷ xs)
    by_first true is rest = (
      λ some. elim (Any-cons_cases P x (filter p xs) some) [
        | inl first ↦ Any-head (λ y. (p y ≡ true) × P y) x xs (is, first)
        | inr later ↦ Any-later (λ y. (p y ≡ true) × P y) x xs (rest.0 later)
      ],
      λ some. elim (Any-cons_cases (λ y. (p y ≡ true) × P y) x xs some) [
        | inl first ↦ Any-head P x (filter p xs) first.1
        | inr later ↦ Any-later P x (filter p xs) (rest.1 later)
      ],
    )
    by_first false is rest = (
      λ some. Any-later (λ y. (p y ≡ true) × P y) x xs (rest.0 some),
      λ some. elim (Any-cons_cases (λ y. (p y ≡ true) × P y) x xs some) [
        | inl first ↦ let yes = first.0 in absurd cc
        | inr later ↦ rest.1 later
      ],
    )

-- ---- an original less
piece_was : (d : Drawing) (id : ℕ) (s : GridSegment) → IsPiece (without_id d id) s → IsPiece d s
piece_was d id s piece =
    let Has = λ (o : Original). HasLink o.chain s in (
      piece.0,
      Any-weaker (λ o. (not (o.id == id) ≡ true) × Has o) Has (λ o both. both.1) d.originals
          ((Any-passes (λ o. not (o.id == id)) Has d.originals).0 piece.1),
    )

point_was : (d : Drawing) (id : ℕ) (p : GridPoint) → IsPoint (without_id d id) p → IsPoint d p
point_was d id p (inl explicit) = inl explicit
point_was d id p (inr vertex) =
    let Has = λ (o : Original). Contains o.chain p in
    inr (Any-weaker (λ o. (not (o.id == id) ≡ true) × Has o) Has (λ o both. both.1) d.originals
    ((Any-passes (λ o. not (o.id == id)) Has d.originals).0 vertex))

-- a piece stays, or it is on the chain that goes
piece_left : (d : Drawing) (id : ℕ) (s : GridSegment) → IsPiece d s → IsPiece (without_id d id) s ⊎ IsOnChainOf d s id
piece_left d id s (ordered, (k, o, within, is, link)) = by_id (o.id == id) refl
  where
    by_id : (b : Bool) → (o.id == id) ≡ b → IsPiece (without_id d id) s ⊎ IsOnChainOf d s id
    by_id true same = inr (ordered, (k, o, within, is, (grind (arith, nat_tests), link)))
    by_id false other =
        inl (
          ordered,
          (Any-passes (λ q. not (q.id == id)) (λ q. HasLink q.chain s) d.originals).1
              (k, o, within, is, (ap not other, link)),
        )

-- the index has the pieces again once those of the chain that are gone are forgotten, and nothing else changes
pub rests_removed : (old new : KeyedDrawing) (id : ℕ) (index rest : Entries) (noted : List KeyedPiece)
    → new.drawing ≡ without_id old.drawing id → KeepsKeys old new → AreKeyed new → IsAtRest old index
    → ListsKeyed old (λ s. IsOnChainOf old.drawing s id) noted → ForgetsGone new.drawing noted index rest → IsAtRest new rest
rests_removed old new id index rest noted removed keeps are_keyed was lists forgets = record {
  settled = subst (λ (d : Drawing). HasViolation d → ⊥) (sym removed)
      (fewer_violations old.drawing (without_id old.drawing id) (point_was old.drawing id) (piece_was old.drawing id)
      was.settled);
  valid = subst AllValid (sym removed) (All-filter (λ o. not (o.id == id)) HasValidChain old.drawing.originals was.valid);
  keyed = are_keyed;
  indexed = λ s k. (
    λ found.
        let kept = (forgets s k).0 found in
        let had = (was.indexed s k).0 kept.0 in
        has_still old new keeps was.keyed are_keyed s k had (elim (left s (was.keyed.of_pieces s k had)) [
          | inl piece ↦ piece
          | inr on_chain ↦ kept.1 s ((lists s k).1 (on_chain, had))
        ]),
    λ has.
        let piece = are_keyed.of_pieces s k has in
        let had = had_key old new keeps was.keyed are_keyed s k has (was_piece s piece) in
        (forgets s k).1 (
          (was.indexed s k).1 had,
          λ t noted_t.
              let same = was.keyed.one_piece s t k had ((lists t k).0 noted_t).1 in
              subst (IsPiece new.drawing) same piece,
        ),
  );
}
  where
    left : (s : GridSegment) → IsPiece old.drawing s → IsPiece new.drawing s ⊎ IsOnChainOf old.drawing s id
    left s piece = elim (piece_left old.drawing id s piece) [
      | inl stayed ↦ inl (subst (λ (d : Drawing). IsPiece d s) (sym removed) stayed)
      | inr on_chain ↦ inr on_chain
    ]

    was_piece : (s : GridSegment) → IsPiece new.drawing s → IsPiece old.drawing s
    was_piece s piece = piece_was old.drawing id s (subst (λ (d : Drawing). IsPiece d s) removed piece)

-- no id is new
pub ids_left : (d : Drawing) (id n : ℕ) → HasIdsBelow n d → HasIdsBelow n (without_id d id)
ids_left d id n below = All-filter (λ o. not (o.id == id)) (λ o. (1 ≤ o.id) × (o.id < n)) d.originals below

-- ---- an explicit point less
pub rests_unmarked : (old new : KeyedDrawing) (p : GridPoint) (index : Entries) → TakesPoint old new p → AreKeyed new
    → IsAtRest old index → IsAtRest new index
rests_unmarked old new p index takes are_keyed was = record {
  settled = fewer_violations old.drawing new.drawing point pieces was.settled;
  valid = subst (λ (l : List Original). All HasValidChain l) (sym takes.originals) was.valid;
  keyed = are_keyed;
  indexed = λ s k. (
    λ found. subst (λ (l : List KeyedPiece). Contains l (keyed s k)) (sym takes.keys) ((was.indexed s k).0 found),
    λ has. (was.indexed s k).1 (subst (λ (l : List KeyedPiece). Contains l (keyed s k)) takes.keys has),
  );
}
  where
    pieces : (t : GridSegment) → IsPiece new.drawing t → IsPiece old.drawing t
    pieces t piece = (piece.0, subst (λ (l : List Original). Any (λ o. HasLink o.chain t) l) takes.originals piece.1)

    point : (q : GridPoint) → IsPoint new.drawing q → IsPoint old.drawing q
    point q (inl explicit) = inl ((takes.points q).0 explicit).0
    point q (inr vertex) = inr (subst (λ (l : List Original). Any (λ o. Contains o.chain q) l) takes.originals vertex)
