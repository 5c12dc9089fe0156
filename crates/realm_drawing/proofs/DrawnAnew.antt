-- This file shows that the pieces that the registry comes to have with a step are those that the step draws anew.
use Rattle.std.proofs.Common.{◌≡◌, ◌⊎◌, List, map, Any, Contains, AllPairs, Result, Ok, Err, IfOk, OnOk, Vec, Global, sym, subst, inl, inr}
use Rattle.grid_base.specs.Point.{GridPoint, IsBefore}
use Rattle.grid_base.specs.Segment.{GridSegment}
use Rattle.grid_base.specs.Drawing.{Drawing, HasLink, IsPiece, IsPoint}
use Rattle.grid_base.specs.declared.original.Original.{Original}
use Rattle.grid_base.specs.declared.kinds.Step.{Step}
use Rattle.component_registry.specs.Registry.{Holdings}
use Rattle.realm_drawing.specs.Draws.{DrawsAnew}
use Rattle.realm_drawing.specs.Fresh.{ListsFresh}
use Rattle.realm_drawing.specs.Kept.{drawn, AreKept, IsInOrder}
use Rattle.realm_drawing.specs.Keyed.{KeyedPiece, keyed}
use Rattle.chain_laws.specs.Redraws.{IsRedrawingsOf, redrawn_drawing}
use Rattle.chain_laws.specs.Redraws.{AreRedrawings, IsRedrawn, redrawn_original_by}
use Rattle.chain_laws.specs.declared.redrawing.Redrawings.{Redrawings}
use Rattle.chain_laws.proofs.Elements.{Any-weaker, Any-map}
use Rattle.realm_drawing.proofs.KeptKeys.{key_from_piece}
use Rattle.realm_drawing.proofs.KeptPieces.{key_is_listed, piece_of_registry}
use Rattle.realm_drawing.proofs.StepChains.{ArePaths, link_stays, vertex_stays}
use Rattle.realm_drawing.proofs.Vertices.{vertices_are_ends}

-- R holds of some element, or else Q holds
Any-or : {X : Type 0} (P R : X → Type 0) (Q : Type 0) → ((x : X) → P x → R x ⊎ Q) → (xs : List X) → Any P xs
    → Any R xs ⊎ Q
Any-or P R Q step xs (k, x, within, is, p) =
    elim (step x p) [ inl holds ↦ inl (k, x, within, is, holds) | inr instead ↦ inr instead ]

-- ---- what stays
abbrev HasPiece : GridSegment → Original → Type 0
HasPiece s o = HasLink o.chain s

abbrev HasVertex : GridPoint → Original → Type 0
HasVertex p o = Contains o.chain p

paths_of : (r : Redrawings) → AreRedrawings r → ArePaths r.first r.second
paths_of r sound = (sound.first, sound.second)

-- a piece stays unless it is redrawn
piece_stays : (r : Redrawings) (d : Drawing) (s : GridSegment) → AreRedrawings r → IsPiece d s
    → IsPiece (redrawn_drawing r d) s ⊎ IsRedrawn r s
piece_stays r d s sound piece =
    let Then = λ (o : Original). HasPiece s (redrawn_original_by r o) in
    let stays = λ (o : Original). link_stays r.first r.second o.chain s (paths_of r sound) piece.0 in
    elim (Any-or (HasPiece s) Then (IsRedrawn r s) stays d.originals piece.1) [
      | inl has ↦ inl (piece.0, Any-map (HasPiece s) (redrawn_original_by r) d.originals has)
      | inr instead ↦ inr instead
    ]

-- and a point stays
point_stays : (r : Redrawings) (d : Drawing) (p : GridPoint) → AreRedrawings r → IsPoint d p
    → IsPoint (redrawn_drawing r d) p
point_stays r d p sound (inl explicit) = inl explicit
point_stays r d p sound (inr vertex) =
    let Then = λ (o : Original). HasVertex p (redrawn_original_by r o) in
    let stays = λ (o : Original). vertex_stays r.first r.second o.chain p (paths_of r sound) in
    let some = Any-weaker (HasVertex p) Then stays d.originals vertex in
    inr (Any-map (HasVertex p) (redrawn_original_by r) d.originals some)

-- ---- what is new
-- with explicit points that ascend the drawing is kept
pub kept_with_points : (points : List GridPoint) (originals : List Original) (r : Holdings) → AllPairs IsBefore points
    → AreKept originals r → IsInOrder points originals r
kept_with_points points originals r ascend kept = record {
  points_ascend = ascend;
  ids_rise = kept.ids_rise;
  all_valid = kept.all_valid;
  sound = kept.sound;
  owners = kept.owners;
}

-- a vertex is an end of a piece, which was there or is listed
draws_anew : (step : Step) (r : Redrawings) (points : List GridPoint) (originals : List Original) (old new : Holdings)
    (list : List KeyedPiece) → IsRedrawingsOf step r → IsInOrder points originals old
    → IsInOrder points (map (redrawn_original_by r) originals) new → ListsFresh old new list
    → DrawsAnew step (drawn points originals old) (drawn points (map (redrawn_original_by r) originals) new) list
draws_anew step r points originals old new list of_step before after fresh =
    let changed = map (redrawn_original_by r) originals in
    let d : Drawing = record { points = points; originals = originals } in
    record {
      fresh = λ s k there.
          let found = fresh.listed s k there in (
            (key_is_listed points changed new s k).0 found.0,
            λ piece. found.1 ((piece_of_registry points originals old before s).1 piece),
          );
      all_pieces = λ s k has. elim (fresh.all s k ((key_is_listed points changed new s k).1 has)) [
        | inl had ↦ inl ((piece_of_registry points originals old before s).0 had)
        | inr there ↦ inr there
      ];
      once = fresh.once;
      ends = λ p point. elim point [
        | inl explicit ↦ inl (inl explicit)
        | inr vertex ↦
            let (s, (piece, end)) = (vertices_are_ends points changed new after p).1 vertex in
            let (k, key) = key_from_piece new s piece in
            elim (fresh.all s k key) [
              | inl had ↦ inl (inr ((vertices_are_ends points originals old before p).0 (s, (had, end))))
              | inr (i, within, at) ↦ inr (i, keyed s k, within, at, end)
            ]
      ];
      others_stay = λ s piece. elim (piece_stays r d s of_step.sound piece) [
        | inl there ↦ inl there
        | inr instead ↦ inr ((of_step.pieces s).1 instead)
      ];
      points_stay = λ p point. point_stays r d p of_step.sound point;
    }

-- so it is with a call that changes them, unless it fails
pub draws_anew_if : {E : Type 0} (step : Step) (r : Redrawings) (points : List GridPoint) (originals changed : List Original)
    (old new : Holdings) (done : Result (Vec KeyedPiece Global) E) → IsRedrawingsOf step r → IsInOrder points originals old
    → IsInOrder points changed new → OnOk done (changed ≡ map (redrawn_original_by r) originals)
    → IfOk done (λ list. ListsFresh old new list.items)
    → IfOk done (λ list. DrawsAnew step (drawn points originals old) (drawn points changed new) list.items)
draws_anew_if step r points originals changed old new (Err e) of_step before after is fresh = tt
draws_anew_if step r points originals changed old new (Ok v) of_step before after is fresh =
    subst (λ os. DrawsAnew step (drawn points originals old) (drawn points os new) v.items) (sym is)
    (draws_anew step r points originals old new v.items of_step before
    (subst (λ os. IsInOrder points os new) is after) fresh)
