-- This file shows that the index has the pieces again once a change is made in it too.
use Rattle.std.proofs.Common.{◌≡◌, ◌⊎◌, ℕ, Some, None, List, All, get_or, sym, subst, inl, inr}
use Rattle.std.specs.FinMap as map
use Rattle.std.proofs.lemmas.List.Elements.{Contains-get_or}
use Rattle.grid_base.specs.Point.{IsBefore}
use Rattle.grid_base.specs.Segment.{GridSegment}
use Rattle.grid_base.specs.Drawing.{Drawing, IsPiece}
use Rattle.grid_base.specs.declared.kinds.Step.{Step}
use Rattle.realm_drawing.specs.Draws.{DrawsAnew}
use Rattle.hook_chain.specs.Mending.{IsPieceOf}
use Rattle.realm_drawing.specs.Keyed.{KeyedDrawing, HasKey, KeepsKeys, AreKeyed}
use Rattle.realm_drawing.specs.declared.keyed.KeyedPiece.{KeyedPiece}
use Rattle.hook_chain.specs.Straight.{placed}
use Rattle.realm_drawing.proofs.Additions.{piece_is_old_or_new, piece_stays}
use Rattle.realm_index.specs.Index.{Entries}
use Rattle.realm_insert.specs.Indexing.{ListsKeyed, ForgetsGone, AddsEntries, HasPiecesOnly, AddsPiece}
use Rattle.realm_insert.specs.Kept.{IsIndexed}
use Rattle.realm_insert.proofs.IndexKeys.{none_unless}

-- ---- keys before and after
module _ (old new : KeyedDrawing) (keeps : KeepsKeys old new) (was_keyed : AreKeyed old) (keyed : AreKeyed new) where
  -- a piece that stays has its key
  pub has_still : (s : GridSegment) (k : ℕ) → HasKey old s k → IsPiece new.drawing s → HasKey new s k
  has_still s k had piece =
      let key = keyed.some_key s piece in
      subst (HasKey new s) (keeps s k key.0 had key.1) key.1

  -- and a piece that was there had it
  pub had_key : (s : GridSegment) (k : ℕ) → HasKey new s k → IsPiece old.drawing s → HasKey old s k
  had_key s k has piece =
      let key = was_keyed.some_key s piece in
      subst (HasKey old s) (sym (keeps s key.0 k key.1 has)) key.1

  -- ---- after a step
  module _ (step : Step) (drawn replaced : List KeyedPiece) (index rest : Entries) (draws : DrawsAnew step old new drawn)
      (indexed : IsIndexed old index) (noted : ListsKeyed old (IsPieceOf step) replaced)
      (forgets : ForgetsGone new.drawing replaced index rest) where
    -- what is left in the index was a piece and is one still
    left_is_piece : (s : GridSegment) (k : ℕ) → map.get rest k ≡ Some s → HasKey old s k × IsPiece new.drawing s
    left_is_piece s k is =
        let stays = (forgets s k).0 is in
        let had = (indexed s k).0 stays.0 in (
          had,
          elim (draws.others_stay s (was_keyed.of_pieces s k had)) [
            | inl piece ↦ piece
            | inr of_step ↦ stays.1 s ((noted s k).1 (of_step, had))
          ],
        )

    -- so nothing is under the keys of what is drawn anew
    pub keys_are_new : All (λ f. map.get rest f.key ≡ None) drawn
    keys_are_new i d within =
        let listed = Contains-get_or drawn i d within in
        free (get_or drawn i d) (draws.fresh (get_or drawn i d).piece (get_or drawn i d).key listed)
      where
        free : (f : KeyedPiece) → HasKey new f.piece f.key × (IsPiece old.drawing f.piece → ⊥) → map.get rest f.key ≡ None
        free f fresh = none_unless (map.get rest f.key) (λ s is.
            let was = left_is_piece s f.key is in
            let same = keyed.one_piece s f.piece f.key (has_still s f.key was.0 was.1) fresh.0 in
            fresh.1 (subst (IsPiece old.drawing) same (was_keyed.of_pieces s f.key was.0)))

    -- what is gone is forgotten, what is drawn anew is put in, and all other pieces keep their keys
    pub indexed_after : (after : Entries) → AddsEntries drawn rest after → IsIndexed new after
    indexed_after after adds s k = (
      λ found. elim ((adds s k).0 found) [
        | inl listed ↦ (draws.fresh s k listed).0
        | inr left ↦ let was = left_is_piece s k left in has_still s k was.0 was.1
      ],
      λ has. elim (draws.all_pieces s k has) [
        | inr listed ↦ (adds s k).1 (inl listed)
        | inl old_piece ↦
            let had = had_key s k has old_piece in
            (adds s k).1 (inr ((forgets s k).1 (
              (indexed s k).1 had,
              λ t noted_t.
                  let same = was_keyed.one_piece s t k had ((noted t k).0 noted_t).1 in
                  subst (IsPiece new.drawing) same (keyed.of_pieces s k has),
            )))
      ],
    )

  -- ---- after a straight original is placed, when no piece is gone
  module _ (id : ℕ) (s : GridSegment) (index : Entries) (ordered : IsBefore s.a s.b) (is : new.drawing ≡ placed old.drawing id s)
      (indexed : IsIndexed old index) where
    -- what is in the index is a piece still
    pub entries_stay : HasPiecesOnly new index
    entries_stay t k found =
        let had = (indexed t k).0 found in
        let piece = piece_stays old.drawing id s t (was_keyed.of_pieces t k had) in
        has_still t k had (subst (λ (d : Drawing). IsPiece d t) (sym is) piece)

    -- and each other piece is the new one
    old_or_new : (t : GridSegment) (k : ℕ) → HasKey new t k → (map.get index k ≡ Some t) ⊎ (s ≡ t)
    old_or_new t k has =
        let piece = subst (λ (d : Drawing). IsPiece d t) is (keyed.of_pieces t k has) in
        elim (piece_is_old_or_new old.drawing id s t ordered piece) [
          | inl was ↦ inl ((indexed t k).1 (had_key t k has was))
          | inr same ↦ inr same
        ]

    -- and it is put in unless the index has it
    pub indexed_placed : (after : Entries) → AddsPiece new s index after → IsIndexed new after
    indexed_placed after adds t k = (
      λ found. elim ((adds t k).0 found) [
        | inl was ↦ entries_stay t k was
        | inr (same, has) ↦ subst (λ (r : GridSegment). HasKey new r k) (sym same) has
      ],
      λ has. elim (old_or_new t k has) [
        | inl found ↦ (adds t k).1 (inl found)
        | inr same ↦ (adds t k).1 (inr (sym same, subst (λ (r : GridSegment). HasKey new r k) (sym same) has))
      ],
    )
