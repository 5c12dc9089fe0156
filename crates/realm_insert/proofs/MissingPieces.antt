-- This file shows what an index has once a piece is put in unless it is there.
use Rattle.std.proofs.Common.{◌≡◌, ℕ, Some, None, sym, subst, ◌∙◌, inl, inr}
use Rattle.std.specs.FinMap as map
use Rattle.std.proofs.lemmas.Bool.Decides.{eqb_tells}
use Rattle.grid_base.specs.Segment.{GridSegment}
use Rattle.realm_drawing.specs.Keyed.{KeyedDrawing, HasKey, AreKeyed}
use Rattle.realm_index.specs.Index.{Entries}
use Rattle.realm_insert.specs.Indexing.{HasPiecesOnly, AddsPiece}
use Rattle.realm_insert.proofs.IndexKeys.{IsPutIn}
use Rattle.realm_insert.proofs.PutPieces.{one_at_key, at_key, not_at_key}

-- what is no piece isn't put in
pub adds_no_piece : (d : KeyedDrawing) (s : GridSegment) (index : Entries) → ((k : ℕ) → HasKey d s k → ⊥)
    → AddsPiece d s index index
adds_no_piece d s index none = λ t k. (
  λ found. inl found,
  λ either. elim either [ inl found ↦ found | inr (same, has) ↦ absurd (none k has) ],
)

module _ (d : KeyedDrawing) (s : GridSegment) (key : ℕ) (are : AreKeyed d) (has : HasKey d s key) where
  -- what is there stays
  pub adds_nothing : (u : GridSegment) (index : Entries) → HasPiecesOnly d index → map.get index key ≡ Some u
      → AddsPiece d s index index
  adds_nothing u index pieces there = λ t k. (
    λ found. inl found,
    λ either. elim either [
      | inl found ↦ found
      | inr (same, has_k) ↦
          let here = are.one_piece u s key (pieces u key there) has in
          at_key (map.get index) k key t u (are.one_key s key k has has_k) (here ∙ sym same) there
    ],
  )

  -- and what isn't is put in
  pub adds_missing : (old new : Entries) → map.get old key ≡ None → IsPutIn old new key s → AddsPiece d s old new
  adds_missing old new none put = λ t k. (
    λ found. elim (eqb_tells k key) [
      | inl same ↦ inr (
        sym (one_at_key (map.get new) k key s t same.1 put.here found),
        subst (HasKey d s) (sym same.1) has,
      )
      | inr differ ↦ inl (sym (put.others k differ.1) ∙ found)
    ],
    λ either. elim either [
      | inl found ↦ put.others k (not_at_key (map.get old) k key t none found) ∙ found
      | inr (same, has_k) ↦ at_key (map.get new) k key t s (are.one_key s key k has has_k) (sym same) put.here
    ],
  )
