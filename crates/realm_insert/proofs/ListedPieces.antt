-- This file shows that a list into which pieces are put key by key has exactly those that are wanted.
use Rattle.std.proofs.Common.{◌≡◌, ◌↔◌, ℕ, ◌+◌, ◌<◌, ◌≤◌, List, [], ◌∷◌, ◌++◌, length, take, take_all, get_or, Contains}
use Rattle.std.proofs.Common.{refl, sym, subst, inl, inr}
use Rattle.std.proofs.lemmas.List.Elements.{Contains-append_left, Contains-push, Contains-push_cases}
use Rattle.grid_base.specs.Segment.{GridSegment}
use Rattle.grid_base.specs.Drawing.{IsPiece}
use Rattle.grid_base.proofs.Elements.{Contains-nil}
use Rattle.realm_drawing.specs.Keyed.{KeyedDrawing, HasKey, AreKeyed}
use Rattle.realm_insert.proofs.CleanPieces.{next_too}

-- the list has the pieces with these keys that are as P says, and no other segments
pub record ListsOf (P : GridSegment → Type 0) (d : KeyedDrawing) (keys : List ℕ) (list : List GridSegment) : Type 0 where
  pub all : (k : ℕ) → Contains keys k → (t : GridSegment) → HasKey d t k → P t → Contains list t
  pub only : (t : GridSegment) → Contains list t → IsPiece d.drawing t × P t

module _ (P : GridSegment → Type 0) (d : KeyedDrawing) (keys : List ℕ) where
  -- the empty list has those with no key
  pub nothing_listed : (list : List GridSegment) → list ≡ [] → ListsOf P d (take 0 keys) list
  nothing_listed list is = record {
    all = λ k there. absurd (Contains-nil k there);
    only = λ t there. absurd (Contains-nil t (subst (λ (l : List GridSegment). Contains l t) is there));
  }

  -- the piece with the next key is put behind those that are listed
  pub one_listed : (i : ℕ) (t : GridSegment) (old new : List GridSegment) → AreKeyed d → i < length keys
      → HasKey d t (get_or keys i 0) → P t → new ≡ old ++ t ∷ [] → ListsOf P d (take i keys) old
      → ListsOf P d (take (i + 1) keys) new
  one_listed i t old new keyed within has is longer before = record {
    all = next_too (λ (k : ℕ). (u : GridSegment) → HasKey d u k → P u → Contains new u) keys i 0 (get_or keys i 0) within refl
        (λ k there u has_u is_u. subst (λ (l : List GridSegment). Contains l u) (sym longer)
        (Contains-append_left old (t ∷ []) u (before.all k there u has_u is_u)))
        (λ u has_u is_u. subst (λ (l : List GridSegment). Contains l u) (sym longer)
        (subst (Contains (old ++ t ∷ [])) (keyed.one_piece t u (get_or keys i 0) has has_u) (Contains-push old t)));
    only = λ u there. elim (Contains-push_cases old t u (subst (λ (l : List GridSegment). Contains l u) longer there)) [
      | inl earlier ↦ before.only u earlier
      | inr last ↦ subst (λ (v : GridSegment). IsPiece d.drawing v × P v) last (keyed.of_pieces t (get_or keys i 0) has, is)
    ];
  }

  -- no piece that is wanted has the next key
  pub none_listed : (i : ℕ) (old new : List GridSegment) → i < length keys
      → ((t : GridSegment) → HasKey d t (get_or keys i 0) → P t → ⊥) → new ≡ old → ListsOf P d (take i keys) old
      → ListsOf P d (take (i + 1) keys) new
  none_listed i old new within none same before = subst (ListsOf P d (take (i + 1) keys)) (sym same) (record {
    all = next_too (λ (k : ℕ). (u : GridSegment) → HasKey d u k → P u → Contains old u) keys i 0 (get_or keys i 0) within refl
        before.all (λ u has_u is_u. absurd (none u has_u is_u));
    only = before.only;
  })

  -- where the keys of all that are wanted are listed, a list with the same segments has exactly these
  pub all_listed : (i : ℕ) (list same : List GridSegment) → AreKeyed d
      → ((t : GridSegment) (k : ℕ) → HasKey d t k → P t → Contains keys k) → length keys ≤ i → ListsOf P d (take i keys) list
      → ((t : GridSegment) → Contains same t ↔ Contains list t)
      → (t : GridSegment) → Contains same t ↔ (IsPiece d.drawing t × P t)
  all_listed i list same keyed round past listed equal t =
      let whole = subst (λ (l : List ℕ). ListsOf P d l list) (take_all i keys past) listed in (
        λ there. whole.only t ((equal t).0 there),
        λ (piece, is).
            let has = keyed.some_key t piece in
            (equal t).1 (whole.all has.0 (round t has.0 has.1 is) t has.1 is),
      )
