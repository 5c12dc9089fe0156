-- This file shows which entries an index keeps once those that are gone are taken out, one by one.
use Rattle.std.proofs.Common.{◌≡◌, ◌≢◌, ℕ, ◌+◌, ◌<◌, List, [], ◌∷◌, ◌++◌, length, take, get_or, Contains}
use Rattle.std.proofs.Common.{sym, ap, subst, ◌∙◌, inl, inr}
use Rattle.std.proofs.lemmas.List.{take_more}
use Rattle.std.proofs.lemmas.List.Elements.{Contains-append_left, Contains-append_right, Contains-append_cases}
use Rattle.grid_base.specs.Drawing.{Drawing, IsPiece}
use Rattle.grid_base.proofs.Elements.{Contains-cases, Contains-nil}
use Rattle.realm_drawing.specs.Keyed.{keyed}
use Rattle.realm_drawing.specs.declared.keyed.KeyedPiece.{KeyedPiece}
use Rattle.chain_laws.proofs.Elements.{Contains-head}
use Rattle.realm_index.specs.Index.{Entries}
use Rattle.realm_insert.specs.Indexing.{ForgetsGone}
use Rattle.realm_insert.proofs.IndexKeys.{IsTakenOut}

-- nothing is forgotten
pub forgets_none : (d : Drawing) (index : Entries) → ForgetsGone d [] index index
forgets_none d index = λ s k. (
  λ is. (is, λ t there. absurd (Contains-nil (keyed t k) there)),
  λ stays. stays.0,
)

-- ---- one piece
only_one : (x y : KeyedPiece) → Contains (x ∷ []) y → x ≡ y
only_one x y there = elim (Contains-cases x [] y there) [ inl same ↦ same | inr none ↦ absurd (Contains-nil y none) ]

-- what is a piece still stays
pub forgets_no_piece : (d : Drawing) (x : KeyedPiece) (index : Entries) → IsPiece d x.piece → ForgetsGone d (x ∷ []) index index
forgets_no_piece d x index piece = λ s k. (
  λ is. (is, λ t there. subst (IsPiece d) (ap (λ (f : KeyedPiece). f.piece) (only_one x (keyed t k) there)) piece),
  λ stays. stays.0,
)

-- what is under the key of another goes
pub forgets_one : (d : Drawing) (x : KeyedPiece) (old new : Entries) → (IsPiece d x.piece → ⊥) → IsTakenOut old new x.key
    → ForgetsGone d (x ∷ []) old new
forgets_one d x old new no_piece taken = λ s k. (
  λ is.
      let differ : k ≢ x.key = λ same. let gone = taken.gone in cc in (
        sym (taken.others k differ) ∙ is,
        λ t there. absurd (differ (sym (ap (λ (f : KeyedPiece). f.key) (only_one x (keyed t k) there)))),
      ),
  λ stays.
      let differ : k ≢ x.key = λ same.
      no_piece (stays.1 x.piece (Contains-head x [] (keyed x.piece k) (ap (keyed x.piece) (sym same)))) in
      taken.others k differ ∙ stays.0,
)

-- ---- a list of pieces
-- first those of one list are forgotten, and then those of another
pub forgets_both : (d : Drawing) (xs ys : List KeyedPiece) (old mid new : Entries) → ForgetsGone d xs old mid
    → ForgetsGone d ys mid new → ForgetsGone d (xs ++ ys) old new
forgets_both d xs ys old mid new first second = λ s k. (
  λ is.
      let later = (second s k).0 is in
      let earlier = (first s k).0 later.0 in (
        earlier.0,
        λ t there. elim (Contains-append_cases xs ys (keyed t k) there) [
          | inl in_xs ↦ earlier.1 t in_xs
          | inr in_ys ↦ later.1 t in_ys
        ],
      ),
  λ stays. (second s k).1 (
    (first s k).1 (stays.0, λ t there. stays.1 t (Contains-append_left xs ys (keyed t k) there)),
    λ t there. stays.1 t (Contains-append_right xs ys (keyed t k) there),
  ),
)

-- the next of a list comes after those before it
pub forgets_next : (d : Drawing) (list : List KeyedPiece) (i : ℕ) (x : KeyedPiece) (old mid new : Entries) → i < length list
    → x ≡ get_or list i x → ForgetsGone d (take i list) old mid → ForgetsGone d (x ∷ []) mid new
    → ForgetsGone d (take (i + 1) list) old new
forgets_next d list i x old mid new within is first second =
    let next = take_more list i x within ∙ ap (λ z. take i list ++ z ∷ []) (sym is) in
    subst (λ l. ForgetsGone d l old new) (sym next) (forgets_both d (take i list) (x ∷ []) old mid new first second)
