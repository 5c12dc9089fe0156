-- This file shows that the pieces that a registry comes to have are listed, while shares are added and others taken out.
use Rattle.std.proofs.Common.{◌≡◌, ◌≢◌, ℕ, List, [], ◌∷◌, ◌++◌, get_or, All, Contains}
use Rattle.std.proofs.Common.{Some, sym, ap, ap₂, ◌∙◌, subst, inl, inr, arith}
use Rattle.std.proofs.lemmas.List.{get_or_default}
use Rattle.std.proofs.lemmas.List.Elements.{All-contains, Contains-push, Contains-push_cases, Contains-append_left}
use Rattle.std.proofs.lemmas.List.Quantifiers.{all_pairs_push}
use Rattle.std.proofs.lemmas.Option.{same_Some}
use Rattle.grid_base.specs.Segment.{GridSegment}
use Rattle.grid_base.proofs.Elements.{Contains-nil}
use Rattle.component_registry.specs.Registry.{Holdings, IsPiece, key_of, IsSound}
use Rattle.component_registry.proofs.Lookups.{this_segment_or_other}
use Rattle.realm_drawing.specs.declared.shares.Share.{Share}
use Rattle.realm_drawing.specs.Fresh.{ListsFresh, ListsIfNew}
use Rattle.realm_drawing.specs.Keyed.{KeyedPiece, keyed}
use Rattle.realm_drawing.specs.Shares.{share_of, KeepsKeys, HasMore, HasFewer}
use Rattle.realm_drawing.proofs.KeptKeys.{piece_from_key, key_from_piece, piece_with_owners}
use Rattle.realm_drawing.proofs.ShareChanges.{Contains-single}

-- a piece that stays keeps its key
key_stays : (r t : Holdings) (s : GridSegment) (k : ℕ) → KeepsKeys r t → IsPiece t s → key_of r s ≡ Some k → key_of t s ≡ Some k
key_stays r t s k keeps piece key =
    let after = key_from_piece t s piece in
    subst (λ n. key_of t s ≡ Some n) (keeps s k after.0 key after.1) after.1

-- and had the key that it has
key_was : (r t : Holdings) (s : GridSegment) (k : ℕ) → KeepsKeys r t → IsPiece r s → key_of t s ≡ Some k → key_of r s ≡ Some k
key_was r t s k keeps piece key =
    let before = key_from_piece r s piece in
    subst (λ n. key_of r s ≡ Some n) (sym (keeps s before.0 k before.1 key)) before.1

-- nothing is new at first
pub fresh_none : (r : Holdings) → ListsFresh r r []
fresh_none r = record {
  listed = λ s k there. absurd (Contains-nil (keyed s k) there);
  all = λ s k key. inl (piece_from_key r s k key);
  once = λ i j d less within. absurd (omega arith);
}

-- with one share more its piece is listed, unless it was a piece
pub fresh_next : (old r t : Holdings) (had : List Share) (y : Share) (before after : List KeyedPiece)
    → IsSound old → IsSound r → IsSound t → HasMore old r had → HasMore r t (y ∷ []) → KeepsKeys r t
    → ListsFresh old r before → ListsIfNew r t y.piece before after → ListsFresh old t after
fresh_next old r t had y before after sound_old sound_r sound_t more_had more keeps fresh = either
  where
    stays : (s : GridSegment) → IsPiece r s → IsPiece t s
    stays s = piece_with_owners r t s sound_r (λ x owns. (more s x).1 (inl owns))

    was : (s : GridSegment) → s ≢ y.piece → IsPiece t s → IsPiece r s
    was s other = piece_with_owners t r s sound_t (λ x owns. elim ((more s x).0 owns) [
      | inl held ↦ held
      | inr there ↦ absurd (other (sym (ap (λ (z : Share). z.piece) (Contains-single y (share_of s x) there))))
    ])

    still : (s : GridSegment) (k : ℕ) → Contains before (keyed s k) → (key_of t s ≡ Some k) × ¬ IsPiece old s
    still s k there =
        let found = fresh.listed s k there in
        (key_stays r t s k keeps (stays s (piece_from_key r s k found.0)) found.0, found.1)

    either : ListsIfNew r t y.piece before after → ListsFresh old t after
    either (inl (piece, same)) = subst (ListsFresh old t) (sym same) (record {
      listed = still;
      all = λ s k key. fresh.all s k (elim (this_segment_or_other y.piece s) [
        | inl here ↦ key_was r t s k keeps (subst (IsPiece r) (sym here) piece) key
        | inr other ↦ key_was r t s k keeps (was s other (piece_from_key t s k key)) key
      ]);
      once = fresh.once;
    })
    either (inr (new, j, has, is)) =
        let last = keyed y.piece j in
        subst (ListsFresh old t) (sym is) (record {
          listed = λ s k there. elim (Contains-push_cases before last (keyed s k) there) [
            | inl earlier ↦ still s k earlier
            | inr same ↦
                let here = ap (λ (f : KeyedPiece). f.piece) same in (
                  subst (λ p. key_of t p ≡ Some k) here (has ∙ ap (λ (f : KeyedPiece). Some f.key) same),
                  λ in_old. new (subst (IsPiece r) (sym here)
                      (piece_with_owners old r s sound_old (λ x owns. (more_had s x).1 (inl owns)) in_old)),
                )
          ];
          all = λ s k key. elim (this_segment_or_other y.piece s) [
            | inl here ↦
                let number = same_Some j k (sym has ∙ subst (λ p. key_of t p ≡ Some k) here key) in
                inr (subst (Contains (before ++ last ∷ [])) (ap₂ keyed (sym here) number) (Contains-push before last))
            | inr other ↦ elim (fresh.all s k (key_was r t s k keeps (was s other (piece_from_key t s k key)) key)) [
              | inl in_old ↦ inl in_old
              | inr there ↦ inr (Contains-append_left before (last ∷ []) (keyed s k) there)
            ]
          ];
          once = all_pairs_push (λ f g. f.key ≢ g.key) before last fresh.once (λ i d within same.
              let f = get_or before i d in
              let there : Contains before f = (i, within, get_or_default before i f d within) in
              let key = (fresh.listed f.piece f.key there).0 in
              let after = (still f.piece f.key there).0 ∙ ap (λ n. Some n) same in
              new (subst (IsPiece r) (sound_t.apart f.piece y.piece j after has) (piece_from_key r f.piece f.key key)));
        })

-- what is taken out was there at first, so what is listed stays
pub fresh_left : (old mid new : Holdings) (gone : List Share) (list : List KeyedPiece) → IsSound mid → IsSound new
    → All (λ y. IsPiece old y.piece) gone → HasFewer mid new gone → KeepsKeys mid new → ListsFresh old mid list
    → ListsFresh old new list
fresh_left old mid new gone list sound_mid sound_new pieces less keeps fresh = record {
  listed = λ s k there.
      let found = fresh.listed s k there in
      let stays = piece_with_owners mid new s sound_mid (λ x owns. (less s x).1 (
        owns,
        λ out. found.1 (All-contains (λ y. IsPiece old y.piece) gone (share_of s x) pieces out),
      )) in
      (key_stays mid new s k keeps (stays (piece_from_key mid s k found.0)) found.0, found.1);
  all = λ s k key.
      let was = piece_with_owners new mid s sound_new (λ x owns. ((less s x).0 owns).0) in
      fresh.all s k (key_was mid new s k keeps (was (piece_from_key new s k key)) key);
  once = fresh.once;
}
