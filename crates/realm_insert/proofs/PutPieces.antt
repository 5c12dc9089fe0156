-- This file shows which entries an index has once the pieces of a list are put in, one by one.
use Rattle.std.proofs.Common.{◌≡◌, ◌≢◌, ℕ, ◌+◌, ◌<◌, List, [], ◌∷◌, ◌++◌, length, take, get_or, Some, None, Option}
use Rattle.std.proofs.Common.{All, AllPairs, Contains, sym, ap, subst, ◌∙◌, inl, inr, arith}
use Rattle.std.specs.FinMap as map
use Rattle.std.proofs.lemmas.Bool.Decides.{eqb_tells}
use Rattle.std.proofs.lemmas.List.{take_more, get_or-take, get_or_default, length-take}
use Rattle.std.proofs.lemmas.List.Elements.{All-get_or, Contains-append_left, Contains-push, Contains-push_cases}
use Rattle.std.proofs.lemmas.Option.{none-some}
use Rattle.grid_base.specs.Segment.{GridSegment}
use Rattle.grid_base.proofs.Elements.{Contains-nil}
use Rattle.realm_drawing.specs.Keyed.{keyed}
use Rattle.realm_drawing.specs.declared.keyed.KeyedPiece.{KeyedPiece}
use Rattle.realm_index.specs.Index.{Entries}
use Rattle.realm_insert.specs.Indexing.{AddsEntries}
use Rattle.realm_insert.proofs.IndexKeys.{IsPutIn, none_unless}

-- nothing is put in
pub puts_none : (index : Entries) → AddsEntries [] index index
puts_none index = λ s k. (
  λ is. inr is,
  λ either. elim either [ inl there ↦ absurd (Contains-nil (keyed s k) there) | inr was ↦ was ],
)

-- what is under one key is one segment
pub one_at_key : (get : ℕ → Option GridSegment) (k key : ℕ) (s t : GridSegment) → k ≡ key → get key ≡ Some s → get k ≡ Some t
    → s ≡ t
one_at_key get k key s t same first second = cc

pub at_key : (get : ℕ → Option GridSegment) (k key : ℕ) (s t : GridSegment) → key ≡ k → t ≡ s → get key ≡ Some t → get k ≡ Some s
at_key get k key s t same one here = cc

pub not_at_key : (get : ℕ → Option GridSegment) (k key : ℕ) (s : GridSegment) → get key ≡ None → get k ≡ Some s → k ≢ key
not_at_key get k key s none some same = cc

-- one more is put in
puts_push : (list : List KeyedPiece) (x : KeyedPiece) (old mid new : Entries) → map.get mid x.key ≡ None
    → IsPutIn mid new x.key x.piece → AddsEntries list old mid → AddsEntries (list ++ x ∷ []) old new
puts_push list x old mid new none put first = λ s k.
    let stays = λ (is : map.get mid k ≡ Some s).
    put.others k (not_at_key (map.get mid) k x.key s none is) ∙ is in (
      λ is. elim (eqb_tells k x.key) [
        | inl same ↦
            let one : x.piece ≡ s = one_at_key (map.get new) k x.key x.piece s same.1 put.here is in
            let here : x ≡ keyed s k = λ i. keyed (one i) (sym same.1 i) in
            inl (subst (Contains (list ++ x ∷ [])) here (Contains-push list x))
        | inr differ ↦ elim ((first s k).0 (sym (put.others k differ.1) ∙ is)) [
          | inl there ↦ inl (Contains-append_left list (x ∷ []) (keyed s k) there)
          | inr was ↦ inr was
        ]
      ],
      λ either. elim either [
        | inl there ↦ elim (Contains-push_cases list x (keyed s k) there) [
          | inl earlier ↦ stays ((first s k).1 (inl earlier))
          | inr last ↦
              at_key (map.get new) k x.key s x.piece (ap (λ (f : KeyedPiece). f.key) last)
              (ap (λ (f : KeyedPiece). f.piece) last) put.here
        ]
        | inr was ↦ stays ((first s k).1 (inr was))
      ],
    )

module _ (list : List KeyedPiece) (i : ℕ) (x : KeyedPiece) (old mid : Entries) (within : i < length list)
    (is : x ≡ get_or list i x) (first : AddsEntries (take i list) old mid) where
  -- nothing is under the next key
  pub next_is_new : All (λ f. map.get old f.key ≡ None) list → AllPairs (λ f g. f.key ≢ g.key) list
      → map.get mid x.key ≡ None
  next_is_new new_keys once = none_unless (map.get mid x.key) (λ s some.
      elim ((first s x.key).0 some) [
        | inl there ↦
            let (j, before, at) = there in
            let less : j < i = omega (arith, before, length-take i list) in
            let differ = once j i x less within in
            let same = sym (get_or-take i list j (keyed s x.key) less) ∙ at in
            differ (key_at j (omega (arith, less, within)) (keyed s x.key) same ∙ ap (λ (f : KeyedPiece). f.key) is)
        | inr was ↦
            let none = All-get_or (λ f. map.get old f.key ≡ None) list i x within new_keys in
            let here = subst (λ (f : KeyedPiece). map.get old f.key ≡ None) (sym is) none in
            none-some s (sym here ∙ was)
      ])
    where
      -- whichever is answered past the end, the key at a place within is one
      key_at : (j : ℕ) → j < length list → (f : KeyedPiece) → get_or list j f ≡ f → (get_or list j x).key ≡ f.key
      key_at j in_list f at = ap (λ (g : KeyedPiece). g.key) (get_or_default list j x f in_list ∙ at)

  -- the next of a list comes after those before it
  pub puts_next : (new : Entries) → map.get mid x.key ≡ None → IsPutIn mid new x.key x.piece
      → AddsEntries (take (i + 1) list) old new
  puts_next new none put =
      let next = take_more list i x within ∙ ap (λ y. take i list ++ y ∷ []) (sym is) in
      subst (λ l. AddsEntries l old new) (sym next) (puts_push (take i list) x old mid new none put first)
