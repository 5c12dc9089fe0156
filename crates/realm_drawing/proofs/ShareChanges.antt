-- This file shows what shares that are added to a registry, or taken out, one by one, make of its owners.
use Rattle.std.proofs.Common.{◌≡◌, ◌⊎◌, ◌↔◌, ℕ, ◌<◌, List, [], ◌∷◌, ◌++◌, ◌+◌, length, get_or, take, drop, All, Contains}
use Rattle.std.proofs.Common.{Bool, true, false, IsTrue, Option, unwrap_or, sym, ap, ◌∙◌, subst, inl, inr, ⊎_elim}
use Rattle.std.specs.Bool.{OnTrue, OnFalse}
use Rattle.std.specs.Option.{option_map}
use Rattle.std.specs.FinMap as map
use Rattle.std.proofs.lemmas.Bool.{false≢true}
use Rattle.std.proofs.lemmas.List.{take_more, take-append-drop}
use Rattle.std.proofs.lemmas.List.Elements.{Contains-append_left, Contains-append_right, Contains-append_cases}
use Rattle.grid_base.specs.Segment.{GridSegment}
use Rattle.grid_base.proofs.Elements.{Contains-cases, Contains-nil}
use Rattle.component_registry.specs.Registry.{Holding, Holdings, Owns, IsSound, AddsOwner, DropsOwner}
use Rattle.component_registry.proofs.Lookups.{this_segment_or_other}
use Rattle.component_registry.proofs.Registries.{same_from_owners}
use Rattle.realm_drawing.specs.declared.shares.Share.{Share}
use Rattle.realm_drawing.specs.Shares.{share_of, Held, KeepsKeys, HasMore, HasFewer}
use Rattle.chain_laws.proofs.Elements.{Contains-head}
use Rattle.realm_drawing.proofs.KeptKeys.{piece_with_owners, same_key, kept_with_more}

-- ---- one share
abbrev owners_in : Option Holding → List ℕ
owners_in o = unwrap_or (option_map (λ h. h.owners) o) []

pub Contains-single : (y z : Share) → Contains (y ∷ []) z → y ≡ z
Contains-single y z there =
    elim (Contains-cases y [] z there) [ inl here ↦ here | inr later ↦ absurd (Contains-nil z later) ]

-- the registry has one share more
pub added_one : (old new : Holdings) (y : Share) (k : ℕ) → AddsOwner old new y.piece y.id k → HasMore old new (y ∷ [])
added_one old new y k added s x = ⊎_elim
    (λ (here : s ≡ y.piece). subst (λ p. Owns new p x ↔ (Owns old p x ⊎ Contains (y ∷ []) (share_of p x))) (sym here) (
      λ in_new. elim ((added.owners x).0 in_new) [
        | inl same ↦ inr (Contains-head y [] (share_of y.piece x) (ap (share_of y.piece) (sym same)))
        | inr in_old ↦ inl in_old
      ],
      λ either. (added.owners x).1 (elim either [
        | inl in_old ↦ inr in_old
        | inr there ↦ inl (sym (ap (λ z. z.id) (Contains-single y (share_of y.piece x) there)))
      ]),
    ))
    (λ other.
    let same = ap owners_in (added.others s other) in (
      λ in_new. inl (subst (λ xs. Contains xs x) same in_new),
      λ either. elim either [
        | inl in_old ↦ subst (λ xs. Contains xs x) (sym same) in_old
        | inr there ↦ absurd (other (sym (ap (λ z. z.piece) (Contains-single y (share_of s x) there))))
      ],
    ))
    (this_segment_or_other y.piece s)

-- the registry has one share less
pub dropped_one : (old new : Holdings) (y : Share) → DropsOwner old new y.piece y.id → HasFewer old new (y ∷ [])
dropped_one old new y dropped s x = ⊎_elim
    (λ (here : s ≡ y.piece). subst (λ p. Owns new p x ↔ (Owns old p x × ¬ Contains (y ∷ []) (share_of p x))) (sym here) (
      λ in_new.
          let left = (dropped.owners x).0 in_new in
          (left.0, λ there. left.1 (sym (ap (λ z. z.id) (Contains-single y (share_of y.piece x) there)))),
      λ (in_old, absent). (dropped.owners x).1 (
        in_old,
        λ same. absent (Contains-head y [] (share_of y.piece x) (ap (share_of y.piece) (sym same))),
      ),
    ))
    (λ other.
    let same = ap owners_in (dropped.others s other) in (
      λ in_new. (
        subst (λ xs. Contains xs x) same in_new,
        λ there. other (sym (ap (λ z. z.piece) (Contains-single y (share_of s x) there))),
      ),
      λ (in_old, absent). subst (λ xs. Contains xs x) (sym same) in_old,
    ))
    (this_segment_or_other y.piece s)

-- a share that isn't there is no less
pub dropped_none : (r : Holdings) (y : Share) → ¬ Held r y → HasFewer r r (y ∷ [])
dropped_none r y free s x = (
  λ had. (had, λ there. free (subst (Held r) (sym (Contains-single y (share_of s x) there)) had)),
  λ (had, absent). had,
)

-- the removal answers whether the share was there
pub dropped_if_there : (found : Bool) (old new : Holdings) (y : Share) → (IsTrue found ↔ Held old y)
    → OnTrue found (DropsOwner old new y.piece y.id) → OnFalse found (new ≡ old) → HasFewer old new (y ∷ [])
dropped_if_there true old new y held dropped same = dropped_one old new y dropped
dropped_if_there false old new y held dropped same =
    let free : ¬ Held old y = λ had. absurd (false≢true (held.1 had)) in
    subst (λ r. HasFewer old r (y ∷ [])) (sym same) (dropped_none old y free)

-- ---- many shares
-- one share after the others
pub HasMore-append : (r s t : Holdings) (xs ys : List Share) → HasMore r s xs → HasMore s t ys → HasMore r t (xs ++ ys)
HasMore-append r s t xs ys first second p x =
    let y = share_of p x in (
      λ in_t. elim ((second p x).0 in_t) [
        | inr in_ys ↦ inr (Contains-append_right xs ys y in_ys)
        | inl in_s ↦ elim ((first p x).0 in_s) [
          | inr in_xs ↦ inr (Contains-append_left xs ys y in_xs)
          | inl in_r ↦ inl in_r
        ]
      ],
      λ either. (second p x).1 (elim either [
        | inl in_r ↦ inl ((first p x).1 (inl in_r))
        | inr there ↦ elim (Contains-append_cases xs ys y there) [
          | inl in_xs ↦ inl ((first p x).1 (inr in_xs))
          | inr in_ys ↦ inr in_ys
        ]
      ]),
    )

pub HasFewer-append : (r s t : Holdings) (xs ys : List Share) → HasFewer r s xs → HasFewer s t ys → HasFewer r t (xs ++ ys)
HasFewer-append r s t xs ys first second p x =
    let y = share_of p x in (
      λ in_t.
          let (in_s, not_in_ys) = (second p x).0 in_t in
          let (in_r, not_in_xs) = (first p x).0 in_s in
          (in_r, λ there. elim (Contains-append_cases xs ys y there) [ inl h ↦ not_in_xs h | inr h ↦ not_in_ys h ]),
      λ (in_r, absent). (second p x).1 (
        (first p x).1 (in_r, λ h. absent (Contains-append_left xs ys y h)),
        λ h. absent (Contains-append_right xs ys y h),
      ),
    )

Contains-from_take : (xs : List Share) (i : ℕ) (y : Share) → Contains (take i xs) y → Contains xs y
Contains-from_take xs i y there =
    subst (λ zs. Contains zs y) (take-append-drop i xs) (Contains-append_left (take i xs) (drop i xs) y there)

-- the share at place i after those before it
pub HasMore-next : (r s t : Holdings) (xs : List Share) (i : ℕ) (y : Share) → i < length xs → y ≡ get_or xs i y
    → HasMore r s (take i xs) → HasMore s t (y ∷ []) → HasMore r t (take (i + 1) xs)
HasMore-next r s t xs i y within is first second =
    let next = take_more xs i y within ∙ ap (λ z. take i xs ++ z ∷ []) (sym is) in
    subst (HasMore r t) (sym next) (HasMore-append r s t (take i xs) (y ∷ []) first second)

pub HasFewer-next : (r s t : Holdings) (xs : List Share) (i : ℕ) (y : Share) → i < length xs → y ≡ get_or xs i y
    → HasFewer r s (take i xs) → HasFewer s t (y ∷ []) → HasFewer r t (take (i + 1) xs)
HasFewer-next r s t xs i y within is first second =
    let next = take_more xs i y within ∙ ap (λ z. take i xs ++ z ∷ []) (sym is) in
    subst (HasFewer r t) (sym next) (HasFewer-append r s t (take i xs) (y ∷ []) first second)

-- ---- shares taken back
-- what some of the shares added and all of them took out is what was there, where none of them was there
owners_taken_back : (old mid new : Holdings) (xs : List Share) (i : ℕ) → All (λ y. ¬ Held old y) xs
    → HasMore old mid (take i xs) → HasFewer mid new xs → (s : GridSegment) (x : ℕ) → Owns new s x ↔ Owns old s x
owners_taken_back old mid new xs i free more less s x =
    let y = share_of s x in (
      λ in_new.
          let (in_mid, absent) = (less s x).0 in_new in
          elim ((more s x).0 in_mid) [ inl had ↦ had | inr there ↦ absurd (absent (Contains-from_take xs i y there)) ],
      λ had. (less s x).1 ((more s x).1 (inl had), λ (k, within, is). free k y within (subst (Held old) (sym is) had)),
    )

-- the registry is as it was
pub taken_back : (old mid new : Holdings) (xs : List Share) (i : ℕ) → IsSound old → IsSound new
    → All (λ y. ¬ Held old y) xs → HasMore old mid (take i xs) → KeepsKeys old mid → HasFewer mid new xs → KeepsKeys mid new
    → new ≡ old
taken_back old mid new xs i sound_old sound_new free more keys_more less keys_less =
    let owners = owners_taken_back old mid new xs i free more less in
    let keeps = kept_with_more old mid new (take i xs) sound_old more keys_more keys_less in
    same_from_owners new old sound_new sound_old
    (λ s. same_key (map.get old s) (map.get new s)
    (piece_with_owners old new s sound_old (λ x. (owners s x).1))
    (piece_with_owners new old s sound_new (λ x. (owners s x).0))
    (keeps s))
    owners
