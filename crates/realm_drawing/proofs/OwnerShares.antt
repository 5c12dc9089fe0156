-- This file shows which shares a list has that goes along the owners of a piece.
use Rattle.std.proofs.Common.{◌≡◌, ◌⊎◌, ◌↔◌, ℕ, ◌+◌, ◌<◌, ◌≤◌, List, [], ◌∷◌, ◌++◌, length, get_or, take, Contains}
use Rattle.std.proofs.Common.{sym, ap, ap₂, ◌∙◌, subst, inl, inr, take_all}
use Rattle.std.proofs.lemmas.List.{take_more}
use Rattle.std.proofs.lemmas.List.Elements.{Contains-append_left, Contains-push, Contains-push_cases}
use Rattle.grid_base.specs.Point.{GridPoint}
use Rattle.grid_base.specs.Segment.{GridSegment}
use Rattle.grid_base.specs.Drawing.{HasLink}
use Rattle.component_registry.specs.Registry.{Holdings, owners_of}
use Rattle.realm_drawing.specs.declared.shares.Share.{Share}
use Rattle.realm_drawing.specs.Shares.{share_of, Held, ListsAlso, IsLost}
use Rattle.realm_drawing.proofs.ShareLists.{lists_same, lists_both}

-- the id at place i and those before it
pub Contains-next : (ids : List ℕ) (i x : ℕ) → i < length ids → x ≡ get_or ids i x → (z : ℕ)
    → Contains (take (i + 1) ids) z ↔ (Contains (take i ids) z ⊎ (z ≡ x))
Contains-next ids i x within is z =
    let next = take_more ids i x within ∙ ap (λ n. take i ids ++ n ∷ []) (sym is) in
    rw next (
      λ there. elim (Contains-push_cases (take i ids) x z there) [ inl before ↦ inl before | inr here ↦ inr (sym here) ],
      λ either. elim either [
        | inl before ↦ Contains-append_left (take i ids) (x ∷ []) z before
        | inr same ↦ subst (Contains (take i ids ++ x ∷ [])) (sym same) (Contains-push (take i ids) x)
      ],
    )

-- one owner's share of the piece more
pub lists_next_owner : (B : Share → Type 0) (xs ys zs : List Share) (s : GridSegment) (ids : List ℕ) (i x : ℕ)
    → i < length ids → x ≡ get_or ids i x
    → ListsAlso xs ys (λ y. (Contains (take i ids) y.id × B y) × (y.piece ≡ s))
    → ListsAlso ys zs (λ y. (y ≡ share_of s x) × B y)
    → ListsAlso xs zs (λ y. (Contains (take (i + 1) ids) y.id × B y) × (y.piece ≡ s))
lists_next_owner B xs ys zs s ids i x within is =
    lists_both xs ys zs
    (λ y. (Contains (take i ids) y.id × B y) × (y.piece ≡ s))
    (λ y. (y ≡ share_of s x) × B y)
    (λ y. (Contains (take (i + 1) ids) y.id × B y) × (y.piece ≡ s))
    (λ y.
    let next = Contains-next ids i x within is y.id in (
      λ ((owner, b), piece). elim (next.0 owner) [
        | inl before ↦ inl ((before, b), piece)
        | inr here ↦ inr (ap₂ share_of piece here, b)
      ],
      λ either. elim either [
        | inl ((before, b), piece) ↦ ((next.1 (inl before), b), piece)
        | inr (share, b) ↦ ((next.1 (inr (ap (λ z. z.id) share)), b), ap (λ z. z.piece) share)
      ],
    ))

-- the share of an id that isn't among the owners of the piece isn't held
pub lists_unheld : (r : Holdings) (xs ys : List Share) (s : GridSegment) (had : List ℕ) (x : ℕ) → had ≡ owners_of r s
    → ListsAlso xs ys (λ y. (y ≡ share_of s x) × ¬ Contains had x)
    → ListsAlso xs ys (λ y. (y ≡ share_of s x) × ¬ Held r y)
lists_unheld r xs ys s had x is = lists_same xs ys
    (λ y. (y ≡ share_of s x) × ¬ Contains had x)
    (λ y. (y ≡ share_of s x) × ¬ Held r y)
    (λ y. (
      λ (share, new). (share, λ held. new (subst (λ ids. Contains ids x) (sym is) (subst (Held r) share held))),
      λ (share, new). (share, λ there. new (subst (Held r) (sym share) (subst (λ ids. Contains ids x) is there))),
    ))

-- the shares of all owners are what is lost
pub lists_lost : (ids : List ℕ) (piece : GridSegment) (path : List GridPoint) (i : ℕ) (xs ys : List Share) → length ids ≤ i
    → ListsAlso xs ys (λ y. (Contains (take i ids) y.id × ¬ HasLink path piece) × (y.piece ≡ piece))
    → ListsAlso xs ys (IsLost ids piece path)
lists_lost ids piece path i xs ys past = lists_same xs ys
    (λ y. (Contains (take i ids) y.id × ¬ HasLink path piece) × (y.piece ≡ piece))
    (IsLost ids piece path)
    (λ y. rw take_all (
      λ ((owner, gone), same). record { of_piece = same; owner = owner; no_link = gone },
      λ lost. ((lost.owner, lost.no_link), lost.of_piece),
    ))
