-- This file shows what lists of shares come to have, one step after another.
use Rattle.std.proofs.Common.{◌≡◌, ◌⊎◌, ◌↔◌, List, [], ◌∷◌, ◌++◌, Contains, sym, subst, inl, inr}
use Rattle.std.proofs.lemmas.List.Elements.{Contains-append_left, Contains-push, Contains-push_cases}
use Rattle.realm_drawing.specs.declared.shares.Share.{Share}
use Rattle.realm_drawing.specs.Shares.{ListsAlso}

-- the share at the end of the list
pub lists_one : (xs : List Share) (z : Share) → ListsAlso xs (xs ++ z ∷ []) (λ y. y ≡ z)
lists_one xs z y = (
  λ there. elim (Contains-push_cases xs z y there) [ inl had ↦ inl had | inr same ↦ inr (sym same) ],
  λ either. elim either [
    | inl had ↦ Contains-append_left xs (z ∷ []) y had
    | inr same ↦ subst (Contains (xs ++ z ∷ [])) (sym same) (Contains-push xs z)
  ],
)

-- the same shares in other words
pub lists_same : (xs ys : List Share) (P R : Share → Type 0) → ((y : Share) → P y ↔ R y)
    → ListsAlso xs ys P → ListsAlso xs ys R
lists_same xs ys P R same first y = (
  λ there. elim ((first y).0 there) [ inl had ↦ inl had | inr p ↦ inr ((same y).0 p) ],
  λ either. (first y).1 (elim either [ inl had ↦ inl had | inr r ↦ inr ((same y).1 r) ]),
)

-- the last share, where Q holds
pub lists_one_where : (xs ys : List Share) (z : Share) (Q : Type 0) → Q → ys ≡ xs ++ z ∷ []
    → ListsAlso xs ys (λ y. (y ≡ z) × Q)
lists_one_where xs ys z Q q is =
    let all = xs ++ z ∷ [] in
    let one = lists_one xs z in
    let with_q = lists_same xs all (λ y. y ≡ z) (λ y. (y ≡ z) × Q) (λ y. (λ same. (same, q), λ both. both.0)) one in
    subst (λ zs. ListsAlso xs zs (λ y. (y ≡ z) × Q)) (sym is) with_q

-- shares with P and then shares with Q
pub lists_both : (xs ys zs : List Share) (P Q R : Share → Type 0) → ((y : Share) → R y ↔ (P y ⊎ Q y))
    → ListsAlso xs ys P → ListsAlso ys zs Q → ListsAlso xs zs R
lists_both xs ys zs P Q R either first second y = (
  λ there. elim ((second y).0 there) [
    | inr q ↦ inr ((either y).1 (inr q))
    | inl in_ys ↦ elim ((first y).0 in_ys) [ inl had ↦ inl had | inr p ↦ inr ((either y).1 (inl p)) ]
  ],
  λ some. (second y).1 (elim some [
    | inl had ↦ inl ((first y).1 (inl had))
    | inr r ↦ elim ((either y).0 r) [ inl p ↦ inl ((first y).1 (inr p)) | inr q ↦ inr q ]
  ]),
)
