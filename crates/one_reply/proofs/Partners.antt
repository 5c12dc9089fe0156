-- This file shows that a list whose elements have partners in another, each of its own, is no longer than that.
use Rattle.std.proofs.Common.{◌≡◌, suc, ◌≤◌, List, [], ◌∷◌, ◌++◌, length, take, drop, Contains, AllPairs, ap, subst, inl, inr, arith}
use Rattle.std.proofs.Common.{length-append}
use Rattle.std.proofs.lemmas.List.Elements.{Contains-append_cases, Contains-append_left, Contains-append_right}
use Rattle.grid_base.proofs.Elements.{Contains-here, Contains-later, Contains-cases}
use Rattle.r_cycles.proofs.Trails.{split_at}
use Rattle.value_geometry.proofs.Counts.{AllPairs-head, AllPairs-tail}

module _ {X Y : Type 0} (R : X → Y → Type 0) where
  -- x has a partner in the list
  abbrev pub HasPartner : List Y → X → Type 0
  HasPartner ys x = (y : Y) × Contains ys y × R x y

  -- no two have a common partner
  abbrev pub ShareNone : X → X → Type 0
  ShareNone v w = (y : Y) → R v y → R w y → ⊥

  -- what is a partner of v and isn't one of x is another than y
  other_partner : (x v : X) (y : Y) (front back : List Y) → R x y → ShareNone x v → HasPartner (front ++ y ∷ back) v
      → HasPartner (front ++ back) v
  other_partner x v y front back of_x none (z, there, of_v) = elim (Contains-append_cases front (y ∷ back) z there) [
    | inl before ↦ (z, Contains-append_left front back z before, of_v)
    | inr behind ↦ elim (Contains-cases y back z behind) [
      | inl same ↦ absurd (none z (subst (R x) same of_x) of_v)
      | inr later ↦ (z, Contains-append_right front back z later, of_v)
    ]
  ]

  -- the first and its partner are taken away
  pub no_longer : (xs : List X) (ys : List Y) → ((x : X) → Contains xs x → HasPartner ys x) → AllPairs ShareNone xs
      → length xs ≤ length ys
  no_longer [] ys partner apart = omega arith
  no_longer (x ∷ xs) ys partner apart =
      let (y, (k, within, at), of_x) = partner x (Contains-here x xs) in
      let front = take k ys in
      let back = drop (suc k) ys in
      let is : ys ≡ front ++ y ∷ back = (split_at ys k y within at).0 in
      let none = AllPairs-head ShareNone x xs apart in
      let rest = no_longer xs (front ++ back)
      (λ v (j, inside, found).
      other_partner x v y front back of_x (subst (ShareNone x) found (none j v inside))
      (subst (λ (l : List Y). HasPartner l v) is (partner v (Contains-later x xs v (j, inside, found)))))
      (AllPairs-tail ShareNone x xs apart) in
      let whole = ap (λ (l : List Y). length l) is in
      omega (arith, rest, whole, length-append front (y ∷ back), length-append front back)
