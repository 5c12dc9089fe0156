-- This file shows how the number of the originals with an id below a number grows with it.
use Rattle.std.proofs.Common.{◌≡◌, ◌≢◌, ℕ, ◌+◌, ◌<◌, ◌≤◌, nat_lt, List, [], ◌∷◌, length, All, count_by, refl, ap, ◌∙◌, sym, arith, inl, inr}
use Rattle.std.proofs.lemmas.Bool.{cases_lt}
use Rattle.std.proofs.lemmas.List.Elements.{All-head, All-tail, All-cons}
use Rattle.grid_base.specs.declared.original.Original.{Original}
use Rattle.hook_chain.specs.Ids.{IsAscending, LacksId}
use Rattle.value_geometry.proofs.Counts.{AllPairs-head, AllPairs-tail, count_yes, count_no}

-- how many of the originals have an id below n
abbrev pub ids_below : ℕ → List Original → ℕ
ids_below n os = count_by (λ o. nat_lt o.id n) os

-- none has an id below n
pub ids_below-none : (n : ℕ) (os : List Original) → All (λ o. n ≤ o.id) os → ids_below n os ≡ 0
ids_below-none n [] above = refl
ids_below-none n (o ∷ os) above =
    let here = All-head (λ (p : Original). n ≤ p.id) o os above in
    let rest = ids_below-none n os (All-tail (λ (p : Original). n ≤ p.id) o os above) in
    count_no (λ (p : Original). nat_lt p.id n) o os (grind arith) ∙ rest

-- each has an id below n
pub ids_below-all : (n : ℕ) (os : List Original) → All (λ o. o.id < n) os → ids_below n os ≡ length os
ids_below-all n [] below = refl
ids_below-all n (o ∷ os) below =
    let here = All-head (λ (p : Original). p.id < n) o os below in
    let rest = ids_below-all n os (All-tail (λ (p : Original). p.id < n) o os below) in
    let more = count_yes (λ (p : Original). nat_lt p.id n) o os (grind arith) in
    omega (arith, more, rest)

-- none has the id n
pub ids_below-lacks : (n : ℕ) (os : List Original) → LacksId os n → ids_below (n + 1) os ≡ ids_below n os
ids_below-lacks n [] lacks = refl
ids_below-lacks n (o ∷ os) lacks =
    let here : o.id ≢ n = All-head (λ (p : Original). p.id ≢ n) o os lacks in
    let rest = ids_below-lacks n os (All-tail (λ (p : Original). p.id ≢ n) o os lacks) in
    elim (cases_lt o.id n) [
      | inl lt ↦ count_yes (λ (p : Original). nat_lt p.id (n + 1)) o os (grind arith) ∙ ap (λ k. 1 + k) rest
          ∙ sym (count_yes (λ (p : Original). nat_lt p.id n) o os (grind arith))
      | inr le ↦ count_no (λ (p : Original). nat_lt p.id (n + 1)) o os (grind arith) ∙ rest
          ∙ sym (count_no (λ (p : Original). nat_lt p.id n) o os (grind arith))
    ]

-- one has the id n, and those behind it have greater ones
pub ids_below-has : (n : ℕ) (os : List Original) → IsAscending os → (LacksId os n → ⊥) → ids_below (n + 1) os ≡ ids_below n os + 1
ids_below-has n [] rising has = absurd (has (λ k d within. absurd (omega arith)))
ids_below-has n (o ∷ os) rising has =
    let above = AllPairs-head (λ (p : Original) q. p.id < q.id) o os rising in
    let behind = AllPairs-tail (λ (p : Original) q. p.id < q.id) o os rising in
    elim (cases_lt o.id n) [
      | inl lt ↦ let rest = ids_below-has n os behind
          (λ lacks. has (All-cons (λ (p : Original). p.id ≢ n) o os (λ e. omega arith) lacks)) in
          let now = count_yes (λ (p : Original). nat_lt p.id (n + 1)) o os (grind arith) in
          let before = count_yes (λ (p : Original). nat_lt p.id n) o os (grind arith) in
          omega (arith, rest, now, before)
      | inr le ↦ let lacks : LacksId os n = λ k d within e. let more = above k d within in omega (arith, more, e, le) in
          elim (cases_lt n o.id) [
            | inl less ↦ absurd (has (All-cons (λ (p : Original). p.id ≢ n) o os (λ e. omega (arith, less, e)) lacks))
            | inr same ↦ let rest = ids_below-lacks n os lacks in
                let now = count_yes (λ (p : Original). nat_lt p.id (n + 1)) o os (grind arith) in
                let before = count_no (λ (p : Original). nat_lt p.id n) o os (grind arith) in
                omega (arith, rest, now, before)
          ]
    ]
