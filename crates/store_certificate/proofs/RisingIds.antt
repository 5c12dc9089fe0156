-- This file shows which originals have an id below a number, as the number rises by one.
use Rattle.std.proofs.Common.{◌≡◌, ℕ, ◌+◌, ◌<◌, ◌≤◌, nat_lt, Bool, true, false, cond, List, [], ◌∷◌, ◌++◌}
use Rattle.std.proofs.Common.{All, Contains, refl, sym, ap, subst, ◌∙◌, inl, inr, arith}
use Rattle.std.specs.List.{filter}
use Rattle.std.proofs.lemmas.Bool.{cases_lt}
use Rattle.std.proofs.lemmas.List.Elements.{All-head, All-tail, All-contains}
use Rattle.grid_base.specs.declared.original.Original.{Original}
use Rattle.grid_base.proofs.Elements.{Contains-cases}
use Rattle.hook_chain.specs.Ids.{IsAscending, LacksId}
use Rattle.value_geometry.proofs.Counts.{AllPairs-head, AllPairs-tail}

-- those of the originals with an id below n
abbrev pub below : ℕ → List Original → List Original
below n os = filter (λ o. nat_lt o.id n) os

kept_first : (n : ℕ) (o : Original) (os : List Original) (b : Bool) → nat_lt o.id n ≡ b
    → below n (o ∷ os) ≡ cond b (o ∷ below n os) (below n os)
kept_first n o os b is = ap (λ (c : Bool). cond c (o ∷ below n os) (below n os)) is

none_below : (n : ℕ) (os : List Original) → All (λ o. n ≤ o.id) os → below n os ≡ []
none_below n [] above = refl
none_below n (o ∷ os) above =
    let here = All-head (λ (p : Original). n ≤ p.id) o os above in
    kept_first n o os false (grind arith) ∙ none_below n os (All-tail (λ (p : Original). n ≤ p.id) o os above)

pub all_below : (n : ℕ) (os : List Original) → All (λ o. o.id < n) os → below n os ≡ os
all_below n [] less = refl
all_below n (o ∷ os) less =
    let here = All-head (λ (p : Original). p.id < n) o os less in
    kept_first n o os true (grind arith)
    ∙ ap (λ (l : List Original). o ∷ l) (all_below n os (All-tail (λ (p : Original). p.id < n) o os less))

-- an id that no original has
pub lacks_next : (n : ℕ) (os : List Original) → LacksId os n → below (n + 1) os ≡ below n os
lacks_next n [] lacks = refl
lacks_next n (o ∷ os) lacks =
    let here = All-head (λ (p : Original). p.id ≡ n → ⊥) o os lacks in
    let rest = lacks_next n os (All-tail (λ (p : Original). p.id ≡ n → ⊥) o os lacks) in
    elim (cases_lt o.id n) [
      | inl less ↦ kept_first (n + 1) o os true (grind arith) ∙ ap (λ (l : List Original). o ∷ l) rest
          ∙ sym (kept_first n o os true (grind arith))
      | inr not_less ↦ elim (cases_lt n o.id) [
        | inl more ↦ kept_first (n + 1) o os false (grind arith) ∙ rest ∙ sym (kept_first n o os false (grind arith))
        | inr not_more ↦ absurd (here (omega (arith, not_less, not_more)))
      ]
    ]

-- an id that one has
pub has_next_id : (n : ℕ) (os : List Original) (o : Original) → IsAscending os → Contains os o → o.id ≡ n
    → below (n + 1) os ≡ below n os ++ o ∷ []
has_next_id n [] o rising (k, within, at) same = absurd (omega arith)
has_next_id n (q ∷ os) o rising there same =
    let later = AllPairs-head (λ (p r : Original). p.id < r.id) q os rising in
    let behind = AllPairs-tail (λ (p r : Original). p.id < r.id) q os rising in
    elim (Contains-cases q os o there) [
      | inl first ↦
          let id_is : q.id ≡ n = ap (λ (r : Original). r.id) first ∙ same in
          let above : All (λ (r : Original). n + 1 ≤ r.id) os = λ k d within.
          let more = later k d within in
          omega (arith, more, id_is) in
          let above_n : All (λ (r : Original). n ≤ r.id) os = λ k d within.
          let more = later k d within in
          omega (arith, more, id_is) in
          kept_first (n + 1) q os true (grind arith) ∙ ap (λ (l : List Original). q ∷ l) (none_below (n + 1) os above)
          ∙ ap (λ (r : Original). r ∷ []) first
          ∙ ap (λ (l : List Original). l ++ o ∷ []) (sym (kept_first n q os false (grind arith) ∙ none_below n os above_n))
      | inr rest ↦
          let less : q.id < n = subst (λ (m : ℕ). q.id < m) same
          (All-contains (λ (r : Original). q.id < r.id) os o later rest) in
          kept_first (n + 1) q os true (grind arith)
          ∙ ap (λ (l : List Original). q ∷ l) (has_next_id n os o behind rest same)
          ∙ ap (λ (l : List Original). l ++ o ∷ []) (sym (kept_first n q os true (grind arith)))
    ]
