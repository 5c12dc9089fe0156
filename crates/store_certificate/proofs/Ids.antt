-- This file shows which originals of a list have the ids that others lack.
use Rattle.std.proofs.Common.{◌≡◌, ◌↔◌, ℕ, ◌==◌, ◌||◌, Bool, true, false, not, List, [], ◌∷◌, map, IsTrue}
use Rattle.std.proofs.Common.{Contains, inl, inr, refl, sym, ap, subst, ◌∙◌, arith, true≢false}
use Rattle.std.proofs.lemmas.Bool.Decides.{nat_tests}
use Rattle.std.proofs.lemmas.List.Elements.{Contains-get_or}
use Rattle.grid_base.specs.declared.original.Original.{Original}
use Rattle.grid_base.proofs.Elements.{Contains-nil, Contains-here, Contains-later, Contains-cases}
use Rattle.hook_chain.specs.Ids.{LacksId}
use Rattle.chain_laws.proofs.Elements.{Contains-head}
use Rattle.chain_laws.proofs.PointSets.{Contains-filter}
use Rattle.realm_insert.specs.Differences.{has_id, originals_besides}

-- a list that has nothing is empty
pub nothing : {X : Type 0} (xs : List X) → ((x : X) → Contains xs x → ⊥) → xs ≡ []
nothing [] none = refl
nothing (x ∷ xs) none = absurd (none x (Contains-here x xs))

-- ---- the ids of originals
abbrev pub ids : List Original → List ℕ
ids originals = map (λ o. o.id) originals

pub has_its_id : (os : List Original) (o : Original) → Contains os o → Contains (ids os) o.id
has_its_id [] o there = absurd (Contains-nil o there)
has_its_id (q ∷ os) o there = elim (Contains-cases q os o there) [
  | inl same ↦ Contains-head q.id (ids os) o.id (ap (λ (r : Original). r.id) same)
  | inr later ↦ Contains-later q.id (ids os) o.id (has_its_id os o later)
]

-- some original has the id
pub with_id : (os : List Original) (n : ℕ) → Contains (ids os) n → (o : Original) × Contains os o × (o.id ≡ n)
with_id [] n there = absurd (Contains-nil n there)
with_id (q ∷ os) n there = elim (Contains-cases q.id (ids os) n there) [
  | inl same ↦ (q, Contains-here q os, same)
  | inr later ↦
      let found = with_id os n later in
      (found.0, Contains-later q os found.0 found.1, found.2)
]

-- ---- the test
pub has : (os : List Original) (n : ℕ) → IsTrue (has_id os n) ↔ Contains (ids os) n
has [] n = (λ yes. absurd cc, λ there. absurd (Contains-nil n there))
has (o ∷ os) n = by_first (o.id == n) refl (has os n)
  where
    by_first : (same : Bool) → (o.id == n) ≡ same → IsTrue (has_id os n) ↔ Contains (ids os) n
        → IsTrue (same || has_id os n) ↔ Contains (ids (o ∷ os)) n
    by_first true is rest = (λ yes. Contains-head o.id (ids os) n (grind (arith, nat_tests, is)), λ there. refl)
    by_first false is rest = (
      λ later. Contains-later o.id (ids os) n (rest.0 later),
      λ there. elim (Contains-cases o.id (ids os) n there) [
        | inl same ↦ absurd (grind (arith, nat_tests, is, same))
        | inr later ↦ rest.1 later
      ],
    )

pub lacks : (os : List Original) (n : ℕ) → IsTrue (not (has_id os n)) ↔ (Contains (ids os) n → ⊥)
lacks os n = by_test (has_id os n) refl
  where
    by_test : (found : Bool) → has_id os n ≡ found → IsTrue (not found) ↔ (Contains (ids os) n → ⊥)
    by_test true is = (λ no. absurd cc, λ none. absurd (none ((has os n).0 is)))
    by_test false is = (λ no there. true≢false (sym ((has os n).1 there) ∙ is), λ none. refl)

-- an id that isn't lacked is there
pub not_lacked : (os : List Original) (n : ℕ) → (LacksId os n → ⊥) → Contains (ids os) n
not_lacked os n there = by_test (has_id os n) refl
  where
    by_test : (found : Bool) → has_id os n ≡ found → Contains (ids os) n
    by_test true is = (has os n).0 is
    by_test false is = absurd (there (λ k d within same. (lacks os n).0 (ap not is)
        (subst (Contains (ids os)) same (has_its_id os _ (Contains-get_or os k d within)))))

-- ---- the originals that others lack
pub besides_has : (os others : List Original) (o : Original)
    → Contains (originals_besides os others) o ↔ (Contains os o × (Contains (ids others) o.id → ⊥))
besides_has os others o =
    let passes = Contains-filter (λ (q : Original). not (has_id others q.id)) os o in
    let none = lacks others o.id in (
      λ there. ((passes.0 there).0, none.0 (passes.0 there).1),
      λ both. passes.1 (both.0, none.1 both.1),
    )
