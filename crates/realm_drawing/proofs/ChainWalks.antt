-- This file shows what a walk along originals goes through: the chains of those from an id on, each with its own id.
use Rattle.std.proofs.Common.{◌≡◌, ℕ, ◌<◌, Bool, true, false, cond, List, [], ◌∷◌, map, filter, length, get_or, All}
use Rattle.std.proofs.Common.{nat_cmp, refl, sym, ap, ◌∙◌, inl, inr, arith}
use Rattle.std.specs.Prelude.{nat_le}
use Rattle.std.specs.BTreeMap.Range.{entries_between, range_contains}
use Rattle.std.specs.declared.ops.Bound.TheVariants.{Included, Unbounded}
use Rattle.std.proofs.lemmas.Bool.{cases_lt}
use Rattle.std.proofs.lemmas.Bool.Decides.{nat_tests}
use Rattle.std.proofs.lemmas.List.{get_or_default}
use Rattle.std.proofs.lemmas.List.Elements.{All-map, All-filter}
use Rattle.grid_base.specs.declared.original.Original.{Original}
use Rattle.hook_chain.specs.Ids.{IsAscending, IsChainAmong}
use Rattle.realm_drawing.specs.declared.originals.Placed.{Placed}
use Rattle.realm_drawing.specs.ById.{original_of, chain_of}
use Rattle.realm_drawing.specs.Walks.{chain_by_id, chains_from}
use Rattle.realm_drawing.proofs.ById.{listing}

-- ---- the part of the map
from_id : (id k : ℕ) → range_contains nat_cmp (Included id) Unbounded k ≡ nat_le id k
from_id id k = grind (arith, nat_tests)

-- the entries from an id on are of the originals from it on
pub walk_is : (id : ℕ) (es : List (ℕ × Placed))
    → map chain_of (entries_between nat_cmp (Included id) Unbounded es) ≡ chains_from id (listing es)
walk_is id [] = refl
walk_is id (e ∷ es) =
    let later = entries_between nat_cmp (Included id) Unbounded es in
    ap (λ b. map chain_of (cond b (e ∷ later) later)) (from_id id e.0) ∙ with_first (nat_le id e.0) (walk_is id es)
  where
    with_first : (b : Bool)
        → map chain_of (entries_between nat_cmp (Included id) Unbounded es) ≡ chains_from id (listing es)
        → map chain_of (cond b (e ∷ entries_between nat_cmp (Included id) Unbounded es) (entries_between nat_cmp (Included id) Unbounded es))
        ≡ map chain_by_id (cond b (original_of e ∷ filter (λ o. nat_le id o.id) (listing es)) (filter (λ o. nat_le id o.id) (listing es)))
    with_first true rest = ap (λ cs. chain_of e ∷ cs) rest
    with_first false rest = rest

-- ---- the chains
-- where ids rise, the one at place j has the id of the one at place i only where it is that one
same_chain : (os : List Original) (i j : ℕ) (o : Original) → IsAscending os → i < length os → j < length os
    → (get_or os j o).id ≡ (get_or os i o).id → (get_or os j o).chain ≡ (get_or os i o).chain
same_chain os i j o rising i_within j_within same = elim (cases_lt j i) [
  | inl before ↦ absurd (omega (arith, rising j i o before i_within, same))
  | inr not_before ↦ elim (cases_lt i j) [
    | inl behind ↦ absurd (omega (arith, rising i j o behind j_within, same))
    | inr not_behind ↦
        let here : j ≡ i = omega (arith, not_before, not_behind) in
        ap (λ k. (get_or os k o).chain) here
  ]
]

-- so each has the chain of its id
has_its_chain : (os : List Original) → IsAscending os → All (λ o. IsChainAmong os o.id o.chain) os
has_its_chain os rising = λ i o within. record {
  there = (i, get_or os i o, within, get_or_default os i (get_or os i o) o within, refl);
  only = λ j d j_within same.
      let as_d = get_or_default os i o d within in
      same_chain os i j d rising within j_within (same ∙ ap (λ (q : Original). q.id) as_d) ∙ ap (λ (q : Original). q.chain) (sym as_d);
}

-- and so it is along a walk
pub walked_chains : (id : ℕ) (os : List Original) → IsAscending os → All (λ c. IsChainAmong os c.0 c.1) (chains_from id os)
walked_chains id os rising =
    All-map (λ c. IsChainAmong os c.0 c.1) chain_by_id (filter (λ o. nat_le id o.id) os)
    (All-filter (λ o. nat_le id o.id) (λ o. IsChainAmong os o.id o.chain) os (has_its_chain os rising))
