-- This file shows what a walk along originals comes by first: from an id on the original that has it, if there is one.
use Rattle.std.proofs.Common.{◌≡◌, ◌≢◌, ℕ, ◌<◌, Bool, true, false, cond, List, [], ◌∷◌, map, filter, refl, subst, arith}
use Rattle.std.specs.Prelude.{nat_le}
use Rattle.std.proofs.lemmas.Bool.{leb-true, leb-false}
use Rattle.std.proofs.lemmas.List.Elements.{All-nil, All-cons, All-head}
use Rattle.grid_base.specs.Point.{GridPoint}
use Rattle.grid_base.specs.Drawing.{Drawing}
use Rattle.grid_base.specs.declared.original.Original.{Original}
use Rattle.hook_chain.specs.Ids.{IsAscending, LacksId, IsChainOf}
use Rattle.realm_drawing.specs.Walks.{chain_by_id, chains_from}
use Rattle.value_geometry.specs.Links.{AreChainsOf, BeginsOtherwise}
use Rattle.value_geometry.proofs.Counts.{AllPairs-head, AllPairs-tail}

-- what comes first is a chain of the drawing
pub first_chain : (d : Drawing) (id : ℕ) (points : List GridPoint) (walk rest : List (ℕ × List GridPoint)) → AreChainsOf d walk
    → walk ≡ (id, points) ∷ rest → IsChainOf d id points
first_chain d id points walk rest are begins =
    All-head (λ c. IsChainOf d c.0 c.1) (id, points) rest (subst (AreChainsOf d) begins are)

-- where another comes first, the id is less than all that come, so none has it
pub none_walked : (id : ℕ) (os : List Original) → IsAscending os → BeginsOtherwise id (chains_from id os) → LacksId os id
none_walked id [] rising other = All-nil (λ (o : Original). o.id ≢ id)
none_walked id (o ∷ os) rising other =
    by (nat_le id o.id) refl other (none_walked id os (AllPairs-tail (λ p q. p.id < q.id) o os rising))
  where
    by : (b : Bool) → nat_le id o.id ≡ b
        → BeginsOtherwise id (map chain_by_id (cond b (o ∷ filter (λ q. nat_le id q.id) os) (filter (λ q. nat_le id q.id) os)))
        → (BeginsOtherwise id (chains_from id os) → LacksId os id) → LacksId (o ∷ os) id
    by true from first rest =
        let least = leb-true id o.id from in
        let above = AllPairs-head (λ p q. p.id < q.id) o os rising in
        All-cons (λ (q : Original). q.id ≢ id) o os first
        (λ k e within same. let behind = above k e within in omega (arith, least, behind, same))
    by false below first rest =
        let less = leb-false id o.id below in
        All-cons (λ (q : Original). q.id ≢ id) o os (λ same. omega (arith, less, same)) (rest first)
