-- This file shows what a search along the chains of a map of originals tells of the list of them.
use Rattle.std.proofs.Common.{◌≡◌, List, [], ◌∷◌, map, All, Any, Contains, refl, subst}
use Rattle.std.proofs.lemmas.List.Elements.{All-nil, All-cons, All-head, All-tail, All-map}
use Rattle.grid_base.specs.Point.{GridPoint}
use Rattle.grid_base.specs.declared.original.Original.{Original}
use Rattle.realm_drawing.specs.declared.originals.Placed.{Placed}
use Rattle.chain_laws.proofs.Elements.{Any-head, Any-later, Contains-map}

-- the chains of the rest are chains of the originals, and where all of the rest have P, all have
pub record IsSearching (P : List GridPoint → Type 0) (originals : List Original) (rest : List Placed) : Type 0 where
  pub none : All (λ p. P p.chain) rest → All (λ o. P o.chain) originals
  pub some : (chain : List GridPoint) → Any (λ p. p.chain ≡ chain) rest → Any (λ o. o.chain ≡ chain) originals

-- what all values have each element has for its value
all_from_map : {X Y : Type 0} (P : Y → Type 0) (f : X → Y) (xs : List X) → All P (map f xs) → All (λ x. P (f x)) xs
all_from_map P f [] all = All-nil (λ x. P (f x))
all_from_map P f (x ∷ xs) all =
    All-cons (λ y. P (f y)) x xs (All-head P (f x) (map f xs) all) (all_from_map P f xs (All-tail P (f x) (map f xs) all))

-- at first all are left
pub search_begins : (P : List GridPoint → Type 0) (originals : List Original) (all : List Placed)
    → map (λ (p : Placed). p.chain) all ≡ map (λ (o : Original). o.chain) originals → IsSearching P originals all
search_begins P originals all same =
    let of_placed = λ (p : Placed). p.chain in
    let of_original = λ (o : Original). o.chain in
    record {
      none = λ each. all_from_map P of_original originals (subst (All P) same (All-map P of_placed all each));
      some = λ chain has. (Contains-map of_original originals chain).0
          (subst (λ chains. Contains chains chain) same ((Contains-map of_placed all chain).1 has));
    }

-- one that has P
pub search_goes_on : (P : List GridPoint → Type 0) (originals : List Original) (p : Placed) (rest : List Placed)
    → IsSearching P originals (p ∷ rest) → P p.chain → IsSearching P originals rest
search_goes_on P originals p rest before here = record {
  none = λ each. before.none (All-cons (λ q. P q.chain) p rest here each);
  some = λ chain has. before.some chain (Any-later (λ q. q.chain ≡ chain) p rest has);
}

-- one that hasn't is the chain of an original
pub search_found : (P : List GridPoint → Type 0) (originals : List Original) (p : Placed) (rest : List Placed)
    → IsSearching P originals (p ∷ rest) → Any (λ o. o.chain ≡ p.chain) originals
search_found P originals p rest before = before.some p.chain (Any-head (λ q. q.chain ≡ p.chain) p rest refl)

-- none is left
pub search_ends : (P : List GridPoint → Type 0) (originals : List Original) → IsSearching P originals []
    → All (λ o. P o.chain) originals
search_ends P originals after = after.none (All-nil (λ p. P p.chain))
