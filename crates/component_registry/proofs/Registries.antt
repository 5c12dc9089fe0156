-- This file shows that a sound registry is told by its keys and its owners.
use Rattle.std.proofs.Common.{◌≡◌, ◌↔◌, ℕ, suc, ◌<◌, refl, sym, ap₂, subst, ⊎_elim, arith}
use Rattle.std.proofs.Common.{List, [], ◌∷◌, Contains, AllPairs, Option, Some, None, IsSome, unwrap_or}
use Rattle.std.specs.Option.{option_map}
use Rattle.std.specs.FinMap as map
use Rattle.std.proofs.lemmas.List.Kept.{AllPairs-from_increasing}
use Rattle.std.proofs.lemmas.Option.{same_Some, none-some}
use Rattle.slab.proofs.SlabLemmas.{Contains-cons, Contains-cons_cases}
use Rattle.grid_base.specs.Segment.{GridSegment}
use Rattle.grid_base.proofs.Orders.{segment_cmp-total}
use Rattle.component_registry.specs.Registry.{Holding, Holdings, holding_of, IsPiece, key_of, owners_of, Owns, IsSound}
use Rattle.component_registry.proofs.Lookups.{segment_exact}

-- ---- ascending lists
abbrev Rises : List ℕ → Type 0
Rises = AllPairs (λ x y. x < y)

-- the first number of an ascending list is less than the others
first_is_least : (x : ℕ) (xs : List ℕ) → Rises (x ∷ xs) → (y : ℕ) → Contains xs y → x < y
first_is_least x xs up y (k, within, is) =
    subst (λ n. x < n) is (up 0 (suc k) y (omega arith) (omega (arith, within)))

rest_rises : (x : ℕ) (xs : List ℕ) → Rises (x ∷ xs) → Rises xs
rest_rises x xs up = λ i j d before within. up (suc i) (suc j) d (omega arith) (omega (arith, within))

first_is_there : (x : ℕ) (xs : List ℕ) → Contains (x ∷ xs) x
first_is_there x xs = (0, omega arith, refl)

-- the first numbers of two ascending lists are one, where each list has the other's
same_heads : (x y : ℕ) (xs ys : List ℕ) → Rises (x ∷ xs) → Rises (y ∷ ys) → Contains (y ∷ ys) x → Contains (x ∷ xs) y
    → x ≡ y
same_heads x y xs ys up_xs up_ys x_there y_there = ⊎_elim
    (λ same. sym same)
    (λ x_later. ⊎_elim
    (λ same. same)
    (λ y_later. absurd (omega (arith, first_is_least y ys up_ys x x_later, first_is_least x xs up_xs y y_later)))
    (Contains-cons_cases x y xs y_there))
    (Contains-cons_cases y x ys x_there)

-- what the rest of one list has, the rest of the other has
rest_has : (x : ℕ) (xs ys : List ℕ) → Rises (x ∷ xs) → ((z : ℕ) → Contains (x ∷ xs) z → Contains (x ∷ ys) z)
    → (z : ℕ) → Contains xs z → Contains ys z
rest_has x xs ys up has z there = ⊎_elim
    (λ (same : x ≡ z). absurd (omega (arith, first_is_least x xs up z there)))
    (λ later. later)
    (Contains-cons_cases x z ys (has z (Contains-cons x z xs there)))

-- two ascending lists with the same members are one
same_members : (xs ys : List ℕ) → Rises xs → Rises ys → ((x : ℕ) → Contains xs x ↔ Contains ys x) → xs ≡ ys
same_members [] [] up_xs up_ys same = refl
same_members [] (y ∷ ys) up_xs up_ys same = absurd (omega (arith, ((same y).1 (first_is_there y ys)).1))
same_members (x ∷ xs) [] up_xs up_ys same = absurd (omega (arith, ((same x).0 (first_is_there x xs)).1))
same_members (x ∷ xs) (y ∷ ys) up_xs up_ys same =
    let in_ys = (same x).0 (first_is_there x xs) in
    let in_xs = (same y).1 (first_is_there y ys) in
    let heads : x ≡ y = same_heads x y xs ys up_xs up_ys in_ys in_xs in
    let back = sym heads in
    let others = subst (λ n. (z : ℕ) → Contains (x ∷ xs) z ↔ Contains (n ∷ ys) z) back same in
    let up : Rises (x ∷ ys) = subst (λ n. Rises (n ∷ ys)) back up_ys in
    let there = rest_has x xs ys up_xs (λ w. (others w).0) in
    let here = rest_has x ys xs up (λ w. (others w).1) in
    let rests = same_members xs ys (rest_rises x xs up_xs) (rest_rises y ys up_ys) (λ z. (there z, here z)) in
    ap₂ (λ n ns. n ∷ ns) heads rests

-- ---- registries
abbrev key_in : Option Holding → Option ℕ
key_in o = option_map (λ h. h.key) o

abbrev owners_in : Option Holding → List ℕ
owners_in o = unwrap_or (option_map (λ h. h.owners) o) []

-- the owners of a piece are told by who owns it
pub same_owners : (r t : Holdings) → IsSound r → IsSound t → (s : GridSegment) → ((x : ℕ) → Owns r s x ↔ Owns t s x)
    → owners_of r s ≡ owners_of t s
same_owners r t sound_r sound_t s =
    same_members _ _ (AllPairs-from_increasing _ (sound_r.ascending s)) (AllPairs-from_increasing _ (sound_t.ascending s))

-- what is held of a piece is told by its key and its owners
same_holding : (o p : Option Holding) → key_in o ≡ key_in p → owners_in o ≡ owners_in p → o ≡ p
same_holding None None keys owners = refl
same_holding None (Some h) keys owners = absurd (none-some h.key keys)
same_holding (Some h) None keys owners = absurd (none-some h.key (sym keys))
same_holding (Some h) (Some g) keys owners = ap₂ (λ k xs. Some (holding_of k xs)) (same_Some h.key g.key keys) owners

-- two sound registries with the same keys and owners are one
pub same_from_owners : (r t : Holdings) → IsSound r → IsSound t → ((s : GridSegment) → key_of r s ≡ key_of t s)
    → ((s : GridSegment) (x : ℕ) → Owns r s x ↔ Owns t s x) → r ≡ t
same_from_owners r t sound_r sound_t keys owners = map.same_map segment_cmp-total segment_exact r t
    (λ s. same_holding (map.get r s) (map.get t s) (keys s) (same_owners r t sound_r sound_t s (owners s)))

-- what someone owns is a piece
pub piece_from_owner : (r : Holdings) (s : GridSegment) (x : ℕ) → Owns r s x → IsPiece r s
piece_from_owner r s x = of_what_is_held (map.get r s)
  where
    of_what_is_held : (o : Option Holding) → Contains (owners_in o) x → IsSome o
    of_what_is_held None there = absurd (omega (arith, there.1))
    of_what_is_held (Some h) there = refl
