-- This file shows that lists of points can be sorted, and cycles turned to their least vertices.
use Rattle.std.proofs.Common.{◌≡◌, ◌⊎◌, ℕ, suc, ◌<◌, Bool, true, false, List, [], ◌∷◌, ◌++◌, length, get_or, take, drop, reverse}
use Rattle.std.proofs.Common.{All, AllPairs, Contains, if◌then◌else◌, refl, sym, subst, ap₂, ◌∙◌, inl, inr, arith}
use Rattle.std.specs.List.Sorted.{IsPermutation}
use Rattle.std.proofs.lemmas.List.{take-append-drop}
use Rattle.std.proofs.lemmas.List.Elements.{All-contains, Contains-get_or}
use Rattle.std.proofs.lemmas.List.Kept.{AllPairs-cons}
use Rattle.std.proofs.lemmas.List.Sorted.{Contains-permutation, IsPermutation-refl, IsPermutation-sym, IsPermutation-trans}
use Rattle.std.proofs.lemmas.List.Sorted.{IsPermutation-cons, IsPermutation-middle}
use Rattle.grid_base.specs.Point.{GridPoint, IsBefore}
use Rattle.grid_base.proofs.Elements.{Contains-cases, Contains-nil, same_place}
use Rattle.grid_base.proofs.Ends.{three_points, not_before_itself, IsBefore-trans}
use Rattle.r_cycles.specs.Cycles.{IsCycle}
use Rattle.r_faces.specs.Turned.{IsTurned, BeginsLeast, IsListBefore}
use Rattle.r_faces.proofs.Turnings.{begins_least, links_forward, links_backward}
use Rattle.r_faces.proofs.TurnedLinks.{cycle_reversed, HaveLinks}
use Rattle.rose_predicates.proofs.Truths.{each}

-- ---- the order of lists
three_lists : (c d : List GridPoint) → IsListBefore c d ⊎ ((c ≡ d) ⊎ IsListBefore d c)
three_lists [] [] = inr (inl refl)
three_lists [] (q ∷ d) = inl tt
three_lists (p ∷ c) [] = inr (inr tt)
three_lists (p ∷ c) (q ∷ d) = elim (three_points p q) [
  | inl less ↦ inl (inl less)
  | inr rest ↦ elim rest [
    | inl same ↦ elim (three_lists c d) [
      | inl less ↦ inl (inr (same, less))
      | inr others ↦ elim others [
        | inl alike ↦ inr (inl (ap₂ (λ (x : GridPoint) (l : List GridPoint). x ∷ l) same alike))
        | inr more ↦ inr (inr (inr (sym same, more)))
      ]
    ]
    | inr more ↦ inr (inr (inl more))
  ]
]

lists_on : (c d e : List GridPoint) → IsListBefore c d → IsListBefore d e → IsListBefore c e
lists_on [] [] e first second = absurd first
lists_on [] (q ∷ d) [] first second = absurd second
lists_on [] (q ∷ d) (r ∷ e) first second = tt
lists_on (p ∷ c) [] e first second = absurd first
lists_on (p ∷ c) (q ∷ d) [] first second = absurd second
lists_on (p ∷ c) (q ∷ d) (r ∷ e) (inl less) (inl more) = inl (IsBefore-trans p q r less more)
lists_on (p ∷ c) (q ∷ d) (r ∷ e) (inl less) (inr (same, rest)) = inl (subst (IsBefore p) same less)
lists_on (p ∷ c) (q ∷ d) (r ∷ e) (inr (same, rest)) (inl more) = inl (subst (λ v. IsBefore v r) (sym same) more)
lists_on (p ∷ c) (q ∷ d) (r ∷ e) (inr (same, rest)) (inr (also, further)) = inr (same ∙ also, lists_on c d e rest further)

not_before_list : (c : List GridPoint) → IsListBefore c c → ⊥
not_before_list [] before = before
not_before_list (p ∷ c) (inl less) = not_before_itself p p refl less
not_before_list (p ∷ c) (inr (same, rest)) = not_before_list c rest

-- ---- sorted lists
-- the list has x and what the other has, and none comes after a later one
record IsPut {X : Type 0} (key : X → List GridPoint) (x : X) (ys zs : List X) : Type 0 where
  moved : IsPermutation (x ∷ ys) zs
  sorted : AllPairs (λ y z. IsListBefore (key z) (key y) → ⊥) zs

module _ {X : Type 0} (key : X → List GridPoint) where
  -- none of these comes before x
  abbrev NotAfter : X → X → Type 0
  NotAfter x y = IsListBefore (key y) (key x) → ⊥

  first_of : (y : X) (ys : List X) → AllPairs NotAfter (y ∷ ys) → (z : X) → Contains ys z → NotAfter y z
  first_of y ys sorted z (k, within, is) =
      subst (NotAfter y) is (sorted 0 (suc k) z (omega arith) (omega (arith, within)))

  tail_of : (y : X) (ys : List X) → AllPairs NotAfter (y ∷ ys) → AllPairs NotAfter ys
  tail_of y ys sorted i j d before within = sorted (suc i) (suc j) d (omega (arith, before)) (omega (arith, within))

  cons_of : (x : X) (zs : List X) → ((z : X) → Contains zs z → NotAfter x z) → AllPairs NotAfter zs → AllPairs NotAfter (x ∷ zs)
  cons_of x zs first sorted =
      AllPairs-cons NotAfter x zs (λ k d within. first (get_or zs k d) (Contains-get_or zs k d within)) sorted

  put_first : (x y : X) (ys : List X) → NotAfter x y → AllPairs NotAfter (y ∷ ys) → (zs : List X) × IsPut key x (y ∷ ys) zs
  put_first x y ys before sorted = (
    x ∷ y ∷ ys,
    record {
      moved = IsPermutation-refl (x ∷ y ∷ ys);
      sorted = cons_of x (y ∷ ys) (λ z there less. elim (Contains-cases y ys z there) [
        | inl same ↦ before (subst (λ w. IsListBefore (key w) (key x)) (sym same) less)
        | inr later ↦ elim (three_lists (key x) (key y)) [
          | inl first ↦ first_of y ys sorted z later (lists_on (key z) (key x) (key y) less first)
          | inr rest ↦ elim rest [
            | inl alike ↦ first_of y ys sorted z later (subst (IsListBefore (key z)) alike less)
            | inr after ↦ before after
          ]
        ]
      ]) sorted;
    },
  )

  put_later : (x y : X) (ys zs : List X) → IsListBefore (key y) (key x) → AllPairs NotAfter (y ∷ ys) → IsPut key x ys zs
      → IsPut key x (y ∷ ys) (y ∷ zs)
  put_later x y ys zs less sorted put = record {
    moved = IsPermutation-trans (x ∷ y ∷ ys) (y ∷ x ∷ ys) (y ∷ zs)
        (IsPermutation-sym (y ∷ x ∷ ys) (x ∷ y ∷ ys) (IsPermutation-middle (y ∷ []) x ys)) (IsPermutation-cons y (x ∷ ys) zs put.moved);
    sorted = cons_of y zs (λ z there. elim (Contains-cases x ys z
        (Contains-permutation zs (x ∷ ys) z (IsPermutation-sym (x ∷ ys) zs put.moved) there)) [
          | inl same ↦ λ more. not_before_list (key y)
              (lists_on (key y) (key x) (key y) less (subst (λ w. IsListBefore (key w) (key y)) (sym same) more))
          | inr later ↦ first_of y ys sorted z later
        ]) put.sorted;
  }

  put : (x : X) (ys : List X) → AllPairs NotAfter ys → (zs : List X) × IsPut key x ys zs
  put x [] sorted = (
    x ∷ [],
    record { moved = IsPermutation-refl (x ∷ []); sorted = λ i j d before within. absurd (omega (arith, before, within)) },
  )
  put x (y ∷ ys) sorted = elim (three_lists (key y) (key x)) [
    | inl less ↦
        let (zs, is) = put x ys (tail_of y ys sorted) in (y ∷ zs, put_later x y ys zs less sorted is)
    | inr rest ↦ elim rest [
      | inl alike ↦ put_first x y ys (λ less. not_before_list (key x) (subst (λ c. IsListBefore c (key x)) alike less)) sorted
      | inr more ↦ put_first x y ys (λ less. not_before_list (key x) (lists_on (key x) (key y) (key x) more less)) sorted
    ]
  ]

  pub sorted_by : (xs : List X) → (ys : List X) × IsPermutation xs ys × AllPairs NotAfter ys
  sorted_by [] = ([], IsPermutation-refl [], λ i j d before within. absurd (omega (arith, within)))
  sorted_by (x ∷ xs) =
      let (ys, moved, sorted) = sorted_by xs in
      let (zs, is) = put x ys sorted in
      (zs, IsPermutation-trans (x ∷ xs) (x ∷ ys) zs (IsPermutation-cons x xs ys moved) is.moved, is.sorted)

-- ---- the least point
-- no point of the list comes before the one at this place
abbrev IsLeastPlace : List GridPoint → ℕ → Type 0
IsLeastPlace list at = (at < length list) × ((d : GridPoint) → All (λ p. IsBefore p (get_or list at d) → ⊥) list)

least_place : (v : GridPoint) (list : List GridPoint) → (at : ℕ) × IsLeastPlace (v ∷ list) at
least_place v [] = (
  0,
  (
    omega arith,
    λ d. each (λ p. IsBefore p v → ⊥) (v ∷ []) (λ p there less. elim (Contains-cases v [] p there) [
      | inl same ↦ not_before_itself p v (sym same) less
      | inr none ↦ Contains-nil p none
    ]),
  ),
)
least_place v (w ∷ list) =
    let (at, (within, least)) = least_place w list in
    let u = get_or (w ∷ list) at w in
    elim (three_points u v) [
      | inl less ↦ (
        suc at,
        (
          omega (arith, within),
          λ d. each (λ p. IsBefore p (get_or (w ∷ list) at d) → ⊥) (v ∷ w ∷ list) (λ p there before.
              elim (Contains-cases v (w ∷ list) p there) [
                | inl same ↦
                    let back = subst (λ q. IsBefore q (get_or (w ∷ list) at d)) (sym same) before in
                    let here = subst (IsBefore v) (same_place (w ∷ list) at d w within) back in
                    not_before_itself u u refl (IsBefore-trans u v u less here)
                | inr later ↦ All-contains (λ q. IsBefore q (get_or (w ∷ list) at d) → ⊥) (w ∷ list) p (least d) later before
              ]),
        ),
      )
      | inr rest ↦ (
        0,
        (
          omega arith,
          λ d. each (λ p. IsBefore p v → ⊥) (v ∷ w ∷ list) (λ p there before. elim (Contains-cases v (w ∷ list) p there) [
            | inl same ↦ not_before_itself p v (sym same) before
            | inr later ↦ All-contains (λ q. IsBefore q u → ⊥) (w ∷ list) p (least w) later (elim rest [
              | inl alike ↦ subst (IsBefore p) (sym alike) before
              | inr after ↦ IsBefore-trans p v u before after
            ])
          ]),
        ),
      )
    ]

-- ---- turned cycles
-- the cycle from its least vertex on, in this direction or the other
pub record IsTurnedLeast (forward : Bool) (cycle turned : List GridPoint) : Type 0 where
  pub turn : IsTurned (if forward then cycle else reverse cycle) turned
  pub least : BeginsLeast turned
  pub have : HaveLinks forward cycle turned

from_least : (list : List GridPoint) → IsCycle list → (turned : List GridPoint) × IsTurned list turned × BeginsLeast turned
from_least [] cycle = absurd (omega (arith, cycle.three))
from_least (v ∷ list) cycle =
    let (at, (within, least)) = least_place v list in (
      drop at (v ∷ list) ++ take at (v ∷ list),
      record {
        front = take at (v ∷ list);
        back = drop at (v ∷ list);
        was = sym (take-append-drop at (v ∷ list));
        is = refl;
      },
      begins_least (v ∷ list) at within cycle.once least,
    )

pub turned_least : (forward : Bool) (cycle : List GridPoint) → IsCycle cycle
    → (turned : List GridPoint) × IsTurnedLeast forward cycle turned
turned_least true cycle is =
    let (turned, turn, least) = from_least cycle is in
    (turned, record { turn = turn; least = least; have = λ f. links_forward f cycle cycle turned true refl refl turn })
turned_least false cycle is =
    let (turned, turn, least) = from_least (reverse cycle) (cycle_reversed cycle is) in
    (turned, record { turn = turn; least = least; have = λ f. links_backward f cycle (reverse cycle) turned false refl refl turn })
