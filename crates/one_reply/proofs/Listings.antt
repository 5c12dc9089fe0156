-- This file shows that what is in a list can be listed in order: each once, or what stands there an odd number of times.
use Rattle.std.proofs.Common.{◌≡◌, ◌⊎◌, ◌↔◌, ◌%◌, ◌<◌, ℕ, Bool, List, [], ◌∷◌, Contains, All, AllPairs, count_by}
use Rattle.std.proofs.Common.{Ordering, Less, Equal, Greater, refl, sym, ap, subst, ◌∙◌, inl, inr, arith}
use Rattle.std.specs.Cmp.{IsTotalOrder}
use Rattle.std.specs.Ordering.{ordering_reverse, nat_cmp}
use Rattle.std.proofs.lemmas.Bool.Decides.{nat_tests}
use Rattle.std.proofs.lemmas.Cmp.{nat_cmp_total}
use Rattle.std.proofs.lemmas.List.Elements.{All-contains, Contains-get_or}
use Rattle.std.proofs.lemmas.List.Kept.{AllPairs-cons}
use Rattle.grid_base.specs.Point.{GridPoint, IsBefore, point_cmp}
use Rattle.grid_base.specs.Segment.{GridSegment, IsSegmentBefore, segment_cmp}
use Rattle.grid_base.proofs.Elements.{Contains-here, Contains-later, Contains-cases, Contains-nil}
use Rattle.grid_base.proofs.Orders.{point_cmp-total, point_cmp-Less, point_cmp-Equal}
use Rattle.grid_base.proofs.Orders.{segment_cmp-total, segment_cmp-Less, segment_cmp-Equal}
use Rattle.value_geometry.proofs.Counts.{AllPairs-head, AllPairs-tail, count_first}
use Rattle.rose_overlay.proofs.Picks.{ArePicked}
use Rattle.rose_overlay.proofs.Picks.{listed as said_by}
use Rattle.one_reply.proofs.Decisions.{Decided, picked}

-- ---- lists in an order in which B comes before
-- the new list has x and what the list has
record HasMore {X : Type 0} (B : X → X → Type 0) (x : X) (list new : List X) : Type 0 where
  ascending : AllPairs B new
  exact : (y : X) → Contains new y ↔ ((x ≡ y) ⊎ Contains list y)

-- the new list has x where the list doesn't, and otherwise what the list has
record IsToggled {X : Type 0} (B : X → X → Type 0) (x : X) (list new : List X) : Type 0 where
  ascending : AllPairs B new
  only : (y : X) → Contains new y → (x ≡ y) ⊎ Contains list y
  parity : (test : X → Bool) → count_by test new % 2 ≡ count_by test (x ∷ list) % 2

-- the list has what xs has, each once
pub record IsListed {X : Type 0} (B : X → X → Type 0) (xs list : List X) : Type 0 where
  pub ascending : AllPairs B list
  pub exact : (y : X) → Contains list y ↔ Contains xs y

-- the list counts as xs does modulo 2
pub record IsReduced {X : Type 0} (B : X → X → Type 0) (xs list : List X) : Type 0 where
  pub ascending : AllPairs B list
  pub parity : (test : X → Bool) → count_by test list % 2 ≡ count_by test xs % 2

module _ {X : Type 0} (cmp : X → X → Ordering) (total : IsTotalOrder cmp) (B : X → X → Type 0)
    (less : (x y : X) → cmp x y ≡ Less ↔ B x y) (equal : (x y : X) → cmp x y ≡ Equal ↔ (x ≡ y)) where
  three : (x y : X) → B x y ⊎ ((x ≡ y) ⊎ B y x)
  three x y = by (cmp x y) refl
    where
      by : (o : Ordering) → cmp x y ≡ o → B x y ⊎ ((x ≡ y) ⊎ B y x)
      by Less is = inl ((less x y).0 is)
      by Equal is = inr (inl ((equal x y).0 is))
      by Greater is = inr (inr ((less y x).0 (total.antisymm y x ∙ ap ordering_reverse is)))

  further : (x y z : X) → B x y → B y z → B x z
  further x y z first second = (less x z).0 (total.trans x y z ((less x y).1 first) ((less y z).1 second))

  -- what comes before the first comes before all
  before_all : (x y : X) (ys : List X) → B x y → AllPairs B (y ∷ ys) → All (B x) (y ∷ ys)
  before_all x y ys before up = λ k d within. elim (Contains-cases y ys _ (Contains-get_or (y ∷ ys) k d within)) [
    | inl same ↦ subst (B x) same before
    | inr later ↦ further x y _ before (All-contains (B y) ys _ (AllPairs-head B y ys up) later)
  ]

  -- the first comes before what is x or behind it
  first_before : (x y : X) (ys zs : List X) → B y x → AllPairs B (y ∷ ys) → ((z : X) → Contains zs z → (x ≡ z) ⊎ Contains ys z)
      → All (B y) zs
  first_before x y ys zs after up only = λ k d within. elim (only _ (Contains-get_or zs k d within)) [
    | inl same ↦ subst (B y) same after
    | inr there ↦ All-contains (B y) ys _ (AllPairs-head B y ys up) there
  ]

  one_alone : (x : X) → AllPairs B (x ∷ [])
  one_alone x = λ i j d before within. absurd (omega (arith, before, within))

  -- ---- each once
  put : (x : X) (ys : List X) → AllPairs B ys → (zs : List X) × HasMore B x ys zs
  put x [] up = (
    x ∷ [],
    record {
      ascending = one_alone x;
      exact = λ y. (
        Contains-cases x [] y,
        λ either. elim either [
          | inl same ↦ subst (Contains (x ∷ [])) same (Contains-here x [])
          | inr none ↦ absurd (Contains-nil y none)
        ],
      );
    },
  )
  put x (y ∷ ys) up = elim (three x y) [
    | inl before ↦ (
      x ∷ y ∷ ys,
      record {
        ascending = AllPairs-cons B x (y ∷ ys) (before_all x y ys before up) up;
        exact = λ z. (
          Contains-cases x (y ∷ ys) z,
          λ either. elim either [
            | inl same ↦ subst (Contains (x ∷ y ∷ ys)) same (Contains-here x (y ∷ ys))
            | inr there ↦ Contains-later x (y ∷ ys) z there
          ],
        );
      },
    )
    | inr rest ↦ elim rest [
      | inl same ↦ (
        y ∷ ys,
        record {
          ascending = up;
          exact = λ z. (
            λ there. inr there,
            λ either. elim either [
              | inl is ↦ subst (Contains (y ∷ ys)) (sym same ∙ is) (Contains-here y ys)
              | inr there ↦ there
            ],
          );
        },
      )
      | inr after ↦
          let (zs, more) = put x ys (AllPairs-tail B y ys up) in (
            y ∷ zs,
            record {
              ascending = AllPairs-cons B y zs (first_before x y ys zs after up (λ z. (more.exact z).0)) more.ascending;
              exact = λ z. (
                λ there. elim (Contains-cases y zs z there) [
                  | inl here ↦ inr (subst (Contains (y ∷ ys)) here (Contains-here y ys))
                  | inr later ↦ elim ((more.exact z).0 later) [
                    | inl is ↦ inl is
                    | inr old ↦ inr (Contains-later y ys z old)
                  ]
                ],
                λ either. elim either [
                  | inl is ↦ Contains-later y zs z ((more.exact z).1 (inl is))
                  | inr there ↦ elim (Contains-cases y ys z there) [
                    | inl here ↦ subst (Contains (y ∷ zs)) here (Contains-here y zs)
                    | inr later ↦ Contains-later y zs z ((more.exact z).1 (inr later))
                  ]
                ],
              );
            },
          )
    ]
  ]

  listed : (xs : List X) → (list : List X) × IsListed B xs list
  listed [] = (
    [],
    record { ascending = λ i j d before within. absurd (omega (arith, within)); exact = λ y. (λ there. there, λ there. there) },
  )
  listed (x ∷ xs) =
      let (list, is) = listed xs in
      let (new, more) = put x list is.ascending in (
        new,
        record {
          ascending = more.ascending;
          exact = λ y. (
            λ there. elim ((more.exact y).0 there) [
              | inl same ↦ subst (Contains (x ∷ xs)) same (Contains-here x xs)
              | inr old ↦ Contains-later x xs y ((is.exact y).0 old)
            ],
            λ there. (more.exact y).1 (elim (Contains-cases x xs y there) [
              | inl same ↦ inl same
              | inr later ↦ inr ((is.exact y).1 later)
            ]),
          );
        },
      )

  -- ---- what stands there an odd number of times
  toggled : (x : X) (ys : List X) → AllPairs B ys → (zs : List X) × IsToggled B x ys zs
  toggled x [] up =
      (x ∷ [], record { ascending = one_alone x; only = Contains-cases x []; parity = λ test. refl })
  toggled x (y ∷ ys) up = elim (three x y) [
    | inl before ↦ (
      x ∷ y ∷ ys,
      record {
        ascending = AllPairs-cons B x (y ∷ ys) (before_all x y ys before up) up;
        only = Contains-cases x (y ∷ ys);
        parity = λ test. refl;
      },
    )
    | inr rest ↦ elim rest [
      | inl same ↦ (
        ys,
        record {
          ascending = AllPairs-tail B y ys up;
          only = λ z there. inr (Contains-later y ys z there);
          parity = λ test.
              let first = count_first test x (y ∷ ys) (test x) refl in
              let second = count_first test y ys (test x) (ap test (sym same)) in
              omega (arith, first, second);
        },
      )
      | inr after ↦
          let (zs, is) = toggled x ys (AllPairs-tail B y ys up) in (
            y ∷ zs,
            record {
              ascending = AllPairs-cons B y zs (first_before x y ys zs after up is.only) is.ascending;
              only = λ z there. elim (Contains-cases y zs z there) [
                | inl here ↦ inr (subst (Contains (y ∷ ys)) here (Contains-here y ys))
                | inr later ↦ elim (is.only z later) [
                  | inl same ↦ inl same
                  | inr old ↦ inr (Contains-later y ys z old)
                ]
              ];
              parity = λ test.
                  let new = count_first test y zs (test y) refl in
                  let was = count_first test y ys (test y) refl in
                  let one = count_first test x ys (test x) refl in
                  let both = count_first test x (y ∷ ys) (test x) refl in
                  let rest = is.parity test in
                  omega (arith, new, was, one, both, rest);
            },
          )
    ]
  ]

  reduced : (xs : List X) → (list : List X) × IsReduced B xs list
  reduced [] = ([], record { ascending = λ i j d before within. absurd (omega (arith, within)); parity = λ test. refl })
  reduced (x ∷ xs) =
      let (list, is) = reduced xs in
      let (new, one) = toggled x list is.ascending in (
        new,
        record {
          ascending = one.ascending;
          parity = λ test.
              let with_list = count_first test x list (test x) refl in
              let with_all = count_first test x xs (test x) refl in
              let step = one.parity test in
              let rest = is.parity test in
              omega (arith, with_list, with_all, step, rest);
        },
      )

-- ---- points, segments and numbers
number_less : (m n : ℕ) → nat_cmp m n ≡ Less ↔ (m < n)
number_less m n = (λ h. grind (arith, nat_tests), λ h. grind (arith, nat_tests))

number_same : (m n : ℕ) → nat_cmp m n ≡ Equal ↔ (m ≡ n)
number_same m n = (λ h. grind (arith, nat_tests), λ h. grind (arith, nat_tests))

said_of : {X : Type 0} (Q : X → Type 0) (xs those list : List X) → ArePicked Q xs those
    → ((x : X) → Contains list x ↔ Contains those x) → ArePicked Q xs list
said_of Q xs those list are same = said_by (λ x. Contains xs x × Q x) those list are same

pub listed_points : (xs : List GridPoint) → (list : List GridPoint) × IsListed IsBefore xs list
listed_points = listed point_cmp point_cmp-total IsBefore point_cmp-Less point_cmp-Equal

pub listed_segments : (xs : List GridSegment) → (list : List GridSegment) × IsListed IsSegmentBefore xs list
listed_segments = listed segment_cmp segment_cmp-total IsSegmentBefore segment_cmp-Less segment_cmp-Equal

pub reduced_segments : (xs : List GridSegment) → (list : List GridSegment) × IsReduced IsSegmentBefore xs list
reduced_segments = reduced segment_cmp segment_cmp-total IsSegmentBefore segment_cmp-Less segment_cmp-Equal

-- those of the list with Q, in order
pub picked_points : (Q : GridPoint → Type 0) (xs : List GridPoint) → ((p : GridPoint) → Contains xs p → Decided (Q p))
    → (list : List GridPoint) × AllPairs IsBefore list × ArePicked Q xs list
picked_points Q xs decide =
    let (those, are) = picked Q xs decide in
    let (list, is) = listed_points those in (list, is.ascending, said_of Q xs those list are is.exact)

pub picked_segments : (Q : GridSegment → Type 0) (xs : List GridSegment) → ((s : GridSegment) → Contains xs s → Decided (Q s))
    → (list : List GridSegment) × AllPairs IsSegmentBefore list × ArePicked Q xs list
picked_segments Q xs decide =
    let (those, are) = picked Q xs decide in
    let (list, is) = listed_segments those in (list, is.ascending, said_of Q xs those list are is.exact)

pub listed_numbers : (xs : List ℕ) → (list : List ℕ) × IsListed (λ m n. m < n) xs list
listed_numbers = listed nat_cmp nat_cmp_total (λ m n. m < n) number_less number_same
