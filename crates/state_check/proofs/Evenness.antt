-- This file shows that a sorted list of points stands in pairs exactly where each point stands in it an even number of times.
use Rattle.std.proofs.Common.{◌≡◌, ◌+◌, ◌%◌, Bool, true, false, cond, ◌||◌, List, [], ◌∷◌, get_or, map, All}
use Rattle.std.proofs.Common.{AllPairs}
use Rattle.std.proofs.Common.{count_by, IsPermutation, refl, sym, ap, ap₂, subst, ◌∙◌, inl, inr, arith}
use Rattle.std.specs.List.{flat_map}
use Rattle.std.specs.List.Sorted.{IsSorted}
use Rattle.std.specs.Ordering.{is_lt}
use Rattle.std.proofs.lemmas.Bool.{cases_lt}
use Rattle.std.proofs.lemmas.Bool.Decides.{nat_tests}
use Rattle.std.proofs.lemmas.List.Elements.{All-cons, All-head, All-tail}
use Rattle.std.proofs.lemmas.List.Sorted.{sorted_far, ranks_by, sum_by-IsPermutation}
use Rattle.grid_base.specs.Point.{GridPoint, IsBefore, is_point, point_cmp}
use Rattle.grid_base.specs.Border.{is_end}
use Rattle.grid_base.specs.declared.original.Original.{Original}
use Rattle.grid_base.proofs.Orders.{point_cmp-total, point_cmp-Less, is_point-same, is_point-itself, IsBefore-asym}
use Rattle.hook_chain.specs.Straight.{along}
use Rattle.value_geometry.proofs.Counts.{AllPairs-head, AllPairs-tail, count_first, count_yes, count_no}
use Rattle.state_check.specs.Pairs.{are_pairs, times, IsEvenList, ends_of}

-- ---- pairs
-- two of the same change nothing
two_alike : (p x y : GridPoint) (more : List GridPoint) → is_point x y ≡ true → times p (x ∷ y ∷ more) % 2 ≡ times p more % 2
two_alike p x y more same =
    let one : is_point x p ≡ is_point y p = ap (λ (z : GridPoint). is_point z p) (is_point-same x y same) in
    by (is_point y p) (count_first (λ q. is_point q p) x (y ∷ more) (is_point y p) one)
    (count_first (λ q. is_point q p) y more (is_point y p) refl)
  where
    by : (b : Bool) → times p (x ∷ y ∷ more) ≡ cond b 1 0 + times p (y ∷ more) → times p (y ∷ more) ≡ cond b 1 0 + times p more
        → times p (x ∷ y ∷ more) % 2 ≡ times p more % 2
    by true first second = omega (arith, first, second)
    by false first second = omega (arith, first, second)

-- what stands in pairs is even
pub pairs_are_even : (list : List GridPoint) → are_pairs list ≡ true → IsEvenList list
unfolding are_pairs
pairs_are_even [] paired p = refl
pairs_are_even (x ∷ []) paired p = absurd cc
pairs_are_even (x ∷ y ∷ more) paired p = by (is_point x y) refl paired (λ rest. pairs_are_even more rest p)
  where
    by : (b : Bool) → is_point x y ≡ b → cond b (are_pairs more) false ≡ true → (are_pairs more ≡ true → times p more % 2 ≡ 0)
        → times p (x ∷ y ∷ more) % 2 ≡ 0
    by true same rest even = two_alike p x y more same ∙ even rest
    by false apart rest even = absurd cc

-- a point that isn't in the list
absent : (p : GridPoint) (list : List GridPoint) → All (λ q. is_point q p ≡ false) list → times p list ≡ 0
absent p [] none = refl
absent p (x ∷ list) none =
    count_no (λ q. is_point q p) x list (All-head (λ q. is_point q p ≡ false) x list none)
    ∙ absent p list (All-tail (λ q. is_point q p ≡ false) x list none)

-- of two points neither of which is the other and the second isn't before the first, the first is before the second
before_it : (p q : GridPoint) → is_point p q ≡ false → (IsBefore q p → ⊥) → IsBefore p q
before_it p q apart not_after = elim (cases_lt p.x q.x) [
  | inl less ↦ inl less
  | inr not_less ↦ elim (cases_lt q.x p.x) [
    | inl more ↦ absurd (not_after (inl more))
    | inr not_more ↦
        let same : p.x ≡ q.x = omega arith in
        elim (cases_lt p.y q.y) [
          | inl less ↦ inr (same, less)
          | inr not_below ↦ elim (cases_lt q.y p.y) [
            | inl more ↦ absurd (not_after (inr (sym same, more)))
            | inr not_above ↦
                let level : p.y ≡ q.y = omega arith in
                absurd (grind (arith, nat_tests, same, level, apart))
          ]
        ]
  ]
]

not_the_same : (p q : GridPoint) → IsBefore p q → is_point q p ≡ false
not_the_same p q before = by (is_point q p) refl
  where
    by : (b : Bool) → is_point q p ≡ b → is_point q p ≡ false
    by false is = is
    by true is =
        let here = subst (λ (z : GridPoint). IsBefore p z) (is_point-same q p is) before in
        absurd (IsBefore-asym p p here here)

-- no later point is before an earlier one
abbrev pub NeverFall : List GridPoint → Type 0
NeverFall list = AllPairs (λ p q. IsBefore q p → ⊥) list

-- a first point that isn't the second stands alone
alone : (x y : GridPoint) (more : List GridPoint) → NeverFall (x ∷ y ∷ more) → is_point x y ≡ false → times x (x ∷ y ∷ more) ≡ 1
alone x y more order apart =
    let before = before_it x y apart (AllPairs-head (λ p q. IsBefore q p → ⊥) x (y ∷ more) order 0 y (omega arith)) in
    let later = AllPairs-head (λ p q. IsBefore q p → ⊥) y more (AllPairs-tail (λ p q. IsBefore q p → ⊥) x (y ∷ more) order) in
    let others : All (λ q. is_point q x ≡ false) more = λ k d within.
    let z = get_or more k d in
    by z (later k d within) (is_point z x) refl before in
    let none = absent x (y ∷ more) (All-cons (λ q. is_point q x ≡ false) y more (not_the_same x y before) others) in
    let one = count_yes (λ q. is_point q x) x (y ∷ more) (is_point-itself x) in
    omega (arith, none, one)
  where
    by : (z : GridPoint) → (IsBefore z y → ⊥) → (b : Bool) → is_point z x ≡ b → IsBefore x y → is_point z x ≡ false
    by z late false is before = is
    by z late true is before =
        absurd (late (subst (λ (w : GridPoint). IsBefore w y) (sym (is_point-same z x is)) before))

-- what is even and sorted stands in pairs
pub even_in_pairs : (list : List GridPoint) → NeverFall list → IsEvenList list → are_pairs list ≡ true
unfolding are_pairs
even_in_pairs [] order even = refl
even_in_pairs (x ∷ []) order even =
    let one = count_yes (λ q. is_point q x) x [] (is_point-itself x) in
    let none = even x in
    absurd (omega (arith, one, none))
even_in_pairs (x ∷ y ∷ more) order even =
    by (is_point x y) refl (even_in_pairs more
    (AllPairs-tail (λ p q. IsBefore q p → ⊥) y more (AllPairs-tail (λ p q. IsBefore q p → ⊥) x (y ∷ more) order)))
  where
    by : (b : Bool) → is_point x y ≡ b → (IsEvenList more → are_pairs more ≡ true) → cond b (are_pairs more) false ≡ true
    by true same rest = rest (λ p. sym (two_alike p x y more same) ∙ even p)
    by false apart rest =
        let one = alone x y more order apart in
        let none = even x in
        absurd (omega (arith, one, none))

-- ---- sorting
pub sorted_never_falls : (list : List GridPoint) → IsSorted point_cmp list → NeverFall list
sorted_never_falls list sorted = λ i j d less within before.
    let far = sorted_far (λ p q. is_lt (point_cmp p q)) (ranks_by point_cmp-total (λ p. p)) list sorted i j d (omega arith) within in
    let is = (point_cmp-Less (get_or list j d) (get_or list i d)).1 before in
    let lower = ap is_lt is in
    cc

pub as_often : (list sorted : List GridPoint) → IsPermutation list sorted → (p : GridPoint) → times p sorted ≡ times p list
as_often list sorted moved p = sum_by-IsPermutation (λ q. cond (is_point q p) 1 0) list sorted moved

-- ---- the ends of originals
-- p is as often an end of a segment as it stands among the ends
pub times_among_ends : (parts : List Original) → All (λ (o : Original). IsBefore o.a o.b) parts → (p : GridPoint)
    → times p (flat_map ends_of parts) ≡ count_by (is_end p) (map along parts)
times_among_ends [] ordered p = refl
times_among_ends (o ∷ parts) ordered p =
    by (is_point o.a p) (is_point o.b p) refl refl
    (times_among_ends parts (All-tail (λ (q : Original). IsBefore q.a q.b) o parts ordered) p)
  where
    rest : List GridPoint
    rest = flat_map ends_of parts

    by : (b c : Bool) → is_point o.a p ≡ b → is_point o.b p ≡ c → times p rest ≡ count_by (is_end p) (map along parts)
        → times p (o.a ∷ o.b ∷ rest) ≡ count_by (is_end p) (map along (o ∷ parts))
    by true true is_a is_b same =
        let before = All-head (λ (q : Original). IsBefore q.a q.b) o parts ordered in
        let at_a = subst (λ (z : GridPoint). IsBefore z o.b) (is_point-same o.a p is_a) before in
        let at_both = subst (IsBefore p) (is_point-same o.b p is_b) at_a in
        absurd (IsBefore-asym p p at_both at_both)
    by true false is_a is_b same =
        let first = count_yes (λ q. is_point q p) o.a (o.b ∷ rest) is_a in
        let second = count_no (λ q. is_point q p) o.b rest is_b in
        let whole = count_yes (is_end p) (along o) (map along parts) (ap₂ (λ (b c : Bool). b || c) is_a is_b) in
        omega (arith, first, second, whole, same)
    by false true is_a is_b same =
        let first = count_no (λ q. is_point q p) o.a (o.b ∷ rest) is_a in
        let second = count_yes (λ q. is_point q p) o.b rest is_b in
        let whole = count_yes (is_end p) (along o) (map along parts) (ap₂ (λ (b c : Bool). b || c) is_a is_b) in
        omega (arith, first, second, whole, same)
    by false false is_a is_b same =
        let first = count_no (λ q. is_point q p) o.a (o.b ∷ rest) is_a in
        let second = count_no (λ q. is_point q p) o.b rest is_b in
        let whole = count_no (is_end p) (along o) (map along parts) (ap₂ (λ (b c : Bool). b || c) is_a is_b) in
        omega (arith, first, second, whole, same)
