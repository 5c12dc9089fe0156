-- This file shows that the neighbours of a place in a sorted list tell what stands before it and behind.
use Rattle.std.proofs.Common.{◌≡◌, ℕ, ◌+◌, ◌-◌, ◌<◌, ◌≤◌, ◌&&◌, Bool, true, false, ltb, List, length, get_or}
use Rattle.std.proofs.Common.{Ordering, Less, Equal, Greater, refl, sym, ap, subst, arith, inl, inr, ◌∙◌}
use Rattle.std.specs.Ordering.{is_le, is_lt, ordering_index}
use Rattle.std.specs.List.Sorted.{IsPartitionedBy, IsPartitionPoint, IsSorted}
use Rattle.std.proofs.lemmas.Bool.{cases_Bool, cases_lt, true≢false, lt-ltb, le-ltb}
use Rattle.grid_base.specs.Segment.{GridSegment, segment_cmp}
use Rattle.grid_base.proofs.Elements.{same_place}
use Rattle.grid_base.proofs.Orders.{is_segment-same, segment_cmp-Equal}
use Rattle.plane_sweep.specs.Events.{is_one, IsFirstPlace, IsPlacePast}
use Rattle.plane_sweep.proofs.Copied.{is_by_lie, parted_before, parted_up_to}

-- ---- what a look at a place tells
pub looked_there : (b p : Bool) (k n : ℕ) → b ≡ (ltb k n && p) → b ≡ true → (k < n) × (p ≡ true)
looked_there b p k n e h = elim (cases_lt k n) [
  | inl l ↦ (l, sym (ap (λ t. t && p) (lt-ltb k n l)) ∙ sym e ∙ h)
  | inr l ↦ absurd (true≢false (sym h ∙ e ∙ ap (λ t. t && p) (le-ltb k n l)))
]

pub looked_not : (b p : Bool) (k n : ℕ) → b ≡ (ltb k n && p) → b ≡ false → k < n → p ≡ false
looked_not b p k n e h l = sym (ap (λ t. t && p) (lt-ltb k n l)) ∙ sym e ∙ h

-- ---- a place by its neighbours
-- where those that have p stand first, they end at k if the last before k has p and the one at k hasn't
point_by_neighbours : {X : Type 0} (p : X → Bool) (xs : List X) (k : ℕ) (e : X) → IsPartitionedBy p xs
    → (0 < k → (k - 1 < length xs) × (p (get_or xs (k - 1) e) ≡ true))
    → (k < length xs → p (get_or xs k e) ≡ false)
    → (k ≤ length xs) × IsPartitionPoint (λ y. p y ≡ true) (λ y. p y ≡ false) xs k
point_by_neighbours p xs k e parted low high = (
  elim (cases_lt 0 k) [
    | inl l ↦ (let a = (low l).0 in omega (arith, a, l))
    | inr l ↦ omega (arith, l)
  ],
  (
    λ i d l r.
        (let some : 0 < k = omega (arith, r) in
        let last = low some in
        parted i (k - 1) d (omega (arith, r)) last.0 (ap p (same_place xs (k - 1) d e last.0) ∙ last.1)),
    λ i d l r. elim (cases_Bool (p (get_or xs i d))) [
      | inr f ↦ f
      | inl f ↦
          (let there : k < length xs = omega (arith, l, r) in
          absurd (true≢false (sym (parted k i d l r f) ∙ ap p (same_place xs k d e there) ∙ high there)))
    ],
  ),
)

pub first_by_neighbours : (list : List GridSegment) (s : GridSegment) (k : ℕ) → IsSorted segment_cmp list
    → (0 < k → (k - 1 < length list) × (is_lt (segment_cmp (get_or list (k - 1) s) s) ≡ true))
    → (k < length list → is_lt (segment_cmp (get_or list k s) s) ≡ false) → IsFirstPlace list s k
first_by_neighbours list s k sorted low high =
    point_by_neighbours (λ t. is_lt (segment_cmp t s)) list k s (parted_before list s sorted) low high

-- ---- behind those that are one with s
up_to_by_less : (o : Ordering) → is_lt o ≡ true → is_le o ≡ true
up_to_by_less Less e = refl
up_to_by_less Equal e = absurd (true≢false (sym e))
up_to_by_less Greater e = absurd (true≢false (sym e))

after_by_neither : (o : Ordering) → is_lt o ≡ false → (ordering_index o ≡ 1 → ⊥) → is_le o ≡ false
after_by_neither Less e never = absurd (true≢false e)
after_by_neither Equal e never = absurd (never refl)
after_by_neither Greater e never = refl

after_if_not : (s t : GridSegment) → is_lt (segment_cmp t s) ≡ false → is_one s t ≡ false → is_le (segment_cmp t s) ≡ false
after_if_not s t less other =
    after_by_neither (segment_cmp t s) less (λ e. true≢false (sym (is_by_lie s t e) ∙ other))

up_to_if_one : (s t : GridSegment) → is_one s t ≡ true → is_le (segment_cmp t s) ≡ true
up_to_if_one s t e = ap is_le ((segment_cmp-Equal t s).1 (sym (is_segment-same s t e)))

-- none is one with s
pub past_none : (list : List GridSegment) (s : GridSegment) (k : ℕ) → IsSorted segment_cmp list → IsFirstPlace list s k
    → (k < length list → is_one s (get_or list k s) ≡ false) → IsPlacePast list s k
past_none list s k sorted first other =
    point_by_neighbours (λ t. is_le (segment_cmp t s)) list k s (parted_up_to list s sorted)
    (λ some. (let within = first.0 in let last : k - 1 < k = omega (arith, some) in
    (omega (arith, within, last), up_to_by_less (segment_cmp (get_or list (k - 1) s) s) (first.1.0 (k - 1) s (omega arith) last))))
    (λ there. after_if_not s (get_or list k s) (first.1.1 k s (omega arith) there) (other there))

-- just one is
pub past_one : (list : List GridSegment) (s : GridSegment) (k : ℕ) → IsSorted segment_cmp list → IsFirstPlace list s k
    → (k < length list) × (is_one s (get_or list k s) ≡ true)
    → (k + 1 < length list → is_one s (get_or list (k + 1) s) ≡ false) → IsPlacePast list s (k + 1)
past_one list s k sorted first one other =
    point_by_neighbours (λ t. is_le (segment_cmp t s)) list (k + 1) s (parted_up_to list s sorted)
    (λ some. subst (λ (j : ℕ). (j < length list) × (is_le (segment_cmp (get_or list j s) s) ≡ true)) (omega arith)
    (one.0, up_to_if_one s (get_or list k s) one.1))
    (λ there. after_if_not s (get_or list (k + 1) s) (first.1.1 (k + 1) s (omega arith) there) (other there))
