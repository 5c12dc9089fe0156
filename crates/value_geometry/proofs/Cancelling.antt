-- This file shows that equal neighbours of a sorted list can cancel each other: what is left ascends, and counts as the
-- list does modulo 2.
use Rattle.std.proofs.Common.{◌≡◌, ◌≢◌, ◌⊎◌, ℕ, ◌+◌, ◌-◌, ◌%◌, ◌<◌, Bool, true, false, cond, Option, Some, List, []}
use Rattle.std.proofs.Common.{◌∷◌, ◌++◌}
use Rattle.std.proofs.Common.{length, get_or, take, All, AllPairs, count_by, refl, sym, ap, ◌∙◌, subst, inl, inr, arith}
use Rattle.std.specs.List.Sorted.{IsSorted}
use Rattle.std.specs.Option.{option_to_list}
use Rattle.std.specs.Ordering.{is_lt}
use Rattle.std.proofs.lemmas.List.{get_or_append_left, length-append, get_or_default}
use Rattle.std.proofs.lemmas.List.Elements.{All-head, All-tail, All-push, All-weaker, All-pop}
use Rattle.std.proofs.lemmas.List.Kept.{AllPairs-cons}
use Rattle.std.proofs.lemmas.List.Sums.{sum_by_more}
use Rattle.grid_base.specs.Point.{IsBefore}
use Rattle.grid_base.specs.Segment.{GridSegment, IsSegmentBefore, segment_cmp}
use Rattle.grid_base.proofs.Ends.{three_points, not_before_itself, IsBefore-trans}
use Rattle.grid_base.proofs.Orders.{segment_cmp-Less, segment_between}
use Rattle.rose_values.specs.Border.{AreSegmentsAscending}
use Rattle.value_geometry.specs.Links.{IsLast}
use Rattle.value_geometry.proofs.Counts.{AllPairs-head, AllPairs-tail, count-append, count_first}

-- ---- the order of segments

segment_before : (s t u : GridSegment) → IsSegmentBefore s t → IsSegmentBefore t u → IsSegmentBefore s u
segment_before s t u (inl first) (inl second) = inl (IsBefore-trans s.a t.a u.a first second)
segment_before s t u (inl first) (inr (level, second)) = inl (subst (IsBefore s.a) level first)
segment_before s t u (inr (level, first)) (inl second) = inl (subst (λ p. IsBefore p u.a) (sym level) second)
segment_before s t u (inr (level, first)) (inr (flush, second)) = inr (level ∙ flush, IsBefore-trans s.b t.b u.b first second)

-- a segment before another isn't the same
pub segment_differs : (s t : GridSegment) → IsSegmentBefore s t → s ≢ t
segment_differs s t (inl first) same = not_before_itself s.a t.a (ap (λ u. u.a) same) first
segment_differs s t (inr (level, second)) same = not_before_itself s.b t.b (ap (λ u. u.b) same) second

-- s is before t, or they are one
abbrev pub IsNotAfter : GridSegment → GridSegment → Type 0
IsNotAfter s t = IsSegmentBefore s t ⊎ (s ≡ t)

before_by : (s t u : GridSegment) → IsSegmentBefore s t → IsNotAfter t u → IsSegmentBefore s u
before_by s t u first (inl second) = segment_before s t u first second
before_by s t u first (inr same) = subst (IsSegmentBefore s) same first

not_after_by : (s t u : GridSegment) → IsNotAfter s t → IsNotAfter t u → IsNotAfter s u
not_after_by s t u (inl first) rest = inl (before_by s t u first rest)
not_after_by s t u (inr same) rest = subst (λ r. IsNotAfter r u) (sym same) rest

-- of two segments the second is before the first, or it isn't
not_after : (s t : GridSegment) → (IsSegmentBefore t s → ⊥) → IsNotAfter s t
not_after s t none = elim (three_points s.a t.a) [
  | inl first ↦ inl (inl first)
  | inr rest ↦ elim rest [
    | inl level ↦ elim (three_points s.b t.b) [
      | inl first ↦ inl (inr (level, first))
      | inr ends ↦ elim ends [
        | inl flush ↦ inr (ap (λ p. segment_between p s.b) level ∙ ap (segment_between t.a) flush)
        | inr after ↦ absurd (none (inr (sym level, after)))
      ]
    ]
    | inr after ↦ absurd (none (inl after))
  ]
]

-- a segment of a sorted list is not after the next
next_not_after : (sorted : List GridSegment) → IsSorted segment_cmp sorted → (k : ℕ) (d : GridSegment) → k + 1 < length sorted
    → IsNotAfter (get_or sorted k d) (get_or sorted (k + 1) d)
next_not_after sorted ordered k d within =
    let s = get_or sorted k d in
    let t = get_or sorted (k + 1) d in
    not_after s t (λ before.
    let no : is_lt (segment_cmp t s) ≡ false = ordered k d (omega arith) within in
    let less : is_lt (segment_cmp t s) ≡ true = ap is_lt ((segment_cmp-Less t s).1 before) in
    cc)

-- ---- lists with one more or one less at the end
AllPairs-push : {X : Type 0} (R : X → X → Type 0) (xs : List X) (x : X) → AllPairs R xs → All (λ y. R y x) xs
    → AllPairs R (xs ++ x ∷ [])
AllPairs-push R [] x pairs all = λ i j d before within. absurd (omega arith)
AllPairs-push R (y ∷ xs) x pairs all =
    AllPairs-cons R y (xs ++ x ∷ [])
    (All-push (R y) xs x (AllPairs-head R y xs pairs) (All-head (λ z. R z x) y xs all))
    (AllPairs-push R xs x (AllPairs-tail R y xs pairs) (All-tail (λ z. R z x) y xs all))

AllPairs-front : {X : Type 0} (R : X → X → Type 0) (xs ys : List X) → AllPairs R (xs ++ ys) → AllPairs R xs
AllPairs-front R xs ys pairs = λ i j d before within.
    let more = length-append xs ys in
    let at_i = get_or_append_left xs ys d i (omega arith) in
    let at_j = get_or_append_left xs ys d j within in
    rw (at_i, at_j) at (pairs i j d before (omega arith))

-- ---- what is left
-- what is left of the first i segments ascends, is not after the next one, and counts as they do modulo 2
pub record IsLeft (sorted : List GridSegment) (i : ℕ) (left : List GridSegment) : Type 0 where
  pub ascending : AreSegmentsAscending left
  pub none_after : (d : GridSegment) → i < length sorted → All (λ t. IsNotAfter t (get_or sorted i d)) left
  pub parity : (test : GridSegment → Bool) → count_by test left % 2 ≡ count_by test (take i sorted) % 2

-- what is not after s is not after the one behind it
none_after_next : (sorted : List GridSegment) → IsSorted segment_cmp sorted → (i : ℕ) (s : GridSegment) → i < length sorted
    → s ≡ get_or sorted i s → (left : List GridSegment) → All (λ t. IsNotAfter t s) left
    → (d : GridSegment) → i + 1 < length sorted → All (λ t. IsNotAfter t (get_or sorted (i + 1) d)) left
none_after_next sorted ordered i s within is left all d inside =
    let step = next_not_after sorted ordered i d inside in
    let here : get_or sorted i d ≡ s = get_or_default sorted i d s within ∙ sym is in
    let from : IsNotAfter s (get_or sorted (i + 1) d) = subst (λ t. IsNotAfter t (get_or sorted (i + 1) d)) here step in
    All-weaker (λ t. IsNotAfter t s) (λ t. IsNotAfter t (get_or sorted (i + 1) d))
    (λ t before. not_after_by t s _ before from) left all

-- one segment counts the same in both lists
one_counts : (sorted : List GridSegment) (i : ℕ) (s : GridSegment) → i < length sorted → s ≡ get_or sorted i s
    → (test : GridSegment → Bool) → count_by test (take (i + 1) sorted) ≡ count_by test (take i sorted) + cond (test s) 1 0
one_counts sorted i s within is test =
    sum_by_more (λ t. cond (test t) 1 0) sorted i s within ∙ ap (λ t. count_by test (take i sorted) + cond (test t) 1 0) (sym is)

last_counts : (test : GridSegment → Bool) (xs : List GridSegment) (s : GridSegment)
    → count_by test (xs ++ s ∷ []) ≡ count_by test xs + cond (test s) 1 0
last_counts test xs s =
    let both = count-append test xs (s ∷ []) in
    let one = count_first test s [] (test s) refl in
    omega (arith, both, one)

-- a segment that is the last one left cancels it
pub cancelled : (sorted : List GridSegment) → IsSorted segment_cmp sorted → (i : ℕ) (s : GridSegment) → i < length sorted
    → s ≡ get_or sorted i s → (left rest : List GridSegment) → left ≡ rest ++ s ∷ [] → IsLeft sorted i left
    → IsLeft sorted (i + 1) rest
cancelled sorted ordered i s within is left rest popped kept = record {
  ascending = AllPairs-front IsSegmentBefore rest (s ∷ []) (subst AreSegmentsAscending popped kept.ascending);
  none_after =
      let before = subst (λ t. All (λ u. IsNotAfter u t) left) (sym is) (kept.none_after s within) in
      none_after_next sorted ordered i s within is rest
      (All-pop (λ t. IsNotAfter t s) left rest (Some s) popped before).0;
  parity = λ test.
      let whole = ap (count_by test) popped ∙ last_counts test rest s in
      let more = one_counts sorted i s within is test in
      let before = kept.parity test in
      omega (arith, whole, more, before);
}

-- where it isn't, all that are left are before it
all_before : (left : List GridSegment) (s : GridSegment) → AreSegmentsAscending left → All (λ t. IsNotAfter t s) left
    → (IsLast left s → ⊥) → All (λ t. IsSegmentBefore t s) left
all_before left s ascending none_after other = λ k d within. elim (none_after k d within) [
  | inl before ↦ before
  | inr same ↦ by k d within same (last_or_not k (length left) within)
]
  where
    last_or_not : (k n : ℕ) → k < n → (k ≡ n - 1) ⊎ (k < n - 1)
    last_or_not k n within = grind arith

    by : (k : ℕ) (d : GridSegment) → k < length left → get_or left k d ≡ s → (k ≡ length left - 1) ⊎ (k < length left - 1)
        → IsSegmentBefore (get_or left k d) s
    by k d within same (inl last) =
        absurd (other (record {
          some = omega arith;
          last = λ e. ap (λ n. get_or left n e) (sym last) ∙ get_or_default left k e d within ∙ same;
        }))
    by k d within same (inr earlier) =
        before_by (get_or left k d) (get_or left (length left - 1) d) s
        (ascending k (length left - 1) d earlier (omega arith)) (none_after (length left - 1) d (omega arith))

-- and it is left too
pub one_left : (sorted : List GridSegment) → IsSorted segment_cmp sorted → (i : ℕ) (s : GridSegment) → i < length sorted
    → s ≡ get_or sorted i s → (left : List GridSegment) → (IsLast left s → ⊥) → IsLeft sorted i left
    → IsLeft sorted (i + 1) (left ++ s ∷ [])
one_left sorted ordered i s within is left other kept =
    let before = subst (λ t. All (λ u. IsNotAfter u t) left) (sym is) (kept.none_after s within) in
    record {
      ascending = AllPairs-push IsSegmentBefore left s kept.ascending (all_before left s kept.ascending before other);
      none_after = none_after_next sorted ordered i s within is (left ++ s ∷ [])
          (All-push (λ t. IsNotAfter t s) left s before (inr refl));
      parity = λ test.
          let whole = last_counts test left s in
          let more = one_counts sorted i s within is test in
          let same = kept.parity test in
          omega (arith, whole, more, same);
    }

-- what is taken off the end is the last one
pub last_popped : (left rest : List GridSegment) (s : GridSegment) (popped : Option GridSegment) (n : ℕ) → length left ≡ n
    → left ≡ rest ++ option_to_list popped
    → ((d : GridSegment) → 0 < n → popped ≡ Some (get_or left (n - 1) d)) → IsLast left s → left ≡ rest ++ s ∷ []
last_popped left rest s popped n many whole value last =
    let some = last.some in
    let one = value s (omega arith) ∙ ap (λ k. Some (get_or left (k - 1) s)) (sym many) ∙ ap (λ t. Some t) (last.last s) in
    whole ∙ ap (λ o. rest ++ option_to_list o) one
