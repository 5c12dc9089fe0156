-- This file shows that the segments of a border join each two points once at most, and what that says of cycles.
use Rattle.std.proofs.Common.{◌≡◌, ◌≢◌, ◌⊎◌, ℕ, suc, ◌+◌, ◌<◌, ◌≤◌, Bool, true, false, ◌&&◌, ◌||◌, refl, sym, ap, ap₂, ◌∙◌, subst, inl, inr}
use Rattle.std.proofs.Common.{arith}
use Rattle.std.proofs.Common.{List, [], ◌∷◌, length, get_or, take, All, Contains, count_by, ⊎_elim}
use Rattle.std.proofs.lemmas.Bool.Decides.{nat_tests}
use Rattle.std.proofs.lemmas.List.{get_or-take, length-take}
use Rattle.std.proofs.lemmas.List.Sums.{sum_by_more}
use Rattle.std.proofs.lemmas.List.Elements.{All-head, All-tail, All-contains}
use Rattle.grid_base.specs.Point.{GridPoint, IsBefore, is_before, is_point}
use Rattle.grid_base.specs.Segment.{GridSegment, IsSegmentBefore, segment_of}
use Rattle.grid_base.proofs.Orders.{is_point-same, is_point-itself}
use Rattle.grid_base.proofs.Ends.{not_before_itself, segment_before_itself}
use Rattle.grid_base.proofs.Elements.{same_place}
use Rattle.grid_base.proofs.Booleans.{both_true, one_true}
use Rattle.grid_base.specs.Border.{is_end}
use Rattle.rose_values.specs.Border.{AreSegmentsAscending}
use Rattle.r_cycles.specs.Cycles.{link, joins}
use Rattle.r_cycles.specs.Left.{way_of, leads, begins, one_if, times_in, AreSimple}
use Rattle.r_cycles.specs.declared.ways.Way.{Way}
use Rattle.r_cycles.proofs.Counts.{count_by-cons, count_by-none}
use Rattle.r_cycles.proofs.Joins.{count_from_there, joins_by_ways, times_in-swap}

-- the lesser end of each segment comes first
abbrev pub AreOrdered : List GridSegment → Type 0
AreOrdered border = All (λ s. IsBefore s.a s.b) border

-- ---- which segment joins two points
-- the ends of s are p and q, in one order or the other
ends_are : (p q : GridPoint) (s : GridSegment) → joins p q (link s.a s.b) ≡ true
    → ((s.a ≡ p) × (s.b ≡ q)) ⊎ ((s.a ≡ q) × (s.b ≡ p))
ends_are p q s h = elim (one_true (is_point s.a p && is_point s.b q) (is_point s.a q && is_point s.b p) h) [
  | inl first ↦
      let both = both_true (is_point s.a p) (is_point s.b q) first in
      inl (is_point-same s.a p both.0, is_point-same s.b q both.1)
  | inr second ↦
      let both = both_true (is_point s.a q) (is_point s.b p) second in
      inr (is_point-same s.a q both.0, is_point-same s.b p both.1)
]

in_order : (s : GridSegment) → IsBefore s.a s.b → segment_of s.a s.b ≡ s
in_order s before = let e : is_before s.a s.b ≡ true = grind (arith, nat_tests) in rw e refl

out_of_order : (s : GridSegment) → IsBefore s.a s.b → segment_of s.b s.a ≡ s
out_of_order s before = let e : is_before s.b s.a ≡ false = grind (arith, nat_tests) in rw e refl

-- the one segment that joins p and q
pub joined_is : (p q : GridPoint) (s : GridSegment) → IsBefore s.a s.b → joins p q (link s.a s.b) ≡ true → s ≡ segment_of p q
joined_is p q s before h = elim (ends_are p q s h) [
  | inl first ↦ sym (ap₂ segment_of (sym first.0) (sym first.1) ∙ in_order s before)
  | inr second ↦ sym (ap₂ segment_of (sym second.1) (sym second.0) ∙ out_of_order s before)
]

pub joins_its_ends : (s : GridSegment) → joins s.a s.b (link s.a s.b) ≡ true
joins_its_ends s = ap₂ (λ b c. (b && c) || (is_point s.a s.b && is_point s.b s.a)) (is_point-itself s.a) (is_point-itself s.b)

-- no segment joins a point with itself
apart_ends : (p : GridPoint) (s : GridSegment) → IsBefore s.a s.b → joins p p (link s.a s.b) ≡ false
apart_ends p s before = by (joins p p (link s.a s.b)) refl
  where
    by : (b : Bool) → joins p p (link s.a s.b) ≡ b → b ≡ false
    by true e =
        let same = ⊎_elim (λ one. one) (λ other. other) (ends_are p p s e) in
        absurd (not_before_itself p p refl (subst (λ v. IsBefore v p) same.0 (subst (λ v. IsBefore s.a v) same.1 before)))
    by false e = refl

-- ---- a border
after_first : (s : GridSegment) (border : List GridSegment) (t : GridSegment) → AreSegmentsAscending (s ∷ border)
    → Contains border t → IsSegmentBefore s t
after_first s border t ascending there =
    subst (IsSegmentBefore s) there.2 (ascending 0 (suc there.0) t (omega arith) (omega (arith, there.1)))

without_first : (s : GridSegment) (border : List GridSegment) → AreSegmentsAscending (s ∷ border) → AreSegmentsAscending border
without_first s border ascending i j d before within = ascending (suc i) (suc j) d (omega arith) (omega arith)

-- of two segments, one before the other, only one joins p and q
not_joined : (p q : GridPoint) (s t : GridSegment) → IsBefore s.a s.b → IsBefore t.a t.b → IsSegmentBefore s t
    → joins p q (link s.a s.b) ≡ true → joins p q (link t.a t.b) ≡ false
not_joined p q s t first second before here = by (joins p q (link t.a t.b)) refl
  where
    by : (b : Bool) → joins p q (link t.a t.b) ≡ b → b ≡ false
    by true e =
        let same = joined_is p q t second e ∙ sym (joined_is p q s first here) in
        absurd (segment_before_itself s (subst (IsSegmentBefore s) same before))
    by false e = refl

-- it joins two points at most once
pub joined_once : (p q : GridPoint) (border : List GridSegment) → AreSegmentsAscending border → AreOrdered border → times_in p q border ≤ 1
joined_once p q [] ascending ordered = omega arith
joined_once p q (s ∷ border) ascending ordered =
    let rest = All-tail (λ t. IsBefore t.a t.b) s border ordered in
    by (joins p q (link s.a s.b)) refl (joined_once p q border (without_first s border ascending) rest)
  where
    by : (b : Bool) → joins p q (link s.a s.b) ≡ b → times_in p q border ≤ 1 → times_in p q (s ∷ border) ≤ 1
    by true e rest =
        let none = count_by-none (λ t. joins p q (link t.a t.b)) border
        (λ t there. not_joined p q s t (All-head (λ u. IsBefore u.a u.b) s border ordered)
        (All-contains (λ u. IsBefore u.a u.b) border t (All-tail (λ u. IsBefore u.a u.b) s border ordered) there)
        (after_first s border t ascending there) e) in
        omega (arith, none, ap (λ b. one_if b) e, count_by-cons (λ t. joins p q (link t.a t.b)) s border)
    by false e rest =
        omega (arith, rest, ap (λ b. one_if b) e, count_by-cons (λ t. joins p q (link t.a t.b)) s border)

pub border_is_simple : (border : List GridSegment) → AreSegmentsAscending border → AreOrdered border
    → AreSimple (λ p q. times_in p q border)
border_is_simple border ascending ordered = record {
  once = λ p q. joined_once p q border ascending ordered;
  apart = λ p. count_by-none (λ s. joins p p (link s.a s.b)) border
      (λ s there. apart_ends p s (All-contains (λ t. IsBefore t.a t.b) border s ordered there));
  both_ways = λ p q. times_in-swap p q border;
}

-- ---- the ways along its segments
-- the ends of a later segment aren't joined by an earlier one
joined_later : (t s : GridSegment) → IsBefore t.a t.b → IsBefore s.a s.b → IsSegmentBefore t s
    → joins s.a s.b (link t.a t.b) ≡ false
joined_later t s first second before = by (joins s.a s.b (link t.a t.b)) refl
  where
    by : (b : Bool) → joins s.a s.b (link t.a t.b) ≡ b → b ≡ false
    by true e =
        let same = joined_is s.a s.b t first e ∙ in_order s second in
        absurd (segment_before_itself s (subst (λ u. IsSegmentBefore u s) same before))
    by false e = refl

-- a segment that comes later isn't joined yet
pub new_here : (border : List GridSegment) (i : ℕ) (s : GridSegment) → i < length border → s ≡ get_or border i s
    → AreSegmentsAscending border → AreOrdered (take i border) → IsBefore s.a s.b → times_in s.a s.b (take i border) ≡ 0
new_here border i s within here ascending ordered before = count_by-none (λ t. joins s.a s.b (link t.a t.b)) (take i border)
    (λ t there. joined_later t s (All-contains (λ u. IsBefore u.a u.b) (take i border) t ordered there) before (earlier t there))
  where
    earlier : (t : GridSegment) → Contains (take i border) t → IsSegmentBefore t s
    earlier t there =
        let sooner : there.0 < i = omega (arith, there.1, length-take i border) in
        let place : get_or border there.0 t ≡ t = sym (get_or-take i border there.0 t sooner) ∙ there.2 in
        let is_t = same_place border there.0 s t (omega (arith, sooner, within)) ∙ place in
        let after = subst (λ u. IsSegmentBefore u (get_or border i s)) is_t
        (ascending there.0 i s sooner within) in
        subst (IsSegmentBefore t) (sym here) after

-- no way along the segment is there yet
pub ways_absent : (border : List GridSegment) (left : List Way) (i : ℕ) (s : GridSegment) → i < length border
    → s ≡ get_or border i s → AreSegmentsAscending border → AreOrdered (take i border) → IsBefore s.a s.b
    → ((p q : GridPoint) → count_by (leads p q) left ≡ times_in p q (take i border))
    → (Contains left (way_of s.a s.b) → ⊥) × (Contains left (way_of s.b s.a) → ⊥)
ways_absent border left i s within here ascending ordered before so_far =
    let new = new_here border i s within here ascending ordered before in (
      λ there. omega (arith, new, so_far s.a s.b, count_from_there left s.a s.b there),
      λ there. omega (arith, new, so_far s.b s.a, times_in-swap s.a s.b (take i border), count_from_there left s.b s.a there),
    )

-- one segment more joins its ends once more, one way and the other
pub joined_more : (border : List GridSegment) (left more : List Way) (i : ℕ) (s : GridSegment) → i < length border
    → s ≡ get_or border i s → s.a ≢ s.b
    → ((f : Way → Bool) → count_by f more ≡ count_by f left + (one_if (f (way_of s.a s.b)) + one_if (f (way_of s.b s.a))))
    → ((p q : GridPoint) → count_by (leads p q) left ≡ times_in p q (take i border))
    → (p q : GridPoint) → count_by (leads p q) more ≡ times_in p q (take (i + 1) border)
joined_more border left more i s within here apart puts so_far p q =
    let count = sum_by_more (λ t. one_if (joins p q (link t.a t.b))) border i s within in
    let this = ap (λ t. one_if (joins p q (link t.a t.b))) here in
    omega (arith, count, this, puts (leads p q), so_far p q, joins_by_ways p q s.a s.b apart)

-- one way from each of its ends
is_end_by_ways : (p : GridPoint) (s : GridSegment) → s.a ≢ s.b
    → one_if (is_end p s) ≡ one_if (begins p (way_of s.a s.b)) + one_if (begins p (way_of s.b s.a))
is_end_by_ways p s apart = by (is_point s.a p) (is_point s.b p) refl refl
  where
    by : (b c : Bool) → is_point s.a p ≡ b → is_point s.b p ≡ c → one_if (b || c) ≡ one_if b + one_if c
    by true true e f = absurd (apart (is_point-same s.a p e ∙ sym (is_point-same s.b p f)))
    by true false e f = refl
    by false true e f = refl
    by false false e f = refl

pub begun_more : (border : List GridSegment) (left more : List Way) (i : ℕ) (s : GridSegment) → i < length border
    → s ≡ get_or border i s → s.a ≢ s.b
    → ((f : Way → Bool) → count_by f more ≡ count_by f left + (one_if (f (way_of s.a s.b)) + one_if (f (way_of s.b s.a))))
    → ((p : GridPoint) → count_by (begins p) left ≡ count_by (is_end p) (take i border))
    → (p : GridPoint) → count_by (begins p) more ≡ count_by (is_end p) (take (i + 1) border)
begun_more border left more i s within here apart puts so_far p =
    let count = sum_by_more (λ t. one_if (is_end p t)) border i s within in
    let this = ap (λ t. one_if (is_end p t)) here in
    omega (arith, count, this, puts (begins p), so_far p, is_end_by_ways p s apart)

pub ends_apart : (s : GridSegment) → IsBefore s.a s.b → s.a ≢ s.b
ends_apart s before same = not_before_itself s.a s.b same before
