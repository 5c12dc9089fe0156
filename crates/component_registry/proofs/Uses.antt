-- This file shows how often points are used, and what a change of one piece does to that.
use Rattle.std.proofs.Common.{◌≡◌, ◌≢◌, ◌⊎◌, ◌↔◌, ℕ, ◌+◌, ◌<◌, ◌≤◌, ◌||◌, Bool, true, false, true≢false, cond}
use Rattle.std.proofs.Common.{Ordering, Less, Equal, Greater}
use Rattle.std.proofs.Common.{refl, sym, ap, ◌∙◌, subst, inl, inr, ⊎_elim, zero-add, arith}
use Rattle.std.proofs.Common.{List, [], ◌∷◌, length, sum_by, Option, Some, None, is_some}
use Rattle.std.specs.List.{list_any}
use Rattle.std.specs.Map.{keys_of}
use Rattle.std.specs.Ordering.{is_eq, eq_by_cmp}
use Rattle.std.specs.FinMap as map
use Rattle.std.specs.FinMap.Entries.{find, put}
use Rattle.std.proofs.lemmas.Cmp.{tied_itself}
use Rattle.std.proofs.lemmas.List.Sums.{sum_by-cons}
use Rattle.std.proofs.lemmas.Option.{none-some}
use Rattle.grid_base.specs.Point.{GridPoint, is_point}
use Rattle.grid_base.specs.Segment.{GridSegment, IsEnd, segment_cmp}
use Rattle.grid_base.proofs.Orders.{segment_cmp-total, is_point-same, is_point-itself}
use Rattle.component_registry.specs.Registry.{Holding, Holdings, IsPiece, owners_of, is_end, times_end, uses_of, IsSound}
use Rattle.component_registry.proofs.Lookups.{segment_exact, this_segment_or_other, other_segment_passed}

-- ---- ends
is_point-true : (p q : GridPoint) → (is_point p q ≡ true) ↔ (p ≡ q)
is_point-true p q = (is_point-same p q, λ same. rw same (is_point-itself q))

or_left : (m n : Bool) → m ≡ true → (m || n) ≡ true
or_left m n h = ap (λ x. x || n) h

or_right : (m n : Bool) → n ≡ true → (m || n) ≡ true
or_right true n h = refl
or_right false n h = h

either : (m n : Bool) {A B : Type 0} → (m ≡ true → A) → (n ≡ true → B) → (m || n) ≡ true → A ⊎ B
either true n f g h = inl (f refl)
either false n f g h = inr (g h)

-- the test of an end says what it should
pub is_end-true : (p : GridPoint) (s : GridSegment) → (is_end p s ≡ true) ↔ IsEnd p s
is_end-true p s =
    let a = is_point-true p s.a in
    let b = is_point-true p s.b in (
      either (is_point p s.a) (is_point p s.b) a.0 b.0,
      ⊎_elim (λ same. or_left _ _ (a.1 same)) (λ same. or_right _ _ (b.1 same)),
    )

-- an end is counted once
pub times_end-1 : (p : GridPoint) (s : GridSegment) → IsEnd p s → times_end p s ≡ 1
times_end-1 p s end = ap (λ b. cond b 1 0) ((is_end-true p s).1 end)

pub times_end-le_1 : (p : GridPoint) (s : GridSegment) → times_end p s ≤ 1
times_end-le_1 p s = at_most (is_end p s)
  where
    at_most : (b : Bool) → cond b 1 0 ≤ 1
    at_most true = omega arith
    at_most false = omega arith

-- ---- sums over a finite map
-- how much of the uses of p an entry has
abbrev share : GridPoint → GridSegment × Holding → ℕ
share p e = cond (is_end p e.0) (length e.1.owners) 0

sum_by-put : (f : GridSegment × Holding → ℕ) (s : GridSegment) (h : Holding) (es : List (GridSegment × Holding))
    → find segment_cmp s es ≡ None → sum_by f (put segment_cmp s h es) ≡ f (s, h) + sum_by f es
sum_by-put f s h [] none = sum_by-cons f (s, h) []
sum_by-put f s h (e ∷ es) none = by_order (sum_by-put f s h es) (segment_cmp s e.0) refl none
  where
    by_order : (find segment_cmp s es ≡ None → sum_by f (put segment_cmp s h es) ≡ f (s, h) + sum_by f es)
        → (o : Ordering) → segment_cmp s e.0 ≡ o → cond (is_eq o) (Some e.1) (find segment_cmp s es) ≡ None
        → sum_by f (put segment_cmp s h (e ∷ es)) ≡ f (s, h) + sum_by f (e ∷ es)
    by_order rest Less is none = rw is (sum_by-cons f (s, h) (e ∷ es))
    by_order rest Equal is none = absurd (cc)
    by_order rest Greater is none =
        rw is (omega (arith, sum_by-cons f e (put segment_cmp s h es), sum_by-cons f e es, rest none))

sum_by-insert : (f : GridSegment × Holding → ℕ) (r : Holdings) (s : GridSegment) (h : Holding) → map.get r s ≡ None
    → sum_by f (map.entries (map.insert r s h)) ≡ f (s, h) + sum_by f (map.entries r)
sum_by-insert f r s h none =
    let missing = sym (map.get-entries r s) ∙ none in
    rw (map.entries-insert segment_cmp-total r s h) (sum_by-put f s h (map.entries r) missing)

-- ---- a registry without a piece, and with it
tied : (s : GridSegment) → eq_by_cmp segment_cmp s s ≡ true
tied s = ap is_eq (tied_itself segment_cmp-total s)

untied : (s t : GridSegment) → t ≢ s → eq_by_cmp segment_cmp t s ≡ false
untied s t other = other_segment_passed t s (λ same. other (sym same))

gone_here : (r : Holdings) (s : GridSegment) → map.get (map.remove r s) s ≡ None
gone_here r s = rw (map.get-remove segment_cmp-total r s s, tied s) refl

gone_others : (r : Holdings) (s t : GridSegment) → t ≢ s → map.get (map.remove r s) t ≡ map.get r t
gone_others r s t other = rw (map.get-remove segment_cmp-total r s t, untied s t other) refl

put_here : (r : Holdings) (s : GridSegment) (h : Holding) → map.get (map.insert r s h) s ≡ Some h
put_here r s h = rw (map.get-insert segment_cmp-total r s h s, tied s) refl

put_others : (r : Holdings) (s : GridSegment) (h : Holding) (t : GridSegment) → t ≢ s
    → map.get (map.insert r s h) t ≡ map.get r t
put_others r s h t other = rw (map.get-insert segment_cmp-total r s h t, untied s t other) refl

-- registries that hold the same of s and of all other pieces are one
pub same_registry : (r t : Holdings) (s : GridSegment) → map.get r s ≡ map.get t s
    → ((q : GridSegment) → q ≢ s → map.get r q ≡ map.get t q) → r ≡ t
same_registry r t s here others = map.same_map segment_cmp-total segment_exact r t (λ q. ⊎_elim
    (λ same. subst (λ x. map.get r x ≡ map.get t x) (sym same) here)
    (others q)
    (this_segment_or_other s q))

-- ---- the uses of a point
-- how often p is used by s
abbrev part : Holdings → GridPoint → GridSegment → ℕ
part r p s = cond (is_end p s) (length (owners_of r s)) 0

no_part : (b : Bool) → ◌≡◌ {A = ℕ} (cond b 0 0) 0
no_part true = refl
no_part false = refl

-- a point is used by a piece and by the others
uses_of-remove : (r : Holdings) (p : GridPoint) (s : GridSegment) → uses_of r p ≡ part r p s + uses_of (map.remove r s) p
uses_of-remove r p s = by_what_is_held (map.get r s) refl
  where
    by_what_is_held : (o : Option Holding) → map.get r s ≡ o → uses_of r p ≡ part r p s + uses_of (map.remove r s) p
    by_what_is_held None e =
        let base = map.remove r s in
        let same = same_registry r base s (e ∙ sym (gone_here r s)) (λ q other. sym (gone_others r s q other)) in
        let nothing : part r p s ≡ 0 = rw e (no_part (is_end p s)) in
        ap (λ t. uses_of t p) same ∙ sym (ap (λ n. n + uses_of base p) nothing ∙ zero-add _)
    by_what_is_held (Some h) e =
        let base = map.remove r s in
        let beside = λ (q : GridSegment) (other : q ≢ s). sym (put_others base s h q other ∙ gone_others r s q other) in
        let same = same_registry r (map.insert base s h) s (e ∙ sym (put_here base s h)) beside in
        let more = sum_by-insert (share p) base s h (gone_here r s) in
        let here : part r p s ≡ share p (s, h) = rw e refl in
        ap (λ t. uses_of t p) same ∙ more ∙ ap (λ n. n + uses_of base p) (sym here)

-- a change of one piece changes the uses by its own
uses_of-others : (old new : Holdings) (s : GridSegment) → ((t : GridSegment) → t ≢ s → map.get new t ≡ map.get old t)
    → (p : GridPoint) → uses_of new p + part old p s ≡ uses_of old p + part new p s
uses_of-others old new s others p =
    let beside = λ (q : GridSegment) (other : q ≢ s).
    gone_others new s q other ∙ others q other ∙ sym (gone_others old s q other) in
    let base = same_registry (map.remove new s) (map.remove old s) s (gone_here new s ∙ sym (gone_here old s)) beside in
    omega (arith, uses_of-remove new p s, uses_of-remove old p s, ap (λ r. uses_of r p) base)

-- with one owner more of a piece its ends are used once more
pub uses_more : (old new : Holdings) (s : GridSegment) → ((t : GridSegment) → t ≢ s → map.get new t ≡ map.get old t)
    → length (owners_of new s) ≡ length (owners_of old s) + 1
    → (p : GridPoint) → uses_of new p ≡ uses_of old p + times_end p s
uses_more old new s others count p = by_end (is_end p s) (uses_of-others old new s others p)
  where
    by_end : (b : Bool)
        → uses_of new p + cond b (length (owners_of old s)) 0 ≡ uses_of old p + cond b (length (owners_of new s)) 0
        → uses_of new p ≡ uses_of old p + cond b 1 0
    by_end true e = omega arith
    by_end false e = omega arith

-- ---- points that are used
-- some piece of the list that has p as an end
abbrev Used : GridPoint → List (GridSegment × Holding) → Type 0
Used p es = (s : GridSegment) × (list_any (eq_by_cmp segment_cmp s) (keys_of es) ≡ true) × (is_end p s ≡ true)

used_by_entry : (p : GridPoint) (es : List (GridSegment × Holding)) → 0 < sum_by (share p) es → Used p es
used_by_entry p [] some = absurd (omega (arith, some))
used_by_entry p (e ∷ es) some =
    by_first (used_by_entry p es) (is_end p e.0) refl (subst (λ n. 0 < n) (sum_by-cons (share p) e es) some)
  where
    by_first : (0 < sum_by (share p) es → Used p es) → (b : Bool) → is_end p e.0 ≡ b
        → 0 < cond b (length e.1.owners) 0 + sum_by (share p) es → Used p (e ∷ es)
    by_first later true is some = (e.0, or_left _ _ (tied e.0), is)
    by_first later false is some =
        let rest = later (omega (arith, some)) in
        (rest.0, or_right _ _ rest.1, rest.2)

-- a point is used exactly where it is an end of a piece, since every piece has an owner
pub used_by_piece : (r : Holdings) (p : GridPoint) → IsSound r
    → (0 < uses_of r p) ↔ ((s : GridSegment) × (IsPiece r s × IsEnd p s))
used_by_piece r p sound = (
  λ some.
      let entry = used_by_entry p (map.entries r) some in
      (entry.0, (map.contains_key-keys r entry.0 ∙ entry.1, (is_end-true p entry.0).0 entry.2)),
  λ (s, (there, end)).
      let all = length (owners_of r s) in
      let here : part r p s ≡ all = ap (λ b. cond b all 0) ((is_end-true p s).1 end) in
      omega (arith, sound.owned s there, uses_of-remove r p s),
)

-- ---- the empty registry
empty_piece : (s : GridSegment) → ¬ IsPiece map.empty s
empty_piece s there = true≢false (sym there ∙ ap is_some (map.get-empty segment_cmp s))

pub sound_empty : IsSound map.empty
sound_empty = record {
  owned = λ s there. absurd (empty_piece s there);
  ascending = λ s. rw (map.get-empty {X = Holding} segment_cmp s) (λ k within. absurd (omega (arith, within)));
  apart = λ s t k of_s. absurd (none-some k (rw (map.get-empty {X = Holding} segment_cmp s) at of_s));
}

pub uses_of-empty : (p : GridPoint) → uses_of map.empty p ≡ 0
uses_of-empty p = not_positive (uses_of map.empty p) (λ some.
    let used = (used_by_piece map.empty p sound_empty).0 some in
    empty_piece used.0 used.1.0)
  where
    not_positive : (n : ℕ) → (0 < n → ⊥) → n ≡ 0
    not_positive n none = omega arith
