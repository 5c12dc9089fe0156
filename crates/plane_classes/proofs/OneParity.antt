-- This file shows that in an even border an odd number of segments is above all places of a class, or above none.
use Rattle.std.proofs.Common.{◌≡◌, ℕ, ◌+◌, ◌*◌, ◌<◌, ◌≤◌, List, []}
use Rattle.std.proofs.Common.{◌∷◌, ℤ, pos, ◌*ℤ◌, ◌<ℤ◌, ◌≤ℤ◌, refl, sym, ap, ◌∙◌, arith, inl, inr}
use Rattle.std.specs.Prelude.{int_lt, Contains}
use Rattle.std.proofs.lemmas.Int.{ints}
use borrow.Author.Differences.{up, down}
use Rattle.grid_base.specs.Point.{IsBefore}
use Rattle.grid_base.specs.Segment.{GridSegment}
use Rattle.std.proofs.lemmas.List.Elements.{Contains-append_left, Contains-append_right, Contains-push}
use Rattle.grid_base.proofs.Turns.{times, times_le}
use Rattle.grid_base.proofs.Signs.{order}
use Rattle.grid_base.specs.Plane.{Place, side_at, IsFree}
use Rattle.grid_base.specs.Odd.{is_right}
use Rattle.plane_classes.specs.Classes.{IsWallBetween, TouchOneCell, Joins, AreInOneClass}
use Rattle.plane_classes.proofs.Parities.{par, Differ, Each, HasPairedEnds, same_parity, par_same, xor_same}
use Rattle.plane_classes.proofs.Heights.{IsLeftOf, before_cut}
use Rattle.plane_classes.proofs.Ways.{AreInOrder, one_side, first_is_free, last_is_free}
use Rattle.plane_classes.proofs.ClassLemmas.{touch_back}
use Rattle.plane_classes.proofs.OverTests.{is_over, stands, three, over_no_left, over_no_right, over_within, stands_no_right}
use Rattle.plane_classes.proofs.OverTests.{stands_no_left, le_of, stands_within, le_from, lt_on, scaled_less, xor_none_right}
use Rattle.plane_classes.proofs.OverTests.{xor_none_twice, four_none, four, scaled, test_a, test_b, test_both, Less, Same, More}

-- ---- a segment, and two places that touch one cell, the first left of the second
abbrev Tested : Place → Place → GridSegment → Type 0
Tested p q s = Differ (stands q) (is_over p) (is_over q) s

-- the segment begins right of q
begins_right : (p q : Place) (s : GridSegment) → 0 < p.w → 0 < q.w → IsLeftOf p q → s.a.x ≤ s.b.x → q.x <ℤ pos (s.a.x * q.w)
    → Tested p q s
begins_right p q s hp hq l o h =
    let t = scaled s.a.x s.b.x q.w o in
    four_none _ _ _ _ (over_no_left p s (before_cut p q s.a.x hp hq l (le_from _ _ h))) (over_no_left q s h)
    (stands_no_right q s.a h) (stands_no_right q s.b (lt_on q.x _ _ h t))

-- it begins in the column of q
begins_here : (B : List GridSegment) (p q : Place) (s : GridSegment) → IsFree B q → Contains B s → IsBefore s.a s.b → 0 < p.w
    → IsLeftOf p q → q.x ≡ pos (s.a.x * q.w) → Tested p q s
begins_here B p q s f m (inl o) hp l c =
    let t : s.a.x * q.w < s.b.x * q.w = scaled_less s.a.x s.b.x q.w o f.real in
    four _ _ _ _ _ _ _ _ (over_no_left p s (before_cut p q s.a.x hp f.real l (le_of _ _ c)))
    (over_within q s (le_of _ _ (sym c)) (omega (arith, ints)) ∙ test_a B q s f m o c)
    (stands_within q s.a c) (stands_no_right q s.b (omega (arith, ints))) (xor_none_right _)
begins_here B p q s f m (inr o) hp l c =
    let e = ap (λ (x : ℕ). x * q.w) o.0 in
    let d : q.x ≡ pos (s.b.x * q.w) = omega (arith, ints) in
    four _ _ _ _ _ _ _ _ (over_no_left p s (before_cut p q s.a.x hp f.real l (le_of _ _ c)))
    (over_no_right q s (le_of _ _ (sym d)))
    (stands_within q s.a c ∙ test_both B q s f m o.0 o.1 c) (stands_within q s.b d) (xor_none_twice (int_lt q.y (pos (s.b.y * q.w))))

less_by : (m n w : ℕ) → m ≤ n → m * w < n * w → m < n
less_by m n w h k = grind arith

a_is_first : (s : GridSegment) → IsBefore s.a s.b → s.a.x ≤ s.b.x
a_is_first s (inl h) = omega arith
a_is_first s (inr h) = omega (arith, h.0)

not_wall_after : (p q : Place) (e : ℕ) → p.x <ℤ pos (e * p.w) → pos (e * q.w) <ℤ q.x → IsWallBetween e p q
not_wall_after p q e h k = inl (h, k)

-- it begins left of q: no wall lies between, so it begins at p or before
begins_left : (B : List GridSegment) (p q : Place) (s : GridSegment) → TouchOneCell B p q → Contains B s → IsBefore s.a s.b
    → IsLeftOf p q → pos (s.a.x * q.w) <ℤ q.x → Tested p q s
begins_left B p q s t m o l h =
    let from : pos (s.a.x * p.w) ≤ℤ p.x = elim (order (pos (s.a.x * p.w)) p.x) [
      | inl k ↦ k
      | inr k ↦ absurd (t.no_wall_between s.a.x (s, m, inl refl) (not_wall_after p q s.a.x k h))
    ] in
    elim (three q.x (pos (s.b.x * q.w))) [
      | Less k ↦
          let end = before_cut p q s.b.x (first_is_free B p q t.no_segment_between).real
          (last_is_free B p q t.no_segment_between).real l (le_from _ _ k) in
          let same = one_side B p q s t.no_segment_between m o (record { from = from; to = le_from _ _ end })
          (record { from = le_from _ _ h; to = le_from _ _ k }) in
          four _ _ _ _ _ _ _ _ (over_within p s from end ∙ ap is_right same) (over_within q s (le_from _ _ h) k)
          (stands_no_left q s.a h) (stands_no_right q s.b k) (xor_same (is_right (side_at s q)))
      | Same k ↦
          let end = before_cut p q s.b.x (first_is_free B p q t.no_segment_between).real
          (last_is_free B p q t.no_segment_between).real l (le_of _ _ k) in
          let same = one_side B p q s t.no_segment_between m o (record { from = from; to = le_from _ _ end })
          (record { from = le_from _ _ h; to = le_of _ _ k }) in
          let o' : s.a.x < s.b.x = less_by s.a.x s.b.x q.w (a_is_first s o) (omega (arith, ints)) in
          four _ _ _ _ _ _ _ _ (over_within p s from end ∙ ap is_right same
          ∙ test_b B q s (last_is_free B p q t.no_segment_between) m o' k) (over_no_right q s (le_of _ _ (sym k)))
          (stands_no_left q s.a h) (stands_within q s.b k) (sym (xor_none_right (int_lt q.y (pos (s.b.y * q.w)))))
      | More k ↦
          let end : pos (s.b.x * p.w) ≤ℤ p.x = elim (order (pos (s.b.x * p.w)) p.x) [
            | inl n ↦ n
            | inr n ↦ absurd (t.no_wall_between s.b.x (s, m, inr refl) (not_wall_after p q s.b.x n k))
          ] in
          four_none _ _ _ _ (over_no_right p s end) (over_no_right q s (le_from _ _ k)) (stands_no_left q s.a h) (stands_no_left q s.b k)
    ]

-- ---- the same for all of them
pub tested : (B : List GridSegment) (p q : Place) (s : GridSegment) → TouchOneCell B p q → IsBefore s.a s.b → IsLeftOf p q
    → Contains B s → Tested p q s
tested B p q s t o l m = elim (three q.x (pos (s.a.x * q.w))) [
  | Less h ↦ begins_right p q s (first_is_free B p q t.no_segment_between).real (last_is_free B p q t.no_segment_between).real l
      (a_is_first s o) h
  | Same h ↦ begins_here B p q s (last_is_free B p q t.no_segment_between) m o (first_is_free B p q t.no_segment_between).real l h
  | More h ↦ begins_left B p q s t m o l h
]

pub each_of : {X : Type 0} (P : X → Type 0) (xs : List X) → ((x : X) → Contains xs x → P x) → Each P xs
each_of P [] h = tt
each_of P (x ∷ xs) h = (
  h x (Contains-append_left (x ∷ []) xs x (Contains-push [] x)),
  each_of P xs (λ y m. h y (Contains-append_right
      (x ∷ []) xs y m)),
)

kept_left : (B : List GridSegment) (p q : Place) → AreInOrder B → HasPairedEnds B → TouchOneCell B p q → IsLeftOf p q
    → par (is_over p) B ≡ par (is_over q) B
kept_left B p q o e t l = same_parity (stands q) (is_over p) (is_over q) B e (each_of (Tested p q) B (λ s m. tested B p q s t
    (o s m) l m))

-- in one column the tests are the same
pub level : (p q : Place) (e : ℕ) → 0 < p.w → 0 < q.w → p.x *ℤ pos q.w ≡ q.x *ℤ pos p.w → pos (e * p.w) ≤ℤ p.x → pos (e * q.w) ≤ℤ q.x
level p q e hp hq c h =
    let no : q.x <ℤ pos (e * q.w) → ⊥ = λ n.
    let t1 = times_le (e * p.w + down p.x) (up p.x) 0 q.w (omega (arith, ints)) (omega arith) in
    let t2 = times (up q.x) (e * q.w + down q.x) 0 p.w (omega (arith, ints)) hp in
    omega (arith, ints) in
    elim (order (pos (e * q.w)) q.x) [ inl k ↦ k | inr k ↦ absurd (no k) ]

pub level_up : (p q : Place) (e : ℕ) → 0 < p.w → 0 < q.w → p.x *ℤ pos q.w ≡ q.x *ℤ pos p.w → p.x <ℤ pos (e * p.w) → q.x <ℤ pos (e * q.w)
level_up p q e hp hq c h = elim (order (pos (e * q.w)) q.x) [
  | inl k ↦ absurd (not_both p.x (pos (e * p.w)) h (level q p e hq hp (sym c) k))
  | inr k ↦ k
]
  where
    not_both : (a b : ℤ) → a <ℤ b → b ≤ℤ a → ⊥
    not_both a b h k = omega (arith, ints)

-- two places of one column that touch one cell have the same segments above them
pub same_level : (B : List GridSegment) (p q : Place) (s : GridSegment) → TouchOneCell B p q → IsBefore s.a s.b
    → p.x *ℤ pos q.w ≡ q.x *ℤ pos p.w → Contains B s → is_over p s ≡ is_over q s
same_level B p q s t o c m =
    let hp = (first_is_free B p q t.no_segment_between).real in
    let hq = (last_is_free B p q t.no_segment_between).real in
    elim (order (pos (s.a.x * p.w)) p.x) [
      | inl from ↦ elim (order (pos (s.b.x * p.w)) p.x) [
        | inl end ↦ over_no_right p s end ∙ sym (over_no_right q s (level p q s.b.x hp hq c end))
        | inr end ↦
            let from' = level p q s.a.x hp hq c from in
            let end' = level_up p q s.b.x hp hq c end in
            let same = one_side B p q s t.no_segment_between m o (record { from = from; to = le_from _ _ end })
            (record { from = from'; to = le_from _ _ end' }) in
            over_within p s from end ∙ ap is_right same ∙ sym (over_within q s from' end')
      ]
      | inr before ↦ over_no_left p s before ∙ sym (over_no_left q s (level_up p q s.a.x hp hq c before))
    ]

kept_level : (B : List GridSegment) (p q : Place) → AreInOrder B → TouchOneCell B p q → p.x *ℤ pos q.w ≡ q.x *ℤ pos p.w
    → par (is_over p) B ≡ par (is_over q) B
kept_level B p q o t c = par_same (is_over p) (is_over q) B (each_of (λ s. is_over p s
    ≡ is_over q s) B (λ s m. same_level B p q s t (o s m) c m))

-- places that touch one cell are both odd or both even
pub kept_by_touch : (B : List GridSegment) → AreInOrder B → HasPairedEnds B → (p q : Place) → TouchOneCell B p q
    → par (is_over p) B ≡ par (is_over q) B
kept_by_touch B o e p q t = elim (three (p.x *ℤ pos q.w) (q.x *ℤ pos p.w)) [
  | Less l ↦ kept_left B p q o e t l
  | Same c ↦ kept_level B p q o t c
  | More l ↦ sym (kept_left B q p o e (touch_back B p q t) l)
]

kept_along : (B : List GridSegment) → AreInOrder B → HasPairedEnds B → (p q : Place) (c : List Place) → Joins B p c q
    → par (is_over p) B ≡ par (is_over q) B
kept_along B o e p q [] j = kept_by_touch B o e p q j
kept_along B o e p q (r ∷ c) j = kept_by_touch B o e p r j.0 ∙ kept_along B o e r q c j.1

-- places of one class are both odd or both even
pub kept_in_one_class : (B : List GridSegment) → AreInOrder B → HasPairedEnds B → (p q : Place) → AreInOneClass B p q
    → par (is_over p) B ≡ par (is_over q) B
kept_in_one_class B o e p q h = kept_along B o e p q h.0 h.1
