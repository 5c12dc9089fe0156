-- This file shows how front parts and back parts of lists grow, and what holds of them.
use Rattle.std.proofs.Common.{◌≡◌, ℕ, zero, suc, ◌+◌, ◌-◌, ◌<◌, ◌≤◌, List, [], ◌∷◌, ◌++◌, length, take, drop, get_or, refl, sym, ap, subst}
use Rattle.std.proofs.Common.{◌∙◌, arith}
use Rattle.std.proofs.lemmas.List.{take_more, get_or-drop, length-drop}
use Rattle.std.specs.Prelude.{pos, ◌<ℤ◌, true, false, ◌/◌}
use Rattle.grid_base.specs.Point.{GridPoint}
use Rattle.grid_base.specs.Segment.{GridSegment}
use Rattle.grid_base.specs.Sides.{turn}
use Rattle.grid_base.specs.Point.{is_point}
use Rattle.grid_base.proofs.Orders.{is_point-same, is_point-itself}
use Rattle.plane_cells.specs.Steps.{Each, Pairs, label_over}
use Rattle.plane_cells.specs.Numbered.{numbered}
use Rattle.plane_cells.specs.Scan.{column_of, end_columns, AreNumbers, IsLeftOf, IsSortedAt}
use Rattle.plane_cells.proofs.Lists.{each_map, each_joined}

-- ---- reading
pub number_read : (B : List GridSegment) (i : ℕ) (d : GridSegment) → i < length B → numbered B i ≡ get_or B i d
number_read [] i d h = absurd (omega (arith, h))
number_read (s ∷ B) zero d h = refl
number_read (s ∷ B) (suc i) d h = number_read B i d (omega (arith, h))

pub each_read : (P : ℕ → Type 0) (l : List ℕ) (m d : ℕ) → Each P l → m < length l → P (get_or l m d)
each_read P [] m d h k = absurd (omega (arith, k))
each_read P (i ∷ l) zero d h k = h.0
each_read P (i ∷ l) (suc m) d h k = each_read P l m d h.1 (omega (arith, k))

pub read_zero : (l : List ℕ) (m x : ℕ) → m < length l → x ≡ get_or l m x → x ≡ get_or l m 0
read_zero [] m x h e = absurd (omega (arith, h))
read_zero (i ∷ l) zero x h e = e
read_zero (i ∷ l) (suc m) x h e = read_zero l m x (omega (arith, h)) e

pub read_self : (l : List ℕ) (m : ℕ) → m < length l → get_or l m 0 ≡ get_or l m (get_or l m 0)
read_self [] m h = absurd (omega (arith, h))
read_self (i ∷ l) zero h = refl
read_self (i ∷ l) (suc m) h = read_self l m (omega (arith, h))

-- ---- one more
pub taken_more : {X : Type 0} (l : List X) (m : ℕ) (x : X) → m < length l → x ≡ get_or l m x → take (m + 1) l ≡ take m l ++ x ∷ []
taken_more l m x h e = take_more l m x h ∙ ap (λ y. take m l ++ y ∷ []) (sym e)

pub each_pushed : (P : ℕ → Type 0) (l : List ℕ) (m x : ℕ) → m < length l → x ≡ get_or l m x → P x → Each P (take m l)
    → Each P (take (m + 1) l)
each_pushed P l m x h e k t = subst (Each P) (sym (taken_more l m x h e)) (each_joined P (take m l) (x ∷ []) t (k, tt))

ends_joined : (A B : List GridSegment) → end_columns (A ++ B) ≡ end_columns A ++ end_columns B
ends_joined [] B = refl
ends_joined (s ∷ A) B = ap (λ (l : List ℕ). column_of s.a ∷ column_of s.b ∷ l) (ends_joined A B)

joined_twice : (A : List ℕ) (x y : ℕ) → (A ++ x ∷ []) ++ y ∷ [] ≡ A ++ (x ∷ y ∷ [])
joined_twice [] x y = refl
joined_twice (i ∷ A) x y = ap (λ (l : List ℕ). i ∷ l) (joined_twice A x y)

pub ends_pushed : (B : List GridSegment) (m : ℕ) (s : GridSegment) (l l' l'' : List ℕ) (x y : ℕ) → m < length B → s ≡ get_or B m s
    → l ≡ end_columns (take m B) → l' ≡ l ++ x ∷ [] → l'' ≡ l' ++ y ∷ [] → x ≡ column_of s.a → y ≡ column_of s.b
    → l'' ≡ end_columns (take (m + 1) B)
ends_pushed B m s l l' l'' x y h e k p q f g =
    let one : l'' ≡ (end_columns (take m B) ++ x ∷ []) ++ y ∷ [] = rw (q, p, k) refl in
    let two : end_columns (take (m + 1) B) ≡ end_columns (take m B) ++ (column_of s.a ∷ column_of s.b ∷ []) = ap end_columns
    (taken_more B m s h e) ∙ ends_joined (take m B) (s ∷ []) in
    one ∙ joined_twice (end_columns (take m B)) x y ∙ rw (f, g) (sym two)

-- ---- where P fails for one it fails for those behind it
pub up_to : (P : ℕ → Type 0) (l : List ℕ) (m d : ℕ) → Pairs (λ i j. P j → P i) l → m < length l → P (get_or l m d) → Each P (take (suc m) l)
up_to P [] m d s h k = absurd (omega (arith, h))
up_to P (i ∷ l) zero d s h k = (k, tt)
up_to P (i ∷ l) (suc m) d s h k = let n : m < length l = omega (arith, h) in
    (each_read (λ j. P j → P i) l m d s.0 n k, up_to P l m d s.1 n k)

each_not : (P : ℕ → Type 0) (i : ℕ) (l : List ℕ) → Each (λ j. P j → P i) l → (P i → ⊥) → Each (λ j. P j → ⊥) l
each_not P i l s h = each_map (λ j. P j → P i) (λ j. P j → ⊥) l (λ j f g. h (f g)) s

pub behind : (P : ℕ → Type 0) (l : List ℕ) (m d : ℕ) → Pairs (λ i j. P j → P i) l → m < length l → (P (get_or l m d) → ⊥)
    → Each (λ i. P i → ⊥) (drop m l)
behind P [] m d s h k = absurd (omega (arith, h))
behind P (i ∷ l) zero d s h k = (k, each_not P i l s.0 k)
behind P (i ∷ l) (suc m) d s h k = behind P l m d s.1 (omega (arith, h)) k

-- ---- labels
pub label_from : (l : List ℕ) (m d e : ℕ) → m < length l → label_over d (take (suc m) l) ≡ get_or l m e + 1
label_from [] m d e h = absurd (omega (arith, h))
label_from (i ∷ l) zero d e h = omega arith
label_from (i ∷ l) (suc m) d e h = label_from l m (suc i) e (omega (arith, h))

pub label_taken : (l : List ℕ) (m : ℕ) → 0 < m → m ≤ length l → get_or l (m - 1) 0 + 1 ≡ label_over 0 (take m l)
label_taken l zero h k = absurd (omega (arith, h))
label_taken l (suc m) h k = let e : suc m - 1 ≡ m = omega arith in ap (λ (n : ℕ). get_or l n 0 + 1) e ∙ sym
    (label_from l m 0 0 (omega (arith, k)))

-- ---- the segments of the status
pub segment_read : (B : List GridSegment) (k : ℕ) (s : GridSegment) → k < length B → s ≡ get_or B k s → numbered B k ≡ s
segment_read B k s h e = number_read B k s h ∙ sym e

pub number_fits : (B : List GridSegment) (status : List ℕ) (m x : ℕ) → AreNumbers B status → m < length status
    → x ≡ get_or status m x → x < length B
number_fits B status m x n l e = subst (λ i. i < length B) (sym e) (each_read (λ i. i < length B) status m x n l)

-- the segment whose number was read
pub numbered_read : (B : List GridSegment) (status : List ℕ) (m x : ℕ) (s : GridSegment) → AreNumbers B status → m < length status
    → x ≡ get_or status m x → s ≡ get_or B x s → s ≡ numbered B (get_or status m 0)
numbered_read B status m x s n l e f =
    sym (segment_read B x s (number_fits B status m x n l e) f) ∙ ap (numbered B) (read_zero status m x l e)

-- the greater end of the segment that was read
pub end_read : (B : List GridSegment) (i : ℕ) (s : GridSegment) (b : GridPoint) → i < length B → s ≡ get_or B i s → b ≡ s.b
    → (numbered B i).b ≡ b
end_read B i s b h e f = ap (λ (u : GridSegment). u.b) (segment_read B i s h e) ∙ sym f

pub middle_low : (from to : ℕ) → from < to → from ≤ from + (to - from) / 2
middle_low from to h = omega arith

pub middle_high : (from to : ℕ) → from < to → from + (to - from) / 2 < to
middle_high from to h = omega arith

-- ---- the run of those that end at p
-- those of the list from number `from` to just before `to` end at p
pub record AreEnds (B : List GridSegment) (p : GridPoint) (from to : ℕ) (list : List ℕ) : Type 0 where
  pub order : from ≤ to
  pub within : to ≤ length list
  pub ends : Each (λ i. (numbered B i).b ≡ p) (take (to - from) (drop from list))

pub one_end_more : (B : List GridSegment) (p b : GridPoint) (from to : ℕ) (list : List ℕ) (s : GridSegment) → AreEnds B p from to list
    → to < length list → s ≡ numbered B (get_or list to 0) → b ≡ s.b → true ≡ is_point b p → AreEnds B p from (to + 1) list
one_end_more B p b from to list s h l e f t =
    let there : from + (to - from) ≡ to = omega (arith, h.order) in
    let more : (to - from) + 1 ≡ (to + 1) - from = omega (arith, h.order) in
    let x = get_or list to 0 in
    let short : to - from < length (drop from list) = omega (arith, length-drop from list, h.order, l) in
    let read : x ≡ get_or (drop from list) (to - from) x = read_self list to l ∙ ap (λ (j : ℕ). get_or list j x) (sym there)
    ∙ sym (get_or-drop from list (to - from) x) in
    record {
      order = omega (arith, h.order);
      within = omega (arith, l);
      ends = subst (λ (j : ℕ). Each (λ i. (numbered B i).b ≡ p) (take j (drop from list))) more
          (each_pushed (λ i. (numbered B i).b ≡ p) (drop from list) (to - from) x short read
          (ap (λ (u : GridSegment). u.b) (sym e) ∙ sym f ∙ is_point-same b p (sym t)) h.ends);
    }

pub not_an_end : (B : List GridSegment) (p b : GridPoint) (to : ℕ) (list : List ℕ) (s : GridSegment) → s ≡ numbered B (get_or list to 0)
    → b ≡ s.b → false ≡ is_point b p → (numbered B (get_or list to 0)).b ≡ p → ⊥
not_an_end B p b to list s e f t g =
    let same : b ≡ p = f ∙ ap (λ (u : GridSegment). u.b) e ∙ g in
    not_both (t ∙ ap (λ (u : GridPoint). is_point u p) same ∙ is_point-itself p)
  where
    not_both : false ≡ true → ⊥
    not_both e = cc

-- ---- the search for where P fails
pub record IsSplit (P : ℕ → Type 0) (status : List ℕ) (from to : ℕ) : Type 0 where
  pub order : from ≤ to
  pub within : to ≤ length status
  pub below : Each P (take from status)
  pub others : Each (λ i. P i → ⊥) (drop to status)

pub split_up : (P : ℕ → Type 0) (status : List ℕ) (from to m : ℕ) → IsSplit P status from to → m < to → Pairs (λ i j. P j → P i) status
    → P (get_or status m 0) → IsSplit P status (m + 1) to
split_up P status from to m h l o t =
    let one : m + 1 ≡ suc m = omega arith in
    record {
      order = omega (arith, l);
      within = h.within;
      below = subst (λ (i : ℕ). Each P (take i status)) (sym one) (up_to P status m 0 o (omega (arith, h.within, l)) t);
      others = h.others;
    }

pub split_down : (P : ℕ → Type 0) (status : List ℕ) (from to m : ℕ) → IsSplit P status from to → from ≤ m → m < to
    → Pairs (λ i j. P j → P i) status → (P (get_or status m 0) → ⊥) → IsSplit P status from m
split_down P status from to m h g l o t = record {
  order = g;
  within = omega (arith, h.within, l);
  below = h.below;
  others = behind P status m 0 o (omega (arith, h.within, l)) t;
}
