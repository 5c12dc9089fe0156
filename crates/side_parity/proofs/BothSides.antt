-- This file shows that the places beside a segment on one side are all odd, or all even, and which it is.
use Rattle.std.proofs.Common.{◌≡◌, ◌⊎◌, ◌↔◌, ℕ, ◌+◌, ◌*◌, ◌<◌, ◌≤◌, Bool, true, false, not, ◌&&◌, ltb, IsTrue, List, ◌∷◌, map}
use Rattle.std.proofs.Common.{refl, sym, ap, subst, ◌∙◌, arith, inl, inr}
use Rattle.std.specs.Prelude.{Contains}
use Rattle.std.proofs.lemmas.List.{get_or-map, length-map}
use Rattle.std.proofs.lemmas.Int.{ints}
use Rattle.grid_base.specs.Segment.{GridSegment}
use Rattle.grid_base.specs.Sides.{Side, Left, Right}
use Rattle.grid_base.specs.Places.{RationalPoint, IsPlace}
use Rattle.grid_base.specs.Plane.{Place, as_place, blend, IsBeside, Tells}
use Rattle.grid_base.specs.Odd.{is_strictly_above, Odd}
use Rattle.grid_base.proofs.Orders.{is_segment}
use Rattle.grid_base.specs.Plane.{side_at}
use Rattle.side_parity.specs.Middle.{differ, middle}
use Rattle.side_parity.proofs.Each.{ordered_in}
use Rattle.side_parity.proofs.Images.{IsImage, has_image, image, lowered, lowered_image, moved, odd_moved, reach, side_moved}
use Rattle.side_parity.proofs.MovedPlaces.{blend_image, held_back, held_moved, point_back, point_moved}
use Rattle.side_parity.proofs.Near.{middle_strict, same_factor, some_left, some_right}
use Rattle.side_parity.proofs.Numbers.{left_sum, leftward, place_balanced, right_sum, rightward}
use Rattle.side_parity.proofs.Parities.{count_by_odd, odd_by_count}
use Rattle.side_parity.proofs.Pictures.{contains_moved, even_moved, meet_moved, moved_all_first, moved_first, segment_moved}
use Rattle.side_parity.proofs.Regions.{IsNextTo, IsSides, is_odd, mean, odd_count}
use Rattle.side_parity.proofs.SidesBy.{IsSound, sides_by}
use Rattle.side_parity.proofs.Ways.{ltb_same}

-- ---- the moved border
pub sound_moved : (n : ℕ) (B : List GridSegment) (s : GridSegment) → IsSound B s
    → IsSound (map (moved n) B) (moved n s)
sound_moved n B s h = record {
  realm = meet_moved n (s ∷ B) h.realm;
  ordered = moved_all_first n B h.ordered;
  first = moved_first n s h.first;
  even = even_moved n B h.even;
}

pub moved_contains : (n : ℕ) (L : List GridSegment) (t : GridSegment) → Contains L t
    → Contains (map (moved n) L) (moved n t)
moved_contains n L t (k, h, e) =
    (k, subst (λ (m : ℕ). k < m) (sym (length-map L (moved n))) h, get_or-map (moved n) L k t (moved n t) h ∙ ap (moved n) e)

-- ---- the middle
-- what the places beside s on its left are, by its middle
abbrev pub left_answer : List GridSegment → GridSegment → Bool
left_answer B s = differ (is_odd B (as_place (middle s))) (odd_count (is_segment s) B && not (ltb s.a.x s.b.x))

-- and on its right
abbrev pub right_answer : List GridSegment → GridSegment → Bool
right_answer B s = differ (is_odd B (as_place (middle s))) (odd_count (is_segment s) B && ltb s.a.x s.b.x)

pub middle_image : (n : ℕ) (s : GridSegment) → IsImage n (as_place (middle s)) (middle (moved n s))
middle_image n s = record { across = omega (arith, ints); up = omega (arith, ints); weight = refl }

pub odd_middle : (n : ℕ) (B : List GridSegment) (s : GridSegment)
    → is_odd (map (moved n) B) (as_place (middle (moved n s))) ≡ is_odd B (as_place (middle s))
odd_middle n B s = odd_moved n B (as_place (middle s)) (middle (moved n s)) (middle_image n s)

flat_moved : (n a b : ℕ) → ltb (a + n) (b + n) ≡ ltb a b
flat_moved n a b = ltb_same _ _ _ _ (λ h k. omega arith) (λ h k. omega arith)

-- the sides by a parity, the own number of the segment and whether it is wide
abbrev AreSidesBy : List GridSegment → GridSegment → Bool → Bool → Bool → Type 0
AreSidesBy B s odd own wide = IsSides B s (differ odd (own && not wide)) (differ odd (own && wide))

carried : (B : List GridSegment) (s : GridSegment) {a b c d e f : Bool} → a ≡ d → b ≡ e → c ≡ f
    → AreSidesBy B s a b c → AreSidesBy B s d e f
carried B s {a} {b} {c} {d} {e} {f} h k l by =
    subst (λ (x : Bool). AreSidesBy B s x e f) h (subst (λ (x : Bool). AreSidesBy B s a x f) k (subst (AreSidesBy B s a b) l by))

sides_moved : (n : ℕ) (B : List GridSegment) (s : GridSegment) → IsSound B s
    → IsSides (map (moved n) B) (moved n s) (left_answer B s) (right_answer B s)
sides_moved n B s h =
    carried (map (moved n) B) (moved n s) (odd_middle n B s) (segment_moved n s B) (flat_moved n s.a.x s.b.x)
    (sides_by (map (moved n) B) (moved n s) (middle (moved n s)) (sound_moved n B s h)
    (middle_strict (moved n s) (moved_first n s h.first)))

-- ---- a place beside s, moved
first_real : (m n : ℕ) → 0 < 1 * m + 0 * n → 0 < m
first_real m n h = omega arith

beside_is_real : (B : List GridSegment) (s : GridSegment) (d : Side) (q : Place) → IsBeside B s d q
    → 0 < q.w
beside_is_real B s d q h = first_real q.w h.goal.w (h.clear 1 0 (omega arith)).real

-- left or right
abbrev IsOff : Side → Type 0
IsOff d = (d ≡ Left) ⊎ (d ≡ Right)

not_balanced : (s : GridSegment) (r : RationalPoint) (d : Side) → IsOff d → side_at s (as_place r) ≡ d
    → leftward s r ≡ rightward s r → ⊥
not_balanced s r d (inl e) h b = let o = left_sum s r (h ∙ e) in omega arith
not_balanced s r d (inr e) h b = let o = right_sum s r (h ∙ e) in omega arith

balance_of_end : (s : GridSegment) (g r : RationalPoint) (m k : ℕ) → 0 < k → leftward s g ≡ rightward s g
    → leftward s (mean m g k r) ≡ rightward s (mean m g k r) → leftward s r ≡ rightward s r
balance_of_end s g r m k h e f =
    let e1 = ap (λ (j : ℕ). m * j) e in
    same_factor k (leftward s r) (rightward s r) h (omega arith)

beside_moved : (n : ℕ) (B : List GridSegment) (s : GridSegment) (d : Side) (q : Place) (r g : RationalPoint)
    → IsSound B s → IsOff d → (h : IsBeside B s d q)
    → IsImage n q r → IsImage n h.goal g → IsNextTo (map (moved n) B) (moved n s) d r
beside_moved n B s d q r g sound off h k l = record {
  real = subst (λ (w : ℕ). 0 < w) (sym k.weight) (beside_is_real B s d q h);
  side = side;
  from = g;
  inside = record {
    place = place;
    not_a = λ a. h.inside.not_a (point_back n s.a h.goal g l a);
    not_b = λ b. h.inside.not_b (point_back n s.b h.goal g l b);
  };
  clear_of_s = λ i j o p. not_balanced (moved n s) r d off side
      (balance_of_end (moved n s) g r i j o (place_balanced (moved n s) g place) (place_balanced (moved n s) (mean i g j r) p));
  clear = λ t c i j o p. meets t c i j o p (contains_moved n B t c);
}
  where
    side : side_at (moved n s) (as_place r) ≡ d
    side = side_moved n s q r k ∙ h.side

    place : IsPlace (moved n s) g
    place = held_moved n s h.goal g l h.inside.held

    meets : (t : GridSegment) → Contains (map (moved n) B) t → (i j : ℕ) → 0 < j → IsPlace t (mean i g j r)
        → (u : GridSegment) × Contains B u × (moved n u ≡ t) → ⊥
    meets t c i j o p u =
        (h.clear j i o).apart u.0 u.1
        (held_back n u.0 (blend j i q h.goal) (mean i g j r) (blend_image n j i q h.goal r g k l) (ordered_in B u.0 sound.ordered u.1)
        (subst (λ (v : GridSegment). IsPlace v (mean i g j r)) (sym u.2) p))

-- ---- and back
beside_back : (n : ℕ) (B : List GridSegment) (s : GridSegment) (d : Side) (r : RationalPoint) → IsSound B s
    → IsNextTo (map (moved n) B) (moved n s) d r → IsBeside B s d (lowered n r)
beside_back n B s d r sound h = record {
  side = sym (side_moved n s (lowered n r) r (lowered_image n r)) ∙ h.side;
  goal = lowered n h.from;
  inside = record {
    held = held_back n s (lowered n h.from) h.from (lowered_image n h.from) sound.first h.inside.place;
    not_a = λ k. h.inside.not_a (point_moved n s.a (lowered n h.from) h.from (lowered_image n h.from) k);
    not_b = λ k. h.inside.not_b (point_moved n s.b (lowered n h.from) h.from (lowered_image n h.from) k);
  };
  clear = λ i j o. record {
    real = some_weight i j r.w h.from.w o h.real;
    apart = λ t c k. h.clear (moved n t) (moved_contains n B t c) j i o
        (held_moved n t (blend i j (lowered n r) (lowered n h.from)) (mean j h.from i r)
        (blend_image n i j (lowered n r) (lowered n h.from) r h.from (lowered_image n r) (lowered_image n h.from)) k);
  };
}
  where
    some_weight : (i j v w : ℕ) → 0 < i → 0 < v → 0 < i * v + j * w
    some_weight i j v w h k = grind arith

-- ---- the answers
tells_by : (B : List GridSegment) (q : Place) (a : Bool) → is_odd B q ≡ a → IsTrue a ↔ Odd B q
tells_by B q a h = (λ e. count_by_odd (λ s. is_strictly_above s q) B (h ∙ e), λ o. sym h ∙ odd_by_count (λ s. is_strictly_above s q) B o)

-- two answers that tell the same are one
pub same_truth : (a b : Bool) → (IsTrue a → IsTrue b) → (IsTrue b → IsTrue a) → a ≡ b
same_truth true b h k = sym (h refl)
same_truth false true h k = k refl
same_truth false false h k = refl

pub tells_once : (B : List GridSegment) (s : GridSegment) (d : Side) (P : Place → Type 0) (a b : Bool)
    → Tells B s d P a → Tells B s d P b → a ≡ b
tells_once B s d P a b h k =
    let q = h.one in
    let m = h.all q.0 q.1 in
    let n = k.all q.0 q.1 in
    same_truth a b (λ e. n.1 (m.0 e)) (λ e. m.1 (n.0 e))

least_sum : (a b : ℕ) → (a ≤ a + b) × (b ≤ a + b)
least_sum a b = (omega arith, omega arith)

-- the moved picture answers for each place beside s
beside_answer : (B : List GridSegment) (s : GridSegment) (d : Side) (q : Place) (a : Bool) → IsSound B s
    → IsOff d → IsBeside B s d q
    → ((n : ℕ) (r : RationalPoint) → IsNextTo (map (moved n) B) (moved n s) d r → is_odd (map (moved n) B) (as_place r) ≡ a)
    → is_odd B q ≡ a
beside_answer B s d q a sound off h answers =
    let n = reach q + reach h.goal in
    let l = least_sum (reach q) (reach h.goal) in
    let k = has_image n q (beside_is_real B s d q h) l.0 in
    let g = has_image n h.goal h.inside.held.real l.1 in
    sym (odd_moved n B q (image n q) k) ∙ answers n (image n q) (beside_moved n B s d q (image n q) (image n h.goal) sound off h k g)

pub odd_on_left : (B : List GridSegment) (s : GridSegment) (q : Place) → IsSound B s → IsBeside B s Left q
    → is_odd B q ≡ left_answer B s
odd_on_left B s q sound h = beside_answer B s Left q (left_answer B s) sound (inl refl) h (λ n r k. (sides_moved n B s sound).on_left r k)

pub odd_on_right : (B : List GridSegment) (s : GridSegment) (q : Place) → IsSound B s → IsBeside B s Right q
    → is_odd B q ≡ right_answer B s
odd_on_right B s q sound h =
    beside_answer B s Right q (right_answer B s) sound (inr refl) h (λ n r k. (sides_moved n B s sound).on_right r k)

-- some place lies beside s on each side
pub one_left : (B : List GridSegment) (s : GridSegment) → IsSound B s → (q : Place) × IsBeside B s Left q
one_left B s sound = let h = some_left (map (moved 1) B) (moved 1 s) (sound_moved 1 B s sound) (omega arith) in
    (lowered 1 h.0, beside_back 1 B s Left h.0 sound h.1)

pub one_right : (B : List GridSegment) (s : GridSegment) → IsSound B s → (q : Place) × IsBeside B s Right q
one_right B s sound = let h = some_right (map (moved 1) B) (moved 1 s) (sound_moved 1 B s sound) (omega arith) in
    (lowered 1 h.0, beside_back 1 B s Right h.0 sound h.1)

pub tells_left : (B : List GridSegment) (s : GridSegment) → IsSound B s
    → Tells B s Left (Odd B) (left_answer B s)
tells_left B s sound = record { one = one_left B s sound; all = λ q h. tells_by B q (left_answer B s) (odd_on_left B s q sound h) }

pub tells_right : (B : List GridSegment) (s : GridSegment) → IsSound B s
    → Tells B s Right (Odd B) (right_answer B s)
tells_right B s sound = record { one = one_right B s sound; all = λ q h. tells_by B q (right_answer B s) (odd_on_right B s q sound h) }
