-- This file shows how the number of segments above changes from a place of a segment to a place beside it.
use Rattle.std.proofs.Common.{◌≡◌, ℕ, ◌+◌, ◌*◌, ◌<◌, Bool, true, false, ◌&&◌, List, []}
use Rattle.std.proofs.Common.{◌∷◌, pos, ◌*ℤ◌, ◌<ℤ◌, refl, sym, ap, subst, ◌∙◌, arith, inl, inr}
use Rattle.std.specs.Prelude.{Contains}
use Rattle.std.proofs.lemmas.Int.{ints}
use Rattle.std.proofs.lemmas.List.Elements.{Contains-push}
use borrow.Author.Differences.{up, down}
use Rattle.grid_base.specs.Point.{GridPoint}
use Rattle.grid_base.specs.Segment.{GridSegment}
use Rattle.grid_base.specs.Sides.{Side, On}
use Rattle.grid_base.proofs.Turns.{times}
use Rattle.grid_base.proofs.Signs.{order, on_by_zero}
use Rattle.grid_base.specs.Plane.{Place, side_at, Holds, HoldsInside, IsFree}
use Rattle.grid_base.specs.Odd.{is_right}
use Rattle.grid_base.proofs.Orders.{is_segment, is_segment-same}
use Rattle.plane_classes.proofs.OverTests.{is_over}
use Rattle.plane_classes.proofs.PastOthers.{IsClear, NoWall, touch_past}
use Rattle.plane_classes.proofs.Parities.{xor, par, ends_with, xor_comm, xor_right_none, even_ends, HasPairedEnds, par_xor, par_same}
use Rattle.grid_base.proofs.Orders.{is_point-itself}
use Rattle.plane_classes.proofs.Heights.{IsLeftOf, at_vertical}
use Rattle.plane_classes.proofs.Ways.{AreInOrder}
use Rattle.plane_classes.proofs.Blends.{blend_one}
use Rattle.plane_classes.proofs.ClassLemmas.{touch_back}
use Rattle.plane_classes.proofs.OverTests.{stands, Less, Same, More, three}
use Rattle.plane_classes.proofs.OverTests.{le_of, same_of}
use Rattle.plane_classes.proofs.OneParity.{tested, same_level, level, each_of}
use Rattle.plane_classes.proofs.OwnSegment.{is_left, Adds, slanted_left, slanted_level}
use Rattle.plane_classes.proofs.OwnSegment.{slanted_right, upright_column, vertical_left, vertical_right}

same_self : (s t : GridSegment) → is_segment s t ≡ false → t ≡ s → ⊥
same_self s t h e = differ (rw (is_point-itself s.a, is_point-itself s.b) at (subst (λ (u : GridSegment). is_segment s u ≡ false) e h))
  where
    differ : true ≡ false → ⊥
    differ h = cc

-- whether a place on the side d of s has s as one more: below a slanted s, left of a vertical one
pub data Counts (s : GridSegment) (d : Side) (e : Bool) : Type 0 where
  Slanted : s.a.x < s.b.x → is_right d ≡ e → Counts s d e
  Upright : s.a.x ≡ s.b.x → s.a.y < s.b.y → is_left d ≡ e → Counts s d e

-- what stands between a place beside s and a place of s
pub record IsNextTo (B : List GridSegment) (s : GridSegment) (d : Side) (r m : Place) : Type 0 where
  pub real : 0 < m.w
  pub inside : HoldsInside s m
  pub side : side_at s r ≡ d
  pub off : d ≡ On → ⊥
  pub clear : IsClear B r m
  pub no_wall : NoWall B r m
  pub alone : (t : GridSegment) → Contains B t → (t ≡ s → ⊥) → Holds t m → ⊥

next_is_free : (B : List GridSegment) (s : GridSegment) (d : Side) (r m : Place) → IsNextTo B s d r m → IsFree B r
next_is_free B s d r m h = subst (IsFree B) (blend_one r m) (h.clear 1 0 (omega arith))

-- each segment, by whether it is s
abbrev AddsOne : (GridPoint → Bool) → Place → Place → GridSegment → Bool → GridSegment → Type 0
AddsOne P r m s e t = Adds P r m t (is_segment s t && e)

pub plus_none : (a b c : Bool) → xor a b ≡ c → xor a b ≡ xor c false
plus_none a b c h = h ∙ sym (xor_right_none c)

pub none_differ : (a b : Bool) → a ≡ b → xor a b ≡ xor (xor false false) false
none_differ true true h = refl
none_differ true false h = cc
none_differ false true h = cc
none_differ false false h = refl

pub by_same : (P : GridPoint → Bool) (r m : Place) (s t : GridSegment) (e : Bool) → (s ≡ t → Adds P r m t e) → ((t ≡ s → ⊥)
    → Adds P r m t false) → (b : Bool) → is_segment s t ≡ b → Adds P r m t (b && e)
by_same P r m s t e own other true h = own (is_segment-same s t h)
by_same P r m s t e own other false h = other (same_self s t h)

pub itself : (t : GridSegment) → Contains (t ∷ []) t
itself t = Contains-push [] t

from_left : (B : List GridSegment) (s : GridSegment) (d : Side) (r m : Place) (e : Bool) → AreInOrder B → Counts s d e
    → IsNextTo B s d r m → IsLeftOf r m
    → (t : GridSegment) → Contains B t → AddsOne (stands m) r m s e t
from_left B s d r m e o c n l t k = by_same (stands m) r m s t e
    (λ q. own q c)
    (λ u. plus_none (is_over r t) (is_over m t) (ends_with (stands m) t) (tested (t ∷ []) r m t
    (touch_past B t r m k n.real n.clear n.no_wall (n.alone t k u)) (o t k) l (itself t)))
    (is_segment s t) refl
  where
    free : IsFree B r
    free = next_is_free B s d r m n

    own : s ≡ t → Counts s d e → Adds (stands m) r m t e
    own q (Slanted a f) = subst (λ (u : GridSegment). Adds (stands m) r m u e) q (subst (λ (x : Bool). Adds (stands m) r m s x) f
        (slanted_left s r m d a n.inside n.side free.real n.real (λ w. n.no_wall s.a.x (s, subst (Contains B) (sym q) k, inl refl) w) l))
    own q (Upright a b f) = subst (λ (u : GridSegment). Adds (stands m) r m u e) q (subst (λ (x : Bool). Adds (stands m) r m s x) f
        (vertical_left s r m d a b n.inside n.side free.real n.real l))

from_right : (B : List GridSegment) (s : GridSegment) (d : Side) (r m : Place) (e : Bool) → AreInOrder B → Counts s d e
    → IsNextTo B s d r m → IsLeftOf m r
    → (t : GridSegment) → Contains B t → AddsOne (stands r) r m s e t
from_right B s d r m e o c n l t k = by_same (stands r) r m s t e
    (λ q. own q c)
    (λ u. plus_none (is_over r t) (is_over m t) (ends_with (stands r) t) (xor_comm (is_over r t) (is_over m t)
    ∙ tested (t ∷ []) m r t (touch_back (t ∷ []) r m (touch_past B t r m k n.real n.clear n.no_wall (n.alone t k u))) (o t k) l
    (itself t)))
    (is_segment s t) refl
  where
    free : IsFree B r
    free = next_is_free B s d r m n

    own : s ≡ t → Counts s d e → Adds (stands r) r m t e
    own q (Slanted a f) = subst (λ (u : GridSegment). Adds (stands r) r m u e) q (subst (λ (x : Bool). Adds (stands r) r m s x) f
        (slanted_right B s r m d (subst (Contains B) (sym q) k) a n.inside n.side free n.real (λ w. n.no_wall s.b.x (
          s,
          subst
              (Contains B) (sym q) k,
          inr refl,
        ) w) l))
    own q (Upright a b f) = subst (λ (u : GridSegment). Adds (stands r) r m u e) q (subst (λ (x : Bool). Adds (stands r) r m s x) f
        (vertical_right s r m d a b n.inside n.side free.real n.real l))

column_of : (m r : Place) (e : ℕ) → 0 < m.w → 0 < r.w → m.x *ℤ pos r.w ≡ r.x *ℤ pos m.w → m.x ≡ pos (e * m.w) → r.x ≡ pos (e * r.w)
column_of m r e hm hr c h =
    let low = level m r e hm hr c (le_of _ _ (sym h)) in
    let fails : pos (e * r.w) <ℤ r.x → ⊥ = λ n.
    let t1 = times (e * r.w + down r.x) (up r.x) 0 m.w (omega (arith, ints)) hm in
    let t2 = ap up h in let t3 = ap down h in
    let t4 = ap (λ (t : ℕ). r.w * t) t2 in let t5 = ap (λ (t : ℕ). r.w * t) t3 in
    omega (arith, ints) in
    elim (order r.x (pos (e * r.w))) [ inl n ↦ same_of _ _ n low | inr n ↦ absurd (fails n) ]

from_level : (B : List GridSegment) (s : GridSegment) (d : Side) (r m : Place) (e : Bool) → AreInOrder B → Counts s d e
    → IsNextTo B s d r m → r.x *ℤ pos m.w ≡ m.x *ℤ pos r.w
    → (t : GridSegment) → Contains B t → AddsOne (λ v. false) r m s e t
from_level B s d r m e o c n l t k = by_same (λ v. false) r m s t e
    (λ q. own q c)
    (λ u. none_differ (is_over r t) (is_over m t) (same_level (t ∷ []) r m t (touch_past B t r m k n.real n.clear n.no_wall
    (n.alone t k u)) (o t k) l (itself t)))
    (is_segment s t) refl
  where
    free : IsFree B r
    free = next_is_free B s d r m n

    same_column : s.a.x ≡ s.b.x → r.x ≡ pos (s.a.x * r.w)
    same_column v = column_of m r s.a.x n.real free.real (sym l) (upright_column s m v n.inside)

    own : s ≡ t → Counts s d e → Adds (λ v. false) r m t e
    own q (Slanted a f) = subst (λ (u : GridSegment). Adds (λ v. false) r m u e) q (subst (λ (x : Bool). Adds (λ v. false) r m s x) f
        (slanted_level s r m d a n.inside n.side free.real n.real (sym l)))
    own q (Upright a b f) = absurd (n.off (sym n.side ∙ on_by_zero _ (at_vertical s r a (same_column a))))

-- from a place m of s to a place r beside it the parity changes exactly where s is in the border and counts
pub parity_beside : (B : List GridSegment) (s : GridSegment) (d : Side) (r m : Place) (e : Bool) → AreInOrder B → HasPairedEnds B
    → Counts s d e → IsNextTo B s d r m
    → xor (par (is_over r) B) (par (is_over m) B) ≡ par (λ t. is_segment s t && e) B
parity_beside B s d r m e o v c n = elim (three (r.x *ℤ pos m.w) (m.x *ℤ pos r.w)) [
  | Less l ↦ total (stands m) (from_left B s d r m e o c n l)
  | Same l ↦ total (λ v. false) (from_level B s d r m e o c n l)
  | More l ↦ total (stands r) (from_right B s d r m e o c n l)
]
  where
    total : (P : GridPoint → Bool) → ((t : GridSegment) → Contains B t → AddsOne P r m s e t)
        → xor (par (is_over r) B) (par (is_over m) B) ≡ par (λ t. is_segment s t && e) B
    total P h =
        sym (par_xor (is_over r) (is_over m) B)
        ∙ par_same (λ t. xor (is_over r t) (is_over m t)) (λ t. xor (ends_with P t) (is_segment s t && e)) B (each_of
        (AddsOne P r m s e) B h)
        ∙ par_xor (ends_with P) (λ t. is_segment s t && e) B
        ∙ ap (λ (z : Bool). xor z (par (λ t. is_segment s t && e) B)) (even_ends P B v)
