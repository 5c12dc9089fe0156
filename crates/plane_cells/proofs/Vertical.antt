-- This file shows how a place moves up and down in its column.
use Rattle.std.proofs.Common.{◌≡◌, ℕ, zero, suc, ◌+◌, ◌-◌, ◌*◌, ◌<◌, ℤ, pos, negsuc, ◌-ℤ◌, ◌*ℤ◌, ◌<ℤ◌, ◌≤ℤ◌, sym, ap, subst, ◌∙◌}
use Rattle.std.proofs.Common.{arith, inl, inr}
use Rattle.std.proofs.lemmas.Int.{ints}
use borrow.Author.Differences.{up, down}
use Rattle.grid_base.specs.Segment.{GridSegment}
use Rattle.grid_base.specs.Sides.{Left, Right, side_of}
use Rattle.grid_base.proofs.Turns.{times, times_le}
use Rattle.grid_base.proofs.Signs.{order, on_by_zero, left_by_sign, right_by_sign}
use Rattle.grid_base.specs.Plane.{Place, side_number_at, side_at, Spans, Holds, blend}
use Rattle.plane_classes.proofs.Heights.{height_is}
use Rattle.plane_classes.proofs.Shears.{times_difference}
use Rattle.plane_classes.proofs.Blends.{weighed, height_blend}
use Rattle.plane_classes.proofs.Ways.{held_by_line}

-- the places that are infinitely far up and down
abbrev pub zenith : Place
zenith = record { x = pos 0; y = pos 1; w = 0 }

abbrev pub nadir : Place
nadir = record { x = pos 0; y = negsuc 0; w = 0 }

pub height_zenith : (s : GridSegment) → side_number_at s zenith ≡ pos s.b.x -ℤ pos s.a.x
height_zenith s = omega (arith, ints, height_is s zenith)

pub height_nadir : (s : GridSegment) → side_number_at s nadir ≡ pos s.a.x -ℤ pos s.b.x
height_nadir s = omega (arith, ints, height_is s nadir)

-- ---- sides by signs
pub left_sign : (z : ℤ) → side_of z ≡ Left → pos 0 <ℤ z
left_sign (pos zero) e = cc
left_sign (pos (suc n)) e = omega (arith, ints)
left_sign (negsuc n) e = cc

pub right_sign : (z : ℤ) → side_of z ≡ Right → z <ℤ pos 0
right_sign (pos zero) e = cc
right_sign (pos (suc n)) e = cc
right_sign (negsuc n) e = omega (arith, ints)

-- ---- above a place, and below it
up_sum : (i j d : ℕ) (h z : ℤ) → 0 < j → 0 < d → pos 0 ≤ℤ h → z ≡ pos d → pos 0 <ℤ weighed i j h z
up_sum i j d (pos n) z hj hd k e = let t = times 0 j 0 d hj hd in rw e (omega (arith, ints))
up_sum i j d (negsuc n) z hj hd k e = absurd (omega (arith, ints))

dx_up : (s : GridSegment) → s.a.x < s.b.x → side_number_at s zenith ≡ pos (s.b.x - s.a.x)
dx_up s o = height_zenith s ∙ omega (arith, ints, o)

-- a place above one that is on s or above it is above s
pub raised_left : (s : GridSegment) (i j : ℕ) (m : Place) → s.a.x < s.b.x → 0 < j → pos 0 ≤ℤ side_number_at s m
    → side_at s (blend i j m zenith) ≡ Left
raised_left s i j m o hj h =
    left_by_sign _ (subst (λ (z : ℤ). pos 0 <ℤ z) (sym (height_blend s i j m zenith))
    (up_sum i j (s.b.x - s.a.x) (side_number_at s m) (side_number_at s zenith) hj (omega arith) h (dx_up s o)))

small_sum : (i d : ℕ) (h z : ℤ) → d < i → h <ℤ pos 0 → z ≡ pos d → weighed i 1 h z <ℤ pos 0
small_sum i d (pos n) z l k e = absurd (omega (arith, ints))
small_sum i d (negsuc n) z l k e = rw e (omega (arith, ints))

-- a place a little above one that is below s is below s
pub raised_right : (s : GridSegment) (i : ℕ) (m : Place) → s.a.x < s.b.x → s.b.x < i → side_number_at s m <ℤ pos 0
    → side_at s (blend i 1 m zenith) ≡ Right
raised_right s i m o l h =
    right_by_sign _ (subst (λ (z : ℤ). z <ℤ pos 0) (sym (height_blend s i 1 m zenith))
    (small_sum i (s.b.x - s.a.x) (side_number_at s m) (side_number_at s zenith) (omega arith) h (dx_up s o)))

-- f is in the column of c
pub record InColumn (c f : Place) : Type 0 where
  pub scale : ℕ
  pub some : 0 < scale
  pub x : f.x ≡ pos scale *ℤ c.x
  pub w : f.w ≡ scale * c.w

pub raised_column : (i j : ℕ) (c : Place) → 0 < i → InColumn c (blend i j c zenith)
raised_column i j c h = record { scale = i; some = h; x = omega (arith, ints); w = omega arith }

pub lowered_column : (i j : ℕ) (c : Place) → 0 < i → InColumn c (blend i j c nadir)
lowered_column i j c h = record { scale = i; some = h; x = omega (arith, ints); w = omega arith }

-- the place of s in the column of c
pub record Foot (s : GridSegment) (c : Place) : Type 0 where
  pub place : Place
  pub column : InColumn c place
  pub zero : side_number_at s place ≡ pos 0

dx_down : (s : GridSegment) → s.a.x < s.b.x → side_number_at s nadir ≡ pos 0 -ℤ pos (s.b.x - s.a.x)
dx_down s o = height_nadir s ∙ omega (arith, ints, o)

down_zero : (d : ℕ) (h z : ℤ) → pos 0 ≤ℤ h → z ≡ pos 0 -ℤ pos d → weighed d (up h) h z ≡ pos 0
down_zero zero (pos n) z k e = let f : z ≡ pos 0 = omega (arith, ints, e) in rw f (omega (arith, ints))
down_zero (suc d) (pos n) z k e = let f : z ≡ negsuc d = omega (arith, ints, e) in rw f (omega (arith, ints))
down_zero d (negsuc n) z k e = absurd (omega (arith, ints))

up_zero : (d : ℕ) (h z : ℤ) → h <ℤ pos 0 → z ≡ pos d → weighed d (down h) h z ≡ pos 0
up_zero d (pos n) z k e = absurd (omega (arith, ints))
up_zero d (negsuc n) z k e = rw e (omega (arith, ints))

-- from a place that is on s or above it
pub foot_below : (s : GridSegment) (c : Place) → s.a.x < s.b.x → pos 0 ≤ℤ side_number_at s c
    → side_number_at s (blend (s.b.x - s.a.x) (up (side_number_at s c)) c nadir) ≡ pos 0
foot_below s c o h = height_blend s (s.b.x - s.a.x) (up (side_number_at s c)) c nadir ∙ down_zero (s.b.x - s.a.x) (side_number_at s c)
    (side_number_at s nadir) h (dx_down s o)

pub foot_above : (s : GridSegment) (c : Place) → s.a.x < s.b.x → side_number_at s c <ℤ pos 0
    → side_number_at s (blend (s.b.x - s.a.x) (down (side_number_at s c)) c zenith) ≡ pos 0
foot_above s c o h = height_blend s (s.b.x - s.a.x) (down (side_number_at s c)) c zenith ∙ up_zero (s.b.x - s.a.x) (side_number_at s c)
    (side_number_at s zenith) h (dx_up s o)

wide : (s : GridSegment) → s.a.x < s.b.x → 0 < s.b.x - s.a.x
wide s o = omega (arith, o)

pub foot : (s : GridSegment) (c : Place) → s.a.x < s.b.x → Foot s c
foot s c o = elim (order (pos 0) (side_number_at s c)) [
  | inl h ↦ record {
    place = blend (s.b.x - s.a.x) (up (side_number_at s c)) c nadir;
    column = lowered_column (s.b.x - s.a.x) (up (side_number_at s c)) c (wide s o);
    zero = foot_below s c o h;
  }
  | inr h ↦ record {
    place = blend (s.b.x - s.a.x) (down (side_number_at s c)) c zenith;
    column = raised_column (s.b.x - s.a.x) (down (side_number_at s c)) c (wide s o);
    zero = foot_above s c o h;
  }
]

-- ---- what holds of a column
scale_from : (e i v w : ℕ) (x y : ℤ) → 0 < i → y ≡ pos i *ℤ x → w ≡ i * v → pos (e * v) ≤ℤ x → pos (e * w) ≤ℤ y
scale_from e i v w x y h k l m = rw (k, l)
    (let t = times_le (e * v + down x) (up x) 0 i (omega (arith, ints, m)) (omega arith) in omega (arith, ints))

scale_to : (e i v w : ℕ) (x y : ℤ) → 0 < i → y ≡ pos i *ℤ x → w ≡ i * v → x ≤ℤ pos (e * v) → y ≤ℤ pos (e * w)
scale_to e i v w x y h k l m = rw (k, l)
    (let t = times_le (up x) (e * v + down x) 0 i (omega (arith, ints, m)) (omega arith) in omega (arith, ints))

pub scale_after : (e i v w : ℕ) (x y : ℤ) → 0 < i → y ≡ pos i *ℤ x → w ≡ i * v → pos (e * v) <ℤ x → pos (e * w) <ℤ y
scale_after e i v w x y h k l m = rw (k, l) (let t = times (e * v + down x) (up x) 0 i (omega (arith, ints, m)) h in omega (arith, ints))

pub scale_before : (e i v w : ℕ) (x y : ℤ) → 0 < i → y ≡ pos i *ℤ x → w ≡ i * v → x <ℤ pos (e * v) → y <ℤ pos (e * w)
scale_before e i v w x y h k l m = rw (k, l) (let t = times (up x) (e * v + down x) 0 i (omega (arith, ints, m)) h in omega (arith, ints))

pub column_at : (e : ℕ) (c f : Place) → InColumn c f → c.x ≡ pos (e * c.w) → f.x ≡ pos (e * f.w)
column_at e c f h k = rw (h.x, h.w, k) (omega (arith, ints))

pub column_from : (e : ℕ) (c f : Place) → InColumn c f → pos (e * c.w) ≤ℤ c.x → pos (e * f.w) ≤ℤ f.x
column_from e c f h k = scale_from e h.scale c.w f.w c.x f.x h.some h.x h.w k

pub column_to : (e : ℕ) (c f : Place) → InColumn c f → c.x ≤ℤ pos (e * c.w) → f.x ≤ℤ pos (e * f.w)
column_to e c f h k = scale_to e h.scale c.w f.w c.x f.x h.some h.x h.w k

pub column_after : (e : ℕ) (c f : Place) → InColumn c f → pos (e * c.w) <ℤ c.x → pos (e * f.w) <ℤ f.x
column_after e c f h k = scale_after e h.scale c.w f.w c.x f.x h.some h.x h.w k

pub column_before : (e : ℕ) (c f : Place) → InColumn c f → c.x <ℤ pos (e * c.w) → f.x <ℤ pos (e * f.w)
column_before e c f h k = scale_before e h.scale c.w f.w c.x f.x h.some h.x h.w k

pub column_spans : (s : GridSegment) (c f : Place) → InColumn c f → Spans s c → Spans s f
column_spans s c f h k = record { from = column_from s.a.x c f h k.from; to = column_to s.b.x c f h k.to }

pub column_real : (c f : Place) → InColumn c f → 0 < c.w → 0 < f.w
column_real c f h k = let t = times 0 h.scale 0 c.w h.some k in rw h.w (omega arith)

pub column_joined : (c f g : Place) → InColumn c f → InColumn f g → InColumn c g
column_joined c f g h k = record {
  scale = k.scale * h.scale;
  some = let t = times 0 k.scale 0 h.scale k.some h.some in omega arith;
  x = k.x ∙ ap (λ (z : ℤ). pos k.scale *ℤ z) h.x ∙ twice k.scale h.scale c.x;
  w = rw (k.w, h.w) (omega arith);
}
  where
    one_difference : (a b c d : ℕ) → a ≡ c → b ≡ d → pos a -ℤ pos b ≡ pos c -ℤ pos d
    one_difference a b c d h k = cc

    twice : (i j : ℕ) (z : ℤ) → pos i *ℤ (pos j *ℤ z) ≡ pos (i * j) *ℤ z
    twice i j z =
        let e = times_difference j (up z) (down z) z (omega (arith, ints)) in
        let f = times_difference i (j * up z) (j * down z) (pos j *ℤ z) (sym e) in
        let g = times_difference (i * j) (up z) (down z) z (omega (arith, ints)) in
        sym f ∙ one_difference (i * (j * up z)) (i * (j * down z)) (i * j * up z) (i * j * down z) (omega arith) (omega arith) ∙ g

-- a place of s in this column is held by s
pub held_at : (s : GridSegment) (q : Place) → 0 < q.w → s.a.x < s.b.x → Spans s q → side_number_at s q ≡ pos 0 → Holds s q
held_at s q real o h e = held_by_line s q real o h (on_by_zero _ e)
