-- Places strictly inside a segment of a realm.
use Rattle.std.proofs.Common.{◌≡◌, ◌≢◌, ◌⊎◌, ℕ, zero, suc, ◌+◌, ◌*◌, ◌<◌, ◌≤◌, refl, ap, ◌∙◌, arith, inl, inr}
use Rattle.std.specs.Prelude.{List, Contains}
use Rattle.grid_base.specs.Point.{GridPoint, IsBefore, IsFromTo}
use Rattle.grid_base.specs.Segment.{GridSegment}
use Rattle.grid_base.specs.Places.{RationalPoint, IsPlace}
use Rattle.grid_base.specs.Places.{IsAt}
use Rattle.grid_base.specs.Segment.{IsEnd}
use Rattle.grid_base.proofs.Turns.{times, times_le}
use Rattle.grid_base.proofs.Balances.{factor_keeps}
use Rattle.side_parity.proofs.Numbers.{leftward, line_by, place_balanced, place_by, rightward, wider}
use Rattle.side_parity.proofs.Regions.{IsClearOf, IsInnerPlace, MeetInEnds, mean}
use Rattle.side_parity.proofs.Ways.{IsApart, mean_real}

-- r is on the line of s, and its column, or its row where s is vertical, is strictly between those of the ends
pub record IsStrict (s : GridSegment) (r : RationalPoint) : Type 0 where
  pub real : 0 < r.w
  pub line : leftward s r ≡ rightward s r
  pub between : ((s.a.x * r.w < r.x) × (r.x < s.b.x * r.w))
      ⊎ ((s.a.x ≡ s.b.x) × (r.x ≡ s.a.x * r.w) × (s.a.y * r.w < r.y) × (r.y < s.b.y * r.w))

-- ---- an inner place is strictly between
level_with : (s : GridSegment) (r : RationalPoint) (v : GridPoint) → s.a.x < s.b.x
    → leftward s r ≡ rightward s r
    → s.a.x * v.y + s.b.x * s.a.y + s.b.y * v.x ≡ s.b.x * v.y + s.a.x * s.b.y + s.a.y * v.x → r.x ≡ v.x * r.w
    → r.y ≡ v.y * r.w
level_with s r v h e g c =
    let g1 = ap (λ (k : ℕ). k * r.w) g in
    let c1 = ap (λ (k : ℕ). s.a.y * k) c in
    let c2 = ap (λ (k : ℕ). s.b.y * k) c in
    let low : r.y < v.y * r.w → ⊥ = λ l. (let p = times s.a.x s.b.x r.y (v.y * r.w) h l in omega arith) in
    let high : v.y * r.w < r.y → ⊥ = λ l. (let p = times s.a.x s.b.x (v.y * r.w) r.y h l in omega arith) in
    omega (arith, low, high)

ends_or_between : (l r x : ℕ) → l ≤ x → x ≤ r → (x ≡ l) ⊎ ((x ≡ r) ⊎ ((l < x) × (x < r)))
ends_or_between l r x h k = grind arith

pub from_to : (l r x : ℕ) → l ≤ r → IsFromTo l r x → (l ≤ x) × (x ≤ r)
from_to l r x h f = (omega arith, omega arith)

same_column : (a b w x : ℕ) → a ≡ b → IsFromTo (a * w) (b * w) x → x ≡ a * w
same_column a b w x e f = let e1 = ap (λ (k : ℕ). k * w) e in omega arith

pub strict_of : (s : GridSegment) (r : RationalPoint) → IsBefore s.a s.b → IsInnerPlace s r → IsStrict s r
strict_of s r (inl h) i =
    let e = place_balanced s r i.place in
    let f = from_to _ _ _ (factor_keeps s.a.x s.b.x r.w (omega arith)) i.place.across in
    record {
      real = i.place.real;
      line = e;
      between = elim (ends_or_between _ _ _ f.0 f.1) [
        | inl c ↦ absurd (i.not_a (c, level_with s r s.a h e (omega arith) c))
        | inr o ↦ elim o [ inl c ↦ absurd (i.not_b (c, level_with s r s.b h e (omega arith) c)) | inr c ↦ inl c ]
      ];
    }
strict_of s r (inr h) i =
    let e = place_balanced s r i.place in
    let c = same_column s.a.x s.b.x r.w r.x h.0 i.place.across in
    let d : r.x ≡ s.b.x * r.w = c ∙ ap (λ (k : ℕ). k * r.w) h.0 in
    let f = from_to _ _ _ (factor_keeps s.a.y s.b.y r.w (omega arith)) i.place.up in
    record {
      real = i.place.real;
      line = e;
      between = elim (ends_or_between _ _ _ f.0 f.1) [
        | inl k ↦ absurd (i.not_a (c, k))
        | inr o ↦ elim o [ inl k ↦ absurd (i.not_b (d, k)) | inr k ↦ inr (h.0, c, k.0, k.1) ]
      ];
    }

-- ---- a place strictly between is a place, and no end
pub strict_place : (s : GridSegment) (r : RationalPoint) → IsStrict s r → IsPlace s r
strict_place s r h = elim h.between [
  | inl b ↦ place_by s r h.real (wider s.a.x s.b.x r.w r.x (omega arith) b.1) h.line (omega arith) (omega arith)
  | inr b ↦
      (let d : r.x ≡ s.b.x * r.w = b.1 ∙ ap (λ (k : ℕ). k * r.w) b.0 in
      record { real = h.real; line = line_by s r h.line; across = (omega arith, omega arith); up = (omega arith, omega arith) })
]

strict_no_end : (s : GridSegment) (r : RationalPoint) (p : GridPoint) → IsStrict s r → IsEnd p s → IsAt r p
    → ⊥
strict_no_end s r p h (inl e) k =
    let x1 = ap (λ (q : GridPoint). q.x * r.w) e in
    let y1 = ap (λ (q : GridPoint). q.y * r.w) e in
    elim h.between [ inl b ↦ omega arith | inr b ↦ omega arith ]
strict_no_end s r p h (inr e) k =
    let x1 = ap (λ (q : GridPoint). q.x * r.w) e in
    let y1 = ap (λ (q : GridPoint). q.y * r.w) e in
    elim h.between [ inl b ↦ omega arith | inr b ↦ omega arith ]

pub inner_of : (s : GridSegment) (r : RationalPoint) → IsStrict s r → IsInnerPlace s r
inner_of s r h = record {
  place = strict_place s r h;
  not_a = λ k. strict_no_end s r s.a h (inl refl) k;
  not_b = λ k. strict_no_end s r s.b h (inr refl) k;
}

-- ---- the way between two strict places has strict places alone
strict_left : (a m n v w x y : ℕ) → 0 < m + n → a * v < x → a * w < y → a * (m * v + n * w) < m * x + n * y
strict_left a zero (suc n) v w x y h k l = let p = times 0 (suc n) (a * w) y (omega arith) l in omega arith
strict_left a (suc m) n v w x y h k l =
    let p = times 0 (suc m) (a * v) x (omega arith) k in
    let q = times_le 0 n (a * w) y (omega arith) (omega arith) in
    omega arith
strict_left a zero zero v w x y h k l = absurd (omega arith)

strict_right : (b m n v w x y : ℕ) → 0 < m + n → x < b * v → y < b * w → m * x + n * y < b * (m * v + n * w)
strict_right b zero (suc n) v w x y h k l = let p = times 0 (suc n) y (b * w) (omega arith) l in omega arith
strict_right b (suc m) n v w x y h k l =
    let p = times 0 (suc m) x (b * v) (omega arith) k in
    let q = times_le 0 n y (b * w) (omega arith) (omega arith) in
    omega arith
strict_right b zero zero v w x y h k l = absurd (omega arith)

same_mean : (a m n v w x y : ℕ) → x ≡ a * v → y ≡ a * w → m * x + n * y ≡ a * (m * v + n * w)
same_mean a m n v w x y e f = let e1 = ap (λ (k : ℕ). m * k) e in let f1 = ap (λ (k : ℕ). n * k) f in omega arith

mean_line : (s : GridSegment) (r q : RationalPoint) (m n : ℕ) → leftward s r ≡ rightward s r
    → leftward s q ≡ rightward s q → leftward s (mean m r n q) ≡ rightward s (mean m r n q)
mean_line s r q m n e f = let e1 = ap (λ (k : ℕ). m * k) e in let f1 = ap (λ (k : ℕ). n * k) f in omega arith

apart_columns : (a b w x : ℕ) → a ≡ b → a * w < x → x < b * w → ⊥
apart_columns a b w x e h k = let e1 = ap (λ (j : ℕ). j * w) e in omega arith

strict_mean : (s : GridSegment) (r q : RationalPoint) (m n : ℕ) → IsStrict s r → IsStrict s q → 0 < m + n
    → IsStrict s (mean m r n q)
strict_mean s r q m n h k l = record {
  real = mean_real m n r q h.real k.real l;
  line = mean_line s r q m n h.line k.line;
  between = elim h.between [
    | inl b ↦ elim k.between [
      | inl c ↦ inl (strict_left s.a.x m n r.w q.w r.x q.x l b.0 c.0, strict_right s.b.x m n r.w q.w r.x q.x l b.1 c.1)
      | inr c ↦ absurd (apart_columns s.a.x s.b.x r.w r.x c.0 b.0 b.1)
    ]
    | inr b ↦ elim k.between [
      | inl c ↦ absurd (apart_columns s.a.x s.b.x q.w q.x b.0 c.0 c.1)
      | inr c ↦ inr (
        b.0,
        same_mean s.a.x m n r.w q.w r.x q.x b.1 c.1,
        strict_left s.a.y m n r.w q.w r.y q.y l b.2 c.2,
        strict_right s.b.y m n r.w q.w r.y q.y l b.3 c.3,
      )
    ]
  ];
}

-- ---- in a realm
-- no other segment has the place
pub strict_alone : (L : List GridSegment) (s t : GridSegment) (r : RationalPoint) → MeetInEnds L → Contains L s
    → Contains L t → s ≢ t → IsStrict s r → IsPlace t r → ⊥
strict_alone L s t r realm hs ht other h k =
    let c = realm.only_ends_in_common s t r hs ht other (strict_place s r h) k in
    strict_no_end s r c.0 h c.1 c.3

-- another segment is apart from the way between two places strictly inside s
pub apart_along : (L : List GridSegment) (s t : GridSegment) (r q : RationalPoint) → MeetInEnds L → Contains L s
    → Contains L t → s ≢ t → IsStrict s r → IsStrict s q → IsApart t r q
apart_along L s t r q realm hs ht other h k m n l = strict_alone L s t (mean m r n q) realm hs ht other (strict_mean s r q m n h k l)

still : (s : GridSegment) (r q : RationalPoint) (m : ℕ) → 0 < m → IsStrict s r → IsStrict s (mean m r 0 q)
still s r q m l h = record {
  real = real r.w q.w h.real;
  line = line;
  between = elim h.between [
    | inl b ↦ inl (left s.a.x r.w r.x q.w q.x b.0, right s.b.x r.w r.x q.w q.x b.1)
    | inr b ↦ inr (b.0, at s.a.x r.w r.x q.w q.x b.1, left s.a.y r.w r.y q.w q.y b.2, right s.b.y r.w r.y q.w q.y b.3)
  ];
}
  where
    real : (w v : ℕ) → 0 < w → 0 < m * w + 0 * v
    real w v k = let p = times 0 m 0 w l k in omega arith

    line : leftward s (mean m r 0 q) ≡ rightward s (mean m r 0 q)
    line = let e1 = ap (λ (k : ℕ). m * k) h.line in omega arith

    left : (a w x v y : ℕ) → a * w < x → a * (m * w + 0 * v) < m * x + 0 * y
    left a w x v y k = let p = times 0 m (a * w) x l k in omega arith

    right : (b w x v y : ℕ) → x < b * w → m * x + 0 * y < b * (m * w + 0 * v)
    right b w x v y k = let p = times 0 m x (b * w) l k in omega arith

    at : (a w x v y : ℕ) → x ≡ a * w → m * x + 0 * y ≡ a * (m * w + 0 * v)
    at a w x v y e = let e1 = ap (λ (k : ℕ). m * k) e in omega arith

-- another segment is apart from a clear way that begins strictly inside s
pub apart_off : (L : List GridSegment) (s t : GridSegment) (r q : RationalPoint) → MeetInEnds L → Contains L s
    → Contains L t → s ≢ t → IsStrict s r → IsClearOf t r q → IsApart t r q
apart_off L s t r q realm hs ht other h clear m zero l k =
    strict_alone L s t (mean m r 0 q) realm hs ht other (still s r q m (omega arith) h) k
apart_off L s t r q realm hs ht other h clear m (suc n) l k = clear m (suc n) (omega arith) k
