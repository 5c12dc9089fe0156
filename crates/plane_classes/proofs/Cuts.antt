-- This file shows that a free straight way stays in one class, by cutting it at the walls.
use Rattle.std.proofs.Common.{◌≡◌, ◌⊎◌, ℕ, ◌+◌, ◌-◌, ◌*◌, ◌<◌, ◌≤◌, List, [], ◌∷◌}
use Rattle.std.proofs.Common.{ℤ, pos, ◌+ℤ◌, ◌*ℤ◌, ◌<ℤ◌, sym, ap, subst, arith, inl, inr}
use Rattle.std.specs.Prelude.{Contains}
use Rattle.std.proofs.lemmas.Int.{ints}
use Rattle.std.proofs.lemmas.List.Elements.{Contains-append_cases, Contains-push_cases}
use borrow.Author.Differences.{up, down}
use Rattle.grid_base.specs.Segment.{GridSegment}
use Rattle.grid_base.proofs.Signs.{order, not_both}
use Rattle.grid_base.specs.Plane.{Place, blend, IsFreeWay}
use Rattle.plane_classes.specs.Classes.{IsWall, IsWallBetween, Joins, AreInOneClass, WaysLead}
use Rattle.plane_classes.proofs.ClassLemmas.{one_class_joined, one_class_by_touch, one_class_back}
use Rattle.plane_classes.proofs.Ways.{way_back, way_first, way_last}

-- ---- the cut
-- e lies right of p and left of q: the weights of the place at e, and that it is there
abbrev pub after : Place → ℕ → ℕ
after p e = (e * p.w + down p.x) - up p.x

abbrev pub before : Place → ℕ → ℕ
before q e = up q.x - (down q.x + e * q.w)

pub at_cut : (p q : Place) (e : ℕ) → p.x <ℤ pos (e * p.w) → pos (e * q.w) <ℤ q.x
    → (blend (before q e) (after p e) p q).x ≡ pos (e * (before q e * p.w + after p e * q.w))
at_cut p q e h k =
    let d1 : after p e + up p.x ≡ e * p.w + down p.x = omega (arith, ints) in
    let d2 : before q e + (down q.x + e * q.w) ≡ up q.x = omega (arith, ints) in
    sum_at p.x q.x e p.w q.w (after p e) (before q e) d1 d2
  where
    sum_at : (x y : ℤ) (e v w a b : ℕ) → a + up x ≡ e * v + down x → b + (down y + e * w) ≡ up y
        → pos b *ℤ x +ℤ pos a *ℤ y ≡ pos (e * (b * v + a * w))
    sum_at x y e v w a b d1 d2 =
        let f = ap (λ (t : ℕ). b * t) d1 in
        let g = ap (λ (t : ℕ). a * t) d2 in
        omega (arith, ints)

pub some_before : (q : Place) (e : ℕ) → pos (e * q.w) <ℤ q.x → 0 < before q e
some_before q e h = omega (arith, ints)

some_after : (p q : Place) (e : ℕ) → p.x <ℤ pos (e * p.w) → 0 < before q e + after p e
some_after p q e h = omega (arith, ints)

-- ---- walls of the two halves
less_by : (m n w : ℕ) → m * w < n * w → m < n
less_by m n w h = grind arith

grown : (m n w : ℕ) → m < n → m * w ≤ n * w
grown m n w h = grind arith

-- a wall between p and the cut is one between p and q, and another than e
pub first_half : (p q r : Place) (e f : ℕ) → p.x <ℤ pos (e * p.w) → pos (e * q.w) <ℤ q.x → r.x ≡ pos (e * r.w) → IsWallBetween f p r
    → IsWallBetween f p q × (f < e)
first_half p q r e f h k c (inl w) =
    let l : f < e = less_by f e r.w (omega (arith, ints)) in
    let g = grown f e q.w l in
    (inl (w.0, omega (arith, ints)), l)
first_half p q r e f h k c (inr w) =
    let l : e < f = less_by e f r.w (omega (arith, ints)) in
    let g = grown e f p.w l in
    absurd (omega (arith, ints))

pub last_half : (p q r : Place) (e f : ℕ) → p.x <ℤ pos (e * p.w) → pos (e * q.w) <ℤ q.x → r.x ≡ pos (e * r.w) → IsWallBetween f r q
    → IsWallBetween f p q × (e < f)
last_half p q r e f h k c (inl w) =
    let l : e < f = less_by e f r.w (omega (arith, ints)) in
    let g = grown e f p.w l in
    (inl (omega (arith, ints), w.1), l)
last_half p q r e f h k c (inr w) =
    let l : f < e = less_by f e r.w (omega (arith, ints)) in
    let g = grown f e q.w l in
    absurd (omega (arith, ints))

-- ---- all cuts
abbrev pub In : ℕ → List ℕ → Type 0
In e [] = ⊥
In e (f ∷ W) = (e ≡ f) ⊎ In e W

-- all walls between p and q are in the list
abbrev Walls : List GridSegment → List ℕ → Place → Place → Type 0
Walls B W p q = (f : ℕ) → IsWall B f → IsWallBetween f p q → In f W

abbrev Led : List GridSegment → List ℕ → Type 0
Led B W = (p q : Place) → IsFreeWay B p q → Walls B W p q → AreInOneClass B p q

pub other : (f e : ℕ) (W : List ℕ) → In f (e ∷ W) → (f ≡ e → ⊥) → In f W
other f e W (inl h) n = absurd (n h)
other f e W (inr h) n = h

pub turned : (f : ℕ) (p q : Place) → IsWallBetween f q p → IsWallBetween f p q
turned f p q (inl h) = inr h
turned f p q (inr h) = inl h

cut : (B : List GridSegment) (e : ℕ) (W : List ℕ) → Led B W → (p q : Place) → IsFreeWay B p q → Walls B (e ∷ W) p q
    → p.x <ℤ pos (e * p.w) → pos (e * q.w) <ℤ q.x → AreInOneClass B p q
cut B e W led p q way walls h k =
    let a = before q e in
    let b = after p e in
    let r : Place = blend a b p q in
    let some = some_after p q e h in
    let c : r.x ≡ pos (e * r.w) = at_cut p q e h k in
    one_class_joined B p r q
    (led p r (way_first B p q a b some way) (λ f w t. let g = first_half p q r e f h k c t in other f e W (walls f w g.0)
    (λ s. less_not f e g.1 s)))
    (led r q (way_last B p q a b some way) (λ f w t. let g = last_half p q r e f h k c t in other f e W (walls f w g.0)
    (λ s. less_not e f g.1 (sym s))))
  where
    less_not : (m n : ℕ) → m < n → m ≡ n → ⊥
    less_not m n h e = omega arith

-- whether the wall at e lies between, which way round, or not at all
pub data Cut (e : ℕ) (p q : Place) : Type 0 where
  Onward : p.x <ℤ pos (e * p.w) → pos (e * q.w) <ℤ q.x → Cut e p q
  Back : q.x <ℤ pos (e * q.w) → pos (e * p.w) <ℤ p.x → Cut e p q
  No : (IsWallBetween e p q → ⊥) → Cut e p q

pub side_of_wall : (e : ℕ) (p q : Place) → Cut e p q
side_of_wall e p q = elim (order (pos (e * p.w)) p.x) [
  | inl h ↦ elim (order (pos (e * q.w)) q.x) [
    | inl k ↦ No (λ w. elim w [ inl t ↦ not_both _ _ t.0 h | inr t ↦ not_both _ _ t.0 k ])
    | inr k ↦ elim (order p.x (pos (e * p.w))) [
      | inl n ↦ No (λ w. elim w [ inl t ↦ not_both _ _ t.0 h | inr t ↦ not_both _ _ t.1 n ])
      | inr n ↦ Back k n
    ]
  ]
  | inr h ↦ elim (order q.x (pos (e * q.w))) [
    | inl n ↦ No (λ w. elim w [ inl t ↦ not_both _ _ t.1 n | inr t ↦ no_two p e h t.1 ])
    | inr n ↦ Onward h n
  ]
]
  where
    no_two : (p : Place) (e : ℕ) → p.x <ℤ pos (e * p.w) → pos (e * p.w) <ℤ p.x → ⊥
    no_two p e h k = omega (arith, ints)

led : (B : List GridSegment) → (W : List ℕ) → Led B W
led B [] p q way walls = one_class_by_touch B p q (record { no_wall_between = walls; no_segment_between = way })
led B (e ∷ W) p q way walls = elim (side_of_wall e p q) [
  | Onward h k ↦ cut B e W (led B W) p q way walls h k
  | Back h k ↦ one_class_back B q p (cut B e W (led B W) q p (way_back B p q way) (λ f w b. walls f w (turned f p q b)) h k)
  | No n ↦ led B W p q way (λ f w b. other f e W (walls f w b) (λ s. n (subst (λ (t : ℕ). IsWallBetween t p q) s b)))
]

abbrev pub walls_of : List GridSegment → List ℕ
walls_of [] = []
walls_of (s ∷ B) = s.a.x ∷ s.b.x ∷ walls_of B

all_walls : (B : List GridSegment) (s : GridSegment) → Contains B s → In s.a.x (walls_of B) × In s.b.x (walls_of B)
all_walls [] s m = absurd (none m)
  where
    none : Contains {X = GridSegment} [] s → ⊥
    none m = omega (arith, m.1)
all_walls (t ∷ B) s m = elim (Contains-append_cases (t ∷ []) B s m) [
  | inl h ↦ elim (Contains-push_cases [] t s h) [
    | inl n ↦ absurd (omega (arith, n.1))
    | inr e ↦ (inl (ap (λ (u : GridSegment). u.a.x) (sym e)), inr (inl (ap (λ (u : GridSegment). u.b.x) (sym e))))
  ]
  | inr h ↦ let r = all_walls B s h in (inr (inr r.0), inr (inr r.1))
]

pub wall_listed : (B : List GridSegment) (e : ℕ) → IsWall B e → In e (walls_of B)
wall_listed B e w = elim w.2 [
  | inl h ↦ subst (λ (t : ℕ). In t (walls_of B)) (sym h) (all_walls B w.0 w.1).0
  | inr h ↦ subst (λ (t : ℕ). In t (walls_of B)) (sym h) (all_walls B w.0 w.1).1
]

-- the ends of a straight way that meets no segment are in one class
pub one_class_by_way : (B : List GridSegment) (p q : Place) → IsFreeWay B p q → AreInOneClass B p q
one_class_by_way B p q way = led B (walls_of B) p q way (λ e w b. wall_listed B e w)

-- ---- ways and cells
-- free ways that lead over places stay in one class
pub ways_lead : (B : List GridSegment) (p : Place) (over : List Place) (q : Place) → WaysLead B p over q → AreInOneClass B p q
ways_lead B p [] q way = one_class_by_way B p q way
ways_lead B p (r ∷ over) q (first, rest) = one_class_joined B p r q (one_class_by_way B p r first) (ways_lead B r over q rest)

-- and cells that are joined lead by free ways
pub class_leads : (B : List GridSegment) (p : Place) (between : List Place) (q : Place) → Joins B p between q → WaysLead B p between q
class_leads B p [] q touch = touch.no_segment_between
class_leads B p (r ∷ between) q (touch, rest) = (touch.no_segment_between, class_leads B r between q rest)
