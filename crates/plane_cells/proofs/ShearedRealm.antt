-- This file shows that the segments of a realm are in the position of a sweep when the plane is sheared.
use Rattle.std.proofs.Common.{◌≡◌, ◌⊎◌, ℕ, zero, suc, ◌+◌, ◌*◌, ◌<◌, List, [], ◌∷◌, map, length, ℤ, pos, negsuc, ◌-ℤ◌, ◌+ℤ◌, ◌*ℤ◌}
use Rattle.std.proofs.Common.{refl, sym, ap, subst, ◌∙◌, arith, inl, inr}
use Rattle.std.specs.Prelude.{Contains}
use Rattle.std.proofs.lemmas.Int.{ints}
use borrow.Author.Differences.{up, down}
use Rattle.std.proofs.lemmas.List.Elements.{Contains-append_cases, Contains-append_left, Contains-append_right}
use Rattle.grid_base.specs.Grid.{grid_side}
use Rattle.grid_base.specs.Point.{GridPoint, IsBefore}
use Rattle.grid_base.specs.Segment.{GridSegment}
use Rattle.grid_base.specs.Segment.{IsEnd}
use Rattle.grid_base.proofs.Turns.{times, times_le}
use Rattle.grid_base.specs.Plane.{Place, Holds, IsAtPoint, blend}
use Rattle.grid_base.proofs.Signs.{on_by_zero}
use Rattle.plane_classes.proofs.Blends.{weighed, height_blend, spans_blend}
use Rattle.plane_classes.proofs.Ways.{held_by_line, zero_by}
use Rattle.plane_classes.proofs.PastOthers.{one_of}
use Rattle.plane_classes.proofs.AtSegment.{itself}
use Rattle.plane_classes.specs.Shear.{sheared_place}
use Rattle.plane_classes.proofs.Shears.{times_difference, columns_in_order, held_before_shear, same_record, contains_map}
use Rattle.plane_classes.proofs.Unsheared.{unsheared_place, sheared_in}
use Rattle.plane_cells.proofs.Walks.{Position}
use Rattle.plane_classes.specs.Shear.{sheared_point, sheared}
use Rattle.plane_cells.specs.Numbered.{numbered}
use Rattle.plane_cells.specs.Sheared.{AreOfRealm}
use Rattle.plane_cells.proofs.InSlabs.{AreWithin}

-- ---- numbers and segments
pub numbered_in : (B : List GridSegment) (i : ℕ) → i < length B → Contains B (numbered B i)
numbered_in [] i h = absurd (omega (arith, h))
numbered_in (s ∷ B) zero h = Contains-append_left (s ∷ []) B s (itself s)
numbered_in (s ∷ B) (suc i) h = Contains-append_right (s ∷ []) B (numbered B i) (numbered_in B i (omega (arith, h)))

pub number_of : (B : List GridSegment) (s : GridSegment) → Contains B s → (i : ℕ) × (i < length B) × (numbered B i ≡ s)
number_of [] s m = absurd (omega (arith, m.1))
number_of (t ∷ B) s m = elim (Contains-append_cases (t ∷ []) B s m) [
  | inl h ↦ (zero, omega arith, one_of t s h)
  | inr h ↦ let r = number_of B s h in (suc r.0, omega (arith, r.1), r.2)
]

-- ---- a multiple of a place, through the shear and back
back_x : (n : ℕ) (x y : ℤ) → pos n *ℤ (x -ℤ y) +ℤ pos n *ℤ y ≡ weighed 0 n x x
back_x n x y =
    let e = times_difference n (up x + down y) (down x + up y) (x -ℤ y) (omega (arith, ints)) in
    let f = times_difference n (up x) (down x) x (omega (arith, ints)) in
    let g = times_difference n (up y) (down y) y (omega (arith, ints)) in
    omega (arith, ints)

back_y : (n : ℕ) (y : ℤ) → pos n *ℤ y ≡ weighed 0 n y y
back_y n y = omega (arith, ints)

back_w : (n w : ℕ) → n * w ≡ 0 * w + n * w
back_w n w = omega arith

pub back_and_there : (n : ℕ) (q : Place) → sheared_place n (unsheared_place n q) ≡ blend 0 n q q
back_and_there n q = same_record _ _ _ _ _ _ (back_x n q.x q.y) (back_y n q.y) (back_w n q.w)

held_multiple : (s : GridSegment) (n : ℕ) (q : Place) → 0 < n → s.a.x < s.b.x → Holds s q → Holds s (blend 0 n q q)
held_multiple s n q hn o h = held_by_line s (blend 0 n q q) (let t = times 0 n 0 q.w hn h.real in omega arith) o
    (spans_blend s 0 n q q h.across h.across) (on_by_zero _ (height_blend s 0 n q q ∙ rw (zero_by _ h.line) (omega (arith, ints))))

pub held_unsheared : (n : ℕ) (s : GridSegment) (q : Place) → IsBefore s.a s.b → s.a.y < n → 0 < n → Holds (sheared n s) q
    → Holds s (unsheared_place n q)
held_unsheared n s q o l hn h = held_before_shear n s (unsheared_place n q) o hn
    (subst (Holds (sheared n s)) (sym (back_and_there n q)) (held_multiple (sheared n s) n q hn (columns_in_order n s.a s.b l o) h))

cancel : (n a w : ℕ) (z : ℤ) → 0 < n → pos n *ℤ z ≡ pos (a * (n * w)) → z ≡ pos (a * w)
cancel n a w (pos m) h e = let f : n * m ≡ n * (a * w) = omega (arith, ints, e) in let g = same_by n m (a * w) h f in omega (arith, ints, g)
  where
    same_by : (n m k : ℕ) → 0 < n → n * m ≡ n * k → m ≡ k
    same_by n m k h e = grind arith
cancel n a w (negsuc m) h e = let t = times 0 n 0 (suc m) h (omega arith) in absurd (omega (arith, ints, e))

pub at_sheared : (n : ℕ) (p : GridPoint) (q : Place) → 0 < n → IsAtPoint (unsheared_place n q) p → IsAtPoint q (sheared_point n p)
at_sheared n p q hn e = let y = cancel n p.y q.w q.y hn e.1 in (omega (arith, ints, e.0, y), y)

end_sheared : (n : ℕ) (p : GridPoint) (s : GridSegment) → IsEnd p s → IsEnd (sheared_point n p) (sheared n s)
end_sheared n p s (inl e) = inl (ap (λ (v : GridPoint). sheared_point n v) e)
end_sheared n p s (inr e) = inr (ap (λ (v : GridPoint). sheared_point n v) e)

-- ---- columns
column_is : (n a b c d : ℕ) → b < n → d < n → n * a + b ≡ n * c + d → (a ≡ c) × (b ≡ d)
column_is n a b c d h k e = elim (three a c) [
  | inl l ↦ let t = times_le (suc a) c 0 n l (omega arith) in absurd (omega arith)
  | inr o ↦ elim o [
    | inl l ↦ (l, let f = ap (λ (x : ℕ). n * x) l in omega arith)
    | inr l ↦ let t = times_le (suc c) a 0 n l (omega arith) in absurd (omega arith)
  ]
]
  where
    three : (a c : ℕ) → (a < c) ⊎ ((a ≡ c) ⊎ (c < a))
    three a c = grind arith

pub one_point : (n : ℕ) (p r : GridPoint) → p.y < n → r.y < n → (sheared_point n p).x ≡ (sheared_point n r).x → p ≡ r
one_point n p r h k e = let f = column_is n p.x p.y r.x r.y h k e in ap (λ (x : ℕ). record { x = x; y = p.y }) f.0 ∙ ap
    (λ (y : ℕ). record { x = r.x; y = y }) f.1

-- an end of a sheared segment is a sheared end
from_end : (n : ℕ) (p : GridPoint) (s : GridSegment) → IsEnd p (sheared n s) → (v : GridPoint) × IsEnd v s × (p ≡ sheared_point n v)
from_end n p s (inl e) = (s.a, inl refl, e)
from_end n p s (inr e) = (s.b, inr refl, e)

-- what the numbers of the lemmas are
pub record IsRealmBelow (n : ℕ) (B : List GridSegment) : Type 0 where
  pub some : 0 < n
  pub order : (s : GridSegment) → Contains B s → IsBefore s.a s.b
  pub below : (s : GridSegment) → Contains B s → (s.a.y < n) × (s.b.x < n) × (s.b.y < n)
  pub only_ends_in_common : (s t : GridSegment) (q : Place) → Contains B s → Contains B t → (s ≡ t → ⊥) → Holds s q → Holds t q
      → (p : GridPoint) × IsEnd p s × IsEnd p t × IsAtPoint q p
  pub once : (i j : ℕ) → i < length B → j < length B → numbered B i ≡ numbered B j → i ≡ j

pub end_below : (n : ℕ) (B : List GridSegment) (s : GridSegment) (v : GridPoint) → IsRealmBelow n B → Contains B s → IsEnd v s → v.y < n
end_below n B s v r m (inl e) = let f = ap (λ (p : GridPoint). p.y) e in omega (arith, f, (r.below s m).0)
end_below n B s v r m (inr e) = let f = ap (λ (p : GridPoint). p.y) e in omega (arith, f, (r.below s m).2)

pub position : (n : ℕ) (B : List GridSegment) → IsRealmBelow n B → Position (map (sheared n) B) (length B) (λ i. sheared n (numbered B i))
position n B r = record {
  listed = λ i h. sheared_in n B (numbered B i) (numbered_in B i h);
  all = λ u c. let s = contains_map n B u c in let i = number_of B s.0 s.1 in (i.0, i.1, ap (λ (t : GridSegment). sheared n t) i.2 ∙ s.2);
  slanted = λ i h. let m = numbered_in B i h in columns_in_order n (numbered B i).a (numbered B i).b (r.below (numbered B i) m).0
      (r.order (numbered B i) m);
  apart = λ i j q hi hj d h k.
      let mi = numbered_in B i hi in let mj = numbered_in B j hj in
      let e = r.only_ends_in_common (numbered B i) (numbered B j) (unsheared_place n q) mi mj (λ f. d (r.once i j hi hj f))
      (held_unsheared n (numbered B i) q (r.order (numbered B i) mi) (r.below (numbered B i) mi).0 r.some h)
      (held_unsheared n (numbered B j) q (r.order (numbered B j) mj) (r.below (numbered B j) mj).0 r.some k) in
      (sheared_point n e.0, end_sheared n e.0 (numbered B i) e.1, end_sheared n e.0 (numbered B j) e.2, at_sheared n e.0 q r.some e.3);
  columns = λ i j p q hi hj h k e.
      let f = from_end n p (numbered B i) h in let g = from_end n q (numbered B j) k in
      let c : (sheared_point n f.0).x ≡ (sheared_point n g.0).x = sym (ap (λ (v : GridPoint). v.x) f.2) ∙ e ∙ ap
      (λ (v : GridPoint). v.x) g.2 in
      f.2 ∙ ap (λ (v : GridPoint). sheared_point n v)
      (one_point n f.0 g.0 (end_below n B (numbered B i) f.0 r (numbered_in B i hi) f.1)
      (end_below n B (numbered B j) g.0 r (numbered_in B j hj) g.1) c) ∙ sym g.2;
}

pub within : (n : ℕ) (B : List GridSegment) → IsRealmBelow n B → AreWithin (length B) (λ i. sheared n (numbered B i)) (n * n)
within n B r i h =
    let b = r.below (numbered B i) (numbered_in B i h) in
    let t = times_le (suc (numbered B i).b.x) n 0 n b.1 (omega arith) in omega (arith, b.2)

pub realm_below : (B : List GridSegment) → AreOfRealm B → IsRealmBelow grid_side B
realm_below B r = record {
  some = omega arith;
  order = λ s m. (r.on_grid s m).order;
  below = λ s m. let g = r.on_grid s m in (g.row, g.end_column, g.end_row);
  only_ends_in_common = r.only_ends_in_common;
  once = r.once;
}
