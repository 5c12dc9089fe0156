-- This file shows that what the public calls ask of a border is what the sweep stands on.
use Rattle.std.proofs.Common.{◌≡◌, ◌↔◌, ℕ, zero, suc, ◌<◌, ◌≤◌}
use Rattle.std.proofs.Common.{List, [], ◌∷◌, length, All, refl, ap, sym, subst, arith, inl, inr}
use Rattle.std.specs.Prelude.{AllPairs, Contains}
use Rattle.std.proofs.lemmas.List.Elements.{All-contains}
use Rattle.grid_base.specs.Grid.{grid_side}
use Rattle.grid_base.specs.Segment.{GridSegment, IsSegmentBefore}
use Rattle.grid_base.specs.Border.{AreNoded}
use Rattle.grid_base.proofs.Elements.{Contains-cases}
use Rattle.grid_base.proofs.Ends.{not_before_itself, columns_in_order as columns_in_order_of}
use Rattle.grid_base.proofs.Signs.{three_ways}
use Rattle.plane_classes.proofs.Shears.{columns_in_order}
use Rattle.plane_classes.proofs.RealmPlaces.{meet_in_ends}
use Rattle.plane_cells.specs.Numbered.{nowhere, numbered}
use Rattle.segment_lists.specs.OnGrid.{IsOnGrid}
use Rattle.plane_cells.specs.Sheared.{AreOfRealm}
use Rattle.plane_cells.specs.Scan.{column_of, AreAscending}
use Rattle.plane_cells.specs.Swept.{AreOthers}
use Rattle.plane_cells.proofs.ShearedRealm.{numbered_in}
use Rattle.plane_cells.proofs.OtherOfRealm.{other_of_realm}

not_twice : (s t : GridSegment) → s ≡ t → IsSegmentBefore s t → ⊥
not_twice s t e (inl h) = not_before_itself s.a t.a (ap (λ (u : GridSegment). u.a) e) h
not_twice s t e (inr h) = not_before_itself s.b t.b (ap (λ (u : GridSegment). u.b) e) h.1

pub once_in : (B : List GridSegment) → AllPairs IsSegmentBefore B → (i j : ℕ) → i < length B → j < length B
    → numbered B i ≡ numbered B j → i ≡ j
once_in B pairs i j hi hj e = elim (three_ways i j) [
  | inl l ↦ absurd (not_twice (numbered B i) (numbered B j) e (pairs i j nowhere l hj))
  | inr o ↦ elim o [
    | inl l ↦ l
    | inr l ↦ absurd (not_twice (numbered B j) (numbered B i) (sym e) (pairs j i nowhere l hi))
  ]
]

pub of_realm : (B U : List GridSegment) → AreNoded U → ((s : GridSegment) → Contains B s → Contains U s) → AllPairs IsSegmentBefore B
    → All IsOnGrid B → AreOfRealm B
of_realm B U noded part pairs grid = record {
  on_grid = λ s there. All-contains IsOnGrid B s grid there;
  only_ends_in_common = λ s t q s_there t_there other on_s on_t. meet_in_ends s t q on_s.real
      (λ r at_s at_t. noded.only_ends_in_common s t r (part s s_there) (part t t_there) other at_s at_t) on_s on_t;
  once = once_in B pairs;
}

-- with one more segment
realm_with : (B U : List GridSegment) (t : GridSegment) → AreNoded U → ((s : GridSegment) → Contains B s → Contains U s) → Contains U t
    → IsOnGrid t → (Contains B t → ⊥) → AreOfRealm B → AreOfRealm (t ∷ B)
realm_with B U t noded part t_there grid fresh r = record {
  on_grid = λ s there. elim (Contains-cases t B s there) [ inl e ↦ subst IsOnGrid e grid | inr m ↦ r.on_grid s m ];
  only_ends_in_common = λ s u q s_there u_there other on_s on_u. meet_in_ends s u q on_s.real
      (λ v at_s at_u. noded.only_ends_in_common s u v (among s s_there) (among u u_there) other at_s at_u) on_s on_u;
  once = once;
}
  where
    among : (s : GridSegment) → Contains (t ∷ B) s → Contains U s
    among s there = elim (Contains-cases t B s there) [ inl e ↦ subst (Contains U) e t_there | inr m ↦ part s m ]

    once : (i j : ℕ) → i < length (t ∷ B) → j < length (t ∷ B) → numbered (t ∷ B) i ≡ numbered (t ∷ B) j → i ≡ j
    once zero zero hi hj e = refl
    once zero (suc j) hi hj e = absurd (fresh (subst (Contains B) (sym e) (numbered_in B j (omega (arith, hj)))))
    once (suc i) zero hi hj e = absurd (fresh (subst (Contains B) e (numbered_in B i (omega (arith, hi)))))
    once (suc i) (suc j) hi hj e = ap (λ (n : ℕ). suc n) (r.once i j (omega (arith, hi)) (omega (arith, hj)) e)

column_up : (s t : GridSegment) → s.a.y < grid_side → IsSegmentBefore s t → column_of s.a ≤ column_of t.a
column_up s t low (inl h) = let c = columns_in_order grid_side s.a t.a low h in omega (arith, c)
column_up s t low (inr h) = let c = ap column_of h.0 in omega (arith, c)

ascending_by : (B : List GridSegment) → AllPairs IsSegmentBefore B → ((k : ℕ) → k < length B → (numbered B k).a.y < grid_side) → AreAscending B
ascending_by B pairs low i j le hj = elim (three_ways i j) [
  | inl l ↦ column_up (numbered B i) (numbered B j) (low i (omega (arith, l, hj))) (pairs i j nowhere l hj)
  | inr o ↦ elim o [
    | inl l ↦ let c = ap (λ (k : ℕ). column_of (numbered B k).a) l in omega (arith, c)
    | inr l ↦ absurd (omega (arith, l, le))
  ]
]

pub ascending_of : (B : List GridSegment) → AllPairs IsSegmentBefore B → All IsOnGrid B → AreAscending B
ascending_of B pairs grid = ascending_by B pairs (λ k h. (All-contains IsOnGrid B (numbered B k) grid (numbered_in B k h)).row)

-- no segment is asked for
pub no_others : (B : List GridSegment) → AreOthers B []
no_others B = record {
  ascending = λ i j le hj. absurd (omega (arith, hj));
  order = λ k h. absurd (omega (arith, h));
  on_grid = λ k h. absurd (omega (arith, h));
  other = λ k h. absurd (omega (arith, h));
}

-- the segments of a list that aren't of the border can be asked for
pub others_of : (U B L T : List GridSegment) → AreNoded U → ((s : GridSegment) → Contains B s → Contains U s)
    → ((s : GridSegment) → Contains L s → Contains U s) → AllPairs IsSegmentBefore B → All IsOnGrid B → All IsOnGrid L
    → AllPairs IsSegmentBefore T → ((s : GridSegment) → Contains T s ↔ (Contains L s × (Contains B s → ⊥))) → AreOthers B T
others_of U B L T noded part list_part pairs grid list_grid up members = record {
  ascending = λ i j le hj. ascends i j le hj;
  order = λ k h. (on_grid k h).order;
  on_grid = λ k h. let g = on_grid k h in (less_on _ _ (columns_in_order_of (numbered T k).a (numbered T k).b g.order) g.end_column, g.row);
  other = λ k h. other_of_realm B (numbered T k) (realm_with B U (numbered T k) noded part
      (list_part (numbered T k) (member k h).0) (on_grid k h) (member k h).1 (of_realm B U noded part pairs grid));
}
  where
    member : (k : ℕ) → k < length T → Contains L (numbered T k) × (Contains B (numbered T k) → ⊥)
    member k h = (members (numbered T k)).0 (numbered_in T k h)

    on_grid : (k : ℕ) → k < length T → IsOnGrid (numbered T k)
    on_grid k h = All-contains IsOnGrid L (numbered T k) list_grid (member k h).0

    less_on : (m n : ℕ) → m ≤ n → n < grid_side → m < grid_side
    less_on m n h k = omega (arith, h, k)

    ascends : AreAscending T
    ascends = ascending_by T up (λ k h. (on_grid k h).row)
