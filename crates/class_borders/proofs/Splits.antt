-- This file shows that a status is parted at the next vertex: what passes below it, what ends there, and what passes above it.
use Rattle.std.proofs.Common.{◌≡◌, ℕ, ◌<◌, List, [], ◌∷◌, ◌++◌, pos, ◌<ℤ◌, refl, ap, arith, inl, inr}
use Rattle.std.proofs.lemmas.Int.{ints}
use Rattle.grid_base.specs.Point.{GridPoint}
use Rattle.grid_base.specs.Segment.{GridSegment, IsEnd}
use Rattle.grid_base.specs.Plane.{side_number_at, side_at}
use Rattle.grid_base.proofs.Signs.{sign, left_by_sign}
use Rattle.grid_base.proofs.Ends.{same_or_not}
use Rattle.plane_cells.specs.Order.{at_point, IsFurtherDown}
use Rattle.plane_cells.specs.Steps.{Each, Pairs}
use Rattle.plane_cells.specs.Walks.{Bound, Wall, IfWall, IsAcross}
use Rattle.plane_cells.proofs.Walks.{Position}
use Rattle.plane_cells.proofs.Vertical.{left_sign}
use Rattle.plane_cells.proofs.AlongSegments.{left_of_lower}
use Rattle.plane_cells.proofs.Lists.{each_both}
use Rattle.plane_cells.proofs.Turning.{vertex_spans}
use Rattle.plane_cells.proofs.VertexParts.{all_above}

-- i passes below v, or above it
abbrev pub IsBelow : (ℕ → GridSegment) → GridPoint → ℕ → Type 0
IsBelow seg v i = pos 0 <ℤ side_number_at (seg i) (at_point v)

abbrev pub IsAbove : (ℕ → GridSegment) → GridPoint → ℕ → Type 0
IsAbove seg v i = side_number_at (seg i) (at_point v) <ℤ pos 0

pub record IsSplit (seg : ℕ → GridSegment) (v : GridPoint) (status : List ℕ) : Type 0 where
  pub A : List ℕ
  pub E : List ℕ
  pub C : List ℕ
  pub is : status ≡ A ++ (E ++ C)
  pub below : Each (IsBelow seg v) A
  pub ends : Each (λ i. (seg i).b ≡ v) E
  pub above : Each (IsAbove seg v) C

not_both : (n : ℕ) (seg : ℕ → GridSegment) (v : GridPoint) (i : ℕ) → (side_number_at (seg i) (at_point v) ≡ pos 0) → IsBelow seg v i → ⊥
not_both n seg v i e h = omega (arith, ints, e, h)

not_under : (n : ℕ) (seg : ℕ → GridSegment) (v : GridPoint) (i : ℕ) → IsAbove seg v i → IsBelow seg v i → ⊥
not_under n seg v i e h = omega (arith, ints, e, h)

-- what is further down than a segment below v is below v
below_too : (n : ℕ) (seg : ℕ → GridSegment) (lo : Bound) (v : GridPoint) (i j : ℕ) → IfWall (λ c. c < v.x) lo
    → IsAcross n seg lo (Wall v.x) i → IsAcross n seg lo (Wall v.x) j → IsFurtherDown seg i j → IsBelow seg v j → IsBelow seg v i
below_too n seg lo v i j l a b f h =
    left_sign _ (left_of_lower (side_at (seg j) (at_point v)) (side_at (seg i) (at_point v))
    (f.1 (at_point v) (omega arith) (vertex_spans n seg lo v i l a) (vertex_spans n seg lo v j l b)) (left_by_sign _ h))

none_below : (n : ℕ) (seg : ℕ → GridSegment) (lo : Bound) (v : GridPoint) (i : ℕ) (S : List ℕ) → IfWall (λ c. c < v.x) lo
    → IsAcross n seg lo (Wall v.x) i → Each (IsAcross n seg lo (Wall v.x)) S → Each (IsFurtherDown seg i) S → (IsBelow seg v i → ⊥)
    → Each (λ j. IsBelow seg v j → ⊥) S
none_below n seg lo v i S l a b f h =
    each_both (IsAcross n seg lo (Wall v.x)) (IsFurtherDown seg i) (λ j. IsBelow seg v j → ⊥) S
    (λ j c g k. h (below_too n seg lo v i j l a c g k)) b f

-- those that end at v come first
split_ends : (B : List GridSegment) (n : ℕ) (seg : ℕ → GridSegment) (lo : Bound) (v : GridPoint) (S : List ℕ) → Position B n seg
    → (u : (i : ℕ) × (i < n) × IsEnd v (seg i)) → IfWall (λ c. c < v.x) lo → Each (IsAcross n seg lo (Wall v.x)) S
    → Pairs (IsFurtherDown seg) S → Each (λ i. IsBelow seg v i → ⊥) S → IsSplit seg v S
split_ends B n seg lo v [] P u l a s d = record { A = []; E = []; C = []; is = refl; below = tt; ends = tt; above = tt }
split_ends B n seg lo v (j ∷ S) P u l a s d = elim (same_or_not (seg j).b v) [
  | inl here ↦
      let rest = split_rest B n seg lo v S P u l a.1 s.1 d.1 in record {
        A = [];
        E = j ∷ rest.0;
        C = rest.1;
        is = ap (λ (m : List ℕ). j ∷ m) rest.2;
        below = tt;
        ends = (here, rest.3);
        above = rest.4;
      }
  | inr other ↦ record {
    A = [];
    E = [];
    C = j ∷ S;
    is = refl;
    below = tt;
    ends = tt;
    above = all_above B n seg lo v (j ∷ S) P u l a s d (λ some e. other e);
  }
]
  where
    split_rest : (B : List GridSegment) (n : ℕ) (seg : ℕ → GridSegment) (lo : Bound) (v : GridPoint) (S : List ℕ) → Position B n seg
        → (u : (i : ℕ) × (i < n) × IsEnd v (seg i)) → IfWall (λ c. c < v.x) lo → Each (IsAcross n seg lo (Wall v.x)) S
        → Pairs (IsFurtherDown seg) S → Each (λ i. IsBelow seg v i → ⊥) S
        → (E : List ℕ) × (C : List ℕ) × (S ≡ E ++ C) × Each (λ i. (seg i).b ≡ v) E × Each (IsAbove seg v) C
    split_rest B n seg lo v [] P u l a s d = ([], [], refl, tt, tt)
    split_rest B n seg lo v (j ∷ S) P u l a s d = elim (same_or_not (seg j).b v) [
      | inl here ↦
          let rest = split_rest B n seg lo v S P u l a.1 s.1 d.1 in
          (j ∷ rest.0, rest.1, ap (λ (m : List ℕ). j ∷ m) rest.2, (here, rest.3), rest.4)
      | inr other ↦ ([], j ∷ S, refl, tt, all_above B n seg lo v (j ∷ S) P u l a s d (λ some e. other e))
    ]

pub split : (B : List GridSegment) (n : ℕ) (seg : ℕ → GridSegment) (lo : Bound) (v : GridPoint) (S : List ℕ) → Position B n seg
    → (u : (i : ℕ) × (i < n) × IsEnd v (seg i)) → IfWall (λ c. c < v.x) lo → Each (IsAcross n seg lo (Wall v.x)) S
    → Pairs (IsFurtherDown seg) S → IsSplit seg v S
split B n seg lo v [] P u l a s = record { A = []; E = []; C = []; is = refl; below = tt; ends = tt; above = tt }
split B n seg lo v (j ∷ S) P u l a s = elim (sign (side_number_at (seg j) (at_point v))) [
  | inl less ↦ stop (not_under n seg v j less)
  | inr o ↦ elim o [
    | inl flat ↦ stop (not_both n seg v j flat)
    | inr more ↦
        let rest = split B n seg lo v S P u l a.1 s.1 in record {
          A = j ∷ rest.A;
          E = rest.E;
          C = rest.C;
          is = ap (λ (m : List ℕ). j ∷ m) rest.is;
          below = (more, rest.below);
          ends = rest.ends;
          above = rest.above;
        }
  ]
]
  where
    stop : (IsBelow seg v j → ⊥) → IsSplit seg v (j ∷ S)
    stop h = split_ends B n seg lo v (j ∷ S) P u l a s (h, none_below n seg lo v j S l a.0 a.1 s.0 h)
