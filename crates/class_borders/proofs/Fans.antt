-- This file shows that the segments which begin at one point can be listed by their angles.
use Rattle.std.proofs.Common.{◌≡◌, ◌⊎◌, ℕ, zero, suc, ◌<◌, List, [], ◌∷◌, pos, ◌<ℤ◌, sym, subst, arith, inl, inr}
use Rattle.grid_base.specs.Point.{GridPoint}
use Rattle.grid_base.specs.Segment.{GridSegment}
use Rattle.grid_base.specs.Plane.{side_number_at}
use Rattle.grid_base.proofs.Signs.{sign}
use Rattle.grid_base.proofs.Ends.{same_or_not}
use Rattle.plane_cells.specs.Order.{at_point}
use Rattle.plane_cells.specs.Steps.{In, Each, Pairs}
use Rattle.plane_cells.proofs.Walks.{Position}
use Rattle.plane_cells.proofs.Lists.{each_map, each_in, each_at}
use Rattle.plane_cells.proofs.Angles.{angle_turned, angle_joined, not_on_one_line}

-- no two numbers stand for one segment
abbrev pub IsOnce : ℕ → (ℕ → GridSegment) → Type 0
IsOnce n seg = (i j : ℕ) → i < n → j < n → (seg i).a ≡ (seg j).a → (seg i).b ≡ (seg j).b → i ≡ j

-- the end of j is on the left of i
abbrev pub TurnsTo : (ℕ → GridSegment) → ℕ → ℕ → Type 0
TurnsTo seg i j = pos 0 <ℤ side_number_at (seg i) (at_point (seg j).b)

-- j is a segment that begins at v
abbrev pub BeginsAt : ℕ → (ℕ → GridSegment) → GridPoint → ℕ → Type 0
BeginsAt n seg v j = (j < n) × ((seg j).a ≡ v)

pub each_from : (P : ℕ → Type 0) (A : List ℕ) → ((i : ℕ) → In i A → P i) → Each P A
each_from P A h = each_map (λ i. In i A) P A h (each_in A)

-- G has i and what F has, by angles
record IsPut (seg : ℕ → GridSegment) (i : ℕ) (F G : List ℕ) : Type 0 where
  from : (j : ℕ) → In j G → (j ≡ i) ⊎ In j F
  to : (j : ℕ) → (j ≡ i) ⊎ In j F → In j G
  fan : Pairs (TurnsTo seg) G

turns_on : (B : List GridSegment) (n : ℕ) (seg : ℕ → GridSegment) (v : GridPoint) (i j : ℕ) (F : List ℕ) → Position B n seg
    → BeginsAt n seg v i → BeginsAt n seg v j → TurnsTo seg i j → Each (BeginsAt n seg v) F → Each (TurnsTo seg j) F
    → Each (TurnsTo seg i) F
turns_on B n seg v i j [] P bi bj t b f = tt
turns_on B n seg v i j (k ∷ F) P bi bj t b f = (
  angle_joined (seg i) (seg j) (seg k) v bi.1 bj.1 b.0.1 (P.slanted i bi.0) (P.slanted j bj.0) (P.slanted k b.0.0) t f.0,
  turns_on B n seg v i j F P bi bj t b.1 f.1,
)

in_of_two : (i j k : ℕ) (F G : List ℕ) → ((k ≡ i) ⊎ In k F → In k G) → (k ≡ i) ⊎ ((k ≡ j) ⊎ In k F) → (k ≡ j) ⊎ In k G
in_of_two i j k F G h (inl e) = inr (h (inl e))
in_of_two i j k F G h (inr (inl e)) = inl e
in_of_two i j k F G h (inr (inr m)) = inr (h (inr m))

two_of_in : (i j k : ℕ) (F G : List ℕ) → (In k G → (k ≡ i) ⊎ In k F) → (k ≡ j) ⊎ In k G → (k ≡ i) ⊎ ((k ≡ j) ⊎ In k F)
two_of_in i j k F G h (inl e) = inr (inl e)
two_of_in i j k F G h (inr m) = elim (h m) [ inl e ↦ inl e | inr r ↦ inr (inr r) ]

turns_put : (seg : ℕ → GridSegment) (i j k : ℕ) (F : List ℕ) → TurnsTo seg j i → ((m : ℕ) → In m F → TurnsTo seg j m)
    → (k ≡ i) ⊎ In k F → TurnsTo seg j k
turns_put seg i j k F t h (inl e) = subst (TurnsTo seg j) (sym e) t
turns_put seg i j k F t h (inr m) = h k m

put : (B : List GridSegment) (n : ℕ) (seg : ℕ → GridSegment) (v : GridPoint) (i : ℕ) (F : List ℕ) → Position B n seg → IsOnce n seg
    → BeginsAt n seg v i → Each (λ j. i ≡ j → ⊥) F → Each (BeginsAt n seg v) F → Pairs (TurnsTo seg) F → (G : List ℕ) × IsPut seg i F G
put B n seg v i [] P once bi d b s = (i ∷ [], record { from = λ j m. m; to = λ j m. m; fan = (tt, tt) })
put B n seg v i (j ∷ F) P once bi d b s = elim (sign (side_number_at (seg j) (at_point (seg i).b))) [
  | inl less ↦
      let t = angle_turned (seg j) (seg i) v b.0.1 bi.1 less in (
        i ∷ j ∷ F,
        record { from = λ k m. m; to = λ k m. m; fan = ((t, turns_on B n seg v i j F P bi b.0 t b.1 s.0), s) },
      )
  | inr o ↦ elim o [
    | inl flat ↦ absurd (not_on_one_line B n seg j i v P (λ e f. once j i b.0.0 bi.0 e f) b.0.0 bi.0 (λ e. d.0 (sym e)) b.0.1 bi.1 flat)
    | inr more ↦
        let rest = put B n seg v i F P once bi d.1 b.1 s.1 in (
          j ∷ rest.0,
          record {
            from = λ k m. two_of_in i j k F rest.0 (rest.1.from k) m;
            to = λ k m. in_of_two i j k F rest.0 (rest.1.to k) m;
            fan = (
              each_from (TurnsTo seg j) rest.0
                  (λ k m. turns_put seg i j k F more (λ m' a. each_at (TurnsTo seg j) F m' s.0 a) (rest.1.from k m)),
              rest.1.fan,
            );
          },
        )
  ]
]

-- ---- all segments that begin at v
pub record IsFanOf (seg : ℕ → GridSegment) (v : GridPoint) (k : ℕ) (F : List ℕ) : Type 0 where
  pub only : (i : ℕ) → In i F → (i < k) × ((seg i).a ≡ v)
  pub all : (i : ℕ) → i < k → (seg i).a ≡ v → In i F
  pub fan : Pairs (TurnsTo seg) F

last_or : (i k : ℕ) → i < suc k → (i ≡ k) ⊎ (i < k)
last_or i k h = grind arith

longer : (i k : ℕ) → i < k → i < suc k
longer i k h = omega (arith, h)

shorter : (k n : ℕ) → suc k < suc n → k < n
shorter k n h = omega (arith, h)

pub fan_of : (B : List GridSegment) (n : ℕ) (seg : ℕ → GridSegment) (v : GridPoint) (k : ℕ) → Position B n seg → IsOnce n seg
    → k < suc n → (F : List ℕ) × IsFanOf seg v k F
fan_of B n seg v zero P once h = ([], record { only = λ i m. absurd m; all = λ i l e. absurd (omega (arith, l)); fan = tt })
fan_of B n seg v (suc k) P once h =
    let rest = fan_of B n seg v k P once (longer k n (shorter k n h)) in
    elim (same_or_not (seg k).a v) [
      | inl here ↦
          let own : BeginsAt n seg v k = (shorter k n h, here) in
          let p = put B n seg v k rest.0 P once own
          (each_from (λ j. k ≡ j → ⊥) rest.0 (λ j m e. not_less j k (rest.1.only j m).0 e))
          (each_from (BeginsAt n seg v) rest.0 (λ j m. (below j k n (rest.1.only j m).0 (shorter k n h), (rest.1.only j m).1)))
          rest.1.fan in (
            p.0,
            record {
              only = λ i m. only_here rest.0 i (rest.1.only i) here (p.1.from i m);
              all = λ i l e. p.1.to i (elim (last_or i k l) [ inl same ↦ inl same | inr less ↦ inr (rest.1.all i less e) ]);
              fan = p.1.fan;
            },
          )
      | inr other ↦ (
        rest.0,
        record {
          only = λ i m. let o = rest.1.only i m in (longer i k o.0, o.1);
          all = λ i l e. elim (last_or i k l) [
            | inl same ↦ absurd (other (subst (λ (j : ℕ). (seg j).a ≡ v) same e))
            | inr less ↦ rest.1.all i less e
          ];
          fan = rest.1.fan;
        },
      )
    ]
  where
    not_less : (j k : ℕ) → j < k → k ≡ j → ⊥
    not_less j k l e = omega (arith, l, e)

    below : (j k n : ℕ) → j < k → k < n → j < n
    below j k n l h = omega (arith, l, h)

    only_here : (F : List ℕ) (i : ℕ) → (In i F → (i < k) × ((seg i).a ≡ v)) → (seg k).a ≡ v → (i ≡ k) ⊎ In i F
        → (i < suc k) × ((seg i).a ≡ v)
    only_here F i only here (inl e) = (omega (arith, e), subst (λ (j : ℕ). (seg j).a ≡ v) (sym e) here)
    only_here F i only here (inr m) = let o = only m in (longer i k o.0, o.1)
