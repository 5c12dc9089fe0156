-- This file shows that there is a first end behind a wall, or none.
use Rattle.std.proofs.Common.{◌≡◌, ◌⊎◌, ℕ, zero, suc, ◌<◌, ◌≤◌, refl, sym, subst, arith, inl, inr}
use Rattle.grid_base.specs.Point.{GridPoint}
use Rattle.grid_base.specs.Segment.{GridSegment, IsEnd}
use Rattle.grid_base.proofs.Signs.{natural_order}
use Rattle.plane_cells.specs.Walks.{Bound, None, Wall, IfWall, HasWall}

-- the points of Q have a first one behind the wall, or none is behind it
pub data IsSought (Q : GridPoint → Type 0) (lo : Bound) : Type 0 where
  NoneBehind : ((p : GridPoint) → Q p → HasWall (λ c. p.x ≤ c) lo) → IsSought Q lo
  FirstBehind : (v : GridPoint) → Q v → IfWall (λ c. c < v.x) lo → ((p : GridPoint) → Q p → HasWall (λ c. p.x ≤ c) lo ⊎ (v.x ≤ p.x))
      → IsSought Q lo

behind_or : (lo : Bound) (x : ℕ) → HasWall (λ c. x ≤ c) lo ⊎ IfWall (λ c. c < x) lo
behind_or None x = inr tt
behind_or (Wall c) x = natural_order x c

-- one point more
with_one : (Q : GridPoint → Type 0) (lo : Bound) (r : GridPoint) → IsSought Q lo → IsSought (λ p. (p ≡ r) ⊎ Q p) lo
with_one Q lo r (NoneBehind h) = elim (behind_or lo r.x) [
  | inl past ↦ NoneBehind (λ p q. elim q [ inl e ↦ subst (λ (u : GridPoint). HasWall (λ c. u.x ≤ c) lo) (sym e) past | inr m ↦ h p m ])
  | inr is ↦ FirstBehind r (inl refl) is
      (λ p q. elim q [ inl e ↦ inr (subst (λ (u : GridPoint). r.x ≤ u.x) (sym e) (omega arith)) | inr m ↦ inl (h p m) ])
]
with_one Q lo r (FirstBehind v m l h) = elim (behind_or lo r.x) [
  | inl past ↦ FirstBehind v (inr m) l
      (λ p q. elim q [ inl e ↦ inl (subst (λ (u : GridPoint). HasWall (λ c. u.x ≤ c) lo) (sym e) past) | inr k ↦ h p k ])
  | inr is ↦ elim (natural_order v.x r.x) [
    | inl first ↦ FirstBehind v (inr m) l
        (λ p q. elim q [ inl e ↦ inr (subst (λ (u : GridPoint). v.x ≤ u.x) (sym e) first) | inr k ↦ h p k ])
    | inr sooner ↦ FirstBehind r (inl refl) is
        (λ p q. elim q [
          | inl e ↦ inr (subst (λ (u : GridPoint). r.x ≤ u.x) (sym e) (omega arith))
          | inr k ↦ elim (h p k) [ inl past ↦ inl past | inr later ↦ inr (omega (arith, later, sooner)) ]
        ])
  ]
]

alike : (Q R : GridPoint → Type 0) (lo : Bound) → ((p : GridPoint) → Q p → R p) → ((p : GridPoint) → R p → Q p) → IsSought Q lo
    → IsSought R lo
alike Q R lo to from (NoneBehind h) = NoneBehind (λ p r. h p (from p r))
alike Q R lo to from (FirstBehind v m l h) = FirstBehind v (to v m) l (λ p r. h p (from p r))

-- p is an end of one of the first k segments
abbrev pub IsEndBelow : (ℕ → GridSegment) → ℕ → GridPoint → Type 0
IsEndBelow seg k p = (i : ℕ) × (i < k) × IsEnd p (seg i)

last_or : (i k : ℕ) → i < suc k → (i ≡ k) ⊎ (i < k)
last_or i k h = grind arith

more_ends : (seg : ℕ → GridSegment) (k : ℕ) (p : GridPoint) → (p ≡ (seg k).a) ⊎ ((p ≡ (seg k).b) ⊎ IsEndBelow seg k p)
    → IsEndBelow seg (suc k) p
more_ends seg k p (inl e) = (k, omega arith, inl e)
more_ends seg k p (inr (inl e)) = (k, omega arith, inr e)
more_ends seg k p (inr (inr m)) = (m.0, omega (arith, m.1), m.2)

ends_more : (seg : ℕ → GridSegment) (k : ℕ) (p : GridPoint) → IsEndBelow seg (suc k) p
    → (p ≡ (seg k).a) ⊎ ((p ≡ (seg k).b) ⊎ IsEndBelow seg k p)
ends_more seg k p m = elim (last_or m.0 k m.1) [
  | inl same ↦ own (subst (λ (i : ℕ). IsEnd p (seg i)) same m.2)
  | inr less ↦ inr (inr (m.0, less, m.2))
]
  where
    own : IsEnd p (seg k) → (p ≡ (seg k).a) ⊎ ((p ≡ (seg k).b) ⊎ IsEndBelow seg k p)
    own (inl e) = inl e
    own (inr e) = inr (inl e)

pub first_end : (seg : ℕ → GridSegment) (lo : Bound) (k : ℕ) → IsSought (IsEndBelow seg k) lo
first_end seg lo zero = NoneBehind (λ p m. absurd (omega (arith, m.1)))
first_end seg lo (suc k) =
    alike (λ p. (p ≡ (seg k).a) ⊎ ((p ≡ (seg k).b) ⊎ IsEndBelow seg k p)) (IsEndBelow seg (suc k)) lo (more_ends seg k) (ends_more seg k)
    (with_one (λ p. (p ≡ (seg k).b) ⊎ IsEndBelow seg k p) lo (seg k).a (with_one (IsEndBelow seg k) lo (seg k).b (first_end seg lo k)))
