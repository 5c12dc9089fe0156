-- There is one path that bends strictly to one side and has no grid point between itself and a line: said in any axis and of either side.
use Rattle.std.proofs.Common.{◌≡◌, ℤ, pos, ◌-ℤ◌, ◌*ℤ◌, neg_ℤ, ◌<ℤ◌, ◌≤ℤ◌, List, [], ◌∷◌, refl, sym, ap, subst, ◌∙◌, arith, inl, inr}
use Rattle.std.proofs.lemmas.Int.{ints}
use Rattle.std.specs.List.{AllByRecursion}
use Rattle.grid_base.specs.Point.{GridPoint}
use Rattle.grid_base.specs.Sides.{Side}
use Rattle.grid_base.proofs.Signs.{below_by, below_by_second, order, sign}
use Rattle.hook_chain.specs.Chains.{AllLinks, AllBends, RunsFrom}
use Rattle.hook_chain.proofs.Axes.{Axis, bend, bend_next, bend_swap, bend_same}

-- where a path lies: how far along it points are, the side to which it bends, and the line from a to b beyond which it stays
pub record Frame : Type 0 where
  pub along : GridPoint → ℤ
  pub side : Side
  pub a : GridPoint
  pub b : GridPoint

-- what the frame's bends say of how far along points are
pub record IsSound (f : Frame) : Type 0 where
  pub next : (v w z q : GridPoint)
      → bend f.side w z q *ℤ (f.along w -ℤ f.along v)
      ≡ (bend f.side v w q *ℤ (f.along z -ℤ f.along w)) -ℤ (bend f.side v w z *ℤ (f.along q -ℤ f.along w))
  pub same : (v w q : GridPoint) → f.along v <ℤ f.along w → f.along w ≡ f.along q → bend f.side v w q ≡ pos 0 → w ≡ q

-- the frame of an axis, seen from a side of the line from a to b
abbrev pub frame : Axis → Side → GridPoint → GridPoint → Frame
frame axis side a b = record { along = axis.along; side = side; a = a; b = b }

pub frame_sound : (axis : Axis) (side : Side) (a b : GridPoint) → IsSound (frame axis side a b)
frame_sound axis side a b = record { next = bend_next axis side; same = bend_same axis side }

-- how the way from v to w bends towards p, as the frame counts it
abbrev pub bends : Frame → GridPoint → GridPoint → GridPoint → ℤ
bends f v w p = bend f.side v w p

-- p is on the line from a to b or beyond it
abbrev pub IsBeyond : Frame → GridPoint → Type 0
IsBeyond f p = pos 0 ≤ℤ bends f f.a f.b p

abbrev pub IsForth : Frame → GridPoint → GridPoint → Type 0
IsForth f v w = f.along v <ℤ f.along w

abbrev pub BendsUp : Frame → GridPoint → GridPoint → GridPoint → Type 0
BendsUp f u v w = pos 0 <ℤ bends f u v w

-- no grid point beyond the line lies strictly under the link
abbrev pub IsBare : Frame → GridPoint → GridPoint → Type 0
IsBare f v w = (q : GridPoint) → f.along v ≤ℤ f.along q → f.along q ≤ℤ f.along w → IsBeyond f q → bends f v w q <ℤ pos 0 → ⊥

-- path leads from v to e as tautly as the grid points let it
pub record IsTaut (f : Frame) (v e : GridPoint) (path : List GridPoint) : Type 0 where
  pub leads : RunsFrom v e path
  pub onward : AllLinks (IsForth f) path
  pub bent : AllBends (BendsUp f) path
  pub beyond : AllByRecursion (IsBeyond f) path
  pub bare : AllLinks (IsBare f) path

-- the rest of a taut path is taut
pub rest_taut : (f : Frame) (v w e a : GridPoint) (path : List GridPoint) → IsTaut f v e (a ∷ w ∷ path) → IsTaut f w e (w ∷ path)
rest_taut f v w e a [] taut = record { leads = (refl, taut.leads.1.1); onward = tt; bent = tt; beyond = taut.beyond.1; bare = tt }
rest_taut f v w e a (z ∷ path) taut =
    record { leads = (refl, taut.leads.1.1); onward = taut.onward.1; bent = taut.bent.1; beyond = taut.beyond.1; bare = taut.bare.1 }

-- the end is not before any vertex
pub within_taut : (f : Frame) (v e w : GridPoint) (path : List GridPoint) → IsTaut f v e (v ∷ w ∷ path)
    → IsForth f v w × (f.along w ≤ℤ f.along e)
within_taut f v e w [] taut =
    (taut.onward.0, subst (λ (x : GridPoint). f.along w ≤ℤ f.along x) taut.leads.1.1 (omega (arith, ints)))
within_taut f v e w (z ∷ path) taut =
    let within = within_taut f w e z path (rest_taut f v w e v (z ∷ path) taut) in
    (taut.onward.0, omega (arith, ints, within.0, within.1))

-- no place beyond the line lies strictly under a taut path, nor under the line of its first link
none_under : (f : Frame) → IsSound f → (v w e : GridPoint) (path : List GridPoint) (q : GridPoint) → IsTaut f v e (v ∷ w ∷ path)
    → f.along v ≤ℤ f.along q → f.along q ≤ℤ f.along e → IsBeyond f q → bends f v w q <ℤ pos 0 → ⊥
none_under f sound v w e [] q taut from to beyond under =
    taut.bare.0 q from (subst (λ (x : GridPoint). f.along q ≤ℤ f.along x) (sym taut.leads.1.1) to) beyond under
none_under f sound v w e (z ∷ path) q taut from to beyond under = elim (order (f.along q) (f.along w)) [
  | inl at ↦ taut.bare.0 q from at beyond under
  | inr past ↦ none_under f sound w z e path q (rest_taut f v w e v (z ∷ path) taut) (omega (arith, ints)) to beyond
      (below_by (bends f w z q) (f.along w -ℤ f.along v) (bends f v w q) (f.along z -ℤ f.along w) (bends f v w z) (f.along q -ℤ f.along w)
      (sound.next v w z q) (omega (arith, ints, taut.onward.0)) (omega (arith, ints, taut.onward.1.0))
      (omega (arith, ints)) under taut.bent.0)
]

-- of two taut paths with one direction the first is not shorter
not_shorter : (f : Frame) → IsSound f → (v w x e : GridPoint) (path other : List GridPoint) → IsTaut f v e (v ∷ w ∷ path)
    → IsTaut f v e (v ∷ x ∷ other)
    → bends f v w x ≡ pos 0 → f.along w <ℤ f.along x → ⊥
not_shorter f sound v w x e [] other taut longer same less =
    let within = within_taut f v e x other longer in
    let at_end : f.along x ≤ℤ f.along w = subst (λ (y : GridPoint). f.along x ≤ℤ f.along y) (sym taut.leads.1.1) within.1 in
    omega (arith, ints)
not_shorter f sound v w x e (z ∷ path) other taut longer same less =
    let within = within_taut f v e x other longer in
    none_under f sound w z e path x (rest_taut f v w e v (z ∷ path) taut) (omega (arith, ints)) within.1 longer.beyond.1.0
    (below_by_second (bends f w z x) (f.along w -ℤ f.along v) (bends f v w x) (f.along z -ℤ f.along w) (bends f v w z)
    (f.along x -ℤ f.along w)
    (sound.next v w z x) (omega (arith, ints, taut.onward.0)) (omega (arith, ints, taut.onward.1.0)) (omega (arith, ints))
    (omega (arith, ints)) taut.bent.0)

-- two taut paths begin with one link
one_link : (f : Frame) → IsSound f → (v w x e : GridPoint) (path other : List GridPoint) → IsTaut f v e (v ∷ w ∷ path)
    → IsTaut f v e (v ∷ x ∷ other) → w ≡ x
one_link f sound v w x e path other first second =
    let to_w = within_taut f v e w path first in
    let to_x = within_taut f v e x other second in
    elim (sign (bends f v w x)) [
      | inl under ↦ absurd (none_under f sound v w e path x first (omega (arith, ints, to_x.0)) to_x.1 second.beyond.1.0 under)
      | inr rest ↦ elim rest [
        | inl on ↦ elim (order (f.along w) (f.along x)) [
          | inl at_most ↦ elim (order (f.along x) (f.along w)) [
            | inl at_least ↦ sound.same v w x to_w.0 (omega (arith, ints)) on
            | inr less ↦ absurd (not_shorter f sound v w x e path other first second on less)
          ]
          | inr less ↦ absurd (not_shorter f sound v x w e other path second first (rw bend_swap (ap neg_ℤ on)) less)
        ]
        | inr over ↦ absurd (none_under f sound v x e other w second (omega (arith, ints, to_w.0)) to_w.1 first.beyond.1.0
            (let swapped = bend_swap f.side v x w in omega (arith, ints)))
      ]
    ]

-- a path begins where it leads from
headed : (f : Frame) (v e a w : GridPoint) (path : List GridPoint) → IsTaut f v e (a ∷ w ∷ path) → IsTaut f v e (v ∷ w ∷ path)
headed f v e a w path taut = subst (λ (x : GridPoint). IsTaut f v e (x ∷ w ∷ path)) taut.leads.0 taut

-- no link leads from a point to itself
no_stay : (f : Frame) (v e b x : GridPoint) (path : List GridPoint) → v ≡ e → IsTaut f v e (b ∷ x ∷ path) → ⊥
no_stay f v e b x path stays taut =
    let within = within_taut f v e x path (headed f v e b x path taut) in
    let at_start : f.along x ≤ℤ f.along v = subst (λ (y : GridPoint). f.along x ≤ℤ f.along y) (sym stays) within.1 in
    omega (arith, ints, within.0)

-- there is one taut path
pub one_taut : (f : Frame) → IsSound f → (v e : GridPoint) (path other : List GridPoint) → IsTaut f v e path → IsTaut f v e other
    → path ≡ other
one_taut f sound v e [] other first second = absurd first.leads
one_taut f sound v e (a ∷ path) [] first second = absurd second.leads
one_taut f sound v e (a ∷ []) (b ∷ []) first second = ap (λ (x : GridPoint). x ∷ []) (first.leads.0 ∙ sym second.leads.0)
one_taut f sound v e (a ∷ []) (b ∷ x ∷ other) first second = absurd (no_stay f v e b x other (sym first.leads.0 ∙ first.leads.1) second)
one_taut f sound v e (a ∷ w ∷ path) (b ∷ []) first second = absurd (no_stay f v e a w path (sym second.leads.0 ∙ second.leads.1) first)
one_taut f sound v e (a ∷ w ∷ path) (b ∷ x ∷ other) first second =
    let first_from_v = headed f v e a w path first in
    let second_from_v = headed f v e b x other second in
    let same : w ≡ x = one_link f sound v w x e path other first_from_v second_from_v in
    let tail = one_taut f sound w e (w ∷ path) (x ∷ other) (rest_taut f v w e v path first_from_v)
    (subst (λ (y : GridPoint). IsTaut f y e (x ∷ other)) (sym same) (rest_taut f v x e v other second_from_v)) in
    (λ i. first.leads.0 i ∷ tail i) ∙ (λ i. sym second.leads.0 i ∷ x ∷ other)
