-- This file shows that a drawing has a violation or none, since it has finitely many points and pieces.
use Rattle.std.proofs.Common.{◌≡◌, ◌⊎◌, ℕ, ◌≤◌, min, max, List, [], ◌∷◌, Contains, Any, refl, sym, subst, ◌∙◌, inl, inr, arith}
use Rattle.grid_base.specs.Point.{GridPoint, IsBefore, InBox}
use Rattle.grid_base.specs.Segment.{GridSegment}
use Rattle.grid_base.specs.Sides.{Side, Left, On, Right, opposite, side}
use Rattle.grid_base.specs.Crossing.{Inside, IsParted, Cross}
use Rattle.grid_base.specs.Realm.Violation.{PointInside, TwoCross}
use Rattle.grid_base.specs.Drawing.{Drawing, IsLink, HasLink, IsPoint, IsPiece, HasViolation}
use Rattle.grid_base.specs.declared.original.Original.{Original}
use Rattle.grid_base.proofs.Collinear.{same_segment}
use Rattle.grid_base.proofs.Elements.{Contains-here, Contains-later, Contains-cases, Contains-nil}
use Rattle.grid_base.proofs.Ends.{same_or_not, three_points, not_before_itself}
use Rattle.grid_base.proofs.Orders.{IsBefore-asym}
use Rattle.realm_drawing.specs.Found.{SomeLink, IsViolated}
use Rattle.chain_laws.proofs.Elements.{Any-head, Any-later, Any-cons_cases, Any-nil, Any-weaker}

-- P holds, or it doesn't
abbrev Decided : Type 0 → Type 0
Decided P = P ⊎ (P → ⊥)

both : {P Q : Type 0} → Decided P → Decided Q → Decided (P × Q)
both (inl first) (inl second) = inl (first, second)
both (inl first) (inr fails) = inr (λ holds. fails holds.1)
both (inr fails) other = inr (λ holds. fails holds.0)

either : {P Q : Type 0} → Decided P → Decided Q → Decided (P ⊎ Q)
either (inl first) other = inl (inl first)
either (inr none) (inl second) = inl (inr second)
either (inr none) (inr no_other) = inr (λ one. elim one [ inl first ↦ none first | inr second ↦ no_other second ])

-- ---- a point and a segment
same_side : (r s : Side) → Decided (r ≡ s)
same_side Left Left = inl refl
same_side Left On = inr (λ e. cc)
same_side Left Right = inr (λ e. cc)
same_side On Left = inr (λ e. cc)
same_side On On = inl refl
same_side On Right = inr (λ e. cc)
same_side Right Left = inr (λ e. cc)
same_side Right On = inr (λ e. cc)
same_side Right Right = inl refl

not_decided : {P : Type 0} → Decided P → Decided (P → ⊥)
not_decided (inl holds) = inr (λ fails. fails holds)
not_decided (inr fails) = inl fails

at_most : (m n : ℕ) → Decided (m ≤ n)
at_most m n = grind arith

in_box : (v w p : GridPoint) → Decided (InBox v w p)
in_box v w p =
    both (both (at_most (min v.x w.x) p.x) (at_most p.x (max v.x w.x)))
    (both (at_most (min v.y w.y) p.y) (at_most p.y (max v.y w.y)))

is_inside : (t : GridSegment) (p : GridPoint) → Decided (Inside p t)
is_inside t p = elim (both (both (same_side (side t.a t.b p) On) (in_box t.a t.b p))
    (both (not_decided (same_or_not p t.a)) (not_decided (same_or_not p t.b)))) [
      | inl holds ↦ inl (record { on = record { line = holds.0.0; box = holds.0.1 }; not_a = holds.1.0; not_b = holds.1.1 })
      | inr fails ↦ inr (λ inside. fails ((inside.on.line, inside.on.box), (inside.not_a, inside.not_b)))
    ]

is_parted : (s : GridSegment) (p q : GridPoint) → Decided (IsParted s p q)
is_parted s p q = elim (both (not_decided (same_side (side s.a s.b p) On))
    (same_side (side s.a s.b q) (opposite (side s.a s.b p)))) [
      | inl holds ↦ inl (record { off = holds.0; across = holds.1 })
      | inr fails ↦ inr (λ parted. fails (parted.off, parted.across))
    ]

do_cross : (s t : GridSegment) → Decided (Cross s t)
do_cross s t = elim (both (is_parted s t.a t.b) (is_parted t s.a s.b)) [
  | inl holds ↦ inl (record { first = holds.0; second = holds.1 })
  | inr fails ↦ inr (λ cross. fails (cross.first, cross.second))
]

-- ---- lists
some_or_none : {X : Type 0} (P : X → Type 0) → ((x : X) → Decided (P x)) → (xs : List X) → Decided (Any P xs)
some_or_none P decide [] = inr (Any-nil P)
some_or_none P decide (x ∷ xs) = elim (decide x) [
  | inl here ↦ inl (Any-head P x xs here)
  | inr not_here ↦ elim (some_or_none P decide xs) [
    | inl later ↦ inl (Any-later P x xs later)
    | inr none ↦ inr (λ some. elim (Any-cons_cases P x xs some) [ inl here ↦ not_here here | inr later ↦ none later ])
  ]
]

-- what some element of a list has
witness : {X : Type 0} (P : X → Type 0) (xs : List X) → Any P xs → (x : X) × Contains xs x × P x
witness P [] some = absurd (Any-nil P some)
witness P (x ∷ xs) some = elim (Any-cons_cases P x xs some) [
  | inl here ↦ (x, Contains-here x xs, here)
  | inr later ↦ let found = witness P xs later in (found.0, Contains-later x xs found.0 found.1, found.2)
]

has_some : {X : Type 0} (P : X → Type 0) (xs : List X) (x : X) → Contains xs x → P x → Any P xs
has_some P [] x there holds = absurd (Contains-nil x there)
has_some P (y ∷ xs) x there holds = elim (Contains-cases y xs x there) [
  | inl same ↦ Any-head P y xs (subst P (sym same) holds)
  | inr later ↦ Any-later P y xs (has_some P xs x later holds)
]

-- ---- points and pieces of a drawing
module _ (d : Drawing) where
  -- P holds of some point
  abbrev SomePoint : (GridPoint → Type 0) → Type 0
  SomePoint P = (p : GridPoint) × IsPoint d p × P p

  some_point : (P : GridPoint → Type 0) → ((p : GridPoint) → Decided (P p)) → Decided (SomePoint P)
  some_point P decide = elim (some_or_none P decide d.points) [
    | inl explicit ↦ let (p, there, holds) = witness P d.points explicit in inl (p, inl there, holds)
    | inr no_explicit ↦ elim (some_or_none (λ (o : Original). Any P o.chain) (λ o. some_or_none P decide o.chain) d.originals) [
      | inl some ↦ inl (vertex some)
      | inr none ↦ inr (λ found. elim found.1 [
        | inl there ↦ no_explicit (has_some P d.points found.0 there found.2)
        | inr vertex ↦ none (Any-weaker (λ (o : Original). Contains o.chain found.0) (λ o. Any P o.chain)
            (λ o there. has_some P o.chain found.0 there found.2) d.originals vertex)
      ])
    ]
  ]
    where
      vertex : Any (λ (o : Original). Any P o.chain) d.originals → (p : GridPoint) × IsPoint d p × P p
      vertex some =
          let (o, has, along) = witness (λ (o : Original). Any P o.chain) d.originals some in
          let (p, there, holds) = witness P o.chain along in
          (p, inr (has_some (λ (q : Original). Contains q.chain p) d.originals o has there), holds)

-- the link between two points, the lesser first, is P's or no segment between them is
link_or_none : (P : GridSegment → Type 0) → ((t : GridSegment) → Decided (P t)) → (v w : GridPoint)
    → ((t : GridSegment) × IsLink t v w × IsBefore t.a t.b × P t) ⊎ ((t : GridSegment) → IsLink t v w → IsBefore t.a t.b → P t → ⊥)
link_or_none P decide v w = elim (three_points v w) [
  | inl before ↦ elim (decide (record { a = v; b = w })) [
    | inl holds ↦ inl (record { a = v; b = w }, inl (refl, refl), before, holds)
    | inr fails ↦ inr (λ t link ordered holds. elim link [
      | inl (first, second) ↦ fails (subst P (same_segment t (record { a = v; b = w }) (sym first) (sym second)) holds)
      | inr (first, second) ↦ IsBefore-asym v w before
          (subst (λ q. IsBefore w q) (sym first) (subst (λ q. IsBefore q t.b) (sym second) ordered))
    ])
  ]
  | inr (inl same) ↦ inr (λ t link ordered holds. elim link [
    | inl (first, second) ↦ not_before_itself t.a t.b (sym first ∙ same ∙ second) ordered
    | inr (first, second) ↦ not_before_itself t.a t.b (sym second ∙ sym same ∙ first) ordered
  ])
  | inr (inr after) ↦ elim (decide (record { a = w; b = v })) [
    | inl holds ↦ inl (record { a = w; b = v }, inr (refl, refl), after, holds)
    | inr fails ↦ inr (λ t link ordered holds. elim link [
      | inr (first, second) ↦ fails (subst P (same_segment t (record { a = w; b = v }) (sym second) (sym first)) holds)
      | inl (first, second) ↦ IsBefore-asym w v after
          (subst (λ q. IsBefore v q) (sym second) (subst (λ q. IsBefore q t.b) (sym first) ordered))
    ])
  ]
]

some_link : (P : GridSegment → Type 0) → ((t : GridSegment) → Decided (P t)) → (chain : List GridPoint) → Decided (SomeLink P chain)
some_link P decide [] = inr (λ found. found.1)
some_link P decide (v ∷ []) = inr (λ found. found.1)
some_link P decide (v ∷ w ∷ chain) = elim (link_or_none P decide v w) [
  | inl (t, link, ordered, holds) ↦ inl (t, inl link, ordered, holds)
  | inr none ↦ elim (some_link P decide (w ∷ chain)) [
    | inl (t, link, ordered, holds) ↦ inl (t, inr link, ordered, holds)
    | inr no_later ↦ inr (λ found. elim found.1 [
      | inl link ↦ none found.0 link found.2 found.3
      | inr later ↦ no_later (found.0, later, found.2, found.3)
    ])
  ]
]

-- P holds of some piece
abbrev SomePiece : Drawing → (GridSegment → Type 0) → Type 0
SomePiece d P = (t : GridSegment) × IsPiece d t × P t

some_piece : (d : Drawing) (P : GridSegment → Type 0) → ((t : GridSegment) → Decided (P t)) → Decided (SomePiece d P)
some_piece d P decide = elim (some_or_none (λ (o : Original). SomeLink P o.chain) (λ o. some_link P decide o.chain) d.originals) [
  | inl some ↦
      let (o, has, (t, link, ordered, holds)) = witness (λ (o : Original). SomeLink P o.chain) d.originals some in
      inl (t, (ordered, has_some (λ (q : Original). HasLink q.chain t) d.originals o has link), holds)
  | inr none ↦ inr (λ found. none (Any-weaker (λ (o : Original). HasLink o.chain found.0) (λ o. SomeLink P o.chain)
      (λ o link. (found.0, link, found.1.0, found.2)) d.originals found.1.1))
]

-- ---- violations
is_violated : (d : Drawing) (t : GridSegment) → Decided (IsViolated d t)
is_violated d t = either (some_point d (λ p. Inside p t) (is_inside t)) (some_piece d (Cross t) (do_cross t))

pub violated_or_not : (d : Drawing) → HasViolation d ⊎ (HasViolation d → ⊥)
violated_or_not d = elim (some_piece d (IsViolated d) (is_violated d)) [
  | inl (t, piece, inl (p, point, inside)) ↦ inl (PointInside p t point piece inside)
  | inl (t, piece, inr (u, other, cross)) ↦ inl (TwoCross t u piece other cross)
  | inr none ↦ inr (λ violation. elim violation [
    | PointInside p t point piece inside ↦ none (t, piece, inl (p, point, inside))
    | TwoCross t u piece other cross ↦ none (t, piece, inr (u, other, cross))
  ])
]
