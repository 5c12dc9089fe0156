-- This file shows that a grid point that is not on a close link, or on a corner, lies to it as to the original.
use Rattle.std.proofs.Common.{◌≡◌, ◌≢◌, ◌⊎◌, ℕ, ◌+◌, ◌*◌, ◌<◌, ◌≤◌, sym, ap, subst, arith, inl, inr}
use Rattle.grid_base.specs.Point.{GridPoint}
use Rattle.grid_base.specs.Segment.{GridSegment}
use Rattle.grid_base.specs.Places.{RationalPoint, IsPlace, InColumn}
use Rattle.grid_base.specs.SideOf.{Lie, Above, At, Below, LiesTo, as_rational}
use Rattle.grid_base.proofs.Signs.{three_ways}
use Rattle.grid_base.proofs.Ends.{same_point}
use Rattle.grid_base.proofs.Turns.{times}
use Rattle.hook_chain.specs.Close.{IsCloseUp}
use Rattle.hook_chain.proofs.Closes.{in_range}
use Rattle.hook_chain.proofs.Exchange.{way}
use Rattle.hook_chain.proofs.Upright.{place_a, place_b}
use Rattle.chain_laws.proofs.ChainEnvelope.{next_numbers}
use Rattle.chain_laws.proofs.ChainPlaces.{place_at}

-- ---- close links, by columns
-- p is at a place q of a close link, or lies to it as to r, a place of o in its column: if not, it would lie from r to q
close_keeps_side : (o s : GridSegment) (p : GridPoint) (r q : RationalPoint) (lie : Lie) → IsCloseUp o s → IsPlace o r
    → IsPlace s q → InColumn p r → InColumn p q → LiesTo p r lie → LiesTo p q At ⊎ LiesTo p q lie
close_keeps_side o s p r q Above close of_o of_s column_r column_q lies = elim (three_ways q.y (p.y * q.w)) [
  | inl above ↦ inr above
  | inr rest ↦ elim rest [
    | inl at ↦ inl at
    | inr below ↦ absurd (close p r q of_o of_s column_r column_q (inl (omega arith, below)))
  ]
]
close_keeps_side o s p r q At close of_o of_s column_r column_q lies = elim (three_ways q.y (p.y * q.w)) [
  | inl above ↦ absurd (close p r q of_o of_s column_r column_q (inr (omega arith, above)))
  | inr rest ↦ elim rest [
    | inl at ↦ inl at
    | inr below ↦ absurd (close p r q of_o of_s column_r column_q (inl (omega arith, below)))
  ]
]
close_keeps_side o s p r q Below close of_o of_s column_r column_q lies = elim (three_ways q.y (p.y * q.w)) [
  | inl above ↦ absurd (close p r q of_o of_s column_r column_q (inr (omega arith, above)))
  | inr rest ↦ elim rest [
    | inl at ↦ inl at
    | inr below ↦ inr below
  ]
]

-- so p is on the close link, or lies to it as to o
pub link_keeps_side : (o s : GridSegment) (p : GridPoint) (r q : RationalPoint) (lie : Lie) → IsCloseUp o s
    → IsPlace o r → IsPlace s q
    → InColumn p r → InColumn p q → LiesTo p r lie → IsPlace s (as_rational p) ⊎ LiesTo p q lie
link_keeps_side o s p r q lie close of_o of_s column_r column_q lies =
    elim (close_keeps_side o s p r q lie close of_o of_s column_r column_q lies) [
      | inl at ↦ inl (place_at s q p of_s (column_q, at))
      | inr side ↦ inr side
    ]

-- ---- the two links of a corner, by columns
-- e is over v, and f on its right, and the diagonal between them is close to o
pub record IsCornerUp (o : GridSegment) (e v f : GridPoint) : Type 0 where
  pub column : v.x ≡ e.x
  pub over : e.y ≡ v.y + 1
  pub right : f.x ≡ v.x + 1
  pub row : f.y ≡ v.y
  pub diagonal : IsCloseUp o (way e f)

-- p is on one of the two links
abbrev pub IsOnCorner : GridPoint → GridPoint → GridPoint → GridPoint → Type 0
IsOnCorner e v f p = IsPlace (way e v) (as_rational p) ⊎ IsPlace (way v f) (as_rational p)

is_at_e : (e v f p : GridPoint) → p.x ≡ e.x → p.y ≡ e.y → IsOnCorner e v f p
is_at_e e v f p column row =
    inl (subst (λ (g : GridPoint). IsPlace (way e v) (as_rational g)) (sym (same_point p e column row)) (place_a (way e v)))

is_at_v : (e v f p : GridPoint) → p.x ≡ v.x → p.y ≡ v.y → IsOnCorner e v f p
is_at_v e v f p column row =
    inl (subst (λ (g : GridPoint). IsPlace (way e v) (as_rational g)) (sym (same_point p v column row)) (place_b (way e v)))

is_at_f : (e v f p : GridPoint) → p.x ≡ f.x → p.y ≡ f.y → IsOnCorner e v f p
is_at_f e v f p column row =
    inr (subst (λ (g : GridPoint). IsPlace (way v f) (as_rational g)) (sym (same_point p f column row)) (place_b (way v f)))

-- p lies to q as to the grid point g in its column, where it lies so if it is over g and if it is under it
side_as_to : (p g : GridPoint) (q : RationalPoint) (lie : Lie) → LiesTo p (as_rational g) lie → p.y ≢ g.y
    → (g.y < p.y → LiesTo p q Above) → (p.y < g.y → LiesTo p q Below) → LiesTo p q lie
side_as_to p g q Above lies apart above below = above (omega arith)
side_as_to p g q At lies apart above below = absurd (apart (omega arith))
side_as_to p g q Below lies apart above below = below (omega arith)

-- a grid point in the column of an end of the diagonal is that end, or lies to it as to o
side_of_end : (o : GridSegment) (e f g p : GridPoint) (r : RationalPoint) (lie : Lie) → IsCloseUp o (way e f) → IsPlace o r
    → IsPlace (way e f) (as_rational g) → InColumn p r → p.x ≡ g.x → LiesTo p r lie
    → (p.y ≡ g.y) ⊎ LiesTo p (as_rational g) lie
side_of_end o e f g p r lie close of_o of_s column here lies =
    elim (close_keeps_side o (way e f) p r (as_rational g) lie close of_o of_s column (omega arith) lies) [
      | inl at ↦ inl (omega arith)
      | inr side ↦ inr side
    ]

-- a row over another is over each place that isn't over that
over_place : (y row : ℕ) (q : RationalPoint) → 0 < q.w → q.y ≤ row * q.w → row < y → q.y < y * q.w
over_place y row q real place over = let product = times row y 0 q.w over real in omega arith

under_place : (y row : ℕ) (q : RationalPoint) → 0 < q.w → row * q.w ≤ q.y → y < row → y * q.w < q.y
under_place y row q real place under = let product = times y row 0 q.w under real in omega arith

-- in the column of e and v: p is one of them, or over both, or under both
column_keeps_side : (o : GridSegment) (e v f p : GridPoint) (r q : RationalPoint) (lie : Lie) → IsCornerUp o e v f
    → IsPlace o r → InColumn p r → p.x ≡ e.x → LiesTo p r lie → 0 < q.w → q.y ≤ e.y * q.w → v.y * q.w ≤ q.y
    → IsOnCorner e v f p ⊎ LiesTo p q lie
column_keeps_side o e v f p r q lie corner of_o column here lies real to from =
    elim (side_of_end o e f e p r lie corner.diagonal of_o (place_a (way e f)) column here lies) [
      | inl at ↦ inl (is_at_e e v f p here at)
      | inr side ↦ elim (three_ways p.y v.y) [
        | inl under ↦ inr (side_as_to p e q lie side (λ same. omega (arith, corner.over))
            (λ over. absurd (omega (arith, corner.over))) (λ below. under_place p.y v.y q real from under))
        | inr rest ↦ elim rest [
          | inl at ↦ inl (is_at_v e v f p (omega (arith, corner.column)) at)
          | inr over_v ↦ elim (three_ways p.y e.y) [
            | inl under_e ↦ absurd (omega (arith, corner.over))
            | inr more ↦ elim more [
              | inl at ↦ inl (is_at_e e v f p here at)
              | inr over ↦ inr (side_as_to p e q lie side (λ same. omega arith)
                  (λ above. over_place p.y e.y q real to over) (λ below. absurd (omega arith)))
            ]
          ]
        ]
      ]
    ]

-- in the column of f: p is it, or over it, or under it
row_keeps_side : (o : GridSegment) (e v f p : GridPoint) (r q : RationalPoint) (lie : Lie) → IsCornerUp o e v f
    → IsPlace o r
    → InColumn p r → p.x ≡ f.x → LiesTo p r lie → 0 < q.w → q.y ≡ f.y * q.w → IsOnCorner e v f p ⊎ LiesTo p q lie
row_keeps_side o e v f p r q lie corner of_o column here lies real level =
    elim (side_of_end o e f f p r lie corner.diagonal of_o (place_b (way e f)) column here lies) [
      | inl at ↦ inl (is_at_f e v f p here at)
      | inr side ↦ elim (three_ways p.y f.y) [
        | inl under ↦ inr (side_as_to p f q lie side (λ same. omega arith) (λ over. absurd (omega arith))
            (λ below. under_place p.y f.y q real (omega arith) under))
        | inr rest ↦ elim rest [
          | inl at ↦ inl (is_at_f e v f p here at)
          | inr over ↦ inr (side_as_to p f q lie side (λ same. omega arith)
              (λ above. over_place p.y f.y q real (omega arith) over) (λ below. absurd (omega arith)))
        ]
      ]
    ]

-- p is on the corner, or lies to each place of it as to o
pub corner_keeps_side : (o : GridSegment) (e v f p : GridPoint) (r q : RationalPoint) (lie : Lie) → IsCornerUp o e v f
    → IsPlace o r → InColumn p r → InColumn p q → LiesTo p r lie → IsPlace (way e v) q ⊎ IsPlace (way v f) q
    → IsOnCorner e v f p ⊎ LiesTo p q lie
corner_keeps_side o e v f p r q lie corner of_o column_r column_q lies (inl upright) =
    let range = in_range (way e v) p q upright column_q in
    let rows = upright.up in
    let higher = ap (λ (n : ℕ). n * q.w) corner.over in
    let here : p.x ≡ e.x = omega (arith, corner.column) in
    column_keeps_side o e v f p r q lie corner of_o column_r here lies upright.real (omega arith) (omega arith)
corner_keeps_side o e v f p r q lie corner of_o column_r column_q lies (inr level) =
    let range = in_range (way v f) p q level column_q in
    let rows = level.up in
    let same_row = ap (λ (n : ℕ). n * q.w) corner.row in
    let higher = ap (λ (n : ℕ). n * q.w) corner.over in
    elim (next_numbers f.x v.x p.x corner.right (omega arith)) [
      | inl at_f ↦ row_keeps_side o e v f p r q lie corner of_o column_r at_f lies level.real (omega arith)
      | inr at_v ↦
          let here : p.x ≡ e.x = omega (arith, corner.column) in
          column_keeps_side o e v f p r q lie corner of_o column_r here lies level.real (omega arith) (omega arith)
    ]
