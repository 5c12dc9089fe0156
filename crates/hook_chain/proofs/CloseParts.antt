-- That close is carried on: an original is close to itself, a piece that is close to a close piece is close, and so is a part of one.
use Rattle.std.proofs.Common.{◌≡◌, ◌≢◌, ◌⊎◌, ℕ, ◌*◌, ◌<◌, ◌≤◌, Bool, true, false, MatchBool, refl, sym, ap, subst, arith, inl, inr}
use Rattle.grid_base.specs.Point.{GridPoint, IsBefore, IsFromTo, InBox}
use Rattle.grid_base.specs.Segment.{GridSegment, width, is_flat}
use Rattle.grid_base.specs.Crossing.{IsOn}
use Rattle.grid_base.specs.Places.{RationalPoint, IsPlace}
use Rattle.grid_base.proofs.Turns.{in_order, leftward, rightward, on_is}
use Rattle.grid_base.proofs.Signs.{three_ways}
use Rattle.grid_base.proofs.Balances.{gap_cancels, factor_keeps}
use Rattle.grid_base.proofs.Lines.{IsOnLine, line_is, line_by, leftward_at, rightward_at}
use Rattle.grid_base.proofs.Columns.{placed, under_place, above_place}
use Rattle.grid_base.proofs.Ends.{same_point}
use Rattle.hook_chain.specs.Close.{IsFrom, IsCloseUp, Close}
use Rattle.grid_base.specs.Segment.{exchanged, exchanged_point}
pub use Rattle.segment_envelope.proofs.Shapes.{flat_is, steep_is}
use Rattle.segment_envelope.proofs.Ways.{swapped, exchanged_place}
use Rattle.hook_chain.proofs.Closes.{in_range, not_under_place, not_above_place}
use Rattle.hook_chain.proofs.Exchange.{way, place_back}

-- ---- places in a column
-- a segment that isn't vertical has a place in each column from one end to the other, whichever comes first
pub record HasPlace (s : GridSegment) (x : ℕ) : Type 0 where
  pub place : RationalPoint
  pub is : IsPlace s place
  pub column : place.x ≡ x * place.w

pub place_in_column : (s : GridSegment) (x : ℕ) → s.a.x ≢ s.b.x → IsFromTo s.a.x s.b.x x → HasPlace s x
place_in_column s x slanted range = elim (three_ways s.a.x s.b.x) [
  | inl wide ↦
      let found = placed s x wide (omega arith) (omega arith) in
      record { place = found.place; is = found.is; column = found.column }
  | inr rest ↦ elim rest [
    | inl same ↦ absurd (slanted same)
    | inr back ↦
        let found = placed (way s.b s.a) x back (omega arith) (omega arith) in
        record { place = found.place; is = place_back s.b s.a found.place found.is; column = found.column }
  ]
]

-- ---- through a place between
split_by : (r_y r_w g_y s_y s_w q_y q_w : ℕ) → ((g_y * s_w < s_y) ⊎ ((g_y * s_w ≡ s_y) ⊎ (s_y < g_y * s_w)))
    → ((((r_y ≤ g_y * r_w) × (g_y * s_w < s_y)) ⊎ ((g_y * r_w ≤ r_y) × (s_y < g_y * s_w))) → ⊥)
    → ((((s_y ≤ g_y * s_w) × (g_y * q_w < q_y)) ⊎ ((g_y * s_w ≤ s_y) × (q_y < g_y * q_w))) → ⊥)
    → ((((r_y ≤ g_y * r_w) × (g_y * q_w < q_y)) ⊎ ((g_y * r_w ≤ r_y) × (q_y < g_y * q_w))) → ⊥)
split_by r_y r_w g_y s_y s_w q_y q_w (inl under) first second (inl up) = first (inl (up.0, under))
split_by r_y r_w g_y s_y s_w q_y q_w (inl under) first second (inr down) = second (inr (omega arith, down.1))
split_by r_y r_w g_y s_y s_w q_y q_w (inr (inl at)) first second (inl up) = second (inl (omega arith, up.1))
split_by r_y r_w g_y s_y s_w q_y q_w (inr (inl at)) first second (inr down) = second (inr (omega arith, down.1))
split_by r_y r_w g_y s_y s_w q_y q_w (inr (inr over)) first second (inl up) = second (inl (omega arith, up.1))
split_by r_y r_w g_y s_y s_w q_y q_w (inr (inr over)) first second (inr down) = first (inr (down.0, over))

-- what doesn't lie from r to s, nor from s to q, doesn't lie from r to q
pub split_from : (r s q : RationalPoint) (g : GridPoint) → (IsFrom r s g → ⊥) → (IsFrom s q g → ⊥) → IsFrom r q g → ⊥
split_from r s q g first second from =
    split_by r.y r.w g.y s.y s.w q.y q.w (three_ways (g.y * s.w) s.y) first second from

-- by columns, a piece that is close to a piece close to o is close to o
pub close_through : (o p l : GridSegment) → p.a.x ≢ p.b.x → ((x : ℕ) → IsFromTo l.a.x l.b.x x → IsFromTo p.a.x p.b.x x)
    → IsCloseUp o p → IsCloseUp p l → IsCloseUp o l
close_through o p l slanted within first second g r q of_o of_l column_o column_l from =
    let between = place_in_column p g.x slanted (within g.x (in_range l g q of_l column_l)) in
    split_from r between.place q g (first g r between.place of_o between.is column_o between.column)
    (second g between.place q between.is of_l between.column column_l) from

-- ---- an original and itself
-- two places of a column are in order by sides, so none lies between
own_close_up : (o : GridSegment) → o.a.x < o.b.x → IsCloseUp o o
own_close_up o wide g r q of_r of_q column_r column_q from = elim from [
  | inl up ↦
      let not_under = not_under_place o g r wide of_r column_r up.0 in
      let under = under_place o g q wide of_q column_q up.1 in
      omega arith
  | inr down ↦
      let not_above = not_above_place o g r wide of_r column_r down.0 in
      let above = above_place o g q wide of_q column_q down.1 in
      omega arith
]

-- the same with the ends in either order
own_close_either : (a b : GridPoint) → a.x ≢ b.x → IsCloseUp (way a b) (way a b)
own_close_either a b slanted = elim (three_ways a.x b.x) [
  | inl wide ↦ own_close_up (way a b) wide
  | inr rest ↦ elim rest [
    | inl same ↦ absurd (slanted same)
    | inr back ↦ λ g r q of_r of_q. own_close_up (way b a) back g r q (place_back a b r of_r) (place_back a b q of_q)
  ]
]

-- ---- parts
-- where v and w are in different columns
line_by_columns : (s : GridSegment) (v w : GridPoint) (q : RationalPoint) → leftward s.a s.b v ≡ rightward s.a s.b v
    → leftward s.a s.b w ≡ rightward s.a s.b w → w.x ≢ v.x → IsOnLine (way v w) q → IsOnLine s q
line_by_columns s v w q on_v on_w apart line =
    let v_at_w = ap (λ (n : ℕ). w.x * q.w * n) on_v in
    let v_at_q = ap (λ (n : ℕ). q.x * n) on_v in
    let w_at_v = ap (λ (n : ℕ). v.x * q.w * n) on_w in
    let w_at_q = ap (λ (n : ℕ). q.x * n) on_w in
    let line_at_a = ap (λ (n : ℕ). s.a.x * n) line in
    let line_at_b = ap (λ (n : ℕ). s.b.x * n) line in
    gap_cancels (leftward_at s q) (rightward_at s q) w.x v.x apart (omega arith)

-- and where they are in different rows
line_by_rows : (s : GridSegment) (v w : GridPoint) (q : RationalPoint) → leftward s.a s.b v ≡ rightward s.a s.b v
    → leftward s.a s.b w ≡ rightward s.a s.b w → w.y ≢ v.y → IsOnLine (way v w) q → IsOnLine s q
line_by_rows s v w q on_v on_w apart line =
    let across = line_by_columns (exchanged s) (exchanged_point v) (exchanged_point w) (swapped q) (omega arith) (omega arith) apart
    (omega arith) in
    omega arith

-- a point on the line of the way from v to w, both on the line of s, is on the line of s
line_of_part : (s : GridSegment) (v w : GridPoint) (q : RationalPoint) → leftward s.a s.b v ≡ rightward s.a s.b v
    → leftward s.a s.b w ≡ rightward s.a s.b w → v ≢ w → IsOnLine (way v w) q → IsOnLine s q
line_of_part s v w q on_v on_w apart line = elim (one_or_other v.x w.x) [
  | inr columns ↦ line_by_columns s v w q on_v on_w columns line
  | inl column ↦ elim (one_or_other v.y w.y) [
    | inr rows ↦ line_by_rows s v w q on_v on_w rows line
    | inl row ↦ absurd (apart (same_point v w column row))
  ]
]
  where
    one_or_other : (m n : ℕ) → (m ≡ n) ⊎ (n ≢ m)
    one_or_other m n = elim (three_ways m n) [
      | inl less ↦ inr (omega arith)
      | inr rest ↦ elim rest [ inl same ↦ inl same | inr more ↦ inr (omega arith) ]
    ]

-- what lies from a number between two others to such a number lies between them, where the first is at most the second
range_in_order : (a b v w at width : ℕ) → a ≤ b → IsFromTo a b v → IsFromTo a b w → IsFromTo (v * width) (w * width) at
    → IsFromTo (a * width) (b * width) at
range_in_order a b v w at width order of_v of_w range =
    let v_from = factor_keeps a v width (omega arith) in
    let w_from = factor_keeps a w width (omega arith) in
    let v_to = factor_keeps v b width (omega arith) in
    let w_to = factor_keeps w b width (omega arith) in
    omega arith

-- and in either order
range_of_part : (a b v w at width : ℕ) → IsFromTo a b v → IsFromTo a b w → IsFromTo (v * width) (w * width) at
    → IsFromTo (a * width) (b * width) at
range_of_part a b v w at width of_v of_w range = elim (in_order a b) [
  | inl up ↦ range_in_order a b v w at width up of_v of_w range
  | inr down ↦ let back = range_in_order b a v w at width down (omega arith) (omega arith) range in omega arith
]

-- a place of a part of s is a place of s
pub place_of_part : (s : GridSegment) (v w : GridPoint) (q : RationalPoint) → IsOn s v → IsOn s w → v ≢ w → IsPlace (way v w) q
    → IsPlace s q
place_of_part s v w q on_v on_w apart place =
    let line = line_of_part s v w q (on_is s.a s.b v on_v.line) (on_is s.a s.b w on_w.line) apart (line_is (way v w) q place) in
    record {
      real = place.real;
      line = line_by s q line;
      across = range_of_part s.a.x s.b.x v.x w.x q.x q.w on_v.box.0 on_w.box.0 place.across;
      up = range_of_part s.a.y s.b.y v.y w.y q.y q.w on_v.box.1 on_w.box.1 place.up;
    }

-- a part of a piece that is close by columns is close by columns
pub part_close_up : (o p : GridSegment) (v w : GridPoint) → IsOn p v → IsOn p w → v ≢ w → IsCloseUp o p → IsCloseUp o (way v w)
part_close_up o p v w on_v on_w apart close g r q of_o of_part = close g r q of_o (place_of_part p v w q on_v on_w apart of_part)

-- ---- columns or rows
-- closeness by columns where the test says so, and else by rows
abbrev pub CloseWhere : Bool → GridSegment → GridSegment → Type 0
CloseWhere flat o p = MatchBool flat (IsCloseUp o p) (IsCloseUp (exchanged o) (exchanged p))

part_close_where : (flat : Bool) (o p : GridSegment) (v w : GridPoint) → IsOn p v → IsOn p w → v ≢ w → CloseWhere flat o p
    → CloseWhere flat o (way v w)
part_close_where true o p v w on_v on_w apart close = part_close_up o p v w on_v on_w apart close
part_close_where false o p v w on_v on_w apart close = λ g r q of_o of_part.
    close g r q of_o (exchanged_place p (swapped q) (place_of_part p v w (swapped q) on_v on_w apart
    (exchanged_place (exchanged (way v w)) q of_part)))

-- a part of a close piece is close
pub part_close : (o p : GridSegment) (v w : GridPoint) → IsOn p v → IsOn p w → v ≢ w → Close o p → Close o (way v w)
part_close o p v w on_v on_w apart close = part_close_where (is_flat o) o p v w on_v on_w apart close

-- a segment has its ends in different columns where it is flat, and in different rows where it is steep
slanted_where : (flat : Bool) (s : GridSegment) → flat ≡ is_flat s → IsBefore s.a s.b → MatchBool flat (s.a.x ≢ s.b.x) (s.a.y ≢ s.b.y)
slanted_where true s flat ordered = λ same. let wide = flat_is s flat in omega arith
slanted_where false s steep ordered = λ same. let high = steep_is s steep in omega arith

-- ---- an original is close to itself
own_close_where : (flat : Bool) (o : GridSegment) → flat ≡ is_flat o → IsBefore o.a o.b → CloseWhere flat o o
own_close_where true o flat ordered = own_close_either o.a o.b (slanted_where true o flat ordered)
own_close_where false o steep ordered =
    own_close_either (exchanged_point o.a) (exchanged_point o.b) (slanted_where false o steep ordered)

pub own_close : (o : GridSegment) → IsBefore o.a o.b → Close o o
own_close o ordered = own_close_where (is_flat o) o refl ordered

-- ---- a piece of a piece
-- what lies between the ends of l lies between those of p, where these lie so
range_within : (a b v w x : ℕ) → IsFromTo a b v → IsFromTo a b w → IsFromTo v w x → IsFromTo a b x
range_within a b v w x of_v of_w range = omega arith

through_where : (flat : Bool) (o p l : GridSegment) → flat ≡ is_flat p → IsBefore p.a p.b → InBox p.a p.b l.a → InBox p.a p.b l.b
    → CloseWhere flat o p → CloseWhere flat p l → CloseWhere flat o l
through_where true o p l flat ordered box_a box_b first second =
    close_through o p l (slanted_where true p flat ordered)
    (λ x range. range_within p.a.x p.b.x l.a.x l.b.x x box_a.0 box_b.0 range) first second
through_where false o p l steep ordered box_a box_b first second =
    close_through (exchanged o) (exchanged p) (exchanged l) (slanted_where false p steep ordered)
    (λ y range. range_within p.a.y p.b.y l.a.y l.b.y y box_a.1 box_b.1 range) first second

-- of two pieces in their boxes, both flat or both steep, the second is close to o where it is close to the first, and that to o
pub close_to_close : (o p l : GridSegment) → is_flat o ≡ is_flat p → IsBefore p.a p.b → InBox p.a p.b l.a → InBox p.a p.b l.b
    → Close o p → Close p l → Close o l
close_to_close o p l same ordered box_a box_b first second =
    through_where (is_flat o) o p l same ordered box_a box_b first
    (subst (λ (flat : Bool). CloseWhere flat p l) (sym same) second)
