-- Each piece follows an axis: by columns where it is flat, and by rows, upwards or downwards, where it is steep.
use Rattle.std.proofs.Common.{◌≡◌, ◌≢◌, ◌⊎◌, ◌<◌, ◌≤◌, Bool, true, false, MatchBool, nat_lt, pos, ◌<ℤ◌, ◌≤ℤ◌, refl, sym, ap, ◌∙◌}
use Rattle.std.proofs.Common.{subst, arith, inl, inr}
use Rattle.std.proofs.lemmas.Int.{ints}
use Rattle.std.proofs.lemmas.Bool.{leb-true, leb-false, ltb-true, ltb-false}
use Rattle.grid_base.specs.Point.{GridPoint, IsBefore, IsFromTo}
use Rattle.grid_base.specs.Segment.{GridSegment, is_flat, width, height}
use Rattle.grid_base.specs.Sides.{turn, On, side}
use Rattle.grid_base.specs.Crossing.{IsOn}
use Rattle.grid_base.proofs.Turns.{times, times_le, leftward, rightward, turn_is, on_is}
use Rattle.grid_base.proofs.Balances.{balanced_between}
use Rattle.hook_chain.specs.Close.{Close, IsCloseUp}
use Rattle.grid_base.specs.Segment.{exchanged, exchanged_point}
use Rattle.hook_chain.specs.Hook.{IsOnward, IsBeside}
use Rattle.hook_chain.proofs.Axes.{Axis, rightwards, upwards, downwards, same_in_column, same_in_row}
use Rattle.hook_chain.proofs.Paths.{IsForthAlong, IsWithin}
use Rattle.hook_chain.proofs.Closes.{IsBareBetween, close_by_sides, bare_by_close}
use Rattle.hook_chain.proofs.Exchange.{way, reversed, close_by_reversed}

-- p isn't between t and the link from v to w, by its turns: t counts and the link doesn't
pub record IsApart (t : GridSegment) (v w p : GridPoint) : Type 0 where
  pub over : pos 0 ≤ℤ turn t.a t.b p → turn v w p <ℤ pos 0 → ⊥
  pub under : turn t.a t.b p ≤ℤ pos 0 → pos 0 <ℤ turn v w p → ⊥

-- no point is between t and the link from v to w, along the axis
abbrev pub AllApart : GridSegment → Axis → GridPoint → GridPoint → Type 0
AllApart t axis v w = (p : GridPoint) → axis.along v ≤ℤ axis.along p → axis.along p ≤ℤ axis.along w → IsApart t v w p

-- a point beyond a link is beyond t where both ends of the link are not on the other side of it
pub record IsBetweenEnds (t : GridSegment) (v w p : GridPoint) : Type 0 where
  pub above : pos 0 ≤ℤ turn t.a t.b v → pos 0 ≤ℤ turn t.a t.b w → pos 0 <ℤ turn v w p → pos 0 <ℤ turn t.a t.b p
  pub under : turn t.a t.b v ≤ℤ pos 0 → turn t.a t.b w ≤ℤ pos 0 → turn v w p <ℤ pos 0 → turn t.a t.b p <ℤ pos 0

-- t leads along the axis: what is onward along it, and which links between its ends are close to it
pub record Follows (t : GridSegment) (axis : Axis) : Type 0 where
  pub ordered : IsForthAlong axis t.a t.b
  pub forth : (v w : GridPoint) → IsOnward t v w → IsForthAlong axis v w
  pub onward : (v w : GridPoint) → IsForthAlong axis v w → IsOnward t v w
  pub apart : (v w : GridPoint) → IsForthAlong axis v w → IsWithin axis t.a t.b v w → Close t (way v w) → AllApart t axis v w
  pub close : (v w : GridPoint) → IsForthAlong axis v w → AllApart t axis v w → Close t (way v w)
  pub beside : (v w p : GridPoint) → IsForthAlong axis v w → IsBeside t v w p
      → (axis.along v ≤ℤ axis.along p) × (axis.along p ≤ℤ axis.along w) × (side v w p ≡ On → IsOn (way v w) p)
  pub besides : (v w p : GridPoint) → axis.along v ≤ℤ axis.along p → axis.along p ≤ℤ axis.along w → IsBeside t v w p
  pub inside : (p : GridPoint) → IsOn t p → p ≢ t.a → p ≢ t.b → IsForthAlong axis t.a p × IsForthAlong axis p t.b
  pub between : (v w p : GridPoint) → IsForthAlong axis v w → axis.along v ≤ℤ axis.along p → axis.along p ≤ℤ axis.along w
      → IsBetweenEnds t v w p

-- ---- from sums to turns, and back
-- what the sums say of a point, the turns say too
apart_by_bare : (t link : GridSegment) (p : GridPoint) → IsBareBetween t link p → IsApart t link.a link.b p
apart_by_bare t link p bare =
    let at_t = turn_is t.a t.b p in
    let at_link = turn_is link.a link.b p in
    record {
      over = λ above under. bare.over_o (omega (arith, ints)) (omega (arith, ints));
      under = λ below over. bare.under_o (omega (arith, ints)) (omega (arith, ints));
    }

-- and the other way
bare_by_apart : (t link : GridSegment) (p : GridPoint) → IsApart t link.a link.b p → IsBareBetween t link p
bare_by_apart t link p apart =
    let at_t = turn_is t.a t.b p in
    let at_link = turn_is link.a link.b p in
    record {
      over_o = λ above under. apart.over (omega (arith, ints)) (omega (arith, ints));
      under_o = λ below over. apart.under (omega (arith, ints)) (omega (arith, ints));
    }

-- with rows for columns the two sums change places
bare_exchanged : (t link : GridSegment) (p : GridPoint) → IsBareBetween t link p
    → IsBareBetween (exchanged t) (exchanged link) (exchanged_point p)
bare_exchanged t link p bare = record {
  over_o = λ above under. bare.under_o (omega arith) (omega arith);
  under_o = λ below over. bare.over_o (omega arith) (omega arith);
}

-- and so they do where the ends are exchanged
bare_reversed : (t link : GridSegment) (p : GridPoint) → IsBareBetween t link p → IsBareBetween (reversed t) (reversed link) p
bare_reversed t link p bare = record {
  over_o = λ above under. bare.under_o (omega arith) (omega arith);
  under_o = λ below over. bare.over_o (omega arith) (omega arith);
}

-- a proof of a fact that is the same
transport : {A B : Type 0} → A ≡ B → A → B
transport same proof = subst (λ (X : Type 0). X) same proof

-- the sums of three points, above 0 where the first is the greater
between_by : (t : GridSegment) (v w p : GridPoint)
    → (rightward t.a t.b v ≤ leftward t.a t.b v → rightward t.a t.b w ≤ leftward t.a t.b w → rightward v w p < leftward v w p
    → rightward t.a t.b p < leftward t.a t.b p)
    → (leftward t.a t.b v ≤ rightward t.a t.b v → leftward t.a t.b w ≤ rightward t.a t.b w → leftward v w p < rightward v w p
    → leftward t.a t.b p < rightward t.a t.b p)
    → IsBetweenEnds t v w p
between_by t v w p above under =
    let at_v = turn_is t.a t.b v in
    let at_w = turn_is t.a t.b w in
    let at_p = turn_is t.a t.b p in
    let at_link = turn_is v w p in
    record {
      above = λ v_above w_above over. let more = above (omega (arith, ints)) (omega (arith, ints)) (omega (arith, ints)) in omega
          (arith, ints);
      under = λ v_under w_under less. let more = under (omega (arith, ints)) (omega (arith, ints)) (omega (arith, ints)) in omega
          (arith, ints);
    }

-- ---- the ends
-- a point of a segment other than its ends is in neither's column, where these are two
inner_columns : (t : GridSegment) (p : GridPoint) → t.a.x ≢ t.b.x → IsOn t p → p ≢ t.a → p ≢ t.b → (p.x ≢ t.a.x) × (p.x ≢ t.b.x)
inner_columns t p apart on not_a not_b =
    let line = on_is t.a t.b p on.line in (
      λ at. not_a (sym (same_in_column t.b t.a p apart (sym at) (omega arith))),
      λ at. not_b (sym (same_in_column t.a t.b p (λ same. apart (sym same)) (sym at) line)),
    )

-- and in neither's row, where these are two
inner_rows : (t : GridSegment) (p : GridPoint) → t.a.y ≢ t.b.y → IsOn t p → p ≢ t.a → p ≢ t.b → (p.y ≢ t.a.y) × (p.y ≢ t.b.y)
inner_rows t p apart on not_a not_b =
    let line = on_is t.a t.b p on.line in (
      λ at. not_a (sym (same_in_row t.b t.a p apart (sym at) (omega arith))),
      λ at. not_b (sym (same_in_row t.a t.b p (λ same. apart (sym same)) (sym at) line)),
    )

-- ---- a link with both ends on one side
-- a point above a link between two points on or above a line is strictly above the line
above_link : (a b v w p : GridPoint) → a.x < b.x → v.x < w.x → v.x ≤ p.x → p.x ≤ w.x → rightward a b v ≤ leftward a b v
    → rightward a b w ≤ leftward a b w
    → rightward v w p < leftward v w p → rightward a b p < leftward a b p
above_link a b v w p wide link_wide from to v_above w_above above =
    let not_under : leftward a b p ≤ rightward a b p → ⊥ = λ under.
    let by_v = times_le (rightward a b v) (leftward a b v) p.x w.x v_above to in
    let by_w = times_le (rightward a b w) (leftward a b w) v.x p.x w_above from in
    let by_link = times (rightward v w p) (leftward v w p) a.x b.x above wide in
    let by_line = times_le (leftward a b p) (rightward a b p) v.x w.x under (omega arith) in
    omega arith
    in omega (arith, not_under)

-- and one under a link between two points on or under a line is strictly under the line
under_link : (a b v w p : GridPoint) → a.x < b.x → v.x < w.x → v.x ≤ p.x → p.x ≤ w.x → leftward a b v ≤ rightward a b v
    → leftward a b w ≤ rightward a b w
    → leftward v w p < rightward v w p → leftward a b p < rightward a b p
under_link a b v w p wide link_wide from to v_under w_under under =
    let not_above : rightward a b p ≤ leftward a b p → ⊥ = λ above.
    let by_v = times_le (leftward a b v) (rightward a b v) p.x w.x v_under to in
    let by_w = times_le (leftward a b w) (rightward a b w) v.x p.x w_under from in
    let by_link = times (leftward v w p) (rightward v w p) a.x b.x under wide in
    let by_line = times_le (rightward a b p) (leftward a b p) v.x w.x above (omega arith) in
    omega arith
    in omega (arith, not_above)

-- a point on the line of a link, in its columns, is in its rows
rows_by_columns : (v w p : GridPoint) → v.x < w.x → leftward v w p ≡ rightward v w p → v.x ≤ p.x → p.x ≤ w.x → IsFromTo v.y w.y p.y
rows_by_columns v w p wide line from to = balanced_between v.y w.y p.y p.x v.x p.x w.x from to (omega arith) (omega arith)

-- ---- flat pieces
-- what is onward along a flat piece
flat_onward : (t : GridSegment) (v w : GridPoint) → is_flat t ≡ true → IsOnward t v w ≡ (v.x < w.x)
flat_onward t v w flat = ap (λ (f : Bool). MatchBool f (v.x < w.x) (MatchBool (nat_lt t.a.y t.b.y) (v.y < w.y) (w.y < v.y))) flat

-- what is beside a link of it
flat_beside : (t : GridSegment) (v w p : GridPoint) → is_flat t ≡ true → IsBeside t v w p ≡ IsFromTo v.x w.x p.x
flat_beside t v w p flat = ap (λ (f : Bool). MatchBool f (IsFromTo v.x w.x p.x) (IsFromTo v.y w.y p.y)) flat

-- and what is close to it
flat_close : (t link : GridSegment) → is_flat t ≡ true → Close t link ≡ IsCloseUp t link
flat_close t link flat = ap (λ (f : Bool). MatchBool f (IsCloseUp t link) (IsCloseUp (exchanged t) (exchanged link))) flat

-- a flat piece follows the columns
pub flat_follows : (t : GridSegment) → t.a.x < t.b.x → is_flat t ≡ true → Follows t rightwards
flat_follows t wide flat = record {
  ordered = omega (arith, ints);
  forth = λ v w onward. let less : v.x < w.x = transport (flat_onward t v w flat) onward in omega (arith, ints);
  onward = λ v w forth. let less : v.x < w.x = omega (arith, ints) in transport (sym (flat_onward t v w flat)) less;
  apart = λ v w forth within close p from to.
      apart_by_bare t (way v w) p (bare_by_close t (way v w) wide (omega (arith, ints))
      (transport (flat_close t (way v w) flat) close) p
      (omega (arith, ints)) (omega (arith, ints)) (omega (arith, ints)) (omega (arith, ints)));
  close = λ v w forth apart.
      let up = close_by_sides t (way v w) wide (omega (arith, ints))
      (λ p from to. bare_by_apart t (way v w) p (apart p (omega (arith, ints)) (omega (arith, ints)))) in
      transport (sym (flat_close t (way v w) flat)) up;
  beside = λ v w p forth fact.
      let range : IsFromTo v.x w.x p.x = transport (flat_beside t v w p flat) fact in (
        omega (arith, ints),
        omega (arith, ints),
        λ line. record {
          line = line;
          box = (range, rows_by_columns v w p (omega (arith, ints)) (on_is v w p line) (omega (arith, ints)) (omega (arith, ints)));
        },
      );
  besides = λ v w p from to.
      let range : IsFromTo v.x w.x p.x = omega (arith, ints, from, to) in transport (sym (flat_beside t v w p flat)) range;
  inside = λ p on not_a not_b.
      let inner = inner_columns t p (omega arith) on not_a not_b in
      let box = on.box in
      (omega (arith, ints, box.0, inner.0), omega (arith, ints, box.0, inner.1));
  between = λ v w p forth from to. between_by t v w p
      (λ v_above w_above above. above_link t.a t.b v w p wide (omega (arith, ints)) (omega (arith, ints))
      (omega (arith, ints)) v_above w_above above)
      (λ v_under w_under under. under_link t.a t.b v w p wide (omega (arith, ints)) (omega (arith, ints))
      (omega (arith, ints)) v_under w_under under);
}

-- ---- steep pieces
-- what is onward along a steep piece that rises
rising_onward : (t : GridSegment) (v w : GridPoint) → is_flat t ≡ false → nat_lt t.a.y t.b.y ≡ true → IsOnward t v w ≡ (v.y < w.y)
rising_onward t v w steep rising =
    ap (λ (f : Bool). MatchBool f (v.x < w.x) (MatchBool (nat_lt t.a.y t.b.y) (v.y < w.y) (w.y < v.y))) steep
    ∙ ap (λ (f : Bool). MatchBool f (v.y < w.y) (w.y < v.y)) rising

-- and along one that falls
falling_onward : (t : GridSegment) (v w : GridPoint) → is_flat t ≡ false → nat_lt t.a.y t.b.y ≡ false → IsOnward t v w ≡ (w.y < v.y)
falling_onward t v w steep falling =
    ap (λ (f : Bool). MatchBool f (v.x < w.x) (MatchBool (nat_lt t.a.y t.b.y) (v.y < w.y) (w.y < v.y))) steep
    ∙ ap (λ (f : Bool). MatchBool f (v.y < w.y) (w.y < v.y)) falling

-- what is beside a link of a steep piece
steep_beside : (t : GridSegment) (v w p : GridPoint) → is_flat t ≡ false → IsBeside t v w p ≡ IsFromTo v.y w.y p.y
steep_beside t v w p steep = ap (λ (f : Bool). MatchBool f (IsFromTo v.x w.x p.x) (IsFromTo v.y w.y p.y)) steep

-- what is close to a steep piece
steep_close : (t link : GridSegment) → is_flat t ≡ false → Close t link ≡ IsCloseUp (exchanged t) (exchanged link)
steep_close t link steep = ap (λ (f : Bool). MatchBool f (IsCloseUp t link) (IsCloseUp (exchanged t) (exchanged link))) steep

-- a steep piece that rises follows the rows
pub rising_follows : (t : GridSegment) → t.a.y < t.b.y → is_flat t ≡ false → nat_lt t.a.y t.b.y ≡ true → Follows t upwards
rising_follows t high steep rising = record {
  ordered = omega (arith, ints);
  forth = λ v w onward. let less : v.y < w.y = transport (rising_onward t v w steep rising) onward in omega (arith, ints);
  onward = λ v w forth. let less : v.y < w.y = omega (arith, ints) in transport (sym (rising_onward t v w steep rising)) less;
  apart = λ v w forth within close p from to.
      apart_by_bare t (way v w) p (bare_exchanged (exchanged t) (exchanged (way v w)) (exchanged_point p)
      (bare_by_close (exchanged t) (exchanged (way v w)) high (omega (arith, ints))
      (transport (steep_close t (way v w) steep) close) (exchanged_point p)
      (omega (arith, ints)) (omega (arith, ints)) (omega (arith, ints)) (omega (arith, ints))));
  close = λ v w forth apart.
      let up = close_by_sides (exchanged t) (exchanged (way v w)) high (omega (arith, ints))
      (λ p from to. bare_exchanged t (way v w) (exchanged_point p)
      (bare_by_apart t (way v w) (exchanged_point p) (apart (exchanged_point p) (omega (arith, ints)) (omega (arith, ints))))) in
      transport (sym (steep_close t (way v w) steep)) up;
  beside = λ v w p forth fact.
      let range : IsFromTo v.y w.y p.y = transport (steep_beside t v w p steep) fact in (
        omega (arith, ints),
        omega (arith, ints),
        λ line. let sums = on_is v w p line in record {
          line = line;
          box = (
            rows_by_columns (exchanged_point v) (exchanged_point w) (exchanged_point p) (omega (arith, ints)) (omega arith)
                (omega (arith, ints)) (omega (arith, ints)),
            range,
          );
        },
      );
  besides = λ v w p from to.
      let range : IsFromTo v.y w.y p.y = omega (arith, ints, from, to) in transport (sym (steep_beside t v w p steep)) range;
  inside = λ p on not_a not_b.
      let inner = inner_rows t p (omega arith) on not_a not_b in
      let box = on.box in
      (omega (arith, ints, box.1, inner.0), omega (arith, ints, box.1, inner.1));
  between = λ v w p forth from to. between_by t v w p
      (λ v_above w_above above. let less = under_link (exchanged_point t.a) (exchanged_point t.b) (exchanged_point v) (exchanged_point w)
      (exchanged_point p)
      high (omega (arith, ints)) (omega (arith, ints)) (omega (arith, ints)) (omega arith) (omega arith) (omega arith) in omega arith)
      (λ v_under w_under under. let more = above_link (exchanged_point t.a) (exchanged_point t.b) (exchanged_point v) (exchanged_point w)
      (exchanged_point p)
      high (omega (arith, ints)) (omega (arith, ints)) (omega (arith, ints)) (omega arith) (omega arith) (omega arith) in omega arith);
}

-- a steep piece that falls follows the rows downwards
pub falling_follows : (t : GridSegment) → t.b.y < t.a.y → is_flat t ≡ false → nat_lt t.a.y t.b.y ≡ false → Follows t downwards
falling_follows t high steep falling = record {
  ordered = omega (arith, ints);
  forth = λ v w onward. let less : w.y < v.y = transport (falling_onward t v w steep falling) onward in omega (arith, ints);
  onward = λ v w forth. let less : w.y < v.y = omega (arith, ints) in transport (sym (falling_onward t v w steep falling)) less;
  apart = λ v w forth within close p from to.
      let up = close_by_reversed (reversed (exchanged t)) (reversed (exchanged (way v w)))
      (transport (steep_close t (way v w) steep) close) in
      let bare = bare_by_close (reversed (exchanged t)) (reversed (exchanged (way v w))) high (omega (arith, ints)) up
      (exchanged_point p)
      (omega (arith, ints)) (omega (arith, ints)) (omega (arith, ints)) (omega (arith, ints)) in
      apart_by_bare t (way v w) p (bare_exchanged (exchanged t) (exchanged (way v w)) (exchanged_point p)
      (bare_reversed (reversed (exchanged t)) (reversed (exchanged (way v w))) (exchanged_point p) bare));
  close = λ v w forth apart.
      let up = close_by_sides (reversed (exchanged t)) (reversed (exchanged (way v w))) high (omega (arith, ints))
      (λ p from to. bare_reversed (exchanged t) (exchanged (way v w)) p (bare_exchanged t (way v w) (exchanged_point p)
      (bare_by_apart t (way v w) (exchanged_point p) (apart (exchanged_point p) (omega (arith, ints)) (omega (arith, ints)))))) in
      transport (sym (steep_close t (way v w) steep)) (close_by_reversed (exchanged t) (exchanged (way v w)) up);
  beside = λ v w p forth fact.
      let range : IsFromTo v.y w.y p.y = transport (steep_beside t v w p steep) fact in (
        omega (arith, ints),
        omega (arith, ints),
        λ line. let sums = on_is v w p line in
            let columns = rows_by_columns (exchanged_point w) (exchanged_point v) (exchanged_point p) (omega (arith, ints)) (omega arith)
            (omega (arith, ints))
            (omega (arith, ints)) in record { line = line; box = (omega arith, range) },
      );
  besides = λ v w p from to.
      let range : IsFromTo v.y w.y p.y = omega (arith, ints, from, to) in transport (sym (steep_beside t v w p steep)) range;
  inside = λ p on not_a not_b.
      let inner = inner_rows t p (omega arith) on not_a not_b in
      let box = on.box in
      (omega (arith, ints, box.1, inner.0), omega (arith, ints, box.1, inner.1));
  between = λ v w p forth from to. between_by t v w p
      (λ v_above w_above above. let more = above_link (exchanged_point t.b) (exchanged_point t.a) (exchanged_point w) (exchanged_point v)
      (exchanged_point p)
      high (omega (arith, ints)) (omega (arith, ints)) (omega (arith, ints)) (omega arith) (omega arith) (omega arith) in omega arith)
      (λ v_under w_under under. let less = under_link (exchanged_point t.b) (exchanged_point t.a) (exchanged_point w) (exchanged_point v)
      (exchanged_point p)
      high (omega (arith, ints)) (omega (arith, ints)) (omega (arith, ints)) (omega arith) (omega arith) (omega arith) in omega arith);
}

-- ---- each piece
-- the axis that t follows
pub record Followed (t : GridSegment) : Type 0 where
  pub axis : Axis
  pub follows : Follows t axis

-- a truth value is one of two
either : (b : Bool) → (b ≡ true) ⊎ (b ≡ false)
either true = inl refl
either false = inr refl

pub followed : (t : GridSegment) → IsBefore t.a t.b → Followed t
followed t ordered = elim (either (is_flat t)) [
  | inl flat ↦
      let at_least = leb-true (height t) (width t) flat in
      record { axis = rightwards; follows = flat_follows t (omega arith) flat }
  | inr steep ↦ elim (either (nat_lt t.a.y t.b.y)) [
    | inl rising ↦ record { axis = upwards; follows = rising_follows t (ltb-true t.a.y t.b.y rising) steep rising }
    | inr falling ↦
        let less = leb-false (height t) (width t) steep in
        let not_less = ltb-false t.a.y t.b.y falling in
        record { axis = downwards; follows = falling_follows t (omega arith) steep falling }
  ]
]
