-- A piece has a hook at each point near it, and hooks are monotone: what the code computes is there whether it is computed or not.
use Rattle.std.proofs.Common.{◌≡◌, ◌≢◌, ◌⊎◌, ℕ, zero, suc, ◌+◌, ◌-◌, ◌*◌, ◌/◌, ◌<◌, ◌≤◌, Bool, true, false, not, ◌&&◌, nat_lt, List, []}
use Rattle.std.proofs.Common.{◌∷◌, ◌++◌, map, reverse, refl, sym, subst, arith, inl, inr}
use Rattle.grid_base.specs.Point.{GridPoint, point_at, IsBefore}
use Rattle.grid_base.specs.Segment.{GridSegment, is_flat}
use Rattle.grid_base.specs.Sides.{Side, Left, On, Right, side}
use Rattle.grid_base.proofs.Ends.{same_or_not, not_before_itself, columns_in_order}
use Rattle.segment_envelope.specs.Near.{Near}
use Rattle.hook_chain.specs.declared.charts.Chart.{Chart}
use Rattle.hook_chain.specs.Chains.{AllLinks}
use Rattle.hook_chain.specs.Hook.{Hook}
use Rattle.hook_chain.specs.Parts.{IsPartTo}
use Rattle.hook_chain.specs.Placing.{cross, are_diagonals, placed, seen, side_for, IsGoal, IsSeen, IsWalkedTo, IsChartOf, turned}
use Rattle.hook_chain.specs.Redrawing.{front}
use Rattle.hook_chain.specs.ValidChain.{IsMonotone}
use Rattle.hook_chain.proofs.LeastFractions.{HasLeast, has_least}
use Rattle.grid_base.proofs.Signs.{natural_order}
use Rattle.hook_chain.proofs.Walks.{away, IsWalk, begin, go_on, come, further}
use Rattle.hook_chain.proofs.PieceCharts.{both_charted}
use Rattle.hook_chain.proofs.HookParts.{IsMonotoneHook, hook_of_walks}
use Rattle.hook_chain.proofs.HookLaw.{one_hook}

-- ---- the walk
-- a part of a hook, as a list
record HasPart (c d : ℕ) (goal : GridPoint) : Type 0 where
  path : List GridPoint
  part : IsPartTo c d goal goal path

-- the least fraction for n columns, where n is above 0
least_for : (c d n : ℕ) → 0 < d → 0 < n → HasLeast c d n
least_for c d zero some no_columns = absurd (omega arith)
least_for c d (suc n) some columns = has_least c d n some

-- a walk comes to its goal, within as many turns as columns are left
walk_ends : (turns c d : ℕ) (goal z : GridPoint) (path : List GridPoint) → IsGoal c d goal → IsWalk c d goal z path
    → goal.x ≤ z.x + turns → HasPart c d goal
walk_ends zero c d goal z path is_goal walk left = record { path = path; part = come c d goal z path is_goal walk (omega arith) }
walk_ends (suc turns) c d goal z path is_goal walk left = elim (natural_order goal.x z.x) [
  | inl come_to ↦ record { path = path; part = come c d goal z path is_goal walk come_to }
  | inr before ↦
      let proper = is_goal.proper in
      let least = least_for c d (goal.x - z.x) (omega arith) (omega arith) in
      let m = (goal.x - z.x) / least.q in
      let next = away z (m * least.q) (m * least.p) in
      let on = further c d least.p least.q m goal z least.is refl in
      walk_ends turns c d goal next (path ++ next ∷ []) is_goal (go_on c d least.p least.q m goal z path is_goal walk before least.is refl)
      (omega arith)
]

has_part : (c d : ℕ) (goal : GridPoint) → IsGoal c d goal → HasPart c d goal
has_part c d goal is_goal = walk_ends goal.x c d goal (point_at 0 0) (point_at 0 0 ∷ []) is_goal (begin c d goal is_goal) (omega arith)

-- its points on the grid
record HasWalk (chart : Chart) (start end x : GridPoint) : Type 0 where
  list : List GridPoint
  walked : IsWalkedTo chart start end x list

has_walk : (chart : Chart) (start end x : GridPoint) → IsSeen chart start end x → HasWalk chart start end x
has_walk chart start end x charted =
    let part = has_part (seen chart start end).y (seen chart start end).x (seen chart start x) charted.goal_is in
    record { list = map (placed chart start) part.path; walked = record { path = part.path; part = part.part; is = refl } }

-- ---- the chart
-- the direction in which rows are counted, so that they are on a side
record HasRows (steep back : Bool) (s : Side) : Type 0 where
  under : Bool
  is : (s ≡ On) ⊎ (s ≡ side_for steep back under)

has_rows : (steep back : Bool) (s : Side) → HasRows steep back s
has_rows steep back On = record { under = false; is = inl refl }
has_rows false false Left = record { under = false; is = inr refl }
has_rows false false Right = record { under = true; is = inr refl }
has_rows false true Left = record { under = true; is = inr refl }
has_rows false true Right = record { under = false; is = inr refl }
has_rows true false Left = record { under = true; is = inr refl }
has_rows true false Right = record { under = false; is = inr refl }
has_rows true true Left = record { under = false; is = inr refl }
has_rows true true Right = record { under = true; is = inr refl }

-- a chart of a piece
record HasChart (t : GridSegment) (x : GridPoint) : Type 0 where
  chart : Chart
  is : IsChartOf t x chart

has_chart : (t : GridSegment) (x : GridPoint) → HasChart t x
has_chart t x =
    let steep = not (is_flat t) in
    let back = steep && nat_lt t.b.y t.a.y in
    let rows = has_rows steep back (side t.a t.b x) in
    let sheared = are_diagonals rows.under (cross steep t.a) (cross steep t.b) in
    record {
      chart = record { steep = steep; back = back; under = rows.under; sheared = sheared };
      is = record { steep = refl; back = refl; under = rows.is; sheared = refl };
    }

-- ---- the hook
-- a monotone hook
pub record HasHook (t : GridSegment) (x : GridPoint) : Type 0 where
  pub chain : List GridPoint
  pub is : IsMonotoneHook t x chain

-- a point is on the line of a piece or not
on_or_off : (s : Side) → (s ≡ On) ⊎ (s ≢ On)
on_or_off Left = inr (λ same. cc)
on_or_off On = inl refl
on_or_off Right = inr (λ same. cc)

-- where x is an end, the hook is the piece
hook_at_end : (t : GridSegment) (x : GridPoint) → IsBefore t.a t.b → (x ≡ t.a) ⊎ (x ≡ t.b) → HasHook t x
hook_at_end t x ordered end = record {
  chain = t.a ∷ t.b ∷ [];
  is = record {
    hook = elim end [ inl at_a ↦ inl (at_a, refl) | inr at_b ↦ inr (inl (at_b, refl)) ];
    monotone = ((λ same. not_before_itself t.a t.b same ordered, columns_in_order t.a t.b ordered, λ up. up, λ down. down), tt);
  };
}

-- where x is on the piece, it is one more point of it
hook_on_piece : (t : GridSegment) (x : GridPoint) → IsBefore t.a t.b → Near t x → x ≢ t.a → x ≢ t.b → side t.a t.b x ≡ On → HasHook t x
hook_on_piece t x ordered near not_a not_b line =
    let box = near.box in record {
      chain = t.a ∷ x ∷ t.b ∷ [];
      is = record {
        hook = inr (inr (inl (not_a, not_b, record { line = line; box = near.box }, refl)));
        monotone = (
          (λ same. not_a (sym same), omega arith, λ up. omega arith, λ down. omega arith),
          ((not_b, omega arith, λ up. omega arith, λ down. omega arith), tt),
        );
      };
    }

-- beside the piece it is made up of the two walks
hook_beside : (t : GridSegment) (x : GridPoint) → IsBefore t.a t.b → Near t x → side t.a t.b x ≢ On → HasHook t x
hook_beside t x ordered near off =
    let chart = has_chart t x in
    let both = both_charted t x chart.chart ordered chart.is near off in
    let to = has_walk chart.chart t.a t.b x both.first in
    let from = has_walk (turned chart.chart) t.b t.a x both.second in
    record {
      chain = front to.list ++ reverse from.list;
      is = hook_of_walks t x chart.chart to.list from.list ordered chart.is near off to.walked from.walked;
    }

-- a piece has a hook at each point near it
pub has_hook : (t : GridSegment) (x : GridPoint) → IsBefore t.a t.b → Near t x → HasHook t x
has_hook t x ordered near = elim (same_or_not x t.a) [
  | inl at_a ↦ hook_at_end t x ordered (inl at_a)
  | inr not_a ↦ elim (same_or_not x t.b) [
    | inl at_b ↦ hook_at_end t x ordered (inr at_b)
    | inr not_b ↦ elim (on_or_off (side t.a t.b x)) [
      | inl on ↦ hook_on_piece t x ordered near not_a not_b on
      | inr off ↦ hook_beside t x ordered near off
    ]
  ]
]

-- and each hook is that one, so it is monotone
pub hook_monotone : (t : GridSegment) (x : GridPoint) (chain : List GridPoint) → IsBefore t.a t.b → Near t x → Hook t x chain
    → AllLinks (IsMonotone t.a t.b) chain
hook_monotone t x chain ordered near hook =
    let there = has_hook t x ordered near in
    subst (λ (l : List GridPoint). AllLinks (IsMonotone t.a t.b) l)
    (one_hook t x there.chain chain ordered there.is.hook hook) there.is.monotone
