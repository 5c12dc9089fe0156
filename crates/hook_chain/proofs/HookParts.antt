-- The walks from both ends of a piece to a point beside it make up its hook there.
use Rattle.std.proofs.Common.{◌≡◌, ◌≢◌, ◌<ℤ◌, List, [], ◌∷◌, ◌++◌, reverse, Option, Some, None, MatchOption, ℕ, ◌+◌, length, append-nil}
use Rattle.std.proofs.Common.{refl, sym, ap, subst, ◌∙◌, arith, inr}
use Rattle.std.proofs.lemmas.Int.{ints}
use Rattle.std.specs.List.{AllByRecursion}
use Rattle.std.specs.Option.{option_to_list}
use Rattle.grid_base.specs.Point.{GridPoint}
use Rattle.grid_base.specs.Point.{IsBefore}
use Rattle.grid_base.specs.Segment.{GridSegment}
use Rattle.grid_base.specs.Sides.{On, side}
use Rattle.grid_base.proofs.Ends.{columns_in_order}
use Rattle.segment_envelope.specs.Near.{Near}
use Rattle.hook_chain.specs.declared.charts.Chart.{Chart}
use Rattle.hook_chain.specs.Chains.{AllLinks}
use Rattle.hook_chain.specs.Hook.{Hook}
use Rattle.hook_chain.specs.ValidChain.{IsMonotone}
use Rattle.hook_chain.specs.Redrawing.{front}
use Rattle.hook_chain.specs.Placing.{seen, IsSeen, IsWalkedTo, IsChartOf, turned}
use Rattle.hook_chain.proofs.Axes.{Axis}
use Rattle.hook_chain.proofs.TautPaths.{Frame, IsTaut}
use Rattle.hook_chain.proofs.Paths.{backwards, reverse_is, rest_of, head_and_rest, front_pushed, front_and_last, links_map, links_both}
use Rattle.hook_chain.proofs.Paths.{links_join}
use Rattle.hook_chain.proofs.Paths.{links_back, IsForthAlong}
use Rattle.hook_chain.proofs.Directions.{Follows}
use Rattle.hook_chain.proofs.BentPaths.{frame_of}
use Rattle.hook_chain.proofs.Placings.{along_for, along_placed}
use Rattle.hook_chain.proofs.PlacedParts.{frame_for, IsUnderChord, IsLike, IsPlacedPart, part_placed}
use Rattle.hook_chain.proofs.Joins.{bent_by_parts}
use Rattle.hook_chain.proofs.Reversals.{reverse_taut, reverse_chord, opposite_frames}
use Rattle.hook_chain.proofs.PieceCharts.{along_chart, side_is, both_charted}

-- ---- lists of points
-- a list of no length is empty
no_points : (list : List GridPoint) (n : ℕ) → n ≡ length list → n ≡ 0 → list ≡ []
no_points [] n is none = refl
no_points (p ∷ list) n is none = absurd (omega arith)

-- what is left where the last point is taken away is the path without it
fronted : (to popped : List GridPoint) (last : Option GridPoint) (m n : ℕ) → to ≡ popped ++ option_to_list last → n ≡ length popped
    → MatchOption last ((m ≡ 0) × (n ≡ 0)) (λ _. n + 1 ≡ m) → front to ≡ popped
fronted to popped (Some p) m n split is cases = ap front split ∙ front_pushed popped p
fronted to popped None m n split is cases =
    let empty = no_points popped n is cases.1 in
    ap front (split ∙ ap (λ (l : List GridPoint). l ++ []) empty) ∙ sym empty

-- a list without its last point, and another from its last point to its first, where none of that is left
pub joined : (to popped from list left : List GridPoint) (last : Option GridPoint) (m n k : ℕ) → to ≡ popped ++ option_to_list last
    → n ≡ length popped
    → MatchOption last ((m ≡ 0) × (n ≡ 0)) (λ _. n + 1 ≡ m) → k ≡ length left → k ≡ 0
    → list ++ reverse left ≡ popped ++ reverse from → list ≡ front to ++ reverse from
joined to popped from list left last m n k split is cases left_is none whole =
    sym (append-nil list) ∙ ap (λ (l : List GridPoint). list ++ reverse l) (sym (no_points left k left_is none)) ∙ whole
    ∙ ap (λ (l : List GridPoint). l ++ reverse from) (sym (fronted to popped last m n split is cases))

-- ---- the two walks
-- the points of a walk are a taut path under its chord
walked_placed : (chart : Chart) (start end x : GridPoint) (list : List GridPoint) → IsSeen chart start end x
    → IsWalkedTo chart start end x list
    → IsPlacedPart chart start end x list
walked_placed chart start end x list charted walked =
    subst (λ (l : List GridPoint). IsPlacedPart chart start end x l) (sym walked.is)
    (part_placed chart start end x (seen chart start end).y (seen chart start end).x (seen chart start x) walked.path charted walked.part)

-- x is farther along than the start of a walk to it
x_ahead : (chart : Chart) (start end x : GridPoint) → IsSeen chart start end x
    → along_for chart.steep chart.back start <ℤ along_for chart.steep chart.back x
x_ahead chart start end x charted =
    let at_x = along_placed chart.steep chart.back start x x (seen chart start x).x charted.x_at.across in
    let later = charted.goal_is.later in
    omega (arith, ints)

-- a taut path under its chord, in one frame, whose links move as the line from a to b
record IsTautPart (f : Frame) (a b v e : GridPoint) (path : List GridPoint) : Type 0 where
  taut : IsTaut f v e path
  chord : AllByRecursion (IsUnderChord f v e) path
  like : AllLinks (IsLike a b) path

-- chain is a hook of t at x, and monotone
pub record IsMonotoneHook (t : GridSegment) (x : GridPoint) (chain : List GridPoint) : Type 0 where
  pub hook : Hook t x chain
  pub monotone : AllLinks (IsMonotone t.a t.b) chain

-- a link that moves as t and leads forth is monotone
monotone_by : (t : GridSegment) (axis : Axis) (v w : GridPoint) → IsBefore t.a t.b → IsForthAlong axis v w → IsLike t.a t.b v w
    → IsMonotone t.a t.b v w
monotone_by t axis v w ordered forth like =
    let apart : v ≢ w = λ same. let at = ap axis.along same in omega (arith, ints) in
    (apart, like.across.0 (columns_in_order t.a t.b ordered), like.up.0, like.up.1)

-- two such paths, to x and from x, are a hook
hook_by_parts : (t : GridSegment) (axis : Axis) (x : GridPoint) (first second : List GridPoint) → IsBefore t.a t.b → Follows t axis
    → side t.a t.b x ≢ On
    → axis.along t.a <ℤ axis.along x → axis.along x <ℤ axis.along t.b → IsTautPart (frame_of t axis x) t.a t.b t.a x first
    → IsTautPart (frame_of t axis x) t.a t.b x t.b second
    → IsMonotoneHook t x (front first ++ second)
hook_by_parts t axis x first second ordered follows off after before to_x from_x =
    let f = frame_of t axis x in
    let to_is = front_and_last t.a x first to_x.taut.leads in
    let from_is = head_and_rest x t.b second from_x.taut.leads in
    let to = subst (λ (l : List GridPoint). IsTautPart f t.a t.b t.a x l) (sym to_is) to_x in
    let from = subst (λ (l : List GridPoint). IsTautPart f t.a t.b x t.b l) (sym from_is) from_x in
    let forth = links_join (IsForthAlong axis) x (front first) (rest_of second) to.taut.onward from.taut.onward in
    let like = links_join (IsLike t.a t.b) x (front first) (rest_of second) to.like from.like in
    let whole = front first ++ x ∷ rest_of second in
    let split : front first ++ second ≡ whole = ap (λ (l : List GridPoint). front first ++ l) (sym from_is) in
    record {
      hook = inr (inr (inr (
        off,
        front first,
        rest_of second,
        split,
        bent_by_parts t axis x (front first) (rest_of second) follows off after before to.taut to.chord from.taut from.chord,
      )));
      monotone = subst (λ (l : List GridPoint). AllLinks (IsMonotone t.a t.b) l) (sym split)
          (links_map (λ v w. IsForthAlong axis v w × IsLike t.a t.b v w) (IsMonotone t.a t.b)
          (λ v w fact. monotone_by t axis v w ordered fact.0 fact.1) whole
          (links_both (IsForthAlong axis) (IsLike t.a t.b) whole forth like));
    }

-- the way back of a link moves as the way back of the line
like_back : (a b v w : GridPoint) → IsLike b a v w → IsLike a b w v
like_back a b v w like = record { across = (like.across.1, like.across.0); up = (like.up.1, like.up.0) }

-- the walks from both ends are the hook
pub hook_of_walks : (t : GridSegment) (x : GridPoint) (chart : Chart) (first second : List GridPoint) → IsBefore t.a t.b
    → IsChartOf t x chart → Near t x
    → side t.a t.b x ≢ On → IsWalkedTo chart t.a t.b x first → IsWalkedTo (turned chart) t.b t.a x second
    → IsMonotoneHook t x (front first ++ reverse second)
hook_of_walks t x chart first second ordered is near off to_x to_x_back =
    let both = both_charted t x chart ordered is near off in
    let along = along_chart t x chart ordered is in
    let same = side_is t x chart is off in
    let opposite = opposite_frames chart.steep chart.back chart.under t.a t.b in
    let f = frame_for (turned chart) t.b t.a in
    let g = frame_for chart t.a t.b in
    let frames : g ≡ frame_of t along.axis x = λ i. record { along = λ p. sym (along.way p) i; side = sym same i; a = t.a; b = t.b } in
    let there = walked_placed chart t.a t.b x first both.first to_x in
    let back = walked_placed (turned chart) t.b t.a x second both.second to_x_back in
    let to : IsTautPart g t.a t.b t.a x first = record { taut = there.taut; chord = there.chord; like = there.like } in
    let from : IsTautPart g t.a t.b x t.b (backwards second) = record {
      taut = reverse_taut f g t.b x second opposite back.taut;
      chord = reverse_chord f g t.b x second opposite back.chord;
      like = links_back (IsLike t.b t.a) (IsLike t.a t.b) (λ v w like. like_back t.a t.b v w like) t.b x second back.taut.leads back.like;
    } in
    let after_a = x_ahead chart t.a t.b x both.first in
    let after_b = x_ahead (turned chart) t.b t.a x both.second in
    let way_a = along.way t.a in
    let way_x = along.way x in
    let way_b = along.way t.b in
    let back_x = opposite.along x in
    let back_b = opposite.along t.b in
    subst (λ (l : List GridPoint). IsMonotoneHook t x (front first ++ l)) (sym (reverse_is second))
    (hook_by_parts t along.axis x first (backwards second) ordered along.follows off (omega (arith, ints)) (omega (arith, ints))
    (subst (λ (h : Frame). IsTautPart h t.a t.b t.a x first) frames to)
    (subst (λ (h : Frame). IsTautPart h t.a t.b x t.b (backwards second)) frames from))

-- ---- as the code names them
-- what is seen along a chart from a point to another is seen along what is that chart, from what are those points
pub seen_alike : (chart other : Chart) (start end x p q : GridPoint) → other ≡ chart → p ≡ start → q ≡ end → IsSeen chart start end x
    → IsSeen other p q x
seen_alike chart other start end x p q same_chart same_start same_end seen_there =
    subst (λ (h : Chart). IsSeen h p q x) (sym same_chart)
    (subst (λ (r : GridPoint). IsSeen chart r q x) (sym same_start)
    (subst (λ (r : GridPoint). IsSeen chart start r x) (sym same_end) seen_there))

-- and so is what is walked
pub walked_alike : (chart other : Chart) (start end x p q : GridPoint) (list : List GridPoint) → other ≡ chart → p ≡ start → q ≡ end
    → IsWalkedTo other p q x list → IsWalkedTo chart start end x list
walked_alike chart other start end x p q list same_chart same_start same_end walked =
    subst (λ (h : Chart). IsWalkedTo h start end x list) same_chart
    (subst (λ (r : GridPoint). IsWalkedTo other r end x list) same_start
    (subst (λ (r : GridPoint). IsWalkedTo other p r x list) same_end walked))
