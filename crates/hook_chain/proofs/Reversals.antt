-- A taut path is taut the other way, seen from the other end of its line.
use Rattle.std.proofs.Common.{◌≡◌, ◌+◌, Bool, true, false, not, ℤ, pos, neg_ℤ, ◌<ℤ◌, ◌≤ℤ◌, List, sym, ap, subst, ◌∙◌, arith}
use Rattle.std.proofs.lemmas.Int.{ints}
use Rattle.std.specs.List.{AllByRecursion}
use Rattle.grid_base.specs.Point.{GridPoint}
use Rattle.grid_base.specs.Sides.{turn, Side, Left, On, Right}
use Rattle.grid_base.proofs.Turns.{leftward, rightward, turn_is}
use Rattle.hook_chain.specs.Placing.{side_for}
use Rattle.hook_chain.proofs.Axes.{bend, turn_back}
use Rattle.hook_chain.proofs.TautPaths.{Frame, IsBeyond, IsForth, BendsUp, IsBare, IsTaut}
use Rattle.hook_chain.proofs.Paths.{backwards, leads_back, vertices_map, vertices_back, links_back, bends_back}
use Rattle.hook_chain.proofs.Placings.{along_for}
use Rattle.hook_chain.proofs.PlacedParts.{IsUnderChord}

-- the frames f and g see one line from its two ends
pub record AreOpposite (f g : Frame) : Type 0 where
  pub along : (p : GridPoint) → g.along p ≡ neg_ℤ (f.along p)
  pub bends : (v w p : GridPoint) → bend g.side w v p ≡ bend f.side v w p
  pub line : (p : GridPoint) → bend g.side g.a g.b p ≡ bend f.side f.a f.b p

-- three points turn alike, from whichever one begins
turn_round : (u v w : GridPoint) → turn v w u ≡ turn u v w
turn_round u v w =
    let from_v = turn_is v w u in
    let from_u = turn_is u v w in
    let sums : leftward v w u + rightward u v w ≡ rightward v w u + leftward u v w = omega arith in
    omega (arith, ints)

bend_round : (s : Side) (u v w : GridPoint) → bend s v w u ≡ bend s u v w
bend_round Left u v w = turn_round u v w
bend_round On u v w = ap neg_ℤ (turn_round u v w)
bend_round Right u v w = ap neg_ℤ (turn_round u v w)

-- a taut path is taut the other way
pub reverse_taut : (f g : Frame) (v e : GridPoint) (path : List GridPoint) → AreOpposite f g → IsTaut f v e path
    → IsTaut g e v (backwards path)
reverse_taut f g v e path opposite taut = record {
  leads = leads_back v e path taut.leads;
  onward = links_back (IsForth f) (IsForth g) (λ p q forth. let at_p = opposite.along p in let at_q = opposite.along q in omega
      (arith, ints)) v e path taut.leads taut.onward;
  bent = bends_back (BendsUp f) (BendsUp g)
      (λ p q r bends. subst (λ (z : ℤ). pos 0 <ℤ z) (sym (opposite.bends q r p ∙ bend_round f.side p q r)) bends) v e path taut.leads
      taut.bent;
  beyond = vertices_back (IsBeyond g) path (vertices_map (IsBeyond f) (IsBeyond g)
      (λ p beyond. subst (λ (z : ℤ). pos 0 ≤ℤ z) (sym (opposite.line p)) beyond) path taut.beyond);
  bare = links_back (IsBare f) (IsBare g) (λ p q bare r from to beyond under.
      let at_p = opposite.along p in
      let at_q = opposite.along q in
      let at_r = opposite.along r in
      bare r (omega (arith, ints)) (omega (arith, ints)) (subst (λ (z : ℤ). pos 0 ≤ℤ z) (opposite.line r) beyond)
      (subst (λ (z : ℤ). z <ℤ pos 0) (opposite.bends p q r) under))
      v e path taut.leads taut.bare;
}

-- and under its chord
pub reverse_chord : (f g : Frame) (v e : GridPoint) (path : List GridPoint) → AreOpposite f g → AllByRecursion (IsUnderChord f v e) path
    → AllByRecursion (IsUnderChord g e v) (backwards path)
reverse_chord f g v e path opposite all = vertices_back (IsUnderChord g e v) path
    (vertices_map (IsUnderChord f v e) (IsUnderChord g e v) (λ p under. subst (λ (z : ℤ). z ≤ℤ pos 0)
    (sym (opposite.bends v e p)) under) path all)

-- ---- walks from the two ends
-- the way back goes back
along_back : (steep back : Bool) (p : GridPoint) → along_for steep back p ≡ neg_ℤ (along_for steep (not back) p)
along_back false false p = omega (arith, ints)
along_back false true p = omega (arith, ints)
along_back true false p = omega (arith, ints)
along_back true true p = omega (arith, ints)

-- and has its rows on the same side of the line, which is the other one seen from there
bend_opposite : (steep back under : Bool) (v w p : GridPoint)
    → bend (side_for steep back under) w v p ≡ bend (side_for steep (not back) under) v w p
bend_opposite false false false v w p = let back = turn_back v w p in omega (arith, ints)
bend_opposite false false true v w p = let back = turn_back v w p in omega (arith, ints)
bend_opposite false true false v w p = let back = turn_back v w p in omega (arith, ints)
bend_opposite false true true v w p = let back = turn_back v w p in omega (arith, ints)
bend_opposite true false false v w p = let back = turn_back v w p in omega (arith, ints)
bend_opposite true false true v w p = let back = turn_back v w p in omega (arith, ints)
bend_opposite true true false v w p = let back = turn_back v w p in omega (arith, ints)
bend_opposite true true true v w p = let back = turn_back v w p in omega (arith, ints)

-- the frame of the walk back is opposite
pub opposite_frames : (steep back under : Bool) (a b : GridPoint) → AreOpposite
    (record { along = along_for steep (not back); side = side_for steep (not back) under; a = b; b = a })
    (record { along = along_for steep back; side = side_for steep back under; a = a; b = b })
opposite_frames steep back under a b = record {
  along = λ p. along_back steep back p;
  bends = λ v w p. bend_opposite steep back under v w p;
  line = λ p. bend_opposite steep back under b a p;
}
