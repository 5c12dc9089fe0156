-- The points of the grid at the places of a walk are a taut path.
use Rattle.std.proofs.Common.{◌≡◌, ℕ, ◌*◌, ◌<◌, ◌≤◌, Bool, true, false, ℤ, pos, ◌-ℤ◌, ◌<ℤ◌, ◌≤ℤ◌, List, [], ◌∷◌, map, sym, ap, subst, arith}
use Rattle.std.proofs.lemmas.Int.{ints}
use Rattle.std.specs.List.{AllByRecursion}
use Rattle.grid_base.specs.Point.{GridPoint, point_at}
use Rattle.grid_base.specs.Sides.{turn}
use Rattle.grid_base.proofs.Turns.{turn_is}
use Rattle.hook_chain.specs.declared.charts.Chart.{Chart}
use Rattle.hook_chain.specs.Chains.{AllLinks, AllBends, RunsFrom}
use Rattle.hook_chain.specs.Parts.{Reaches, IsLater, IsGentle, BendsLeft, IsBareLink, IsInReach, IsPartTo}
use Rattle.hook_chain.specs.Placing.{course, cross, placed, IsAcross, IsUp, IsPlaced, side_for, IsCharted}
use Rattle.hook_chain.proofs.Axes.{bend}
use Rattle.hook_chain.proofs.Paths.{vertices_both, links_both}
use Rattle.hook_chain.proofs.TautPaths.{Frame, IsBeyond, IsForth, BendsUp, IsBare, IsTaut}
use Rattle.hook_chain.proofs.Placings.{along_for, bend_placed, along_placed, placed_one, placed_is, start_placed, place_of}

-- ---- facts on a list, said of another list of points
vertices_mapped : (P Q : GridPoint → Type 0) (f : GridPoint → GridPoint) → ((p : GridPoint) → P p → Q (f p)) → (path : List GridPoint)
    → AllByRecursion P path → AllByRecursion Q (map f path)
vertices_mapped P Q f step [] all = tt
vertices_mapped P Q f step (p ∷ path) all = (step p all.0, vertices_mapped P Q f step path all.1)

links_mapped : (R : GridPoint → Type 0) (P Q : GridPoint → GridPoint → Type 0) (f : GridPoint → GridPoint)
    → ((v w : GridPoint) → R v → R w → P v w → Q (f v) (f w)) → (path : List GridPoint) → AllByRecursion R path → AllLinks P path
    → AllLinks Q (map f path)
links_mapped R P Q f step [] at all = tt
links_mapped R P Q f step (v ∷ []) at all = tt
links_mapped R P Q f step (v ∷ w ∷ path) at all = (step v w at.0 at.1.0 all.0, links_mapped R P Q f step (w ∷ path) at.1 all.1)

bends_mapped : (R : GridPoint → Type 0) (P Q : GridPoint → GridPoint → GridPoint → Type 0) (f : GridPoint → GridPoint)
    → ((u v w : GridPoint) → R u → R v → R w → P u v w → Q (f u) (f v) (f w)) → (path : List GridPoint) → AllByRecursion R path
    → AllBends P path
    → AllBends Q (map f path)
bends_mapped R P Q f step [] at all = tt
bends_mapped R P Q f step (u ∷ []) at all = tt
bends_mapped R P Q f step (u ∷ v ∷ []) at all = tt
bends_mapped R P Q f step (u ∷ v ∷ w ∷ path) at all = (
  step u v w at.0 at.1.0 at.1.1.0 all.0,
  bends_mapped R P Q f step
      (v ∷ w ∷ path) at.1 all.1,
)

leads_mapped : (a b : GridPoint) (f : GridPoint → GridPoint) (path : List GridPoint) → RunsFrom a b path → RunsFrom (f a) (f b) (map f path)
leads_mapped a b f [] leads = leads
leads_mapped a b f (v ∷ []) leads = (ap f leads.0, ap f leads.1)
leads_mapped a b f (v ∷ w ∷ path) leads = (ap f leads.0, leads_mapped w b f (w ∷ path) leads.1)

-- ---- a walk on the grid
-- the frame of its points
abbrev pub frame_for : Chart → GridPoint → GridPoint → Frame
frame_for chart start end =
    record { along = along_for chart.steep chart.back; side = side_for chart.steep chart.back chart.under; a = start; b = end }

-- the turn of the line from the origin
pub origin_turn : (c d : ℕ) (p : GridPoint) → turn (point_at 0 0) (point_at d c) p ≡ pos (d * p.y) -ℤ pos (c * p.x)
origin_turn c d p = let e = turn_is (point_at 0 0) (point_at d c) p in omega (arith, ints)

-- a place is on or above the line where its point is beyond it
beyond_placed : (chart : Chart) (start end x : GridPoint) (c d : ℕ) (goal p q : GridPoint) → IsCharted chart start end x c d goal
    → IsPlaced chart start p q
    → Reaches c d p → IsBeyond (frame_for chart start end) q
beyond_placed chart start end x c d goal p q charted at reach =
    let bends = bend_placed chart start (point_at 0 0) (point_at d c) p start end q (start_placed chart start) charted.end_at at in
    let line = origin_turn c d p in
    omega (arith, ints)

-- and the other way
reaches_by_beyond : (chart : Chart) (start end x : GridPoint) (c d : ℕ) (goal p q : GridPoint) → IsCharted chart start end x c d goal
    → IsPlaced chart start p q → IsBeyond (frame_for chart start end) q → Reaches c d p
reaches_by_beyond chart start end x c d goal p q charted at beyond =
    let bends = bend_placed chart start (point_at 0 0) (point_at d c) p start end q (start_placed chart start) charted.end_at at in
    let line = origin_turn c d p in
    omega (arith, ints)

-- a later place is farther along
later_placed : (chart : Chart) (start v w v_at w_at : GridPoint) → IsPlaced chart start v v_at → IsPlaced chart start w w_at → v.x < w.x
    → along_for chart.steep chart.back v_at <ℤ along_for chart.steep chart.back w_at
later_placed chart start v w v_at w_at v_is w_is later =
    let at_v = along_placed chart.steep chart.back start v_at v_at v.x v_is.across in
    let at_w = along_placed chart.steep chart.back start w_at w_at w.x w_is.across in
    omega (arith, ints)

-- and one as far along isn't in an earlier column
not_later_placed : (chart : Chart) (start v w v_at w_at : GridPoint) → IsPlaced chart start v v_at → IsPlaced chart start w w_at
    → along_for chart.steep chart.back v_at ≤ℤ along_for chart.steep chart.back w_at → v.x ≤ w.x
not_later_placed chart start v w v_at w_at v_is w_is along =
    let at_v = along_placed chart.steep chart.back start v_at v_at v.x v_is.across in
    let at_w = along_placed chart.steep chart.back start w_at w_at w.x w_is.across in
    omega (arith, ints)

-- what is not behind a point of the walk isn't behind its start
ahead_of_start : (chart : Chart) (start v v_at q : GridPoint) → IsPlaced chart start v v_at
    → along_for chart.steep chart.back v_at ≤ℤ along_for chart.steep chart.back q
    → along_for chart.steep chart.back start ≤ℤ along_for chart.steep chart.back q
ahead_of_start chart start v v_at q v_is ahead =
    let at_v = along_placed chart.steep chart.back start v_at v_at v.x v_is.across in
    omega (arith, ints)

-- a link with nothing under it has nothing under it on the grid
bare_placed : (chart : Chart) (start end x : GridPoint) (c d : ℕ) (goal v w v_at w_at : GridPoint) → IsCharted chart start end x c d goal
    → IsPlaced chart start v v_at → IsPlaced chart start w w_at → IsBareLink c d v w → IsBare (frame_for chart start end) v_at w_at
bare_placed chart start end x c d goal v w v_at w_at charted v_is w_is bare q from to beyond under =
    let proper = charted.goal_is.proper in
    let at = place_of chart start end q c d (omega arith) charted.end_at (ahead_of_start chart start v v_at q v_is from) beyond in
    let bends = bend_placed chart start v w at.0 v_at w_at q v_is w_is at.1 in
    bare at.0 (not_later_placed chart start v at.0 v_at q v_is at.1 from) (not_later_placed chart start at.0 w q w_at at.1 w_is to)
    (reaches_by_beyond chart start end x c d goal at.0 q charted at.1 beyond) (subst (λ (z : ℤ). z <ℤ pos 0) bends under)

-- p isn't beyond the way from v to e
abbrev pub IsUnderChord : Frame → GridPoint → GridPoint → GridPoint → Type 0
IsUnderChord f v e p = bend f.side v e p ≤ℤ pos 0

-- the points of a walk are under the chord
chord_placed : (chart : Chart) (start end x : GridPoint) (c d : ℕ) (goal p q : GridPoint) → IsCharted chart start end x c d goal
    → IsPlaced chart start p q
    → IsInReach goal p → IsUnderChord (frame_for chart start end) start x q
chord_placed chart start end x c d goal p q charted at reach =
    let bends = bend_placed chart start (point_at 0 0) goal p start x q (start_placed chart start) charted.x_at at in
    let line = origin_turn goal.y goal.x p in
    let chord = reach.under_chord in
    omega (arith, ints)

-- the origin and the goal are in reach of the goal
pub origin_in_reach : (goal : GridPoint) → goal.y ≤ goal.x → IsInReach goal (point_at 0 0)
origin_in_reach goal gentle =
    record { before = omega arith; not_above = omega arith; under_chord = omega arith; from_origin = omega arith; to_x = omega arith }

goal_in_reach : (goal : GridPoint) → goal.y ≤ goal.x → IsInReach goal goal
goal_in_reach goal gentle =
    record { before = omega arith; not_above = omega arith; under_chord = omega arith; from_origin = gentle; to_x = omega arith }

-- ---- in both coordinates
-- from v to w a number moves as from m to n, or stays
abbrev pub MovesLike : ℕ → ℕ → ℕ → ℕ → Type 0
MovesLike m n v w = (m ≤ n → v ≤ w) × (n ≤ m → w ≤ v)

-- the link from v to w moves as the way from a to b, in both coordinates
pub record IsLike (a b v w : GridPoint) : Type 0 where
  pub across : MovesLike a.x b.x v.x w.x
  pub up : MovesLike a.y b.y v.y w.y

across_like : (back : Bool) (start end d n k m o : ℕ) → 0 < d → IsAcross back start d end → IsAcross back start n m
    → IsAcross back start k o → n ≤ k
    → MovesLike start end m o
across_like false start end d n k m o wide at_end at_m at_o later = (λ up. omega arith, λ down. omega arith)
across_like true start end d n k m o wide at_end at_m at_o later = (λ up. omega arith, λ down. omega arith)

up_like : (under sheared : Bool) (start end c d m o : ℕ) (v w : GridPoint) → 0 < c → c < d → IsUp under sheared start d c end
    → IsUp under sheared start v.x v.y m → IsUp under sheared start w.x w.y o → IsGentle v w → MovesLike start end m o
up_like false false start end c d m o v w rising proper at_end at_m at_o gentle = (λ up. omega arith, λ down. omega arith)
up_like false true start end c d m o v w rising proper at_end at_m at_o gentle = (λ up. omega arith, λ down. omega arith)
up_like true false start end c d m o v w rising proper at_end at_m at_o gentle = (λ up. omega arith, λ down. omega arith)
up_like true true start end c d m o v w rising proper at_end at_m at_o gentle = (λ up. omega arith, λ down. omega arith)

like_by : (steep : Bool) (a b v w : GridPoint) → MovesLike (course steep a) (course steep b) (course steep v) (course steep w)
    → MovesLike (cross steep a) (cross steep b) (cross steep v) (cross steep w) → IsLike a b v w
like_by false a b v w along beside = record { across = along; up = beside }
like_by true a b v w along beside = record { across = beside; up = along }

-- a gentle link of the walk moves as its line
like_placed : (chart : Chart) (start end x : GridPoint) (c d : ℕ) (goal v w v_at w_at : GridPoint) → IsCharted chart start end x c d goal
    → IsPlaced chart start v v_at → IsPlaced chart start w w_at → IsLater v w → IsGentle v w → IsLike start end v_at w_at
like_placed chart start end x c d goal v w v_at w_at charted v_is w_is later gentle =
    let rising = charted.goal_is.rising in
    let proper = charted.goal_is.proper in
    like_by chart.steep start end v_at w_at
    (across_like chart.back (course chart.steep start) (course chart.steep end) d v.x w.x (course chart.steep v_at)
    (course chart.steep w_at)
    (omega arith) charted.end_at.across v_is.across w_is.across (omega arith))
    (up_like chart.under chart.sheared (cross chart.steep start) (cross chart.steep end) c d (cross chart.steep v_at)
    (cross chart.steep w_at) v w
    rising proper charted.end_at.up v_is.up w_is.up gentle)

-- ---- the whole walk
-- a walk leads from the point of its first place to that of its last
leads_from_to : (a b p q : GridPoint) (path : List GridPoint) → a ≡ p → b ≡ q → RunsFrom a b path → RunsFrom p q path
leads_from_to a b p q path first last leads =
    subst (λ (r : GridPoint). RunsFrom p r path) last (subst (λ (r : GridPoint). RunsFrom r b path) first leads)

-- what is said of a walk on the grid
pub record IsPlacedPart (chart : Chart) (start end x : GridPoint) (path : List GridPoint) : Type 0 where
  pub taut : IsTaut (frame_for chart start end) start x path
  pub chord : AllByRecursion (IsUnderChord (frame_for chart start end) start x) path
  pub like : AllLinks (IsLike start end) path

-- the points at the places of a part are a taut path under its chord
pub part_placed : (chart : Chart) (start end x : GridPoint) (c d : ℕ) (goal : GridPoint) (path : List GridPoint)
    → IsCharted chart start end x c d goal
    → IsPartTo c d goal goal path → IsPlacedPart chart start end x (map (placed chart start) path)
part_placed chart start end x c d goal path charted part =
    let f = frame_for chart start end in
    let point = placed chart start in
    let at : (p : GridPoint) → IsInReach goal p → IsPlaced chart start p (point p) =
    λ p reach. placed_is chart start goal x p charted.x_at reach in
    let at_start = placed_one chart start (point_at 0 0) (point (point_at 0 0)) start
    (at (point_at 0 0) (origin_in_reach goal charted.goal_is.gentle)) (start_placed chart start) in
    let at_x = placed_one chart start goal (point goal) x (at goal (goal_in_reach goal charted.goal_is.gentle)) charted.x_at in
    record {
      taut = record {
        leads = leads_from_to (point (point_at 0 0)) (point goal) start x (map point path) at_start at_x
            (leads_mapped (point_at 0 0) goal point path part.leads);
        onward = links_mapped (IsInReach goal) IsLater (IsForth f) point
            (λ v w v_in w_in later. later_placed chart start v w (point v) (point w) (at v v_in) (at w w_in) later)
            path part.in_reach part.later;
        bent = bends_mapped (IsInReach goal) BendsLeft (BendsUp f) point
            (λ u v w u_in v_in w_in bends. subst (λ (z : ℤ). pos 0 <ℤ z)
            (sym (bend_placed chart start u v w (point u) (point v) (point w) (at u u_in) (at v v_in) (at w w_in))) bends)
            path part.in_reach part.bends;
        beyond = vertices_mapped (λ p. IsInReach goal p × Reaches c d p) (IsBeyond f) point
            (λ p fact. beyond_placed chart start end x c d goal p (point p) charted (at p fact.0) fact.1) path
            (vertices_both (IsInReach goal) (Reaches c d) path part.in_reach part.reaches);
        bare = links_mapped (IsInReach goal) (IsBareLink c d) (IsBare f) point
            (λ v w v_in w_in bare. bare_placed chart start end x c d goal v w (point v) (point w) charted (at v v_in)
            (at w w_in) bare) path part.in_reach part.bare;
      };
      chord = vertices_mapped (IsInReach goal) (IsUnderChord f start x) point
          (λ p reach. chord_placed chart start end x c d goal p (point p) charted (at p reach) reach)
          path part.in_reach;
      like = links_mapped (IsInReach goal) (λ v w. IsLater v w × IsGentle v w) (IsLike start end) point
          (λ v w v_in w_in fact. like_placed chart start end x c d goal v w (point v) (point w) charted (at v v_in)
          (at w w_in) fact.0 fact.1)
          path part.in_reach (links_both IsLater IsGentle path part.later part.gentle);
    }
