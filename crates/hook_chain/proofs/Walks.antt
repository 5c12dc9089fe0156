-- The walk along least fractions keeps a part of a hook: from where it is, it turns to the least slope that isn't below the line's.
use Rattle.std.proofs.Common.{◌≡◌, ℕ, ◌+◌, ◌-◌, ◌*◌, ◌/◌, ◌<◌, ◌≤◌, ℤ, pos, ◌-ℤ◌, ◌<ℤ◌, List, [], ◌∷◌, ◌++◌, refl, sym, ap, subst, ◌∙◌}
use Rattle.std.proofs.Common.{arith, inl, inr}
use Rattle.std.proofs.lemmas.Int.{ints}
use Rattle.grid_base.specs.Point.{GridPoint, point_at}
use Rattle.grid_base.proofs.Turns.{times, times_le, leftward, rightward, turn_is}
use Rattle.grid_base.proofs.Ends.{same_point}
use Rattle.grid_base.proofs.Balances.{factor_cancels_le}
use Rattle.hook_chain.specs.Fractions.{IsLeastAbove}
use Rattle.hook_chain.specs.Parts.{Reaches, IsLow, IsLater, IsGentle, BendsLeft, IsBareLink, IsInReach, IsPartTo}
use Rattle.hook_chain.specs.Placing.{IsGoal}
use Rattle.grid_base.proofs.Signs.{natural_order}
use Rattle.hook_chain.proofs.Farey.{product_of_quotient}
use Rattle.hook_chain.proofs.Paths.{leads_push, vertices_push, links_push, LastLink, bends_push, last_pushed}

-- the point q to the right of z and p above it, m times over
abbrev pub away : GridPoint → ℕ → ℕ → GridPoint
away z across up = point_at (z.x + across) (z.y + up)

-- from z on as far as x, what is on or above the line is on or above the way from z with p up for q to the right
abbrev pub IsTangent : ℕ → ℕ → GridPoint → GridPoint → ℕ → ℕ → Type 0
IsTangent c d x z p q = (g : GridPoint) → z.x ≤ g.x → g.x ≤ x.x → Reaches c d g → q * z.y + p * g.x ≤ q * g.y + p * z.x

-- ---- slopes
-- what is reached with a slope isn't lower
not_lower : (s r zx zy gx gy : ℕ) → 0 < s → zx ≤ gx → s * zy + r * gx ≤ s * gy + r * zx → zy ≤ gy
not_lower s r zx zy gx gy some later reached =
    let rise = times_le 0 r zx gx (omega arith) later in factor_cancels_le zy gy s some (omega arith)

-- what is as steep as a slope that isn't below c / d isn't below it either
steep_enough : (c d r s b f : ℕ) → 0 < s → c * s ≤ r * d → r * b ≤ s * f → c * b ≤ f * d
steep_enough c d r s b f some steep along =
    let slope = times_le (c * s) (r * d) 0 b steep (omega arith) in
    let rise = times_le (r * b) (s * f) 0 d along (omega arith) in
    factor_cancels_le (c * b) (f * d) s some (omega arith)

-- a slope of at most p / q, where r / s is at most p / q too
at_most_slope : (zx zy r s p q : ℕ) → 0 < s → zy * s ≤ r * zx → r * q ≤ p * s → zy * q ≤ p * zx
at_most_slope zx zy r s p q some gradual less =
    let rise = times_le (zy * s) (r * zx) 0 q gradual (omega arith) in
    let slope = times_le (r * q) (p * s) 0 zx less (omega arith) in
    factor_cancels_le (zy * q) (p * zx) s some (omega arith)

-- ---- one turn of the walk
-- the line turns up to the least fraction
turned : (c d p q r s : ℕ) (x z : GridPoint) → z.x < x.x → 0 < s → c * s ≤ r * d → IsLeastAbove c d (x.x - z.x) p q
    → IsTangent c d x z r s → IsTangent c d x z p q
turned c d p q r s x z before some steep least tangent g from to reach =
    let at = tangent g from to reach in
    let high = not_lower s r z.x z.y g.x g.y some from at in
    let b = g.x - z.x in
    let f = g.y - z.y in
    let across : z.x + b ≡ g.x = omega arith in
    let up : z.y + f ≡ g.y = omega arith in
    let r_across = ap (λ (n : ℕ). r * n) across in
    let s_up = ap (λ (n : ℕ). s * n) up in
    let along : r * b ≤ s * f = omega arith in
    let enough = steep_enough c d r s b f some steep along in
    let best : p * b ≤ f * q = elim (natural_order b 0) [
      | inl none ↦ let level = times_le b 0 0 p none (omega arith) in omega arith
      | inr more ↦ least.least f b more (omega arith) enough
    ] in
    let p_across = ap (λ (n : ℕ). p * n) across in
    let q_up = ap (λ (n : ℕ). q * n) up in
    omega arith

-- the line is the same from a point further on
advanced : (c d p q m : ℕ) (x z : GridPoint) → IsTangent c d x z p q → IsTangent c d x (away z (m * q) (m * p)) p q
advanced c d p q m x z tangent g from to reach = let at = tangent g (omega arith) to reach in omega arith

-- a link along the line has nothing under it
none_below : (c d p q m : ℕ) (x z g : GridPoint) → IsTangent c d x z p q → z.x ≤ g.x → g.x ≤ x.x → Reaches c d g
    → rightward z (away z (m * q) (m * p)) g ≤ leftward z (away z (m * q) (m * p)) g
none_below c d p q m x z g tangent from to reach =
    let at = tangent g from to reach in
    let scaled = times_le (q * z.y + p * g.x) (q * g.y + p * z.x) 0 m at (omega arith) in
    omega arith

-- and stays on or above the segment
stays_above : (c d p q m : ℕ) (z : GridPoint) → c * q ≤ p * d → Reaches c d z → Reaches c d (away z (m * q) (m * p))
stays_above c d p q m z steep above = let scaled = times_le (c * q) (p * d) 0 m steep (omega arith) in omega arith

-- the next slope isn't less than the last
not_flatter : (c d p q r s : ℕ) (x z : GridPoint) → z.x < x.x → IsLeastAbove c d (x.x - z.x) p q → Reaches c d z → IsTangent c d x z r s
    → r * q ≤ p * s
not_flatter c d p q r s x z before least above tangent =
    let within = least.within in
    let steep = least.above in
    let at = tangent (away z q p) (omega arith) (omega arith) (omega arith) in
    omega arith

-- the next link bends up
bends_up : (c d n p q r s m k : ℕ) (z : GridPoint) → 0 < m → 0 < k → IsLeastAbove c d n r s → 0 < q → q < s → c * q ≤ p * d
    → let w : GridPoint = away z (m * s) (m * r) in
    rightward z w (away w (k * q) (k * p)) < leftward z w (away w (k * q) (k * p))
bends_up c d n p q r s m k z some_m some_k least some less steep =
    let steeper = least.lowest p q some less steep in
    let first = times 0 m (r * q) (p * s) some_m steeper in
    let second = times 0 k (m * (r * q)) (m * (p * s)) some_k (omega arith) in
    omega arith

-- ---- the point that the walk leads to
-- the way from a point of the walk to x is at most as steep as a diagonal
at_most_diagonal : (c d : ℕ) (x z : GridPoint) → c < d → IsLow c d x → z.x ≤ x.x → Reaches c d z → z.x + x.y ≤ x.x + z.y
at_most_diagonal c d x z proper low before above =
    let not_steeper : x.x + z.y < z.x + x.y → ⊥ = λ steeper.
    let rise = times_le 0 d (x.x + z.y + 1) (z.x + x.y) (omega arith) (omega arith) in
    let run = times_le c d z.x x.x (omega arith) before in
    omega arith
    in omega (arith, not_steeper)

-- a point of the walk isn't above the way from the origin to x
chord : (p q : ℕ) (x z : GridPoint) → 0 < q → z.x ≤ x.x → z.y * q ≤ p * z.x → q * z.y + p * x.x ≤ q * x.y + p * z.x → z.y * x.x ≤ x.y * z.x
chord p q x z some before gradual tangent =
    let first = times_le (z.y * q) (p * z.x) z.x x.x gradual before in
    let second = times_le (q * z.y + p * x.x) (q * x.y + p * z.x) 0 z.x tangent (omega arith) in
    factor_cancels_le (z.y * x.x) (x.y * z.x) q some (omega arith)

-- a slope of at most 1 leads to at most as many rows as columns
rows_at_most : (p q : ℕ) (z : GridPoint) → 0 < q → p ≤ q → z.y * q ≤ p * z.x → z.y ≤ z.x
rows_at_most p q z some proper gradual =
    let slope = times_le p q 0 z.x proper (omega arith) in factor_cancels_le z.y z.x q some (omega arith)

-- the walk ends at the lowest point of the last column that is on or above the line
comes_to : (c d r s : ℕ) (x z : GridPoint) → 0 < s → IsTangent c d x z r s → z.x ≡ x.x → Reaches c d z → Reaches c d x → IsLow c d x
    → z.y ≡ x.y
comes_to c d r s x z some tangent column above high low =
    let at = tangent x (omega arith) (omega arith) high in
    let up = not_lower s r z.x z.y x.x x.y some (omega arith) at in
    let c_column = ap (λ (n : ℕ). c * n) column in
    let not_under : z.y < x.y → ⊥ = λ under. let gap = times_le 0 d (z.y + 1) x.y (omega arith) (omega arith) in omega arith in
    omega (arith, not_under)

-- ---- what the walk keeps
-- the whole times that a step fits are at least one
whole : (n q m : ℕ) → 0 < q → q ≤ n → m ≡ n / q → 0 < m
whole n q m some fits is =
    let not_none : m ≡ 0 → ⊥ = λ none. let product = ap (λ (x : ℕ). q * x) (sym is ∙ none) in omega arith in
    omega (arith, not_none)

-- and leave less than a step
less_than : (n q m : ℕ) → 0 < q → m ≡ n / q → n < m * q + q
less_than n q m some is = let product = ap (λ (x : ℕ). q * x) is in omega arith

-- from the sums of a turn to its sign
not_right : {t : ℤ} {l r : ℕ} → t ≡ pos l -ℤ pos r → r ≤ l → t <ℤ pos 0 → ⊥
not_right is at_most below = omega (arith, ints)

turns_left : {t : ℤ} {l r : ℕ} → t ≡ pos l -ℤ pos r → r < l → pos 0 <ℤ t
turns_left is less = omega (arith, ints)

-- path leads to z, and all that is left lies on or above the way from z with r up for s to the right
pub record IsWalk (c d : ℕ) (x z : GridPoint) (path : List GridPoint) : Type 0 where
  pub part : IsPartTo c d x z path
  pub before : z.x ≤ x.x
  pub above : Reaches c d z
  pub r : ℕ
  pub s : ℕ
  pub some : 0 < s
  pub steep : c * s ≤ r * d
  pub gradual : z.y * s ≤ r * z.x
  pub tangent : IsTangent c d x z r s
  pub bend : (p q k : ℕ) → 0 < k → 0 < q → q ≤ x.x - z.x → c * q ≤ p * d → LastLink BendsLeft path (away z (k * q) (k * p))

-- it begins at the origin
pub begin : (c d : ℕ) (x : GridPoint) → IsGoal c d x → IsWalk c d x (point_at 0 0) (point_at 0 0 ∷ [])
begin c d x leads =
    let proper = leads.proper in
    record {
      part = record {
        leads = (refl, refl);
        later = tt;
        gentle = tt;
        bends = tt;
        reaches = (omega arith, tt);
        in_reach = (
          record {
            before = omega arith;
            not_above = omega arith;
            under_chord = omega arith;
            from_origin = omega arith;
            to_x = at_most_diagonal c d x (point_at 0 0) proper leads.low (omega arith) (omega arith);
          },
          tt,
        );
        bare = tt;
      };
      before = omega arith;
      above = omega arith;
      r = c;
      s = d;
      some = omega arith;
      steep = omega arith;
      gradual = omega arith;
      tangent = λ g from to reach. omega arith;
      bend = λ p q k some_k some fits steep. tt;
    }

-- and goes on by whole steps of the least fraction
pub go_on : (c d p q m : ℕ) (x z : GridPoint) (path : List GridPoint) → IsGoal c d x → IsWalk c d x z path → z.x < x.x
    → IsLeastAbove c d (x.x - z.x) p q
    → m ≡ (x.x - z.x) / q → IsWalk c d x (away z (m * q) (m * p)) (path ++ away z (m * q) (m * p) ∷ [])
go_on c d p q m x z path goal walk before least is =
    let w = away z (m * q) (m * p) in
    let more : 0 < m = whole (x.x - z.x) q m least.some least.within is in
    let fits : m * q ≤ x.x - z.x = product_of_quotient m (x.x - z.x) q (omega arith) in
    let left : x.x - z.x < m * q + q = less_than (x.x - z.x) q m least.some is in
    let turns = turned c d p q walk.r walk.s x z before walk.some walk.steep least walk.tangent in
    let above = stays_above c d p q m z least.above walk.above in
    let forth : z.x < w.x = (let product = times 0 m 0 q more least.some in omega arith) in
    let within : w.x ≤ x.x = omega arith in
    let steeper = not_flatter c d p q walk.r walk.s x z before least walk.above walk.tangent in
    let start = at_most_slope z.x z.y walk.r walk.s p q walk.some walk.gradual steeper in
    let gradual : w.y * q ≤ p * w.x = omega arith in
    let proper : p ≤ q = (let one = least.least 1 1 (omega arith) (omega arith) (omega (arith, goal.proper)) in omega arith) in
    let tangent = advanced c d p q m x z turns in
    let at_x = tangent x within (omega arith) goal.above in
    let gentle = times_le p q 0 m proper (omega arith) in
    record {
      part = record {
        leads = leads_push (point_at 0 0) z w path walk.part.leads;
        later = links_push IsLater (point_at 0 0) z w path walk.part.leads walk.part.later forth;
        gentle = links_push IsGentle (point_at 0 0) z w path walk.part.leads walk.part.gentle (omega arith, omega arith);
        bends = bends_push BendsLeft w path walk.part.bends (walk.bend p q m more least.some least.within least.above);
        reaches = vertices_push (Reaches c d) w path walk.part.reaches above;
        in_reach = vertices_push (IsInReach x) w path walk.part.in_reach (record {
          before = within;
          not_above = not_lower q p w.x w.y x.x x.y least.some within at_x;
          under_chord = chord p q x w least.some within gradual at_x;
          from_origin = rows_at_most p q w least.some proper gradual;
          to_x = at_most_diagonal c d x w goal.proper goal.low within above;
        });
        bare = links_push (IsBareLink c d) (point_at 0 0) z w path walk.part.leads walk.part.bare
            (λ g from to reach under. not_right (turn_is z w g) (none_below c d p q m x z g turns from (omega arith) reach) under);
      };
      before = within;
      above = above;
      r = p;
      s = q;
      some = least.some;
      steep = least.above;
      gradual = gradual;
      tangent = tangent;
      bend = λ t u k some_k some_u fit steep. last_pushed BendsLeft (point_at 0 0) z w (away w (k * u) (k * t)) path walk.part.leads
          (turns_left (turn_is z w (away w (k * u) (k * t))) (bends_up c d (x.x - z.x) t u p q m k z more some_k least some_u
          (omega arith) steep));
    }

-- the walk goes to a later column
pub further : (c d p q m : ℕ) (x z : GridPoint) → IsLeastAbove c d (x.x - z.x) p q → m ≡ (x.x - z.x) / q → z.x < z.x + m * q
further c d p q m x z least is =
    let more = whole (x.x - z.x) q m least.some least.within is in
    let product = times 0 m 0 q more least.some in
    omega arith

-- the walk that has come to the last column is the part
pub come : (c d : ℕ) (x z : GridPoint) (path : List GridPoint) → IsGoal c d x → IsWalk c d x z path → x.x ≤ z.x → IsPartTo c d x x path
come c d x z path goal walk at_end =
    let column : z.x ≡ x.x = omega (arith, walk.before) in
    let row : z.y ≡ x.y = comes_to c d walk.r walk.s x z walk.some walk.tangent column walk.above goal.above goal.low in
    subst (λ (e : GridPoint). IsPartTo c d x e path) (same_point z x column row) walk.part
