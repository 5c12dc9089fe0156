-- This file shows that the border between two classes is cut into one cycle.
use Rattle.std.proofs.Common.{◌≡◌, ◌⊎◌, ℕ, ◌+◌, ◌*◌, ◌<◌, Bool, true, false, cond, ◌&&◌, List, [], ◌∷◌, ◌++◌, map}
use Rattle.std.proofs.Common.{Contains, refl, sym, ap, ap₂, subst, ◌∙◌, arith, inl, inr}
use Rattle.std.proofs.lemmas.List.Sums.{sum_by-cons}
use Rattle.std.proofs.lemmas.List.Elements.{All-head, All-tail}
use Rattle.grid_base.specs.Point.{GridPoint, IsBefore, is_before, is_point}
use Rattle.grid_base.specs.Segment.{GridSegment, segment_of}
use Rattle.grid_base.specs.Plane.{Place}
use Rattle.grid_base.proofs.Orders.{is_segment, is_segment-same, is_segment-itself, is_point-same, is_point-itself}
use Rattle.grid_base.proofs.Elements.{Contains-here, Contains-later, Contains-cases, Contains-nil}
use Rattle.grid_base.proofs.Booleans.{one_true, both_true, either_true}
use Rattle.plane_classes.specs.Classes.{AreInOneClass, AreAcross}
use Rattle.plane_classes.proofs.ClassLemmas.{one_class_back, one_class_joined}
use Rattle.plane_classes.proofs.Parities.{xor, par, xor_comm, xor_right_none, ends_with, HasPairedEnds}
use Rattle.plane_classes.proofs.Counts.{halves}
use Rattle.plane_classes.proofs.Ways.{AreInOrder}
use Rattle.plane_classes.proofs.FewerSegments.{IsPart}
use Rattle.plane_classes.proofs.AlongSegment.{IsAlone}
use Rattle.plane_classes.proofs.TwoSides.{is_odd_in}
use Rattle.plane_classes.proofs.OneCycle.{one_cycle_only}
use Rattle.r_cycles.specs.Cycles.{Link, link, links, round, joins, times_joined, times_used, IsCycle, CutsIntoCycles}
use Rattle.r_cycles.proofs.Counts.{count_by-some}
use Rattle.r_cycles.proofs.Borders.{joined_is}

-- ---- the segments of a cycle
abbrev pub along : Link → GridSegment
along l = segment_of l.from l.to

abbrev pub segments_of : List GridPoint → List GridSegment
segments_of c = map along (links (round c))

contains_map : (K : List Link) (s : GridSegment) → Contains (map along K) s → (l : Link) × Contains K l × (along l ≡ s)
contains_map [] s m = absurd (Contains-nil s m)
contains_map (k ∷ K) s m = elim (Contains-cases (along k) (map along K) s m) [
  | inl same ↦ (k, Contains-here k K, same)
  | inr later ↦ let r = contains_map K s later in (r.0, Contains-later k K r.0 r.1, r.2)
]

par_along : (f : GridSegment → Bool) (g : Link → Bool) (K : List Link) → ((l : Link) → Contains K l → f (along l) ≡ g l)
    → par f (map along K) ≡ par g K
par_along f g [] e = refl
par_along f g (k ∷ K) e = ap₂ xor (e k (Contains-here k K)) (par_along f g K (λ l m. e l (Contains-later k K l m)))

-- ---- an even number of them ends at each point
around : (a b c : Bool) → xor (xor a b) (xor b c) ≡ xor a c
around true true true = refl
around true true false = refl
around true false c = refl
around false true true = refl
around false true false = refl
around false false c = refl

telescoped : (f : GridPoint → Bool) (v : GridPoint) (way : List GridPoint) (e : GridPoint)
    → par (λ (l : Link). xor (f l.from) (f l.to)) (links (v ∷ (way ++ e ∷ []))) ≡ xor (f v) (f e)
telescoped f v [] e = xor_right_none (xor (f v) (f e))
telescoped f v (w ∷ way) e = ap (λ (b : Bool). xor (xor (f v) (f w)) b) (telescoped f w way e) ∙ around (f v) (f w) (f e)

own : (b : Bool) → xor b b ≡ false
own true = refl
own false = refl

ends_along : (f : GridPoint → Bool) (l : Link) → ends_with f (along l) ≡ xor (f l.from) (f l.to)
ends_along f l = by (is_before l.from l.to) refl
  where
    by : (b : Bool) → is_before l.from l.to ≡ b → ends_with f (along l) ≡ xor (f l.from) (f l.to)
    by true e = rw e refl
    by false e = rw e (xor_comm (f l.to) (f l.from))

paired : (c : List GridPoint) → HasPairedEnds (segments_of c)
paired [] v = refl
paired (u ∷ c) v =
    par_along (ends_with (is_point v)) (λ l. xor (is_point v l.from) (is_point v l.to)) (links (round (u ∷ c)))
    (λ l m. ends_along (is_point v) l)
    ∙ telescoped (is_point v) u c u ∙ own (is_point v u)

-- ---- how often a segment comes
alike : (b c : Bool) → (b ≡ true → c ≡ true) → (c ≡ true → b ≡ true) → b ≡ c
alike true c f g = sym (f refl)
alike false true f g = g refl
alike false false f g = refl

both_are : (b c : Bool) → b ≡ true → c ≡ true → (b && c) ≡ true
both_are b c e f = cc

points_same : (p q : GridPoint) → p ≡ q → is_point p q ≡ true
points_same p q e = subst (λ (x : GridPoint). is_point p x ≡ true) e (is_point-itself p)

joins_by : (p q : GridPoint) (l : Link) → ((l.from ≡ p) × (l.to ≡ q)) ⊎ ((l.from ≡ q) × (l.to ≡ p)) → joins p q l ≡ true
joins_by p q l (inl h) = either_true _ _ (inl (both_are _ _ (points_same l.from p h.0) (points_same l.to q h.1)))
joins_by p q l (inr h) = either_true _ _ (inr (both_are _ _ (points_same l.from q h.0) (points_same l.to p h.1)))

pub by_joins : (p q : GridPoint) (l : Link) → joins p q l ≡ true → ((l.from ≡ p) × (l.to ≡ q)) ⊎ ((l.from ≡ q) × (l.to ≡ p))
by_joins p q l h = elim (one_true (is_point l.from p && is_point l.to q) (is_point l.from q && is_point l.to p) h) [
  | inl a ↦ let r = both_true (is_point l.from p) (is_point l.to q) a in inl (is_point-same l.from p r.0, is_point-same l.to q r.1)
  | inr a ↦ let r = both_true (is_point l.from q) (is_point l.to p) a in inr (is_point-same l.from q r.0, is_point-same l.to p r.1)
]

-- the ends of the segment along a link
pub along_ends : (l : Link) → ((l.from ≡ (along l).a) × (l.to ≡ (along l).b)) ⊎ ((l.from ≡ (along l).b) × (l.to ≡ (along l).a))
along_ends l = by (is_before l.from l.to) refl
  where
    by : (b : Bool) → is_before l.from l.to ≡ b
        → ((l.from ≡ (along l).a) × (l.to ≡ (along l).b)) ⊎ ((l.from ≡ (along l).b) × (l.to ≡ (along l).a))
    by true e = inl (rw e refl, rw e refl)
    by false e = inr (rw e refl, rw e refl)

joined_along : (l : Link) → joins (along l).a (along l).b l ≡ true
joined_along l = joins_by (along l).a (along l).b l (along_ends l)

turned : (p q : GridPoint) (l : Link) → joins p q l ≡ true → joins l.from l.to (link p q) ≡ true
turned p q l h = elim (by_joins p q l h) [
  | inl e ↦ joins_by l.from l.to (link p q) (inl (sym e.0, sym e.1))
  | inr e ↦ joins_by l.from l.to (link p q) (inr (sym e.1, sym e.0))
]

is_along : (s : GridSegment) (l : Link) → IsBefore s.a s.b → joins s.a s.b l ≡ true → along l ≡ s
is_along s l before h = sym (joined_is l.from l.to s before (turned s.a s.b l h))

counted : (s : GridSegment) (l : Link) → IsBefore s.a s.b → (is_segment s (along l) && true) ≡ joins s.a s.b l
counted s l before = alike _ _
    (λ e. subst (λ (t : GridSegment). joins t.a t.b l ≡ true) (sym (is_segment-same s (along l) (both_true _ true e).0)) (joined_along l))
    (λ e. both_are _ _ (subst (λ (t : GridSegment). is_segment s t ≡ true) (sym (is_along s l before e)) (is_segment-itself s)) refl)

odd_of : (b : Bool) (n k : ℕ) → n ≡ 2 * k + cond b 1 0 → n ≡ 1 → b ≡ true
odd_of true n k h e = refl
odd_of false n k h e = absurd (omega arith)

none_of : (b : Bool) (n k : ℕ) → n ≡ 2 * k + cond b 1 0 → n ≡ 0 → b ≡ false
none_of true n k h e = absurd (omega arith)
none_of false n k h e = refl

once_in : (s : GridSegment) (c : List GridPoint) → IsBefore s.a s.b → times_joined s.a s.b (round c) ≡ 1
    → is_odd_in (segments_of c) s ≡ true
once_in s c before e =
    let h = halves (joins s.a s.b) (links (round c)) in
    par_along (λ t. is_segment s t && true) (joins s.a s.b) (links (round c)) (λ l m. counted s l before)
    ∙ odd_of _ _ h.0 h.1 e

never_in : (s : GridSegment) (c : List GridPoint) → IsBefore s.a s.b → times_joined s.a s.b (round c) ≡ 0
    → is_odd_in (segments_of c) s ≡ false
never_in s c before e =
    let h = halves (joins s.a s.b) (links (round c)) in
    par_along (λ t. is_segment s t && true) (joins s.a s.b) (links (round c)) (λ l m. counted s l before)
    ∙ none_of _ _ h.0 h.1 e

-- ---- links that cycles use
-- a link of a cycle is joined by it
pub joined_by : (c : List GridPoint) (l : Link) (p q : GridPoint) → Contains (links (round c)) l → joins p q l ≡ true
    → 0 < times_joined p q (round c)
joined_by c l p q there h = count_by-some (joins p q) (links (round c)) l there h

pub first_used : (p q : GridPoint) (c : List GridPoint) (cycles : List (List GridPoint))
    → times_used p q (c ∷ cycles) ≡ times_joined p q (round c) + times_used p q cycles
first_used p q c cycles = sum_by-cons (λ d. times_joined p q (round d)) c cycles

-- the segment along a link of the first cycle is one of the border
pub along_border : (G : List GridSegment) (c : List GridPoint) (cycles : List (List GridPoint)) (l : Link) → CutsIntoCycles G (c ∷ cycles)
    → Contains (links (round c)) l → Contains G (along l)
along_border G c cycles l cut there =
    let one = joined_by c l l.from l.to there (joins_by l.from l.to l (inl (refl, refl))) in
    cut.no_other l.from l.to (omega (arith, one, first_used l.from l.to c cycles))

-- a cycle has a link
some_link : (c : List GridPoint) → IsCycle c → (l : Link) × Contains (links (round c)) l
some_link [] h = absurd (omega (arith, h.three))
some_link (v ∷ []) h = absurd (omega (arith, h.three))
some_link (v ∷ w ∷ c) h = (link v w, Contains-here (link v w) (links (w ∷ (c ++ v ∷ []))))

-- ---- one cycle
-- each segment of G lies between the classes of p and q, and G is a border of segments of R that are apart
pub record IsBetween (R G : List GridSegment) (p q : Place) : Type 0 where
  pub order : AreInOrder G
  pub part : IsPart G R
  pub alone : (s : GridSegment) → Contains G s → IsAlone R s
  pub across : (s : GridSegment) → Contains G s
      → (u : Place) × (w : Place) × AreAcross R s u w × AreInOneClass R p u × AreInOneClass R q w

not_two : (R G : List GridSegment) (p q : Place) (c d : List GridPoint) (cycles : List (List GridPoint)) → IsBetween R G p q
    → CutsIntoCycles G (c ∷ d ∷ cycles) → IsCycle c → IsCycle d → ⊥
not_two R G p q c d cycles h cut is_c is_d =
    let k = some_link c is_c in
    let m = some_link d is_d in
    let t = along k.0 in
    let s = along m.0 in
    let t_in = along_border G c (d ∷ cycles) k.0 cut k.1 in
    let in_d = joined_by d m.0 m.0.from m.0.to m.1 (joins_by m.0.from m.0.to m.0 (inl (refl, refl))) in
    let s_in : Contains G s = cut.no_other m.0.from m.0.to
    (omega (arith, in_d, first_used m.0.from m.0.to c (d ∷ cycles), first_used m.0.from m.0.to d cycles)) in
    let t_some = joined_by c k.0 t.a t.b k.1 (joined_along k.0) in
    let t_once : times_joined t.a t.b (round c) ≡ 1 = omega (arith, t_some, cut.each_once t t_in, first_used t.a t.b c (d ∷ cycles)) in
    let s_some = joined_by d m.0 s.a s.b m.1 (joined_along m.0) in
    let s_never : times_joined s.a s.b (round c) ≡ 0 = omega (
      arith,
      s_some,
      cut.each_once s s_in,
      first_used s.a s.b c (d ∷ cycles),
      first_used s.a s.b d cycles,
    ) in
    let a = h.across s s_in in
    let b = h.across t t_in in
    let in_G = λ (u : GridSegment) (m : Contains (segments_of c) u). let l = contains_map (links (round c)) u m in
    subst (Contains G) l.2 (along_border G c (d ∷ cycles) l.0 cut l.1) in
    one_cycle_only (segments_of c) R s t a.0 a.1 b.0 b.1 (λ u m. h.part u (in_G u m)) (λ u m. h.order u (in_G u m)) (paired c)
    (h.order s s_in) (h.order t t_in) (h.alone s s_in) (h.alone t t_in) a.2 b.2
    (one_class_joined R a.0 p b.0 (one_class_back R p a.0 a.3) b.3) (one_class_joined R a.1 q b.1 (one_class_back R q a.1 a.4) b.4)
    (never_in s c (h.order s s_in) s_never) (once_in t c (h.order t t_in) t_once)

pub one_cycle : (R G : List GridSegment) (p q : Place) (cycles : List (List GridPoint)) (s : GridSegment) → IsBetween R G p q
    → CutsIntoCycles G cycles → Contains G s → (c : List GridPoint) × (cycles ≡ c ∷ [])
one_cycle R G p q [] s h cut there = absurd (omega (arith, cut.each_once s there))
one_cycle R G p q (c ∷ []) s h cut there = (c, refl)
one_cycle R G p q (c ∷ d ∷ cycles) s h cut there =
    absurd (not_two R G p q c d cycles h cut (All-head IsCycle c (d ∷ cycles) cut.are_cycles)
    (All-head IsCycle d cycles (All-tail IsCycle c (d ∷ cycles) cut.are_cycles)))
