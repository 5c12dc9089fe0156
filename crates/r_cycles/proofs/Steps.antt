-- This file shows what one step of a walk keeps, that a closed ring is a cycle, and that a walk ends where it began.
use Rattle.std.proofs.Common.{◌≡◌, ◌≢◌, ◌+◌, ◌<◌, Bool, true, false, ◌&&◌, ◌||◌, refl, sym, ap, ap₂, ◌∙◌, subst, arith}
use Rattle.std.proofs.Common.{List, [], ◌∷◌, ◌++◌, Option, Some, None, MatchOption, Contains, count_by}
use Rattle.std.proofs.lemmas.List.Sums.{sum_by_push}
use Rattle.std.proofs.lemmas.List.Elements.{All-push, Contains-push}
use Rattle.grid_base.specs.Point.{GridPoint, is_point}
use Rattle.grid_base.proofs.Orders.{is_point-same, is_point-itself}
use Rattle.r_cycles.specs.Cycles.{link, round, joins, IsCycle, times_joined}
use Rattle.r_cycles.specs.Trail.{CutsBack}
use Rattle.r_cycles.specs.Left.{way_of, leads, begins, one_if, times_kept, AreSimple, BeginsAt, EndsAt, IsEvenBetween, AreEven, GoesOn}
use Rattle.r_cycles.specs.Left.{KeepsAll}
use Rattle.r_cycles.specs.declared.ways.Way.{Way}
use Rattle.r_cycles.proofs.Counts.{count_by-cons}
use Rattle.r_cycles.proofs.Trails.{AreApart, apart-head, apart-right}
use Rattle.r_cycles.proofs.Joins.{there_from_count, count_from_there, times_joined-swap, times_used-swap}
use Rattle.r_cycles.proofs.Joins.{joins_by_ways, times_joined-split, times_joined-push, ends-later, ends-one, ends-append, begins-append}
use Rattle.r_cycles.proofs.Joins.{begins-push}

-- ---- one step
-- the trail goes on to a new vertex
pub goes_on : (trail : List GridPoint) (cycles : List (List GridPoint)) (here next : GridPoint) → EndsAt here trail
    → GoesOn trail cycles here next (trail ++ next ∷ []) cycles
goes_on trail cycles here next ends = record {
  joined = λ p q. omega (arith, times_joined-push p q here next trail ends);
  are_cycles = λ all. all;
  begins = λ v begun. begins-push v trail next begun;
  ends = (trail, refl);
}

or_true : (b : Bool) → (b || true) ≡ true
or_true true = refl
or_true false = refl

-- a link joins its own ends
joins_ends : (v w : GridPoint) → one_if (joins v w (link w v)) ≡ 1
joins_ends v w = ap (λ b. one_if b)
    (ap (λ b. (is_point w v && is_point v w) || b) (ap₂ (λ b c. b && c) (is_point-itself w) (is_point-itself v))
    ∙ or_true (is_point w v && is_point v w))

-- what closes from next to here is a cycle, where next and here were not joined
ring_is_cycle : (here next : GridPoint) (back : List GridPoint) → AreApart (next ∷ back) → EndsAt here (next ∷ back)
    → here ≢ next → times_joined here next (next ∷ back) ≡ 0 → IsCycle (next ∷ back)
ring_is_cycle here next [] apart ends other new = absurd (other (sym (ends-one here next ends)))
ring_is_cycle here next (v ∷ []) apart ends other new =
    let same = ends-one here v (ends-later here next v [] ends) in
    let once = ap (λ u. one_if (joins here next (link next u))) same ∙ joins_ends here next in
    absurd (omega (arith, new, once, count_by-cons (joins here next) (link next v) []))
ring_is_cycle here next (v ∷ w ∷ back) apart ends other new = record { three = omega arith; once = apart }

-- the trail is cut back, and a cycle is closed
pub closes : (trail : List GridPoint) (cycles : List (List GridPoint)) (here next : GridPoint) (shorter ring : List GridPoint)
    → AreApart trail → EndsAt here trail → here ≢ next → times_joined here next trail ≡ 0 → CutsBack trail next shorter ring
    → GoesOn trail cycles here next shorter (cycles ++ ring ∷ [])
closes trail cycles here next shorter ring apart ends other new cut = record {
  joined = λ p q.
      let split = ap (times_joined p q) cut.was ∙ times_joined-split p q cut.front next cut.back in
      let closed = ap (λ r. times_joined p q (round r)) cut.ring_is ∙ times_joined-push p q here next (next ∷ cut.back) ring_ends in
      let more = sum_by_push (λ c. times_joined p q (round c)) cycles ring in
      omega (arith, split, closed, more, ap (times_joined p q) cut.is);
  are_cycles = λ all. All-push IsCycle cycles ring all (subst IsCycle (sym cut.ring_is)
      (ring_is_cycle here next cut.back (apart-right cut.front (next ∷ cut.back) (subst AreApart cut.was apart)) ring_ends other
      (omega (arith, new, ap (times_joined here next) cut.was ∙ times_joined-split here next cut.front next cut.back))));
  begins = λ v begun.
      subst (BeginsAt v) (sym cut.is) (begins-append v cut.front next cut.back [] (subst (BeginsAt v) cut.was begun));
  ends = (cut.front, cut.is);
}
  where
    ring_ends : EndsAt here (next ∷ cut.back)
    ring_ends = ends-append here cut.front next cut.back (subst (EndsAt here) cut.was ends)

-- ---- what is known where a way leads on
-- here and next are two points, joined by nothing but what is left, and the way back is left too
pub record LeadsOn (left : List Way) (trail : List GridPoint) (here next : GridPoint) : Type 0 where
  pub apart : here ≢ next
  pub there_back : Contains left (way_of next here)
  pub new : times_joined here next trail ≡ 0

pub leads_on : (before left : List Way) (earlier cycles : List (List GridPoint)) (trail : List GridPoint) (here next : GridPoint)
    → AreSimple (λ p q. times_kept p q before [] earlier) → KeepsAll before earlier left trail cycles
    → Contains left (way_of here next) → LeadsOn left trail here next
leads_on before left earlier cycles trail here next simple kept there = record {
  apart = λ same.
      let itself = subst (λ v. Contains left (way_of here v)) (sym same) there in
      omega (arith, count_from_there left here here itself, kept.joined here here, simple.apart here);
  there_back = there_from_count left next here
      (omega (
        arith,
        some,
        kept.joined here next,
        kept.joined next here,
        simple.both_ways here next,
        times_joined-swap here next trail,
        times_used-swap here next cycles,
      ));
  new = omega (arith, some, kept.joined here next, simple.once here next);
}
  where
    some : 0 < count_by (leads here next) left
    some = count_from_there left here next there

-- ---- what a walk keeps
-- each link of a step is kept
pub keeps_on : (before left fewer : List Way) (earlier cycles more : List (List GridPoint)) (trail longer : List GridPoint)
    (here next : GridPoint)
    → here ≢ next → KeepsAll before earlier left trail cycles
    → ((f : Way → Bool) → count_by f fewer + (one_if (f (way_of here next)) + one_if (f (way_of next here))) ≡ count_by f left)
    → GoesOn trail cycles here next longer more → KeepsAll before earlier fewer longer more
keeps_on before left fewer earlier cycles more trail longer here next apart kept takes goes = record {
  joined = λ p q. omega (arith, kept.joined p q, takes (leads p q), goes.joined p q, joins_by_ways p q here next apart);
  are_cycles = λ all. goes.are_cycles (kept.are_cycles all);
  fewer_left = λ p q. omega (arith, kept.fewer_left p q, takes (leads p q));
}

-- and an even number is left everywhere but at the two ends
pub even_on : (left fewer : List Way) (start here next : GridPoint)
    → ((f : Way → Bool) → count_by f fewer + (one_if (f (way_of here next)) + one_if (f (way_of next here))) ≡ count_by f left)
    → IsEvenBetween start here left → IsEvenBetween start next fewer
even_on left fewer start here next takes even p = omega (arith, takes (begins p), even p)

-- ---- where it ends
-- a trail of different vertices that begins where it ends is one vertex
one_vertex : (v : GridPoint) (trail : List GridPoint) → AreApart trail → BeginsAt v trail → EndsAt v trail → trail ≡ v ∷ []
one_vertex v trail apart begun ([], is) = is
one_vertex v trail apart begun (w ∷ front, is) =
    let same = subst (BeginsAt v) is begun in
    let twice = subst (λ u. Contains (front ++ u ∷ []) w) same (Contains-push front w) in
    absurd (apart-head w (front ++ v ∷ []) (subst AreApart is apart) twice)

-- where no way leads on, the walk is back at its start
back_at_start : (left : List Way) (start here : GridPoint) → IsEvenBetween start here left → count_by (begins here) left ≡ 0
    → start ≡ here
back_at_start left start here even none = by (is_point start here) refl
  where
    by : (b : Bool) → is_point start here ≡ b → start ≡ here
    by true e = is_point-same start here e
    by false e =
        let at_start = ap (λ b. one_if b) e in
        let at_here = ap (λ b. one_if b) (is_point-itself here) in
        absurd (omega (arith, at_start, at_here, none, even here))

-- what is known behind a walk
pub record Ends (before : List Way) (earlier : List (List GridPoint)) (left : List Way) (cycles : List (List GridPoint))
    (start : GridPoint) : Type 0 where
  pub kept : KeepsAll before earlier left [] cycles
  pub even : AreEven left
  pub none_left : count_by (begins start) left ≡ 0

pub walk_ends : (before left : List Way) (earlier cycles : List (List GridPoint)) (trail : List GridPoint) (start here : GridPoint)
    → AreApart trail → BeginsAt start trail → EndsAt here trail → IsEvenBetween start here left
    → KeepsAll before earlier left trail cycles → count_by (begins here) left ≡ 0 → Ends before earlier left cycles start
walk_ends before left earlier cycles trail start here apart begun ends even kept none = record {
  kept = record {
    joined = λ p q. omega (arith, kept.joined p q, ap (times_joined p q) one);
    are_cycles = kept.are_cycles;
    fewer_left = kept.fewer_left;
  };
  even = λ p. omega (arith, even p, ap (λ v. one_if (is_point v p)) same);
  none_left = ap (λ v. count_by (begins v) left) same ∙ none;
}
  where
    same : start ≡ here
    same = back_at_start left start here even none

    one : trail ≡ here ∷ []
    one = one_vertex here trail apart (subst (λ v. BeginsAt v trail) same begun) ends

-- what is known of no answer, where there was none
pub none_given : {X : Type 0} (P : Type 0) (Q : X → Type 0) (o : Option X) → ((x : X) → o ≡ Some x → ⊥) → MatchOption o P Q → P
none_given P Q None nothing h = h
none_given P Q (Some x) nothing h = absurd (nothing x refl)

-- ---- where it begins
-- the trail is one vertex
pub keeps_begin : (left : List Way) (cycles : List (List GridPoint)) (start : GridPoint) → KeepsAll left cycles left (start ∷ []) cycles
keeps_begin left cycles start = record {
  joined = λ p q. refl;
  are_cycles = λ all. all;
  fewer_left = λ p q. omega arith;
}

pub even_begin : (left : List Way) (start : GridPoint) → AreEven left → IsEvenBetween start start left
even_begin left start even p = omega (arith, even p)

pub keeps_start : (left : List Way) (cycles : List (List GridPoint)) → KeepsAll left cycles left [] cycles
keeps_start left cycles = record {
  joined = λ p q. refl;
  are_cycles = λ all. all;
  fewer_left = λ p q. omega arith;
}
