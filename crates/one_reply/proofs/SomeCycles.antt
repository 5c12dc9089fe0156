-- This file shows that each even border is cut into cycles: by walks that go on as long as a segment is left.
use Rattle.std.proofs.Common.{◌≡◌, ◌≢◌, ◌⊎◌, ◌%◌, ℕ, zero, suc, ◌+◌, ◌<◌, ◌≤◌, Bool, true, false, ◌&&◌, ◌||◌, List, [], ◌∷◌, ◌++◌, length}
use Rattle.std.proofs.Common.{take, drop, All, Contains, count_by, refl, sym, ap, subst, ◌∙◌, inl, inr, arith, append_assoc}
use Rattle.std.proofs.lemmas.List.Elements.{All-contains, Contains-push}
use Rattle.grid_base.specs.Border.{is_end, IsEvenBorder}
use Rattle.grid_base.specs.Point.{GridPoint, IsBefore, is_point}
use Rattle.grid_base.specs.Segment.{GridSegment}
use Rattle.grid_base.proofs.Elements.{Contains-here, Contains-later, Contains-cases, Contains-nil}
use Rattle.grid_base.proofs.Ends.{same_or_not}
use Rattle.grid_base.proofs.Orders.{is_point-same, is_point-itself}
use Rattle.rose_values.specs.Border.{AreSegmentsAscending}
use Rattle.r_cycles.specs.Cycles.{link, joins, times_joined, times_used, IsCycle, CutsIntoCycles}
use Rattle.r_cycles.specs.Left.{one_if, times_in, BeginsAt, EndsAt, GoesOn}
use Rattle.r_cycles.specs.Trail.{CutsBack}
use Rattle.r_cycles.proofs.Borders.{AreOrdered, ends_apart, joined_is, joined_once, joins_its_ends}
use Rattle.r_cycles.proofs.Counts.{count_by-cons, count_by-none, count_by-some, count_by-found}
use Rattle.r_cycles.proofs.Joins.{other_point}
use Rattle.r_cycles.proofs.Steps.{goes_on, closes}
use Rattle.r_cycles.proofs.Trails.{AreApart, apart-head, apart-left, apart-push, split_at}
use Rattle.one_reply.proofs.Decisions.{first_with, either_decided, point_there}

-- ---- one segment fewer
record IsTaken (list : List GridSegment) (s : GridSegment) (fewer : List GridSegment) : Type 0 where
  counts : (f : GridSegment → Bool) → count_by f fewer + one_if (f s) ≡ count_by f list
  part : (t : GridSegment) → Contains fewer t → Contains list t
  shorter : length fewer + 1 ≡ length list

taken : (list : List GridSegment) (s : GridSegment) → Contains list s → (fewer : List GridSegment) × IsTaken list s fewer
taken [] s there = absurd (Contains-nil s there)
taken (t ∷ list) s there = elim (Contains-cases t list s there) [
  | inl same ↦ (
    list,
    record {
      counts = λ f. let here = ap (λ u. one_if (f u)) same in omega (arith, here, count_by-cons f t list);
      part = Contains-later t list;
      shorter = omega arith;
    },
  )
  | inr later ↦
      let (fewer, is) = taken list s later in (
        t ∷ fewer,
        record {
          counts = λ f. omega (arith, is.counts f, count_by-cons f t fewer, count_by-cons f t list);
          part = λ u in_fewer. elim (Contains-cases t fewer u in_fewer) [
            | inl same ↦ subst (Contains (t ∷ list)) same (Contains-here t list)
            | inr rest ↦ Contains-later t list u (is.part u rest)
          ];
          shorter = omega (arith, is.shorter);
        },
      )
]

-- ---- a segment along a link
-- s leads from v to w, one way or the other
abbrev LeadsTo : GridSegment → GridPoint → GridPoint → Type 0
LeadsTo s v w = ((s.a ≡ v) × (s.b ≡ w)) ⊎ ((s.b ≡ v) × (s.a ≡ w))

both_swap : (a b c d : Bool) → ((a && b) || (c && d)) ≡ ((d && c) || (b && a))
both_swap true true true true = refl
both_swap true true true false = refl
both_swap true true false d = or_true (d && false)
  where
    or_true : (x : Bool) → true ≡ (x || true)
    or_true true = refl
    or_true false = refl
both_swap true false true true = refl
both_swap true false true false = refl
both_swap true false false true = refl
both_swap true false false false = refl
both_swap false true true true = refl
both_swap false true true false = refl
both_swap false true false true = refl
both_swap false true false false = refl
both_swap false false true true = refl
both_swap false false true false = refl
both_swap false false false true = refl
both_swap false false false false = refl

-- a link joins two points exactly where the link back does
joins_back : (p q v w : GridPoint) → joins p q (link v w) ≡ joins p q (link w v)
joins_back p q v w = both_swap (is_point v p) (is_point w q) (is_point v q) (is_point w p)

joins_along : (p q v w : GridPoint) (s : GridSegment) → LeadsTo s v w → joins p q (link s.a s.b) ≡ joins p q (link v w)
joins_along p q v w s (inl (a, b)) = λ i. joins p q (link (a i) (b i))
joins_along p q v w s (inr (b, a)) = (λ i. joins p q (link (a i) (b i))) ∙ joins_back p q w v

-- it ends at each of the two once
one_end : (p a b : GridPoint) → a ≢ b → one_if (is_point a p || is_point b p) ≡ one_if (is_point a p) + one_if (is_point b p)
one_end p a b apart = by (is_point a p) (is_point b p) refl refl
  where
    by : (x y : Bool) → is_point a p ≡ x → is_point b p ≡ y → one_if (x || y) ≡ one_if x + one_if y
    by true true e f = absurd (apart (is_point-same a p e ∙ sym (is_point-same b p f)))
    by true false e f = refl
    by false true e f = refl
    by false false e f = refl

ends_of : (p v w : GridPoint) (s : GridSegment) → v ≢ w → LeadsTo s v w
    → one_if (is_end p s) ≡ one_if (is_point v p) + one_if (is_point w p)
ends_of p v w s apart (inl (a, b)) = (λ i. one_if (is_point (a i) p || is_point (b i) p)) ∙ one_end p v w apart
ends_of p v w s apart (inr (b, a)) =
    let other = one_end p w v (λ same. apart (sym same)) in
    let whole : one_if (is_end p s) ≡ one_if (is_point w p || is_point v p) = λ i. one_if (is_point (a i) p || is_point (b i) p) in
    omega (arith, whole, other)

-- some segment of the list leads on from v, or none ends there
next_from : (list : List GridSegment) (v : GridPoint)
    → ((s : GridSegment) × (w : GridPoint) × Contains list s × LeadsTo s v w) ⊎ (count_by (is_end v) list ≡ 0)
next_from list v =
    elim (first_with (λ (s : GridSegment). (s.a ≡ v) ⊎ (s.b ≡ v)) list (λ s there. either_decided (same_or_not s.a v) (same_or_not s.b v))) [
      | inl (s, there, ends) ↦ inl (elim ends [
        | inl lesser ↦ (s, s.b, there, inl (lesser, refl))
        | inr greater ↦ (s, s.a, there, inr (greater, refl))
      ])
      | inr none ↦ inr (count_by-none (is_end v) list (λ s there.
          neither (is_point s.a v) (is_point s.b v) (other_point s.a v (λ e. none s there (inl e)))
          (other_point s.b v (λ e. none s there (inr e)))))
    ]
  where
    neither : (x y : Bool) → x ≡ false → y ≡ false → (x || y) ≡ false
    neither true y e f = cc
    neither false y e f = f

-- ---- a walk
-- a trail of different vertices that begins where it ends is one vertex
one_vertex : (v : GridPoint) (trail : List GridPoint) → AreApart trail → BeginsAt v trail → EndsAt v trail → trail ≡ v ∷ []
one_vertex v trail apart begun ([], is) = is
one_vertex v trail apart begun (w ∷ front, is) =
    let same = subst (BeginsAt v) is begun in
    let twice = subst (λ u. Contains (front ++ u ∷ []) w) same (Contains-push front w) in
    absurd (apart-head w (front ++ v ∷ []) (subst AreApart is apart) twice)

module _ (border : List GridSegment) (up : AreSegmentsAscending border) (ordered : AreOrdered border) where
  -- each segment is left, or on the trail or a cycle
  record IsShared (left : List GridSegment) (trail : List GridPoint) (cycles : List (List GridPoint)) : Type 0 where
    part : (s : GridSegment) → Contains left s → Contains border s
    joined : (p q : GridPoint) → times_in p q left + (times_joined p q trail + times_used p q cycles) ≡ times_in p q border
    are_cycles : All IsCycle cycles

  -- the trail leads from the start to here, and an even number of segments is left elsewhere
  record IsWalking (start : GridPoint) (left : List GridSegment) (trail : List GridPoint) (cycles : List (List GridPoint))
      (here : GridPoint) : Type 0 where
    shared : IsShared left trail cycles
    apart : AreApart trail
    begun : BeginsAt start trail
    ends : EndsAt here trail
    even : (p : GridPoint) → (count_by (is_end p) left + (one_if (is_point start p) + one_if (is_point here p))) % 2 ≡ 0

  record IsStepped (start : GridPoint) (left : List GridSegment) (next : GridPoint) : Type 0 where
    fewer : List GridSegment
    trail : List GridPoint
    cycles : List (List GridPoint)
    walking : IsWalking start fewer trail cycles next
    shorter : length fewer < length left

  module _ (start : GridPoint) (left : List GridSegment) (trail : List GridPoint) (cycles : List (List GridPoint)) (here : GridPoint)
      (w : IsWalking start left trail cycles here) (next : GridPoint) (s : GridSegment) (there : Contains left s)
      (leads : LeadsTo s here next) where
    other : here ≢ next
    other same =
        let order = All-contains (λ t. IsBefore t.a t.b) border s ordered (w.shared.part s there) in
        ends_apart s order (elim leads [ inl (a, b) ↦ a ∙ same ∙ sym b | inr (b, a) ↦ a ∙ sym same ∙ sym b ])

    -- the two points are joined by s alone
    new : times_joined here next trail ≡ 0
    new =
        let is = joins_along here next here next s leads in
        let itself = joins_ends here next in
        let some = count_by-some (λ t. joins here next (link t.a t.b)) left s there (is ∙ itself) in
        omega (arith, some, w.shared.joined here next, joined_once here next border up ordered)
      where
        joins_ends : (v u : GridPoint) → joins v u (link v u) ≡ true
        joins_ends v u = λ i. (is_point-itself v i && is_point-itself u i) || (is_point v u && is_point u v)

    step_by : (longer : List GridPoint) (more : List (List GridPoint)) → AreApart longer → GoesOn trail cycles here next longer more
        → IsStepped start left next
    step_by longer more apart goes =
        let (fewer, is) = taken left s there in record {
          fewer = fewer;
          trail = longer;
          cycles = more;
          walking = record {
            shared = record {
              part = λ t in_fewer. w.shared.part t (is.part t in_fewer);
              joined = λ p q.
                  let count = is.counts (λ t. joins p q (link t.a t.b)) in
                  let along = ap (λ b. one_if b) (joins_along p q here next s leads) in
                  omega (arith, w.shared.joined p q, goes.joined p q, count, along);
              are_cycles = goes.are_cycles w.shared.are_cycles;
            };
            apart = apart;
            begun = goes.begins start w.begun;
            ends = goes.ends;
            even = λ p.
                let count = is.counts (is_end p) in
                let both = ends_of p here next s other leads in
                omega (arith, w.even p, count, both);
          };
          shorter = omega (arith, is.shorter);
        }

    -- where the trail has been there, a cycle is closed
    stepped : IsStepped start left next
    stepped = elim (point_there trail next) [
      | inl (k, within, is) ↦
          let was = (split_at trail k next within is).0 in
          let front = take k trail in
          let back = drop (suc k) trail in
          let cut : CutsBack trail next (front ++ next ∷ []) (next ∷ back) =
          record { front = front; back = back; was = was; is = refl; ring_is = refl } in
          let whole = subst AreApart (was ∙ sym (append_assoc front (next ∷ []) back)) w.apart in
          step_by (front ++ next ∷ []) (cycles ++ (next ∷ back) ∷ []) (apart-left (front ++ next ∷ []) back whole)
          (closes trail cycles here next (front ++ next ∷ []) (next ∷ back) w.apart w.ends other new cut)
      | inr absent ↦ step_by (trail ++ next ∷ []) cycles (apart-push trail next w.apart absent)
          (goes_on trail cycles here next w.ends)
    ]

  -- what is left behind a walk is an even border again
  record IsLeft (left : List GridSegment) (cycles : List (List GridPoint)) : Type 0 where
    shared : IsShared left [] cycles
    even : IsEvenBorder left

  -- it ends where no segment leads on, and that is where it began
  ended : (start : GridPoint) (left : List GridSegment) (trail : List GridPoint) (cycles : List (List GridPoint)) (here : GridPoint)
      → IsWalking start left trail cycles here → count_by (is_end here) left ≡ 0 → IsLeft left cycles
  ended start left trail cycles here w none =
      let same = at_start (is_point start here) refl in
      let one = one_vertex here trail w.apart (subst (λ v. BeginsAt v trail) same w.begun) w.ends in record {
        shared = record {
          part = w.shared.part;
          joined = λ p q. let alone = ap (times_joined p q) one in omega (arith, w.shared.joined p q, alone);
          are_cycles = w.shared.are_cycles;
        };
        even = λ p. let twice = ap (λ v. one_if (is_point v p)) same in omega (arith, w.even p, twice);
      }
    where
      at_start : (b : Bool) → is_point start here ≡ b → start ≡ here
      at_start true e = is_point-same start here e
      at_start false e =
          let first = ap (λ b. one_if b) e in
          let second = ap (λ b. one_if b) (is_point-itself here) in
          absurd (omega (arith, first, second, none, w.even here))

  walked : (n : ℕ) (start : GridPoint) (left : List GridSegment) (trail : List GridPoint) (cycles : List (List GridPoint))
      (here : GridPoint) → length left ≤ n → IsWalking start left trail cycles here
      → (rest : List GridSegment) × (more : List (List GridPoint)) × IsLeft rest more × (length rest ≤ length left)
  walked zero start left trail cycles here few w = elim (next_from left here) [
    | inl (s, next, there, leads) ↦ absurd (omega (arith, few, there.1))
    | inr none ↦ (left, cycles, ended start left trail cycles here w none, omega arith)
  ]
  walked (suc n) start left trail cycles here few w = elim (next_from left here) [
    | inl (s, next, there, leads) ↦
        let step = stepped start left trail cycles here w next s there leads in
        let (rest, more, is, fewer) = walked n start step.fewer step.trail step.cycles next (omega (arith, few, step.shorter))
        step.walking in
        (rest, more, is, omega (arith, fewer, step.shorter))
    | inr none ↦ (left, cycles, ended start left trail cycles here w none, omega arith)
  ]

  -- ---- walks until nothing is left
  -- one walk along the first segment, and on
  cut : (n : ℕ) (left : List GridSegment) (cycles : List (List GridPoint)) → length left ≤ n → IsLeft left cycles
      → (all : List (List GridPoint)) × IsShared [] [] all
  cut n [] cycles few is = (cycles, is.shared)
  cut zero (s ∷ left) cycles few is = absurd (omega (arith, few))
  cut (suc n) (s ∷ left) cycles few is =
      let list = s ∷ left in
      let begun : IsWalking s.a list (s.a ∷ []) cycles s.a = record {
        shared = record {
          part = is.shared.part;
          joined = λ p q. let same = is.shared.joined p q in omega (arith, same);
          are_cycles = is.shared.are_cycles;
        };
        apart = λ i j d before within. absurd (omega (arith, before, within));
        begun = refl;
        ends = ([], refl);
        even = λ p. let was = is.even p in omega (arith, was);
      } in
      let step = stepped s.a list (s.a ∷ []) cycles s.a begun s.b s (Contains-here s left) (inl (refl, refl)) in
      let (rest, more, still, fewer) = walked (length step.fewer) s.a step.fewer step.trail step.cycles s.b (omega arith) step.walking in
      cut n rest more (omega (arith, few, fewer, step.shorter)) still

  pub some_cycles : IsEvenBorder border → (cycles : List (List GridPoint)) × CutsIntoCycles border cycles
  some_cycles even =
      let (cycles, is) = cut (length border) border [] (omega arith) (record {
        shared = record {
          part = λ s there. there;
          joined = λ p q. omega arith;
          are_cycles = λ k d within. absurd (omega (arith, within));
        };
        even = even;
      }) in (
        cycles,
        record {
          are_cycles = is.are_cycles;
          each_once = λ s there.
              let once = joined_once s.a s.b border up ordered in
              let some = count_by-some (λ t. joins s.a s.b (link t.a t.b)) border s there (joins_its_ends s) in
              omega (arith, once, some, is.joined s.a s.b);
          no_other = λ p q some.
              let counted : 0 < times_in p q border = omega (arith, some, is.joined p q) in
              let found = count_by-found (λ t. joins p q (link t.a t.b)) border counted in
              let order = All-contains (λ t. IsBefore t.a t.b) border found.0 ordered found.1 in
              subst (Contains border) (joined_is p q found.0 order found.2) found.1;
        },
      )
