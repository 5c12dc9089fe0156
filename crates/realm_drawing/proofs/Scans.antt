-- This file shows what a scan over the box of a segment has listed, or has found not to be, where it stops.
use Rattle.std.proofs.Common.{◌≡◌, ◌⊎◌, ◌↔◌, ◌+◌, ◌<◌, ◌≤◌, ℕ, Bool, true, false, cond}
use Rattle.std.proofs.Common.{List, [], ◌∷◌, ◌++◌, map, filter, get_or, All, AllPairs, Contains, Option, Some, None, Bor}
use Rattle.std.proofs.Common.{sym, ap, subst, ◌∙◌, inl, inr, arith}
use Rattle.std.specs.Iterator.{Yields}
use Rattle.std.specs.Map.Iter.{TakesFirst, deref}
use Rattle.std.proofs.lemmas.List.{append-nil, append_assoc, map-append}
use Rattle.std.proofs.lemmas.List.Elements.{All-contains, All-push, filter-append}
use Rattle.std.proofs.lemmas.List.Elements.{Contains-append_left, Contains-append_right, Contains-append_cases, Contains-get_or}
use Rattle.std.proofs.lemmas.List.Kept.{AllPairs-filter}
use Rattle.std.proofs.lemmas.Map.Iter.{rest_so_far, rest_more, rest_all}
use Rattle.grid_base.specs.Point.{GridPoint, InBox, IsBefore}
use Rattle.grid_base.specs.Segment.{GridSegment}
use Rattle.grid_base.specs.Crossing.{Inside}
use Rattle.chain_laws.proofs.PointSets.{Contains-filter, is_in_box, in_box_passes}
use Rattle.realm_drawing.specs.Scans.{Reaches, ListsBefore, NoneBefore, is_scanned}
use Rattle.realm_drawing.proofs.Pairs.{pairs_front, pairs_joined}
use Rattle.realm_drawing.proofs.Stops.{StandsIn, StopsAt, scanned_stands, box_scanned, row_cases}

-- ---- what is known then
-- a point of the box in a column before the next one was met, or is in a column before this one
was_met : (points : List GridPoint) (s : GridSegment) (column next : ℕ) (met left : List GridPoint) → Reaches s column
    → filter (is_scanned s column) points ≡ met ++ left → StopsAt s next met left → (q : GridPoint) → Contains points q
    → InBox s.a s.b q → q.x < next → (q.x < column) ⊎ Contains met q
was_met points s column next met left reaches whole stops q has inside soon = elim (row_cases q.x column) [
  | inl early ↦ inl early
  | inr from ↦
      let scanned = (Contains-filter (is_scanned s column) points q).1 (has, box_scanned s column q reaches inside from) in
      let either = Contains-append_cases met left q (subst (λ (l : List GridPoint). Contains l q) whole scanned) in
      elim either [
        | inl there ↦ inr there
        | inr later ↦ absurd (omega (arith, soon, stops.late q later inside))
      ]
]

-- what was met is scanned
met_scanned : (points : List GridPoint) (s : GridSegment) (column : ℕ) (met left : List GridPoint)
    → filter (is_scanned s column) points ≡ met ++ left → (q : GridPoint) → Contains met q
    → Contains points q × StandsIn s column q
met_scanned points s column met left whole q there =
    let scanned = subst (λ (l : List GridPoint). Contains l q) (sym whole) (Contains-append_left met left q there) in
    let both = (Contains-filter (is_scanned s column) points q).0 scanned in
    (both.0, scanned_stands s column q both.1)

-- with what of the points met is in the box, the columns before the next one are listed
pub listed_before : (points : List GridPoint) (s : GridSegment) (column next : ℕ) (met left old list : List GridPoint)
    → AllPairs IsBefore points → Reaches s column → column ≤ next → filter (is_scanned s column) points ≡ met ++ left
    → StopsAt s next met left → ListsBefore points s column old → list ≡ old ++ filter (is_in_box s.a s.b) met
    → ListsBefore points s next list
listed_before points s column next met left old list ascend reaches ahead whole stops listed is =
    let boxed = filter (is_in_box s.a s.b) met in
    let of_met = λ (q : GridPoint). Contains-filter (is_in_box s.a s.b) met q in
    let scanned = met_scanned points s column met left whole in
    let ordered = subst (AllPairs IsBefore) whole (AllPairs-filter IsBefore (is_scanned s column) points ascend) in
    rw is (record {
      exact = λ q. (
        λ there. elim (Contains-append_cases old boxed q there) [
          | inl had ↦
              let before = (listed.exact q).0 had in
              (before.0, before.1, omega (arith, ahead, before.2))
          | inr new ↦
              let both = (of_met q).0 new in
              let inside = (in_box_passes s.a s.b q).0 both.1 in
              ((scanned q both.0).0, inside, stops.early q both.0 inside)
        ],
        λ (has, inside, soon). elim (was_met points s column next met left reaches whole stops q has inside soon) [
          | inl early ↦ Contains-append_left old boxed q ((listed.exact q).1 (has, inside, early))
          | inr there ↦ Contains-append_right old boxed q ((of_met q).1 (there, (in_box_passes s.a s.b q).1 inside))
        ],
      );
      ascending = pairs_joined IsBefore old boxed listed.ascending
          (AllPairs-filter IsBefore (is_in_box s.a s.b) met (pairs_front IsBefore met left ordered))
          (λ q r had new.
          let from = (scanned r ((of_met r).0 new).0).1.from_column in
          inl (omega (arith, from, ((listed.exact q).0 had).2)));
    })

-- where none of the points met is inside s, none in the columns before the next one is
pub none_before : (points : List GridPoint) (s : GridSegment) (column next : ℕ) (met left : List GridPoint) → Reaches s column
    → filter (is_scanned s column) points ≡ met ++ left → StopsAt s next met left → NoneBefore points s column
    → All (λ q. Inside q s → ⊥) met → NoneBefore points s next
none_before points s column next met left reaches whole stops before none q has soon inside =
    elim (was_met points s column next met left reaches whole stops q has inside.on.box soon) [
      | inl early ↦ before q has early inside
      | inr there ↦ All-contains (λ r. Inside r s → ⊥) met q none there inside
    ]

-- before the column behind the last is everywhere
pub none_inside : (points : List GridPoint) (s : GridSegment) (column : ℕ) → Reaches s column → NoneBefore points s (s.b.x + 1)
    → All (λ q. Inside q s → ⊥) points
none_inside points s column reaches none k d within inside =
    none (get_or points k d) (Contains-get_or points k d within)
    (omega (arith, reaches.from_a, reaches.to_b, inside.on.box.0.1)) inside

-- and all that are in the box are listed
pub all_listed : (points : List GridPoint) (s : GridSegment) (column : ℕ) (list : List GridPoint) → Reaches s column
    → ListsBefore points s (s.b.x + 1) list → (q : GridPoint) → Contains list q ↔ (Contains points q × InBox s.a s.b q)
all_listed points s column list reaches listed q = (
  λ there. (((listed.exact q).0 there).0, ((listed.exact q).0 there).1),
  λ both. (listed.exact q).1 (both.0, both.1, omega (arith, reaches.from_a, reaches.to_b, both.1.0.1)),
)

-- ---- a loop over what is scanned
-- where a point comes next
pub lent_to : (scanned all left more : List GridPoint) (xs : List (Bor GridPoint)) (r : Option (Bor GridPoint)) (x : Bor GridPoint)
    → all ≡ scanned → Yields (TakesFirst deref) all xs left → r ≡ Some x → TakesFirst deref left r more
    → scanned ≡ map deref xs ++ x.now ∷ more
lent_to scanned all left more xs r x start yields is step =
    sym start ∙ rest_so_far deref xs all left yields ∙ ap (λ l. map deref xs ++ l) (rest_more deref left more r x is step)

-- where none comes
pub lent_all : (scanned all left more : List GridPoint) (xs : List (Bor GridPoint)) (r : Option (Bor GridPoint))
    → all ≡ scanned → Yields (TakesFirst deref) all xs left → r ≡ None → TakesFirst deref left r more
    → scanned ≡ map deref xs ++ []
lent_all scanned all left more xs r start yields is step =
    sym start ∙ rest_so_far deref xs all left yields ∙ ap (λ l. map deref xs ++ l) (rest_all deref left more r is step)

-- one point more, which is in the box or not
pub one_more_met : (s : GridSegment) (xs : List (Bor GridPoint)) (x : Bor GridPoint) (old list : List GridPoint) (in_box : Bool)
    → is_in_box s.a s.b x.now ≡ in_box → list ≡ old ++ filter (is_in_box s.a s.b) (map deref xs)
    → cond in_box (list ++ x.now ∷ []) list ≡ old ++ filter (is_in_box s.a s.b) (map deref (xs ++ x ∷ []))
one_more_met s xs x old list in_box test is = by_test in_box test
  where
    met : List GridPoint
    met = map deref xs

    parts : filter (is_in_box s.a s.b) met ++ filter (is_in_box s.a s.b) (x.now ∷ [])
        ≡ filter (is_in_box s.a s.b) (map deref (xs ++ x ∷ []))
    parts = sym (filter-append (is_in_box s.a s.b) met (x.now ∷ []))
        ∙ ap (filter (is_in_box s.a s.b)) (sym (map-append deref xs (x ∷ [])))

    by_test : (passes : Bool) → is_in_box s.a s.b x.now ≡ passes
        → cond passes (list ++ x.now ∷ []) list ≡ old ++ filter (is_in_box s.a s.b) (map deref (xs ++ x ∷ []))
    by_test true passes =
        let one : filter (is_in_box s.a s.b) (x.now ∷ []) ≡ x.now ∷ [] = ap (λ (b : Bool). cond b (x.now ∷ []) []) passes in
        ap (λ l. l ++ x.now ∷ []) is ∙ append_assoc old (filter (is_in_box s.a s.b) met) (x.now ∷ [])
        ∙ ap (λ l. old ++ (filter (is_in_box s.a s.b) met ++ l)) (sym one) ∙ ap (λ l. old ++ l) parts
    by_test false passes =
        let none : filter (is_in_box s.a s.b) (x.now ∷ []) ≡ [] = ap (λ (b : Bool). cond b (x.now ∷ []) []) passes in
        is ∙ ap (λ l. old ++ l) (sym (append-nil (filter (is_in_box s.a s.b) met)))
        ∙ ap (λ l. old ++ (filter (is_in_box s.a s.b) met ++ l)) (sym none) ∙ ap (λ l. old ++ l) parts

-- one point more that isn't inside
pub none_more : (s : GridSegment) (xs : List (Bor GridPoint)) (x : Bor GridPoint) → All (λ q. Inside q s → ⊥) (map deref xs)
    → (Inside x.now s → ⊥) → All (λ q. Inside q s → ⊥) (map deref (xs ++ x ∷ []))
none_more s xs x none other =
    rw (map-append deref xs (x ∷ [])) (All-push (λ q. Inside q s → ⊥) (map deref xs) x.now none other)
