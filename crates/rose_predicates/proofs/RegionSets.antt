-- This file shows what two regions have in common, and when one is inside the other, by what operators make of them.
use Rattle.std.proofs.Common.{◌≡◌, ◌⊎◌, ◌↔◌, ℕ, suc, ◌<◌, ◌==◌, true, false, not, List, [], ◌∷◌, ◌++◌, length, Contains, refl, sym}
use Rattle.std.proofs.Common.{ap, subst, ◌∙◌, arith, inl, inr}
use Rattle.std.proofs.lemmas.Bool.{cases_Bool, ne_eqb, true≢false}
use Rattle.std.proofs.lemmas.List.Elements.{Contains-append_cases, Contains-append_left, Contains-append_right}
use Rattle.grid_base.specs.Border.{AreNoded}
use Rattle.grid_base.specs.Segment.{GridSegment}
use Rattle.grid_base.specs.Sides.{Left, Right}
use Rattle.grid_base.specs.Plane.{Place, Holds, IsFree}
use Rattle.grid_base.specs.Odd.{Odd}
use Rattle.grid_base.proofs.Elements.{Contains-here}
use Rattle.rose_values.specs.Areas.{IsOnSome, IsRegionPoint}
use Rattle.rose_values.specs.Border.{AreSegmentsAscending, IsBorder}
use Rattle.rose_values.specs.Operators.{HasPlace, IsCombination}
use Rattle.rose_values.specs.declared.geometry.Geometry.TheVariants.{R}
use Rattle.rose_values.specs.declared.operators.Op.{Op}
use Rattle.rose_values.specs.declared.operators.Op.TheVariants.{Intersection, Minus}
use Rattle.side_parity.proofs.BothSides.{left_answer, right_answer, odd_on_left, odd_on_right}
use Rattle.side_parity.proofs.Each.{all_by, ordered_in_both}
use Rattle.side_parity.proofs.Regions.{is_odd}
use Rattle.side_parity.proofs.SidesBy.{IsSound}
use Rattle.rose_overlay.proofs.LiesWithin.{as_its_left, on_or_off}
use Rattle.rose_overlay.proofs.Made.{sound_among}
use Rattle.rose_overlay.proofs.OneRegion.{beside_is_free, fewer_beside, own_by_sides}
use Rattle.rose_overlay.proofs.Parted.{AreBorders, is_odd_by, odd_is, sound_second}
use Rattle.rose_overlay.proofs.Sorts.{once, there_or_not}
use Rattle.rose_overlay.specs.Parting.{AreOrdered}
use Rattle.rose_predicates.proofs.PointSets.{noded_back, one_by_segments}
use Rattle.rose_predicates.proofs.RegionSides.{IsWhole, borders_of, left_place, one_is, own_beside, right_place, whole}
use Rattle.rose_predicates.specs.Predicates.{AreasMeet, HaveSameSegments, IsInside, ShareAPoint, ShareABorderPoint}

-- ---- what an operator makes is empty where it has no place
abbrev HasSome : Op → List GridSegment → List GridSegment → Type 0
HasSome op A B = (q : Place) × IsFree (A ++ B) q × HasPlace op A B q

none_in_empty : (op : Op) (A B : List GridSegment) → IsCombination op A B [] → HasSome op A B → ⊥
none_in_empty op A B made (q, free, p) = true≢false (sym (odd_is [] q ((made.places q free).1 p)))

some_in_border : (op : Op) (A B C : List GridSegment) (s : GridSegment) → AreBorders A B → AreSegmentsAscending C
    → IsCombination op A B C → Contains C s → HasSome op A B
some_in_border op A B C s h up made there =
    elim (one_is (left_answer C s) (right_answer C s) true (own_by_sides C s ∙ once s C up there)) [
      | inl e ↦
          (let q = left_place (A ++ B) s w in
          let free = beside_is_free (A ++ B) s Left q.0 q.1 in (
            q.0,
            free,
            (made.places q.0 free).0
                (is_odd_by C q.0 (odd_on_left C s q.0 sound (fewer_beside (A ++ B) C s Left q.0 made.of_these q.1) ∙ e)),
          ))
      | inr e ↦
          (let q = right_place (A ++ B) s w in
          let free = beside_is_free (A ++ B) s Right q.0 q.1 in (
            q.0,
            free,
            (made.places q.0 free).0
                (is_odd_by C q.0 (odd_on_right C s q.0 sound (fewer_beside (A ++ B) C s Right q.0 made.of_these q.1) ∙ e)),
          ))
    ]
  where
    w : IsWhole (A ++ B) s
    w = whole A B s h (made.of_these s there)

    sound : IsSound C s
    sound =
        sound_among (A ++ B) C s w.meet w.there w.first made.of_these
        (all_by C _ (λ t c. ordered_in_both A B t h.ordered_first h.ordered_second (made.of_these t c))) made.even

not_empty : (n : ℕ) → (suc n == 0) ≡ false
not_empty n = ne_eqb (suc n) 0 (λ e. omega (arith, e))

pub empty_made : (op : Op) (A B C : List GridSegment) → AreBorders A B → AreSegmentsAscending C → IsCombination op A B C
    → ((length C == 0) ≡ true) ↔ (HasSome op A B → ⊥)
empty_made op A B [] h up made = (λ e. none_in_empty op A B made, λ none. refl)
empty_made op A B (s ∷ C) h up made = (
  λ e. absurd (true≢false (sym e ∙ not_empty (length C))),
  λ none. absurd (none (some_in_border op A B (s ∷ C) s h up made (Contains-here s C))),
)

pub filled_made : (op : Op) (A B C : List GridSegment) → AreBorders A B → AreSegmentsAscending C → IsCombination op A B C
    → (not (length C == 0) ≡ true) ↔ HasSome op A B
filled_made op A B [] h up made = (λ e. absurd (true≢false (sym e)), λ found. absurd (none_in_empty op A B made found))
filled_made op A B (s ∷ C) h up made =
    (λ e. some_in_border op A B (s ∷ C) s h up made (Contains-here s C), λ found. ap not (not_empty (length C)))

-- ---- areas
free_of_both : (A B : List GridSegment) (q : Place) → 0 < q.w → ((t : GridSegment) → Contains A t → Holds t q → ⊥)
    → ((t : GridSegment) → Contains B t → Holds t q → ⊥) → IsFree (A ++ B) q
free_of_both A B q real off_a off_b = record {
  real = real;
  apart = λ t c held. elim (Contains-append_cases A B t c) [ inl k ↦ off_a t k held | inr k ↦ off_b t k held ];
}

pub areas_meet : (A B : List GridSegment) → HasSome Intersection A B ↔ AreasMeet (R A) (R B)
areas_meet A B = (
  λ found.
      (let free = found.1 in (
        found.0,
        (record { real = free.real; apart = λ t c. free.apart t (Contains-append_left A B t c) }, found.2.0),
        (record { real = free.real; apart = λ t c. free.apart t (Contains-append_right A B t c) }, found.2.1),
      )),
  λ meet. (meet.0, free_of_both A B meet.0 meet.1.0.real meet.1.0.apart meet.2.0.apart, (meet.1.1, meet.2.1)),
)

-- ---- inside
point_real : (A : List GridSegment) (q : Place) → IsRegionPoint A q → 0 < q.w
point_real A q (inl on) = on.2.real
point_real A q (inr odd) = odd.0

odd_off : (A : List GridSegment) (q : Place) → IsRegionPoint A q → ((t : GridSegment) → Contains A t → Holds t q → ⊥) → Odd A q
odd_off A q (inl on) off = absurd (off on.0 on.1 on.2)
odd_off A q (inr odd) off = odd.1

inside_by : (A B : List GridSegment) → AreBorders A B → AreSegmentsAscending A → (HasSome Minus A B → ⊥) → IsInside (R A) (R B)
inside_by A B h up none q p = elim (on_or_off B q real h.ordered_second) [
  | inl on ↦ inl on
  | inr off ↦ inr (
    real,
    is_odd_by B q (elim (on_or_off A q real h.ordered_first) [
      | inl on ↦ as_its_left B on.0 q (sound_second A B on.0 h (Contains-append_left A B on.0 on.1)) on.2 off
          ∙ left_true on.0 on.1 (λ k. off on.0 k on.2)
      | inr off_a ↦ both_odd off off_a
    ]),
  )
]
  where
    real : 0 < q.w
    real = point_real A q p

    left_true : (s : GridSegment) → Contains A s → (Contains B s → ⊥) → left_answer B s ≡ true
    left_true s there absent = elim (cases_Bool (left_answer B s)) [
      | inl e ↦ e
      | inr e ↦
          (let z = own_beside A B s true h up there absent in
          absurd (none (z.0, z.1.free, (is_odd_by A z.0 z.1.odd_first, λ o. true≢false (sym (odd_is B z.0 o) ∙ z.1.odd_second ∙ e)))))
    ]

    both_odd : ((t : GridSegment) → Contains B t → Holds t q → ⊥) → ((t : GridSegment) → Contains A t → Holds t q → ⊥)
        → is_odd B q ≡ true
    both_odd off off_a = elim (cases_Bool (is_odd B q)) [
      | inl e ↦ e
      | inr e ↦ absurd (none (q, free_of_both A B q real off_a off, (odd_off A q p off_a, λ o. true≢false (sym (odd_is B q o) ∙ e))))
    ]

never_outside : (A B : List GridSegment) → IsInside (R A) (R B) → HasSome Minus A B → ⊥
never_outside A B inside (q, free, p) = elim (inside q (inr (free.real, p.0))) [
  | inl on ↦ free.apart on.0 (Contains-append_right A B on.0 on.1) on.2
  | inr odd ↦ p.1 odd.1
]

pub inside_told : (A B : List GridSegment) → AreBorders A B → AreSegmentsAscending A → (HasSome Minus A B → ⊥) ↔ IsInside (R A) (R B)
inside_told A B h up = (inside_by A B h up, never_outside A B)

-- ---- common points
swapped : (A B : List GridSegment) → AreBorders A B → AreBorders B A
swapped A B h = record {
  noded = noded_back A B h.noded;
  even_first = h.even_second;
  even_second = h.even_first;
  ordered_first = h.ordered_second;
  ordered_second = h.ordered_first;
}

-- where a place of the first border is interior to the second, the areas meet beside it
border_in_area : (A B : List GridSegment) (q : Place) → AreBorders A B → AreSegmentsAscending A → IsOnSome A q
    → ((t : GridSegment) → Contains B t → Holds t q → ⊥) → Odd B q → AreasMeet (R A) (R B)
border_in_area A B q h up (s, there, held) off odd =
    let z = own_beside A B s true h up there (λ k. off s k held) in
    let left = as_its_left B s q (sound_second A B s h (Contains-append_left A B s there)) held off in
    (areas_meet A B).0 (z.0, z.1.free, (is_odd_by A z.0 z.1.odd_first, is_odd_by B z.0 (z.1.odd_second ∙ sym left ∙ odd_is B q odd)))

shared_points : (A B : List GridSegment) → AreBorders A B → AreSegmentsAscending A → AreSegmentsAscending B
    → ShareAPoint (R A) (R B) → AreasMeet (R A) (R B) ⊎ ShareABorderPoint (R A) (R B)
shared_points A B h up_a up_b (q, a, b) = elim (on_or_off A q (point_real A q a) h.ordered_first) [
  | inl on_a ↦ elim (on_or_off B q (point_real A q a) h.ordered_second) [
    | inl on_b ↦ inr (q, on_a, on_b)
    | inr off_b ↦ inl (border_in_area A B q h up_a on_a off_b (odd_off B q b off_b))
  ]
  | inr off_a ↦ elim (on_or_off B q (point_real A q a) h.ordered_second) [
    | inl on_b ↦ inl
        (let m = border_in_area B A q (swapped A B h) up_b on_b off_a (odd_off A q a off_a) in (m.0, m.2, m.1))
    | inr off_b ↦ inl
        (let real = point_real A q a in
        (q, (record { real = real; apart = off_a }, odd_off A q a off_a), (record { real = real; apart = off_b }, odd_off B q b off_b)))
  ]
]

pub shared_told : (A B : List GridSegment) → AreBorders A B → AreSegmentsAscending A → AreSegmentsAscending B
    → ShareAPoint (R A) (R B) ↔ (AreasMeet (R A) (R B) ⊎ ShareABorderPoint (R A) (R B))
shared_told A B h up_a up_b = (
  shared_points A B h up_a up_b,
  λ either. elim either [
    | inl m ↦ (m.0, inr (m.1.0.real, m.1.1), inr (m.2.0.real, m.2.1))
    | inr b ↦ (b.0, inl b.1, inl b.2)
  ],
)

-- ---- equal regions
free_back : (A B : List GridSegment) (q : Place) → IsFree (A ++ B) q → IsFree (B ++ A) q
free_back A B q free = record {
  real = free.real;
  apart = λ t c held. elim (Contains-append_cases B A t c) [
    | inl k ↦ free.apart t (Contains-append_right A B t k) held
    | inr k ↦ free.apart t (Contains-append_left A B t k) held
  ];
}

-- beside a segment of the first border alone the regions differ
same_segments : (A B : List GridSegment) → AreBorders A B → AreSegmentsAscending A → IsInside (R A) (R B)
    → IsInside (R B) (R A) → (s : GridSegment) → Contains A s → Contains B s
same_segments A B h up inside back s there = elim (there_or_not s B) [
  | inl k ↦ k
  | inr absent ↦ elim (cases_Bool (left_answer B s)) [
    | inl e ↦
        (let z = own_beside A B s false h up there absent in
        absurd (never_outside B A back
        (z.0, free_back A B z.0 z.1.free, (is_odd_by B z.0 (z.1.odd_second ∙ e), λ o. true≢false (sym (odd_is A z.0 o) ∙ z.1.odd_first)))))
    | inr e ↦
        (let z = own_beside A B s true h up there absent in
        absurd (never_outside A B inside
        (z.0, z.1.free, (is_odd_by A z.0 z.1.odd_first, λ o. true≢false (sym (odd_is B z.0 o) ∙ z.1.odd_second ∙ e)))))
  ]
]

pub equal_told : (A B : List GridSegment) → AreBorders A B → AreSegmentsAscending A → AreSegmentsAscending B
    → (A ≡ B) ↔ (IsInside (R A) (R B) × IsInside (R B) (R A))
equal_told A B h up_a up_b = (
  λ same. (
    subst (λ (C : List GridSegment). IsInside (R A) (R C)) same (λ q p. p),
    subst (λ (C : List GridSegment). IsInside (R C) (R A)) same (λ q p. p),
  ),
  λ both. one_by_segments A B up_a up_b
      (λ s. (same_segments A B h up_a both.0 both.1 s, same_segments B A (swapped A B h) up_b both.1 both.0 s)),
)

-- regions have the same points where their borders have the same segments
pub regions_same : (A B : List GridSegment) → AreNoded (A ++ B) → AreOrdered A → AreOrdered B → IsBorder A → IsBorder B
    → (IsInside (R A) (R B) × IsInside (R B) (R A)) ↔ HaveSameSegments A B
regions_same A B noded ordered_a ordered_b first second =
    let h = borders_of A B noded first second ordered_a ordered_b in (
      λ both s. (
        same_segments A B h first.ascending both.0 both.1 s,
        same_segments B A (swapped A B h) second.ascending both.1 both.0 s,
      ),
      λ same. (equal_told A B h first.ascending second.ascending).0 (one_by_segments A B first.ascending second.ascending same),
    )
