-- This file shows how lines lie to a region: by which of their segments lie in it, and by common ends with its border.
use Rattle.std.proofs.Common.{◌⊎◌, ◌↔◌, List, [], ◌∷◌, ◌++◌, All, Contains, sym, subst, ◌∙◌, inl, inr}
use Rattle.std.proofs.lemmas.List.Elements.{Contains-append_left, Contains-append_right}
use Rattle.grid_base.specs.Segment.{GridSegment}
use Rattle.grid_base.specs.Plane.{as_place, Holds}
use Rattle.grid_base.specs.Border.{AreNoded, IsEvenBorder}
use Rattle.grid_base.proofs.Elements.{Contains-cases, Contains-here, Contains-later, Contains-nil}
use Rattle.rose_values.specs.Areas.{IsOnSome}
use Rattle.rose_values.specs.Border.{IsBorder}
use Rattle.rose_values.specs.Operators.{HasWithin, LiesIn}
use Rattle.rose_values.specs.declared.geometry.Geometry.TheVariants.{L, R}
use Rattle.side_parity.specs.Middle.{middle}
use Rattle.side_parity.proofs.Each.{ordered_in}
use Rattle.side_parity.proofs.Pictures.{meet_noded}
use Rattle.side_parity.proofs.SidesBy.{IsSound}
use Rattle.rose_overlay.specs.Parting.{AreOrdered}
use Rattle.rose_overlay.proofs.LiesWithin.{as_its_left, lies_by, middle_held, middle_off, on_or_off}
use Rattle.rose_overlay.proofs.Made.{sound_among}
use Rattle.rose_overlay.proofs.Parted.{odd_is}
use Rattle.rose_overlay.proofs.Sorts.{there_or_not}
use Rattle.rose_predicates.specs.Predicates.{IsInside, ReachesInto, ShareAPoint, ShareABorderPoint}
use Rattle.rose_predicates.proofs.Truths.{each, of_each}

-- lines and a border of one realm
pub record AreLaid (A B : List GridSegment) : Type 0 where
  pub noded : AreNoded (A ++ B)
  pub even : IsEvenBorder B
  pub ordered_lines : AreOrdered A
  pub ordered_border : AreOrdered B

pub laid : (A B : List GridSegment) → AreNoded (A ++ B) → IsBorder B → AreOrdered A → AreOrdered B → AreLaid A B
laid A B noded border ordered_lines ordered_border = record {
  noded = noded;
  even = border.even;
  ordered_lines = ordered_lines;
  ordered_border = ordered_border;
}

sound_line : (A B : List GridSegment) (s : GridSegment) → AreLaid A B → Contains A s → IsSound B s
sound_line A B s h there =
    sound_among (A ++ B) B s (meet_noded (A ++ B) h.noded) (Contains-append_left A B s there) (ordered_in A s h.ordered_lines there)
    (Contains-append_right A B) h.ordered_border h.even

-- ---- inside
pub lines_in_region : (A B C : List GridSegment) → HasWithin B A C → All (Contains C) A ↔ IsInside (L A) (R B)
lines_in_region A B C lying = (
  λ all q on. ((lying on.0).0 (of_each (Contains C) A on.0 all on.1)).1 q on.2,
  λ inside. each (Contains C) A (λ s there. (lying s).1 (there, λ q held. inside q (s, there, held))),
)

-- ---- reaching into
-- a segment that lies in the region, and not on its border, has its middle in the area
pub reach_by : (A B : List GridSegment) (s : GridSegment) → AreLaid A B → Contains A s → LiesIn B s → (Contains B s → ⊥)
    → ReachesInto (L A) (R B)
reach_by A B s h there lies absent = elim (lies (as_place (middle s)) held) [
  | inl on ↦ absurd (off on)
  | inr odd ↦ (as_place (middle s), (s, there, held), (record { real = odd.0; apart = λ t c k. off (t, c, k) }, odd.1))
]
  where
    sound : IsSound B s
    sound = sound_line A B s h there

    held : Holds s (as_place (middle s))
    held = middle_held s sound.first

    off : IsOnSome B (as_place (middle s)) → ⊥
    off on = middle_off B s sound.realm sound.first absent on

-- and where some place of the lines is in the area, its segment lies in the region
reaching : (A B : List GridSegment) → AreLaid A B → ReachesInto (L A) (R B)
    → (s : GridSegment) × Contains A s × LiesIn B s × (Contains B s → ⊥)
reaching A B h (q, (s, there, held), (free, odd)) =
    let sound = sound_line A B s h there in
    (s, there, lies_by B s sound (inr (sym (as_its_left B s q sound held free.apart) ∙ odd_is B q odd)), λ k. free.apart s k held)

-- s doesn't lie in the region, or is on its border
abbrev pub StaysOut : List GridSegment → GridSegment → Type 0
StaysOut B s = (LiesIn B s × (Contains B s → ⊥)) → ⊥

-- where each stays out, nothing of the lines is in the area
pub none_reaches : (A B : List GridSegment) → AreLaid A B → All (StaysOut B) A → ReachesInto (L A) (R B) → ⊥
none_reaches A B h none reach = let r = reaching A B h reach in of_each (StaysOut B) A r.0 none r.1 (r.2, r.3)

-- each is in the other list, or one isn't
all_or_other : (C B : List GridSegment) → All (Contains B) C ⊎ ((s : GridSegment) × Contains C s × (Contains B s → ⊥))
all_or_other [] B = inl (each (Contains B) [] (λ s c. absurd (Contains-nil s c)))
all_or_other (s ∷ C) B = elim (there_or_not s B) [
  | inr absent ↦ inr (s, Contains-here s C, absent)
  | inl there ↦ elim (all_or_other C B) [
    | inr o ↦ inr (o.0, Contains-later s C o.0 o.1, o.2)
    | inl all ↦ inl (each (Contains B) (s ∷ C) (λ t c. elim (Contains-cases s C t c) [
      | inl same ↦ subst (Contains B) same there
      | inr k ↦ of_each (Contains B) C t all k
    ]))
  ]
]

pub reach_told : (A B C : List GridSegment) → AreLaid A B → HasWithin B A C
    → (All (Contains B) C → ⊥) ↔ ReachesInto (L A) (R B)
reach_told A B C h lying = (
  λ not_all. elim (all_or_other C B) [
    | inl all ↦ absurd (not_all all)
    | inr o ↦ (let l = (lying o.0).0 o.1 in reach_by A B o.0 h l.0 l.1 o.2)
  ],
  λ reach all. (let r = reaching A B h reach in r.3 (of_each (Contains B) C r.0 all ((lying r.0).1 (r.1, r.2)))),
)

-- ---- common points
shared_with_region : (A B : List GridSegment) → AreLaid A B → ShareAPoint (L A) (R B)
    → ReachesInto (L A) (R B) ⊎ ShareABorderPoint (L A) (R B)
shared_with_region A B h (q, (s, there, held), point) = elim (on_or_off B q held.real h.ordered_border) [
  | inl on ↦ inr (q, (s, there, held), on)
  | inr off ↦ elim point [
    | inl on ↦ absurd (off on.0 on.1 on.2)
    | inr odd ↦ inl (q, (s, there, held), (record { real = held.real; apart = off }, odd.1))
  ]
]

pub shared_told : (A B : List GridSegment) → AreLaid A B
    → ShareAPoint (L A) (R B) ↔ (ReachesInto (L A) (R B) ⊎ ShareABorderPoint (L A) (R B))
shared_told A B h = (
  shared_with_region A B h,
  λ either. elim either [ inl reach ↦ (reach.0, reach.1, inr (reach.2.0.real, reach.2.1)) | inr b ↦ (b.0, b.1, inl b.2) ],
)
