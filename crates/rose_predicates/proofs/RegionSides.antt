-- This file shows which places lie beside a segment of two borders, off both, and which of them are odd.
use Rattle.std.proofs.Common.{◌≡◌, ◌⊎◌, Bool, true, false, List, ◌++◌, Contains, refl, sym}
use Rattle.std.proofs.Common.{◌∙◌, inl, inr}
use Rattle.std.specs.List.{AllByRecursion}
use Rattle.std.proofs.lemmas.Bool.{true≢false}
use Rattle.std.proofs.lemmas.List.Elements.{Contains-append_left, Contains-append_right}
use Rattle.grid_base.specs.Point.{IsBefore}
use Rattle.grid_base.specs.Segment.{GridSegment}
use Rattle.grid_base.specs.Sides.{Left, Right}
use Rattle.grid_base.specs.Plane.{Place, IsFree, IsBeside}
use Rattle.rose_values.specs.Border.{AreSegmentsAscending, IsBorder}
use Rattle.side_parity.specs.Middle.{differ}
use Rattle.side_parity.proofs.BothSides.{left_answer, right_answer, odd_on_left, odd_on_right, one_left, one_right}
use Rattle.side_parity.proofs.Each.{all_by, ordered_in_both}
use Rattle.side_parity.proofs.Parities.{same_by}
use Rattle.side_parity.proofs.Pictures.{meet_noded}
use Rattle.side_parity.proofs.Regions.{MeetInEnds, is_odd}
use Rattle.side_parity.proofs.SidesBy.{IsSound}
use Rattle.grid_base.specs.Border.{AreNoded}
use Rattle.rose_overlay.specs.Parting.{AreOrdered}
use Rattle.rose_overlay.proofs.OneRegion.{beside_is_free, double, fewer_beside, own_by_sides, sound_double}
use Rattle.rose_overlay.proofs.Parted.{AreBorders, borders_by, sound_first, sound_second}
use Rattle.rose_overlay.proofs.Sorts.{absent_count, once}

-- ---- two borders of one realm
pub borders_of : (A B : List GridSegment) → AreNoded (A ++ B) → IsBorder A → IsBorder B → AreOrdered A → AreOrdered B → AreBorders A B
borders_of A B noded first second ordered_a ordered_b = borders_by A B noded first.even second.even ordered_a ordered_b

-- ---- places beside a segment of either border, with nothing of both between
pub record IsWhole (L : List GridSegment) (s : GridSegment) : Type 0 where
  pub meet : MeetInEnds L
  pub ordered : AllByRecursion (λ t. IsBefore t.a t.b) (L ++ L)
  pub first : IsBefore s.a s.b
  pub there : Contains L s

pub whole : (A B : List GridSegment) (s : GridSegment) → AreBorders A B → Contains (A ++ B) s → IsWhole (A ++ B) s
whole A B s h there = record {
  meet = meet_noded (A ++ B) h.noded;
  ordered = all_by ((A ++ B) ++ (A ++ B)) _ (λ t c. ordered_in_both A B t h.ordered_first h.ordered_second (double (A ++ B) t c));
  first = ordered_in_both A B s h.ordered_first h.ordered_second there;
  there = there;
}

pub left_place : (L : List GridSegment) (s : GridSegment) → IsWhole L s → (q : Place) × IsBeside L s Left q
left_place L s h =
    let l = one_left (L ++ L) s (sound_double L s h.meet h.ordered h.first h.there) in
    (l.0, fewer_beside (L ++ L) L s Left l.0 (λ t c. Contains-append_left L L t c) l.1)

pub right_place : (L : List GridSegment) (s : GridSegment) → IsWhole L s → (q : Place) × IsBeside L s Right q
right_place L s h =
    let r = one_right (L ++ L) s (sound_double L s h.meet h.ordered h.first h.there) in
    (r.0, fewer_beside (L ++ L) L s Right r.0 (λ t c. Contains-append_left L L t c) r.1)

-- one of two different truths is c
pub one_is : (a b c : Bool) → differ a b ≡ true → (a ≡ c) ⊎ (b ≡ c)
one_is true b true e = inl refl
one_is true true false e = absurd (true≢false (sym e))
one_is true false false e = inr refl
one_is false b false e = inl refl
one_is false true true e = inr refl
one_is false false true e = absurd (true≢false (sym e))

-- a place off both borders, and whether it is odd for the first, and for the second
pub record IsSeen (A B : List GridSegment) (q : Place) (first second : Bool) : Type 0 where
  pub free : IsFree (A ++ B) q
  pub odd_first : is_odd A q ≡ first
  pub odd_second : is_odd B q ≡ second

-- beside a segment of the first border alone the first region is on one side, and the second on both or on none
pub own_beside : (A B : List GridSegment) (s : GridSegment) (c : Bool) → AreBorders A B → AreSegmentsAscending A
    → Contains A s → (Contains B s → ⊥) → (q : Place) × IsSeen A B q c (left_answer B s)
own_beside A B s c h up there absent = elim (one_is (left_answer A s) (right_answer A s) c (own_by_sides A s ∙ once s A up there)) [
  | inl e ↦
      (let q = left_place (A ++ B) s w in (
        q.0,
        record {
          free = beside_is_free (A ++ B) s Left q.0 q.1;
          odd_first = odd_on_left A s q.0 sound_a (fewer_beside (A ++ B) A s Left q.0 (Contains-append_left A B) q.1) ∙ e;
          odd_second = odd_on_left B s q.0 sound_b (fewer_beside (A ++ B) B s Left q.0 (Contains-append_right A B) q.1);
        },
      ))
  | inr e ↦
      (let q = right_place (A ++ B) s w in (
        q.0,
        record {
          free = beside_is_free (A ++ B) s Right q.0 q.1;
          odd_first = odd_on_right A s q.0 sound_a (fewer_beside (A ++ B) A s Right q.0 (Contains-append_left A B) q.1) ∙ e;
          odd_second = odd_on_right B s q.0 sound_b (fewer_beside (A ++ B) B s Right q.0 (Contains-append_right A B) q.1)
              ∙ sym (same_by _ _ (own_by_sides B s ∙ absent_count s B absent));
        },
      ))
]
  where
    w : IsWhole (A ++ B) s
    w = whole A B s h (Contains-append_left A B s there)

    sound_a : IsSound A s
    sound_a = sound_first A B s h (Contains-append_left A B s there)

    sound_b : IsSound B s
    sound_b = sound_second A B s h (Contains-append_left A B s there)
