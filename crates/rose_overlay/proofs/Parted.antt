-- This file shows that what the sides of segments tell is enough for the border of a result.
use Rattle.std.proofs.Common.{◌≡◌, ◌⊎◌, ◌↔◌, Bool, true, false, not, ◌&&◌, ◌||◌, List, ◌∷◌, ◌++◌, Contains, refl, sym, ◌∙◌, inl, inr}
use Rattle.std.specs.List.{AllByRecursion}
use Rattle.std.proofs.lemmas.Bool.{true≢false}
use Rattle.std.proofs.lemmas.List.Elements.{Contains-append_left, Contains-append_right}
use Rattle.grid_base.specs.Point.{IsBefore}
use Rattle.grid_base.specs.Segment.{GridSegment}
use Rattle.grid_base.specs.Sides.{Left, Right}
use Rattle.grid_base.specs.Border.{AreNoded, IsEvenBorder}
use Rattle.grid_base.specs.Plane.{Place, Tells}
use Rattle.grid_base.specs.Odd.{Odd, is_strictly_above}
use Rattle.grid_base.proofs.Booleans.{both_true, one_true}
use Rattle.rose_values.specs.declared.operators.Op.{Op}
use Rattle.rose_values.specs.declared.operators.Op.TheVariants.{Intersection, Plus, Minus, CommonBorder, Vertices, Contour, Interior}
use Rattle.rose_values.specs.Border.{AreSegmentsAscending}
use Rattle.rose_values.specs.Operators.{HasPlace, IsCombination}
use Rattle.side_parity.specs.Middle.{differ}
use Rattle.side_parity.proofs.BothSides.{left_answer, right_answer, tells_left, tells_once, tells_right}
use Rattle.side_parity.proofs.Each.{all_by, ordered_in_both}
use Rattle.side_parity.proofs.Parities.{count_by_odd, odd_by_count}
use Rattle.side_parity.proofs.Pictures.{meet_noded}
use Rattle.side_parity.proofs.Regions.{is_odd}
use Rattle.side_parity.proofs.SidesBy.{IsSound}
pub use Rattle.plane_sweep.proofs.Parts.{noded_part}
use Rattle.rose_overlay.specs.Parting.{AreOrdered, HasParting, IsParting, says}
use Rattle.rose_overlay.proofs.Made.{IsKept, kept_has_places, kept_is_even, sound_among, with_one}
use Rattle.rose_overlay.proofs.Sorts.{counted}

-- ---- fewer segments of a realm
pub noded_first : (A B : List GridSegment) (s : GridSegment) → AreNoded (A ++ B) → Contains (A ++ B) s
    → AreNoded (s ∷ A)
noded_first A B s noded there = noded_part (A ++ B) (s ∷ A) (with_one (A ++ B) A s there (Contains-append_left A B)) noded

-- ---- the sides are those of the middle
pub left_told : (B : List GridSegment) (s : GridSegment) (answer : Bool) → IsSound B s
    → Tells B s Left (Odd B) answer → answer ≡ left_answer B s
left_told B s answer sound tells = tells_once B s Left (Odd B) answer (left_answer B s) tells (tells_left B s sound)

right_told : (B : List GridSegment) (s : GridSegment) (answer : Bool) → IsSound B s
    → Tells B s Right (Odd B) answer → answer ≡ right_answer B s
right_told B s answer sound tells = tells_once B s Right (Odd B) answer (right_answer B s) tells (tells_right B s sound)

-- whether the operator says different things of the two sides of s, by the middle
abbrev is_parted : Op → List GridSegment → List GridSegment → GridSegment → Bool
is_parted op A B s = differ (says op (left_answer A s) (left_answer B s)) (says op (right_answer A s) (right_answer B s))

parting_told : (op : Op) (A B : List GridSegment) (s : GridSegment) (answer : Bool) → IsSound A s
    → IsSound B s → IsParting op A B s answer → answer ≡ is_parted op A B s
parting_told op A B s answer sound_a sound_b h =
    h.told
    ∙ (λ i. differ
    (says op (left_told A s h.first.left sound_a h.first_sides.left i) (left_told B s h.second.left sound_b h.second_sides.left i))
    (says op (right_told A s h.first.right sound_a h.first_sides.right i) (right_told B s h.second.right sound_b h.second_sides.right i)))

parting_there : (op : Op) (A B : List GridSegment) (s : GridSegment) (answer : Bool) → IsSound A s
    → IsSound B s → answer ≡ is_parted op A B s → IsParting op A B s answer
parting_there op A B s answer sound_a sound_b e = record {
  first = record { left = left_answer A s; right = right_answer A s };
  second = record { left = left_answer B s; right = right_answer B s };
  first_sides = record { left = tells_left A s sound_a; right = tells_right A s sound_a };
  second_sides = record { left = tells_left B s sound_b; right = tells_right B s sound_b };
  told = e;
}

nothing_said : (op : Op) → says op false false ≡ false
nothing_said Intersection = refl
nothing_said Plus = refl
nothing_said Minus = refl
nothing_said CommonBorder = refl
nothing_said Vertices = refl
nothing_said Contour = refl
nothing_said Interior = refl

-- ---- what is given of two borders
pub record AreBorders (A B : List GridSegment) : Type 0 where
  pub noded : AreNoded (A ++ B)
  pub even_first : IsEvenBorder A
  pub even_second : IsEvenBorder B
  pub ordered_first : AllByRecursion (λ t. IsBefore t.a t.b) A
  pub ordered_second : AllByRecursion (λ t. IsBefore t.a t.b) B

pub sound_first : (A B : List GridSegment) (s : GridSegment) → AreBorders A B → Contains (A ++ B) s
    → IsSound A s
sound_first A B s h c =
    sound_among (A ++ B) A s (meet_noded (A ++ B) h.noded) c (ordered_in_both A B s h.ordered_first h.ordered_second c)
    (Contains-append_left A B) h.ordered_first h.even_first

pub sound_second : (A B : List GridSegment) (s : GridSegment) → AreBorders A B → Contains (A ++ B) s
    → IsSound B s
sound_second A B s h c =
    sound_among (A ++ B) B s (meet_noded (A ++ B) h.noded) c (ordered_in_both A B s h.ordered_first h.ordered_second c)
    (Contains-append_right A B) h.ordered_second h.even_second

-- a segment isn't parting and not parting
pub not_parting : (op : Op) (A B : List GridSegment) (s : GridSegment) → IsParting op A B s false
    → IsParting op A B s true → ⊥
not_parting op A B s f t =
    true≢false (t.told ∙ same ∙ sym f.told)
  where
    same : differ (says op t.first.left t.second.left) (says op t.first.right t.second.right)
        ≡ differ (says op f.first.left f.second.left) (says op f.first.right f.second.right)
    same = λ i. differ
        (says op (tells_once A s Left (Odd A) _ _ t.first_sides.left f.first_sides.left i)
        (tells_once B s Left (Odd B) _ _ t.second_sides.left f.second_sides.left i))
        (says op (tells_once A s Right (Odd A) _ _ t.first_sides.right f.first_sides.right i)
        (tells_once B s Right (Odd B) _ _ t.second_sides.right f.second_sides.right i))

pub borders_by : (A B : List GridSegment) → AreNoded (A ++ B) → IsEvenBorder A → IsEvenBorder B → AreOrdered A
    → AreOrdered B → AreBorders A B
borders_by A B noded even_a even_b ordered_a ordered_b = record {
  noded = noded;
  even_first = even_a;
  even_second = even_b;
  ordered_first = ordered_a;
  ordered_second = ordered_b;
}

-- ---- the border of the result
kept_by : (op : Op) (A B C : List GridSegment) → AreBorders A B → AreSegmentsAscending C → HasParting op A B C
    → IsKept (says op) A B C
kept_by op A B C h ascending parting = record {
  ordered_a = h.ordered_first;
  ordered_b = h.ordered_second;
  ordered_c = all_by C _ (λ t c. ordered_in_both A B t h.ordered_first h.ordered_second ((parting t).0 c).0);
  even_a = h.even_first;
  even_b = h.even_second;
  meet = meet_noded (A ++ B) h.noded;
  from_arguments = λ t c. ((parting t).0 c).0;
  kept = λ t c.
      (let a = sound_first A B t h c in
      let b = sound_second A B t h c in
      counted t C (is_parted op A B t) ascending
      (λ k. sym (parting_told op A B t true a b ((parting t).0 k).1), λ e. (parting t).1 (c, parting_there op A B t true a b (sym e))));
  nothing = nothing_said op;
}

pub parting_is_even : (op : Op) (A B C : List GridSegment) → AreBorders A B → AreSegmentsAscending C
    → HasParting op A B C → IsEvenBorder C
parting_is_even op A B C h ascending parting = kept_is_even (says op) A B C (kept_by op A B C h ascending parting)

first_true : (a b : Bool) → (a && not b) ≡ true → (a ≡ true) × (b ≡ true → ⊥)
first_true true true h = cc
first_true true false h = (refl, λ e. true≢false (sym e))
first_true false b h = cc

not_true : (b : Bool) → (b ≡ true → ⊥) → not b ≡ true
not_true true h = absurd (h refl)
not_true false h = refl

pub says_both : (a b : Bool) → a ≡ true → b ≡ true → (a && b) ≡ true
says_both a b h k = rw (h, k) refl

pub says_first : (a b : Bool) → a ≡ true → (a || b) ≡ true
says_first a b h = rw h refl

pub says_second : (a b : Bool) → b ≡ true → (a || b) ≡ true
says_second true b h = refl
says_second false b h = h

pub is_odd_by : (B : List GridSegment) (q : Place) → is_odd B q ≡ true → Odd B q
is_odd_by B q h = count_by_odd (λ s. is_strictly_above s q) B h

pub odd_is : (B : List GridSegment) (q : Place) → Odd B q → is_odd B q ≡ true
odd_is B q h = odd_by_count (λ s. is_strictly_above s q) B h

-- what the operator says of parities is what it has
said : (op : Op) (A B : List GridSegment) (q : Place)
    → (says op (is_odd A q) (is_odd B q) ≡ true) ↔ HasPlace op A B q
said Intersection A B q = (
  λ h. (let b = both_true _ _ h in (is_odd_by A q b.0, is_odd_by B q b.1)),
  λ h. says_both _ _ (odd_is A q h.0) (odd_is B q h.1),
)
said Plus A B q = (
  λ h. elim (one_true _ _ h) [ inl a ↦ inl (is_odd_by A q a) | inr b ↦ inr (is_odd_by B q b) ],
  λ h. elim h [ inl a ↦ says_first _ _ (odd_is A q a) | inr b ↦ says_second _ _ (odd_is B q b) ],
)
said Minus A B q = (
  λ h. (let b = first_true _ _ h in (is_odd_by A q b.0, λ o. b.1 (odd_is B q o))),
  λ h. says_both _ _ (odd_is A q h.0) (not_true _ (λ e. h.1 (is_odd_by B q e))),
)
said CommonBorder A B q = (λ h. absurd (true≢false (sym h)), λ h. absurd h)
said Vertices A B q = (λ h. absurd (true≢false (sym h)), λ h. absurd h)
said Contour A B q = (λ h. absurd (true≢false (sym h)), λ h. absurd h)
said Interior A B q = (λ h. absurd (true≢false (sym h)), λ h. absurd h)

pub parting_is_combination : (op : Op) (A B C : List GridSegment) → AreBorders A B → AreSegmentsAscending C
    → HasParting op A B C → IsCombination op A B C
parting_is_combination op A B C h ascending parting =
    let kept = kept_by op A B C h ascending parting in
    record {
      of_these = kept.from_arguments;
      even = kept_is_even (says op) A B C kept;
      places = λ q free.
          (let e = kept_has_places (says op) A B C q kept free in
          let s = said op A B q in
          (λ o. s.0 (sym e ∙ odd_is C q o), λ p. is_odd_by C q (e ∙ s.1 p)));
    }

-- ---- the list in another order
pub parting_same : (op : Op) (A B C D : List GridSegment) → HasParting op A B C
    → ((s : GridSegment) → Contains D s ↔ Contains C s) → HasParting op A B D
parting_same op A B C D h same s = (λ c. (h s).0 ((same s).0 c), λ c. (same s).1 ((h s).1 c))
