-- This file shows that what is told of an ascending list is told of its segments in any order.
use Rattle.std.proofs.Common.{◌≡◌, ℕ, ◌<◌, List, length, Bool, sym, ap, subst, ◌∙◌, inl, inr}
use Rattle.grid_base.specs.Segment.{GridSegment}
use Rattle.grid_base.specs.Sides.{Side, Left, Right}
use Rattle.grid_base.specs.Plane.{Place, IsBeside, Tells}
use Rattle.grid_base.specs.declared.kinds.Sides.{Sides}
use Rattle.plane_classes.specs.Classes.{IsOuter}
use Rattle.plane_classes.proofs.FewerSegments.{IsPart, free_of_part, class_of_part}
use Rattle.plane_classes.proofs.OneCycle.{beside_part}
use Rattle.plane_cells.specs.Numbered.{numbered}
use Rattle.plane_cells.specs.ClassNumbers.{number_on, number_at, LiesBeside, IsBySome, AreClassNumbers}
use Rattle.plane_cells.specs.OtherNumbers.{HaveSameSegments, AreNumbersOf}
use Rattle.plane_cells.specs.OuterSides.{AreOuterSides}
use Rattle.plane_cells.specs.declared.classes.SideClasses.{SideClasses}
use Rattle.plane_cells.proofs.ShearedRealm.{numbered_in, number_of}

-- what is outer for more segments is outer for fewer
outer_of_part : (C B : List GridSegment) (q : Place) → IsPart C B → IsOuter B q → IsOuter C q
outer_of_part C B q part outer = (
  outer.0,
  record { real = outer.1.real; left = λ s there. outer.1.left s (part s there) },
  class_of_part C B outer.0 q part outer.2,
)

-- ---- whether sides are outer
-- an answer for one side holds for the same segments in another order
tells_of : (C B : List GridSegment) (s : GridSegment) (d : Side) (answer : Bool) → HaveSameSegments C B
    → Tells C s d (IsOuter C) answer → Tells B s d (IsOuter B) answer
tells_of C B s d answer same told = record {
  one = (told.one.0, beside_part B C s d told.one.0 back told.one.1);
  all = λ q beside. let known = told.all q (beside_part C B s d q onward beside) in
      (λ yes. outer_of_part B C q back (known.0 yes), λ outer. known.1 (outer_of_part C B q onward outer));
}
  where
    onward : IsPart C B
    onward u there = (same u).0 there

    back : IsPart B C
    back u there = (same u).1 there

-- and so does the answer for both
pub outer_sides_in : (C B : List GridSegment) (s : GridSegment) (answer : Sides) → HaveSameSegments C B
    → AreOuterSides C s answer → AreOuterSides B s answer
outer_sides_in C B s answer same told = record {
  left = tells_of C B s Left answer.left same told.left;
  right = tells_of C B s Right answer.right same told.right;
}

-- ---- the numbers of classes
-- what lies beside a segment of the one list lies beside the same segment of the other
lies_in : (C B : List GridSegment) (i j : ℕ) (d : Side) (q : Place) → IsPart C B → i < length C → numbered C i ≡ numbered B j
    → LiesBeside B j d q → LiesBeside C i d q
lies_in C B i j d q part within same lies = record {
  within = within;
  sided = lies.sided;
  beside = subst (λ (s : GridSegment). IsBeside C s d q) (sym same) (beside_part C B (numbered B j) d q part lies.beside);
}

-- each side has the number that it has in the other list, by which it is told
pub class_numbers_in : (C B : List GridSegment) (N M : List SideClasses) → HaveSameSegments C B → AreNumbersOf C N B M
    → AreClassNumbers C N → AreClassNumbers B M
class_numbers_in C B N M same found known = record {
  one_each = found.one_each;
  some = λ i d within sided.
      let at = found.each i within in
      let place = known.some at.place d at.within sided in
      (place.0, lies_in B C i at.place d place.0 back within (sym at.there) place.1);
  one_class = λ i j d e p q first second.
      let at = found.each i first.within in
      let to = found.each j second.within in
      let one = known.one_class at.place to.place d e p q (there i d p first) (there j e q second) in (
        λ equal. class_of_part B C p q back (one.0 (sym (read i d first.within) ∙ equal ∙ read j e second.within)),
        λ joined. read i d first.within ∙ one.1 (class_of_part C B p q onward joined) ∙ sym (read j e second.within),
      );
  outer = λ i d q lies.
      let at = found.each i lies.within in
      let one = known.outer at.place d q (there i d q lies) in (
        λ zero_is. outer_of_part B C q back (one.0 (sym (read i d lies.within) ∙ zero_is)),
        λ outer. read i d lies.within ∙ one.1 (outer_of_part C B q onward outer),
      );
  each_class = λ q free. elim (known.each_class q (free_of_part C B q onward free)) [
    | inl outer ↦ inl (outer_of_part B C q back outer)
    | inr side ↦ inr (by_some q side)
  ];
}
  where
    onward : IsPart C B
    onward u is = (same u).0 is

    back : IsPart B C
    back u is = (same u).1 is

    read : (i : ℕ) (d : Side) (within : i < length B) → number_at M i d ≡ number_at N (found.each i within).place d
    read i d within = ap (λ (n : SideClasses). number_on n d) (found.each i within).same

    there : (i : ℕ) (d : Side) (q : Place) (lies : LiesBeside B i d q) → LiesBeside C (found.each i lies.within).place d q
    there i d q lies =
        let at = found.each i lies.within in
        lies_in C B at.place i d q onward at.within at.there lies

    by_some : (q : Place) → IsBySome C q → IsBySome B q
    by_some q (i, d, p, lies, joined) =
        let at = number_of B (numbered C i) (onward (numbered C i) (numbered_in C i lies.within)) in
        (at.0, d, p, lies_in B C at.0 i d p back at.1 at.2 lies, class_of_part B C q p back joined)
