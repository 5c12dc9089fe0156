-- This file shows that two ascending lists whose elements have one fact in common are the same.
use Rattle.std.proofs.Common.{◌≡◌, ◌↔◌, List, AllPairs, Contains}
use Rattle.grid_base.specs.Point.{GridPoint, IsBefore}
use Rattle.grid_base.specs.Segment.{GridSegment, IsSegmentBefore}
use Rattle.grid_base.proofs.Orders.{IsBefore-asym}
use Rattle.rose_overlay.proofs.Sorts.{not_both, one_list}

same_lists : {X : Type 0} (R : X → X → Type 0) → ((x y : X) → R x y → R y x → ⊥) → (Q : X → Type 0) (xs ys : List X)
    → AllPairs R xs → AllPairs R ys → ((x : X) → Contains xs x ↔ Q x) → ((x : X) → Contains ys x ↔ Q x) → xs ≡ ys
same_lists R never Q xs ys first second of_first of_second =
    one_list R never xs ys first second (λ x there. (of_second x).1 ((of_first x).0 there))
    (λ x there. (of_first x).1 ((of_second x).0 there))

pub same_points : (Q : GridPoint → Type 0) (ps qs : List GridPoint) → AllPairs IsBefore ps → AllPairs IsBefore qs
    → ((p : GridPoint) → Contains ps p ↔ Q p) → ((p : GridPoint) → Contains qs p ↔ Q p) → ps ≡ qs
same_points Q ps qs first second of_first of_second =
    same_lists IsBefore IsBefore-asym Q ps qs first second of_first of_second

pub same_segments : (Q : GridSegment → Type 0) (ss ts : List GridSegment) → AllPairs IsSegmentBefore ss
    → AllPairs IsSegmentBefore ts → ((s : GridSegment) → Contains ss s ↔ Q s) → ((s : GridSegment) → Contains ts s ↔ Q s)
    → ss ≡ ts
same_segments Q ss ts first second of_first of_second =
    same_lists IsSegmentBefore not_both Q ss ts first second of_first of_second
