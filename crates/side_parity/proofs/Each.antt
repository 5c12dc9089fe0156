-- This file shows that what holds of each segment of a list holds down the list, and the other way round.
use Rattle.std.proofs.Common.{List, ◌++◌, inl, inr}
use Rattle.std.specs.Prelude.{Contains}
use Rattle.std.specs.List.{AllByRecursion}
use Rattle.std.proofs.lemmas.List.Elements.{All-contains, All-contains_itself, All-from_recursion, All-weaker}
use Rattle.std.proofs.lemmas.List.Elements.{Contains-append_cases, recursion_from_All}
use Rattle.grid_base.specs.Point.{IsBefore}
use Rattle.grid_base.specs.Segment.{GridSegment}

pub all_by : (B : List GridSegment) (P : GridSegment → Type 0) → ((t : GridSegment) → Contains B t → P t)
    → AllByRecursion P B
all_by B P h = recursion_from_All P B (All-weaker (Contains B) P h B (All-contains_itself B))

pub each_of : (P : GridSegment → Type 0) (B : List GridSegment) (t : GridSegment) → AllByRecursion P B
    → Contains B t → P t
each_of P B t h c = All-contains P B t (All-from_recursion P B h) c

-- ---- the lesser end comes first
pub ordered_in : (B : List GridSegment) (t : GridSegment) → AllByRecursion (λ u. IsBefore u.a u.b) B
    → Contains B t → IsBefore t.a t.b
ordered_in B t h c = each_of (λ u. IsBefore u.a u.b) B t h c

pub ordered_in_both : (A B : List GridSegment) (t : GridSegment) → AllByRecursion (λ u. IsBefore u.a u.b) A
    → AllByRecursion (λ u. IsBefore u.a u.b) B → Contains (A ++ B) t → IsBefore t.a t.b
ordered_in_both A B t a b c =
    elim (Contains-append_cases A B t c) [ inl k ↦ ordered_in A t a k | inr k ↦ ordered_in B t b k ]
