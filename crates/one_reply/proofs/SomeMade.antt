-- This file shows that every operator makes something of the values that it takes.
use Rattle.std.proofs.Common.{◌≡◌, ◌↔◌, ℕ, Bool, true, false, List, [], ◌∷◌, ◌++◌, Contains, All, AllPairs, Option, Some, None}
use Rattle.std.proofs.Common.{Result, Ok, Err, IfOk, refl, sym, subst, inl, inr}
use Rattle.std.specs.Prelude.{option_map}
use Rattle.std.proofs.lemmas.List.{append-nil}
use Rattle.std.proofs.lemmas.List.Elements.{recursion_from_All, All-contains, Contains-append_left, Contains-append_right}
use Rattle.grid_base.specs.Border.{AreNoded, IsEvenBorder}
use Rattle.grid_base.specs.Point.{GridPoint, IsBefore}
use Rattle.grid_base.specs.Segment.{GridSegment, IsSegmentBefore, IsEnd}
use Rattle.grid_base.proofs.Elements.{Contains-here, Contains-later, Contains-cases, Contains-nil}
use Rattle.grid_base.proofs.Ends.{same_or_not}
use Rattle.rose_values.specs.declared.geometry.Geometry.{Geometry}
use Rattle.rose_values.specs.declared.geometry.Geometry.TheVariants.{P, L, R}
use Rattle.rose_values.specs.declared.operators.Op.{Op}
use Rattle.rose_values.specs.declared.operators.Op.TheVariants.{Intersection, Plus, Minus, CommonBorder, Vertices, Contour, Interior}
use Rattle.rose_values.specs.Geometry.{kind_of}
use Rattle.rose_values.specs.Kinds.{result_kind_of}
use Rattle.rose_values.specs.Operators.{HasEnds, HasEither, HasMeetings, HasWithin, LiesIn, IsEndOfSome, IsNoSharedEnd, IsCombination}
use Rattle.plane_cells.specs.Rims.{rims}
use Rattle.plane_cells.proofs.RimCounts.{rims_part, rims_ascend}
use Rattle.side_parity.proofs.BothSides.{left_answer, right_answer, tells_left, tells_right}
use Rattle.side_parity.proofs.Pictures.{meet_noded}
use Rattle.side_parity.proofs.SidesBy.{IsSound}
use Rattle.rose_overlay.specs.declared.evaluating.EvalError.{EvalError}
use Rattle.rose_overlay.specs.declared.evaluating.EvalError.TheVariants.{WrongTypes}
use Rattle.rose_overlay.specs.Parting.{AreOrdered, IsParting}
use Rattle.rose_overlay.proofs.LiesWithin.{lies_by, by_lies}
use Rattle.rose_overlay.proofs.Made.{sound_among}
use Rattle.rose_overlay.proofs.Parted.{AreBorders, borders_by, sound_first, sound_second, not_parting, parting_is_combination}
use Rattle.rose_overlay.proofs.Picks.{either_append}
use Rattle.rose_overlay.proofs.Sorts.{there_or_not}
use Rattle.rose_overlay.proofs.ToldSides.{parting_by}
use Rattle.rose_operators.specs.Results.{IsAscending, IsResultOf}
use Rattle.rose_predicates.proofs.Truths.{each}
use Rattle.one_reply.proofs.Picks.{ends}
use Rattle.rose_measure.proofs.Members.{Contains-flat_map, joined_from}
use Rattle.realm_insert.specs.declared.refusal.Refusal.TheVariants.{Types}
use Rattle.rose_query.specs.Replies.{no_reply, value_reply}
use Rattle.rose_query.specs.Results.{TellsResult}
use Rattle.one_reply.proofs.Decisions.{Decided, same_decided, not_decided, both_decided, either_decided, test_decided}
use Rattle.one_reply.proofs.Decisions.{any_decided, point_there}
use Rattle.one_reply.proofs.Listings.{listed_points, listed_segments, picked_points, picked_segments}
use Rattle.one_reply.proofs.SomeClassNumbers.{some_numbers, border_of_realm}
use Rattle.one_reply.proofs.SomeOperands.{AreFit, AreAllOnGrid, first_on_grid}

-- ---- ends
-- the two ends of a segment
end_is : (s : GridSegment) (p : GridPoint) → Contains (s.a ∷ s.b ∷ []) p ↔ IsEnd p s
end_is s p = (
  λ there. elim (Contains-cases s.a (s.b ∷ []) p there) [
    | inl first ↦ inl (sym first)
    | inr rest ↦ elim (Contains-cases s.b [] p rest) [
      | inl second ↦ inr (sym second)
      | inr none ↦ absurd (Contains-nil p none)
    ]
  ],
  λ end. elim end [
    | inl first ↦ subst (Contains (s.a ∷ s.b ∷ [])) (sym first) (Contains-here s.a (s.b ∷ []))
    | inr second ↦ Contains-later s.a (s.b ∷ []) p (subst (Contains (s.b ∷ [])) (sym second) (Contains-here s.b []))
  ],
)

-- the ends of all segments, in order
pub some_ends : (list : List GridSegment) → (points : List GridPoint) × AllPairs IsBefore points × HasEnds list points
some_ends list =
    let (points, are) = listed_points (ends list) in (
      points,
      are.ascending,
      λ p. (
        λ there.
            let (s, in_list, at_end) = joined_from (λ (t : GridSegment). t.a ∷ t.b ∷ []) list p ((are.exact p).0 there) in
            (s, in_list, (end_is s p).0 at_end),
        λ (s, in_list, end).
            (are.exact p).1 (Contains-flat_map (λ (t : GridSegment). t.a ∷ t.b ∷ []) list s p in_list ((end_is s p).1 end)),
      ),
    )

-- no segment of both ends at the point where none of the first does that is one of the second
shared_end : (A B : List GridSegment) (p : GridPoint) → Decided (IsNoSharedEnd A B p)
shared_end A B p =
    let some = any_decided (λ s. Contains B s × IsEnd p s) A
    (λ s there. both_decided (there_or_not s B) (either_decided (same_or_not p s.a) (same_or_not p s.b))) in
    same_decided (
      λ none s in_A in_B end. none (in_A.0, s, in_A.1, in_A.2, (in_B, end)),
      λ shared (k, s, within, is, (in_B, end)). shared s (k, within, is) in_B end,
    ) (not_decided some)

-- ends of both where they share no segment
some_meetings : (A B : List GridSegment) → (points : List GridPoint) × AllPairs IsBefore points × HasMeetings A B points
some_meetings A B =
    let (first, up, of_A) = some_ends A in
    let (second, also, of_B) = some_ends B in
    let (points, ascends, are) = picked_points (λ p. IsEndOfSome B p × IsNoSharedEnd A B p) first
    (λ p there. both_decided (same_decided (of_B p) (point_there second p)) (shared_end A B p)) in (
      points,
      ascends,
      λ p. (
        λ there. let (in_first, rest) = (are p).0 there in ((of_A p).0 in_first, rest.0, rest.1),
        λ (end, other, none). (are p).1 ((of_A p).1 end, (other, none)),
      ),
    )

-- ---- regions
-- each segment has its lesser end first
ordered_part : (C all : List GridSegment) → ((s : GridSegment) → Contains C s → Contains all s) → All (λ s. IsBefore s.a s.b) all
    → AreOrdered C
ordered_part C all part ordered =
    recursion_from_All (λ s. IsBefore s.a s.b) C
    (each (λ s. IsBefore s.a s.b) C (λ s there. All-contains (λ t. IsBefore t.a t.b) all s ordered (part s there)))

pub ordered_first : (A B : List GridSegment) → All (λ s. IsBefore s.a s.b) (A ++ B) → AreOrdered A
ordered_first A B ordered = ordered_part A (A ++ B) (Contains-append_left A B) ordered

pub ordered_second : (A B : List GridSegment) → All (λ s. IsBefore s.a s.b) (A ++ B) → AreOrdered B
ordered_second A B ordered = ordered_part B (A ++ B) (Contains-append_right A B) ordered

pub are_borders : (A B : List GridSegment) → AreNoded (A ++ B) → All (λ s. IsBefore s.a s.b) (A ++ B) → IsEvenBorder A
    → IsEvenBorder B → AreBorders A B
are_borders A B noded ordered even_a even_b =
    borders_by A B noded even_a even_b (ordered_first A B ordered) (ordered_second A B ordered)

-- a segment of either is parting or not, by its sides
parting_or_not : (op : Op) (A B : List GridSegment) (s : GridSegment) → AreBorders A B → Contains (A ++ B) s
    → Decided (IsParting op A B s true)
parting_or_not op A B s h there =
    by _ (parting_by op A B s (record { left = left_answer A s; right = right_answer A s })
    (record { left = left_answer B s; right = right_answer B s }) _
    (record { left = tells_left A s a; right = tells_right A s a })
    (record { left = tells_left B s b; right = tells_right B s b }) refl)
  where
    a : IsSound A s
    a = sound_first A B s h there

    b : IsSound B s
    b = sound_second A B s h there

    by : (told : Bool) → IsParting op A B s told → Decided (IsParting op A B s true)
    by true is = inl is
    by false is = inr (λ other. not_parting op A B s is other)

-- the parting segments are the border
pub some_combination : (op : Op) (A B : List GridSegment) → AreBorders A B
    → (C : List GridSegment) × AllPairs IsSegmentBefore C × IsCombination op A B C
some_combination op A B h =
    let (C, up, are) = picked_segments (λ s. IsParting op A B s true) (A ++ B) (λ s there. parting_or_not op A B s h there) in
    (C, up, parting_is_combination op A B C h up are)

-- a segment lies in a region where it is on the border, or odd on its left
lies_or_not : (B lines : List GridSegment) (s : GridSegment) → AreNoded (B ++ lines) → All (λ t. IsBefore t.a t.b) (B ++ lines)
    → IsEvenBorder B → Contains lines s → Decided (LiesIn B s)
lies_or_not B lines s noded ordered even there =
    let in_both = Contains-append_right B lines s there in
    let sound = sound_among (B ++ lines) B s (meet_noded (B ++ lines) noded) in_both
    (All-contains (λ t. IsBefore t.a t.b) (B ++ lines) s ordered in_both) (Contains-append_left B lines)
    (ordered_first B lines ordered) even in
    same_decided (lies_by B s sound, by_lies B s sound) (either_decided (there_or_not s B) (test_decided (left_answer B s)))

-- the segments that lie in the region
pub some_within : (B lines : List GridSegment) → AreNoded (B ++ lines) → All (λ t. IsBefore t.a t.b) (B ++ lines) → IsEvenBorder B
    → (C : List GridSegment) × AllPairs IsSegmentBefore C × HasWithin B lines C
some_within B lines noded ordered even =
    picked_segments (LiesIn B) lines (λ s there. lies_or_not B lines s noded ordered even there)

-- ---- by kinds
-- the result of the operator, or that it doesn't take the values, and the reply that tells it
pub record IsOperated (op : Op) (a : Geometry) (b : Option Geometry) : Type 0 where
  pub result : Result Geometry EvalError
  pub right : IfOk result (λ g. IsResultOf op a b g)
  pub wrong : (result ≡ Err WrongTypes) ↔ (result_kind_of op (kind_of a) (option_map kind_of b) ≡ None)
  pub reply : List ℕ
  pub tells : TellsResult result reply

-- the table has no row for them
not_taken : (op : Op) (a : Geometry) (b : Option Geometry) → result_kind_of op (kind_of a) (option_map kind_of b) ≡ None
    → IsOperated op a b
not_taken op a b none =
    record { result = Err WrongTypes; right = tt; wrong = (λ e. none, λ e. refl); reply = no_reply Types; tells = refl }

-- it has one, and this is made
made : (op : Op) (a : Geometry) (b : Option Geometry) (g : Geometry) → IsResultOf op a b g → IsAscending g
    → (result_kind_of op (kind_of a) (option_map kind_of b) ≡ None → ⊥) → IsOperated op a b
made op a b g right up taken =
    record { result = Ok g; right = right; wrong = (λ e. cc, λ e. absurd (taken e)); reply = value_reply g; tells = (up, refl) }

-- `interior` asks for segments on the grid, and the other operators for nothing
abbrev pub MayMake : Op → Geometry → Option Geometry → Type 0
MayMake Interior a b = AreAllOnGrid a b
MayMake op a b = Unit {0}

-- the segments that have the outer class on just one side are the border of what the lines shut in
interior_made : (lines : List GridSegment) → AreAllOnGrid (L lines) None → AreFit (L lines) None → IsOperated Interior (L lines) None
interior_made lines grid fit =
    let noded = subst AreNoded (append-nil lines) fit.noded in
    let has = some_numbers lines (border_of_realm lines noded fit.first_ascends (first_on_grid (L lines) None grid)) in
    made Interior (L lines) None (R (rims lines has.numbers)) (record {
      of_these = rims_part lines has.numbers;
      even = has.interior.even;
      places = has.interior.places;
    }) (rims_ascend lines has.numbers fit.first_ascends) (λ e. cc)

-- one value, by the table of operators
one_made : (op : Op) (a : Geometry) → MayMake op a None → AreFit a None → IsOperated op a None
one_made Interior (L lines) grid fit = interior_made lines grid fit
one_made Vertices (L lines) may fit =
    let (points, up, are) = some_ends lines in made Vertices (L lines) None (P points) are up (λ e. cc)
one_made Vertices (R border) may fit =
    let (points, up, are) = some_ends border in made Vertices (R border) None (P points) are up (λ e. cc)
one_made Contour (R border) may fit = made Contour (R border) None (L border) refl fit.first_ascends (λ e. cc)
one_made op a may fit = not_taken op a None refl

-- what either list has, in order
either : {X : Type 0} (A B list : List X) → ((x : X) → Contains list x ↔ Contains (A ++ B) x) → HasEither A B list
either A B list same x = (
  λ there. (either_append A B x).0 ((same x).0 there),
  λ one. (same x).1 ((either_append A B x).1 one),
)

-- two values, by the table
two_made : (op : Op) (a b : Geometry) → AreFit a (Some b) → IsOperated op a (Some b)
two_made Intersection (P A) (P B) fit =
    let (list, up, are) = picked_points (Contains B) A (λ p there. point_there B p) in
    made Intersection (P A) (Some (P B)) (P list) are up (λ e. cc)
two_made Plus (P A) (P B) fit =
    let (list, is) = listed_points (A ++ B) in
    made Plus (P A) (Some (P B)) (P list) (either A B list is.exact) is.ascending (λ e. cc)
two_made Minus (P A) (P B) fit =
    let (list, up, are) = picked_points (λ p. Contains B p → ⊥) A (λ p there. not_decided (point_there B p)) in
    made Minus (P A) (Some (P B)) (P list) are up (λ e. cc)
two_made Intersection (L A) (L B) fit =
    let (list, up, are) = some_meetings A B in made Intersection (L A) (Some (L B)) (P list) are up (λ e. cc)
two_made Plus (L A) (L B) fit =
    let (list, is) = listed_segments (A ++ B) in
    made Plus (L A) (Some (L B)) (L list) (either A B list is.exact) is.ascending (λ e. cc)
two_made Minus (L A) (L B) fit =
    let (list, up, are) = picked_segments (λ s. Contains B s → ⊥) A (λ s there. not_decided (there_or_not s B)) in
    made Minus (L A) (Some (L B)) (L list) are up (λ e. cc)
two_made Intersection (R A) (L B) fit =
    let (list, up, are) = some_within A B fit.noded fit.ordered fit.first_even in
    made Intersection (R A) (Some (L B)) (L list) are up (λ e. cc)
two_made Intersection (R A) (R B) fit =
    let (list, up, are) = some_combination Intersection A B (are_borders A B fit.noded fit.ordered fit.first_even fit.second_even) in
    made Intersection (R A) (Some (R B)) (R list) are up (λ e. cc)
two_made Plus (R A) (R B) fit =
    let (list, up, are) = some_combination Plus A B (are_borders A B fit.noded fit.ordered fit.first_even fit.second_even) in
    made Plus (R A) (Some (R B)) (R list) are up (λ e. cc)
two_made Minus (R A) (R B) fit =
    let (list, up, are) = some_combination Minus A B (are_borders A B fit.noded fit.ordered fit.first_even fit.second_even) in
    made Minus (R A) (Some (R B)) (R list) are up (λ e. cc)
two_made CommonBorder (R A) (R B) fit =
    let (list, up, are) = picked_segments (Contains B) A (λ s there. there_or_not s B) in
    made CommonBorder (R A) (Some (R B)) (L list) are up (λ e. cc)
two_made op a b fit = not_taken op a (Some b) refl

pub some_operated : (op : Op) (a : Geometry) (b : Option Geometry) → MayMake op a b → AreFit a b → IsOperated op a b
some_operated op a None may fit = one_made op a may fit
some_operated op a (Some b) may fit = two_made op a b fit
