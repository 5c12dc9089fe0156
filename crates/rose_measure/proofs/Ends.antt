-- This file shows which points the ends of elements are.
use Rattle.std.proofs.Common.{◌≡◌, ◌⊎◌, ℕ, ◌+◌, ◌<◌, ◌≤◌, List, [], ◌∷◌, ◌++◌, take, get_or, length, All, Contains}
use Rattle.std.proofs.Common.{sym, subst, ap, ◌∙◌, inl, inr, arith}
use Rattle.std.proofs.lemmas.List.{take_more, take_all}
use Rattle.std.proofs.lemmas.Grind.{flat_map-append}
use Rattle.std.proofs.lemmas.List.Elements.{All-append, All-cons, All-nil, All-weaker}
use Rattle.grid_base.specs.Point.{GridPoint}
use Rattle.grid_base.proofs.Elements.{Contains-here, Contains-later, Contains-cases}
use Rattle.rose_measure.specs.Extremes.{itself, both_ends, at_ends}
use Rattle.rose_measure.specs.declared.parts.End.{End}
use Rattle.rose_measure.specs.declared.parts.End.TheVariants.{Lesser, Greater}
use Rattle.rose_measure.proofs.Members.{Contains-flat_map, joined_from}

-- ---- which they are
pub lesser_there : {X : Type 0} (place : End → X → GridPoint) (list : List X) (x : X) → Contains list x
    → Contains (at_ends place list) (place Lesser x)
lesser_there place list x there =
    Contains-flat_map (both_ends place) list x (place Lesser x) there (Contains-here (place Lesser x) (place Greater x ∷ []))

pub greater_there : {X : Type 0} (place : End → X → GridPoint) (list : List X) (x : X) → Contains list x
    → Contains (at_ends place list) (place Greater x)
greater_there place list x there =
    Contains-flat_map (both_ends place) list x (place Greater x) there
    (Contains-later (place Lesser x) (place Greater x ∷ []) (place Greater x) (Contains-here (place Greater x) []))

-- one of both ends
pub one_of_both : {X : Type 0} (place : End → X → GridPoint) (x : X) (p : GridPoint) → Contains (both_ends place x) p
    → (place Lesser x ≡ p) ⊎ (place Greater x ≡ p)
one_of_both place x p there = elim (Contains-cases (place Lesser x) (place Greater x ∷ []) p there) [
  | inl lesser ↦ inl lesser
  | inr later ↦ elim (Contains-cases (place Greater x) [] p later) [
    | inl greater ↦ inr greater
    | inr none ↦ absurd (omega (arith, none.1))
  ]
]

pub end_from : {X : Type 0} (place : End → X → GridPoint) (list : List X) (p : GridPoint) → Contains (at_ends place list) p
    → (x : X) × Contains list x × ((place Lesser x ≡ p) ⊎ (place Greater x ≡ p))
end_from place list p there =
    let (x, x_there, has) = joined_from (both_ends place) list p there in
    (x, x_there, one_of_both place x p has)

-- the ends of points are the points
pub from_itself : (points : List GridPoint) (p : GridPoint) → Contains (at_ends itself points) p → Contains points p
from_itself points p there =
    let (q, q_there, same) = end_from itself points p there in elim same [
      | inl lesser ↦ subst (Contains points) lesser q_there
      | inr greater ↦ subst (Contains points) greater q_there
    ]

pub at_itself : (points : List GridPoint) (p : GridPoint) → Contains points p → Contains (at_ends itself points) p
at_itself points p there = lesser_there itself points p there

-- ---- one element after another
-- the ends of the elements so far, and those of the next
pub at_ends-more : {X : Type 0} (place : End → X → GridPoint) (list : List X) (i : ℕ) (item : X) → i < length list
    → item ≡ get_or list i item → at_ends place (take (i + 1) list) ≡ at_ends place (take i list) ++ both_ends place item
at_ends-more place list i item within is =
    ap (at_ends place) (take_more list i item within)
    ∙ flat_map-append (both_ends place) (take i list) (get_or list i item ∷ [])
    ∙ ap (λ x. at_ends place (take i list) ++ both_ends place x) (sym is)

-- what holds of the ends so far, and of those of the next, holds of them all
pub all_further : {X : Type 0} (place : End → X → GridPoint) (P Q : GridPoint → Type 0) (list : List X) (i : ℕ) (item : X)
    (lesser greater : GridPoint) → i < length list → item ≡ get_or list i item → lesser ≡ place Lesser item
    → greater ≡ place Greater item → ((p : GridPoint) → P p → Q p) → Q lesser → Q greater
    → All P (at_ends place (take i list)) → All Q (at_ends place (take (i + 1) list))
all_further place P Q list i item lesser greater within is lesser_is greater_is weaker one other before =
    let both : All Q (both_ends place item) =
    All-cons Q (place Lesser item) (place Greater item ∷ []) (subst Q lesser_is one)
    (All-cons Q (place Greater item) [] (subst Q greater_is other) (All-nil Q)) in
    subst (All Q) (sym (at_ends-more place list i item within is))
    (All-append Q (at_ends place (take i list)) (both_ends place item) (All-weaker P Q weaker (at_ends place (take i list)) before) both)

-- after so many elements there is none left
pub all_of_all : {X : Type 0} (place : End → X → GridPoint) (P : GridPoint → Type 0) (list : List X) (i : ℕ) → length list ≤ i
    → All P (at_ends place (take i list)) → All P (at_ends place list)
all_of_all place P list i none all = subst (λ xs. All P (at_ends place xs)) (take_all i list none) all
