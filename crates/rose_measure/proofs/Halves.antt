-- This file shows that the parts that a part is cut into have all its points that count.
use Rattle.std.proofs.Common.{◌≡◌, ℕ, ◌<◌, ◌≤◌, List, ◌++◌, All}
use Rattle.std.proofs.Common.{sym, subst, ap, ◌∙◌, inl, inr, ⊎_elim, arith}
use Rattle.std.proofs.lemmas.Bool.{cases_lt}
use Rattle.std.proofs.lemmas.Grind.{flat_map-append}
use Rattle.std.proofs.lemmas.List.Elements.{All-contains}
use Rattle.std.proofs.lemmas.List.Elements.{Contains-append_left, Contains-append_right, Contains-append_cases}
use Rattle.grid_base.specs.Point.{GridPoint, point_at}
use Rattle.rose_measure.specs.Extremes.{both_ends, at_ends, boxed, IsInBounds, AreHalves}
use Rattle.rose_measure.specs.declared.parts.End.{End}

-- ---- by places in the list
pub halves_of_lists : (some rest : List GridPoint) (low high some_low some_high rest_low rest_high : GridPoint)
    → All (λ p. IsInBounds low high p → IsInBounds some_low some_high p) some
    → All (λ p. IsInBounds low high p → IsInBounds rest_low rest_high p) rest
    → AreHalves (boxed (some ++ rest) low high) (boxed some some_low some_high) (boxed rest rest_low rest_high)
halves_of_lists some rest low high some_low some_high rest_low rest_high inside also = record {
  covered = λ p seen. ⊎_elim
      (λ there. inl (record {
        there = there;
        inside = All-contains (λ q. IsInBounds low high q → IsInBounds some_low some_high q) some p inside there seen.inside;
      }))
      (λ there. inr (record {
        there = there;
        inside = All-contains (λ q. IsInBounds low high q → IsInBounds rest_low rest_high q) rest p also there seen.inside;
      }))
      (Contains-append_cases some rest p seen.there);
  some_of_whole = λ p there. Contains-append_left some rest p there;
  rest_of_whole = λ p there. Contains-append_right some rest p there;
}

-- elements that are the front and the back of the list
pub halves_by_places : {X : Type 0} (place : End → X → GridPoint) (whole some rest front back : List X)
    (low high some_low some_high rest_low rest_high : GridPoint) → whole ≡ front ++ back → some ≡ front → rest ≡ back
    → All (λ p. IsInBounds low high p → IsInBounds some_low some_high p) (at_ends place some)
    → All (λ p. IsInBounds low high p → IsInBounds rest_low rest_high p) (at_ends place rest)
    → AreHalves (boxed (at_ends place whole) low high) (boxed (at_ends place some) some_low some_high)
    (boxed (at_ends place rest) rest_low rest_high)
halves_by_places place whole some rest front back low high some_low some_high rest_low rest_high together first second
    inside inside_too =
    let points : at_ends place some ++ at_ends place rest ≡ at_ends place whole =
    sym (flat_map-append (both_ends place) some rest)
    ∙ ap (at_ends place) (ap (λ xs. xs ++ rest) first ∙ ap (λ xs. front ++ xs) second ∙ sym together) in
    subst (λ xs. AreHalves (boxed xs low high) (boxed (at_ends place some) some_low some_high)
    (boxed (at_ends place rest) rest_low rest_high)) points
    (halves_of_lists (at_ends place some) (at_ends place rest) low high some_low some_high rest_low rest_high inside inside_too)

-- ---- by rows
-- a point that isn't below the middle row is in it or above
halves_of_rows : (points : List GridPoint) (low high some_low some_high rest_low rest_high v_low v_high w_low w_high : GridPoint)
    (middle : ℕ) → v_low ≡ low → v_high ≡ point_at high.x middle → w_low ≡ point_at low.x middle → w_high ≡ high
    → All (λ p. IsInBounds v_low v_high p → IsInBounds some_low some_high p) points
    → All (λ p. IsInBounds w_low w_high p → IsInBounds rest_low rest_high p) points
    → AreHalves (boxed points low high) (boxed points some_low some_high) (boxed points rest_low rest_high)
halves_of_rows points low high some_low some_high rest_low rest_high v_low v_high w_low w_high middle one two three four below above = record {
  covered = λ p seen. ⊎_elim
      (λ (under : p.y < middle). inl (record {
        there = seen.there;
        inside = All-contains (λ q. IsInBounds v_low v_high q → IsInBounds some_low some_high q) points p below seen.there
            (rw (one, two) (record {
              right_of_left_side = seen.inside.right_of_left_side;
              left_of_right_side = seen.inside.left_of_right_side;
              above_lower_side = seen.inside.above_lower_side;
              below_upper_side = omega (arith, under);
            }));
      }))
      (λ (over : middle ≤ p.y). inr (record {
        there = seen.there;
        inside = All-contains (λ q. IsInBounds w_low w_high q → IsInBounds rest_low rest_high q) points p above seen.there
            (rw (three, four) (record {
              right_of_left_side = seen.inside.right_of_left_side;
              left_of_right_side = seen.inside.left_of_right_side;
              above_lower_side = over;
              below_upper_side = seen.inside.below_upper_side;
            }));
      }))
      (cases_lt p.y middle);
  some_of_whole = λ p there. there;
  rest_of_whole = λ p there. there;
}

-- the elements of one list twice
pub halves_by_rows : {X : Type 0} (place : End → X → GridPoint) (whole some rest : List X)
    (low high some_low some_high rest_low rest_high v_low v_high w_low w_high : GridPoint) (middle : ℕ)
    → v_low ≡ low → v_high ≡ point_at high.x middle → w_low ≡ point_at low.x middle → w_high ≡ high
    → some ≡ whole → rest ≡ whole
    → All (λ p. IsInBounds v_low v_high p → IsInBounds some_low some_high p) (at_ends place some)
    → All (λ p. IsInBounds w_low w_high p → IsInBounds rest_low rest_high p) (at_ends place rest)
    → AreHalves (boxed (at_ends place whole) low high) (boxed (at_ends place some) some_low some_high)
    (boxed (at_ends place rest) rest_low rest_high)
halves_by_rows place whole some rest low high some_low some_high rest_low rest_high v_low v_high w_low w_high middle
    one two three four first second below above =
    let same : at_ends place some ≡ at_ends place whole = ap (at_ends place) first in
    let same_too : at_ends place rest ≡ at_ends place whole = ap (at_ends place) second in
    let points = at_ends place whole in
    subst (λ xs. AreHalves (boxed points low high) (boxed xs some_low some_high) (boxed (at_ends place rest) rest_low rest_high)) (sym same)
    (subst (λ xs. AreHalves (boxed points low high) (boxed points some_low some_high) (boxed xs rest_low rest_high)) (sym same_too)
    (halves_of_rows points low high some_low some_high rest_low rest_high v_low v_high w_low w_high middle one two three four
    (subst (All (λ p. IsInBounds v_low v_high p → IsInBounds some_low some_high p)) same below)
    (subst (All (λ p. IsInBounds w_low w_high p → IsInBounds rest_low rest_high p)) same_too above)))
