-- This file shows that a sweep begins right, and that behind the last vertex it is done.
use Rattle.std.proofs.Common.{◌≡◌, ℕ, zero, suc, ◌+◌, ◌<◌, ◌≤◌, List, [], ◌∷◌, length, slice_index, refl, sym, subst, ◌∙◌, arith}
use Rattle.std.specs.Prelude.{Contains}
use Rattle.grid_base.specs.Segment.{GridSegment}
use Rattle.plane_cells.specs.Steps.{Each}
use Rattle.linked_parts.specs.Parts.{Links, AreBelow}
use Rattle.plane_cells.specs.Numbered.{numbered}
use Rattle.plane_cells.specs.Sheared.{sheared_number}
use Rattle.plane_cells.specs.Scan.{column_of}
use Rattle.plane_cells.specs.Walks.{None, HasWall, IsHere}
use Rattle.plane_cells.specs.Swept.{AreVertices, wall_before, IsSwept, IsDone, AreAsked}
use Rattle.plane_cells.proofs.Chains.{to_the_end, last_status, first_here}
use Rattle.plane_cells.proofs.Turning.{ends_listed, rises, read_any}

pub begun : (B : List GridSegment) (V : List ℕ) (status : List ℕ) (next : ℕ) (L : Links) (right : List ℕ) (T : List GridSegment) (Y : List
    ℕ) → status ≡ [] → next ≡ 0 → L ≡ [] → length right ≡ length B → ((i : ℕ) → slice_index right i ≡ 0) → Y ≡ [] → IsSwept B
    (wall_before V 0) status next L right T Y
begun B V status next L right T Y s n l r z y = record {
  steps = [];
  chain = (refl, sym s);
  links = l;
  rights = tt;
  earlier = tt;
  here = subst (IsHere (length B) (sheared_number B) None) (sym s) (first_here (length B) (sheared_number B));
  within = omega (arith, n);
  begun = λ i h. absurd (omega (arith, h, n));
  unbegun = λ i h k. tt;
  places = r;
  labels = subst (AreBelow (length B + 1)) (sym l) (λ k d within. absurd (omega (arith, within)));
  bounded = λ i. omega (arith, z i);
  asked = subst (AreAsked B [] None T) (sym y) (record {
    count = omega arith;
    asked = λ k h. absurd (omega (arith, h));
    later = λ k h g. tt;
    bounded = λ k. none k;
  });
}
  where
    none : (k : ℕ) → slice_index [] k ≤ length B
    none zero = omega arith
    none (suc k) = omega arith

-- every end is at the last vertex or before it
past_last : (B : List GridSegment) (V : List ℕ) (m : ℕ) → AreVertices B V → length V ≤ m → m ≤ length V → (i : ℕ) → i < length B
    → HasWall (λ c. column_of (numbered B i).b ≤ c) (wall_before V m)
past_last B V m vs h g i l = go m h g
  where
    found : Contains V (column_of (numbered B i).b)
    found = vs.all (column_of (numbered B i).b) (ends_listed B i l).1

    read : slice_index V found.0 ≡ column_of (numbered B i).b
    read = read_any V found.0 0 (column_of (numbered B i).b) found.1 ∙ found.2

    go : (m : ℕ) → length V ≤ m → m ≤ length V → HasWall (λ c. column_of (numbered B i).b ≤ c) (wall_before V m)
    go zero h g = absurd (omega (arith, found.1, h))
    go (suc m) h g = omega (arith, read, rises V found.0 m vs.ascending (omega (arith, found.1, h)) (omega (arith, g)))

pub done : (B : List GridSegment) (V : List ℕ) (m : ℕ) (status : List ℕ) (next : ℕ) (L : Links) (right : List ℕ) (T : List GridSegment) (Y :
    List ℕ) → AreVertices B V → length V ≤ m → m ≤ length V → IsSwept B (wall_before V m) status next L right T Y → IsDone B L right T Y
done B V m status next L right T Y vs h g s = record {
  steps = s.steps;
  walk = to_the_end (length B) (sheared_number B) None [] s.steps (wall_before V m) status s.chain
      (last_status (length B) (sheared_number B) (wall_before V m) status s.here (past_last B V m vs h g));
  links = s.links;
  rights = s.rights;
  places = s.places;
  labels = s.labels;
  bounded = s.bounded;
  asked = s.asked.asked;
  known = s.asked.bounded;
}

-- a list of zeros
pub all_zero : (l : List ℕ) (i : ℕ) → Each (λ x. x ≡ 0) l → slice_index l i ≡ 0
all_zero [] zero h = refl
all_zero [] (suc i) h = refl
all_zero (x ∷ l) zero h = h.0
all_zero (x ∷ l) (suc i) h = all_zero l i h.1
