use Rattle.std.proofs.Common.{arith, ap, sym, subst, ℕ, List, ◌+◌, ◌<◌, ◌≤◌, length, slice_index}
use Rattle.linked_parts.specs.Parts.{Links, AreBelow, AreLabels}
use Rattle.plane_cells.specs.OtherNumbers.{HasNumbers, AreRead}
use Rattle.plane_cells.proofs.Numbering.{IsLabelled, class_numbers}
use Rattle.plane_cells.proofs.ShutIn.{interior_of}
use Rattle.plane_cells.proofs.Outers.{other_numbers}
use Rattle.plane_cells.proofs.numbers.find_numbers.Goals as goal

-- the labels of the links are within bounds
pub components-requires : goal.components-requires
components-requires c = subst (AreBelow (length c.args.border.now + 1)) (sym c.deref.ensures.value) c.in_ok-found.ensures.done.labels

-- a label for each segment, and one more
pub side_numbers-requires-clause-count : goal.side_numbers-requires-clause-count
side_numbers-requires-clause-count c =
    let labels = ap (λ (l : List ℕ). length l) c.deref-2.ensures.value in
    let right = ap (λ (l : List ℕ). length l) c.deref-3.ensures.value in
    omega (arith, labels, right, c.in_ok-labels.ensures.one_each, c.in_ok-found.ensures.done.places)

pub side_numbers-requires-clause-within : goal.side_numbers-requires-clause-within
side_numbers-requires-clause-within c = subst (λ (l : List ℕ). (i : ℕ) → slice_index l i ≤ length l) (sym c.deref-3.ensures.value)
    (λ i. omega (arith, c.in_ok-found.ensures.done.bounded i, c.in_ok-found.ensures.done.places))

pub read_all-requires : goal.read_all-requires
read_all-requires c =
    let labels = ap (λ (l : List ℕ). length l) c.deref-4.ensures.value in
    record {
      within = subst (λ (l : List ℕ). (k : ℕ) → slice_index l k < length c.deref-4.result.now) (sym c.deref-5.ensures.value)
          (λ k. omega (arith, labels, c.in_ok-labels.ensures.one_each, c.in_ok-found.ensures.done.known k));
    }

-- the least labels of sides number the classes, tell which segments are rims, and where the others lie
pub returns : goal.returns
returns c =
    let B = c.args.border.now in
    let L = c.in_ok-found.found.links.items in
    let right = c.in_ok-found.found.right.items in
    let asked = c.in_ok-found.found.asked.items in
    let labels = c.in_ok-labels.labels.items in
    let sides = c.in_ok-sides.sides.items in
    let others = c.in_ok-others.others.items in
    let h : IsLabelled B L right labels c.args.others.now asked = record {
      realm = c.requires.realm;
      done = c.in_ok-found.ensures.done;
      least = subst (λ (l : Links). AreLabels (length B + 1) l labels) c.deref.ensures.value c.in_ok-labels.ensures;
    } in
    let numbers : HasNumbers labels right sides = subst (λ (l : List ℕ). HasNumbers labels l sides) c.deref-3.ensures.value
    (subst (λ (l : List ℕ). HasNumbers l c.deref-3.result.now sides) c.deref-2.ensures.value c.in_ok-sides.ensures) in
    let read : AreRead labels asked others = subst (λ (l : List ℕ). AreRead labels l others) c.deref-5.ensures.value
    (subst (λ (l : List ℕ). AreRead l c.deref-5.result.now others) c.deref-4.ensures.value c.in_ok-others.ensures) in
    record {
      sides = class_numbers B L right labels sides c.args.others.now asked h numbers;
      interior = interior_of B L right labels sides c.args.others.now asked h numbers;
      others = other_numbers B L right labels c.args.others.now asked others h c.requires.others c.in_ok-found.ensures.all read;
    }
