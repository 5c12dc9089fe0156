use Rattle.std.proofs.Common.{ℕ, ◌<◌, ◌++◌, List, Contains, length, slice_index, get_or, sym, ap, subst, ◌∙◌, ⊎_elim, arith}
use Rattle.std.proofs.lemmas.List.Elements.{Contains-append_cases}
use Rattle.grid_base.proofs.Elements.{same_place}
use Rattle.plane_cells.specs.declared.classes.SideClasses.{SideClasses}
use Rattle.segment_lists.proofs.Noding.{noded_part}
use Rattle.r_blocks.specs.Places.{those}
use Rattle.r_faces.specs.Parted.{ArePlacesIn}
use Rattle.r_faces.specs.Rims.{AreOddSides}
use Rattle.r_faces.proofs.FaceRims.{known}
use Rattle.rose_sets.proofs.FaceNumbers.{region_at_place}
use Rattle.rose_sets.proofs.face_parts.rims_of.Goals as goal

-- the border twice is no more than the border
pub sides_of_list-requires-clause-noded : goal.sides_of_list-requires-clause-noded
sides_of_list-requires-clause-noded c =
    let B = c.args.border.now in
    noded_part (B ++ B) B (λ s there. ⊎_elim (λ m. m) (λ m. m) (Contains-append_cases B B s there)) c.requires.noded

-- each number is among the keys
pub places_in-requires-clause-there : goal.places_in-requires-clause-there
places_in-requires-clause-there c = λ n there.
    subst (λ l. Contains l n) (sym c.deref-4.ensures.value)
    ((c.distinct-found.ensures.same n).1
    (subst (λ l. Contains l n) (sym (c.in_ok-from_slice.ensures.items ∙ c.deref-3.ensures.value))
    (subst (λ l. Contains l n) c.deref-5.ensures.value there)))

-- each place is one of a key
pub gather-requires-clause-below : goal.gather-requires-clause-below
gather-requires-clause-below c =
    let placed = c.in_ok-places.ensures in
    let keys = ap (λ (l : List ℕ). length l) c.deref-4.ensures.value in
    subst (λ (l : List ℕ). (k d : ℕ) → k < length l → get_or l k d < c.len.result) (sym c.deref-6.ensures.value)
    (λ k d within.
    let p = placed.each k (omega (arith, within, placed.one_each)) in
    let s = same_place c.in_ok-places.places.items k d 0 within in
    omega (arith, p.0, s, keys, c.len.ensures, c.distinct-found.result.ok))

-- the part of a segment is the region of its face
pub returns-clause-regions : goal.returns-clause-regions
returns-clause-regions c = λ i d hi.
    let B = c.args.border.now in
    let N = c.in_ok-classes.classes.items in
    let K = c.in_ok-numbers.numbers.items in
    let keys = c.distinct-found.result.items in
    let places = c.in_ok-places.places.items in
    let k_known = known B N c.requires.noded c.requires.ascending c.requires.even c.each_is_on_grid.ensures c.in_ok-classes.ensures in
    let odd = subst (λ (M : List SideClasses). AreOddSides B M (length B) K) c.deref.ensures.value c.in_ok-numbers.ensures in
    let placed = subst (λ (l : List ℕ). ArePlacesIn l K (length K) places) c.deref-4.ensures.value
    (subst (λ (l : List ℕ). ArePlacesIn c.deref-4.result.now l (length l) places) c.deref-5.ensures.value c.in_ok-places.ensures) in
    let p = placed.each i (omega (arith, hi, odd.one_each)) in
    region_at_place B N K keys places i (get_or c.in_ok-lists.lists.items (slice_index places i) d).items k_known odd
    c.distinct-found.ensures.ascending placed hi
    (c.in_ok-lists.ensures.parts (slice_index places i) d
    (omega (arith, p.0, c.in_ok-lists.ensures.length, c.len.ensures, c.distinct-found.result.ok))
    ∙ ap (λ (l : List ℕ). those (slice_index places i) l B) c.deref-6.ensures.value)
