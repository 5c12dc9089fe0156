use Rattle.std.proofs.Common.{◌↔◌, ◌<◌, ℕ, List, Contains, length, slice_index_or, sym, ap, subst, ◌∙◌, arith}
use Rattle.grid_base.proofs.Elements.{same_place}
use Rattle.r_blocks.specs.Places.{those}
use Rattle.r_faces.specs.Parted.{ArePlacesIn}
use Rattle.r_faces.proofs.PartLists.{those_of_key}
use Rattle.r_faces.proofs.parts.parted.Goals as goal

-- the keys have each number
pub places_in-requires-clause-there : goal.places_in-requires-clause-there
places_in-requires-clause-there c = λ n there. subst (λ l. Contains l n) (sym c.deref.ensures.value)
    ((c.distinct-keys.ensures.same n).1 (subst (λ l. Contains l n) (sym c.in_ok-from_slice.ensures.items) there))

-- and each place is one of a key
pub gather-requires-clause-below : goal.gather-requires-clause-below
gather-requires-clause-below c =
    let placed = c.in_ok-places.ensures in
    let keys = ap (λ (l : List ℕ). length l) c.deref.ensures.value in
    subst (λ (l : List ℕ). (k d : ℕ) → k < length l → slice_index_or l k d < c.len.result) (sym c.deref-2.ensures.value)
    (λ k d within.
    let p = placed.each k (omega (arith, within, placed.one_each)) in
    let s = same_place c.in_ok-places.places.items k d 0 within in
    omega (arith, p.0, s, keys, c.len.ensures, c.distinct-keys.result.ok))

pub returns-clause-keys : goal.returns-clause-keys
returns-clause-keys c = record {
  ascending = c.distinct-keys.ensures.ascending;
  same = λ n. subst (λ (l : List ℕ). Contains c.distinct-keys.result.items n ↔ Contains l n) c.in_ok-from_slice.ensures.items
      (c.distinct-keys.ensures.same n);
}

-- those of each place are those of its key
pub returns-clause-parts : goal.returns-clause-parts
returns-clause-parts c = λ k d within.
    let keys = c.distinct-keys.result.items in
    let numbers = c.args.numbers.now in
    let placed = subst (λ (l : List ℕ). ArePlacesIn l numbers (length numbers) c.in_ok-places.places.items) c.deref.ensures.value
    c.in_ok-places.ensures in
    c.in_ok-lists.ensures.parts k d within
    ∙ ap (λ (l : List ℕ). those k l c.args.list.now) c.deref-2.ensures.value
    ∙ those_of_key keys numbers c.in_ok-places.places.items c.args.list.now k c.distinct-keys.ensures.ascending placed c.requires.one_each
    (omega (arith, within, c.in_ok-lists.ensures.length, c.len.ensures, c.distinct-keys.result.ok))
