use Rattle.std.proofs.Common.{ℕ, ◌++◌, List, Contains, length, slice_index, sym, ap, subst, ◌∙◌, ⊎_elim, arith}
use Rattle.std.proofs.lemmas.List.Elements.{Contains-append_cases, Contains-get_or}
use Rattle.std.proofs.lemmas.List.Kept.{AllPairs-from_increasing}
use Rattle.grid_base.specs.Segment.{GridSegment}
use Rattle.grid_base.proofs.Elements.{same_place}
use Rattle.plane_cells.specs.declared.classes.SideClasses.{SideClasses}
use Rattle.segment_lists.proofs.Noding.{noded_part}
use Rattle.r_blocks.specs.Places.{those}
use Rattle.r_faces.specs.Rims.{IsFaceRim, IsSomeRim, AreOddSides}
use Rattle.r_faces.proofs.FaceRims.{known, some_rim, rim_of_place, rims_apart}
use Rattle.r_faces.proofs.ListOrders.{any_at}
use Rattle.r_faces.proofs.rims.rims_of.Goals as goal

-- the border twice is no more than the border
pub sides_of_list-requires-clause-noded : goal.sides_of_list-requires-clause-noded
sides_of_list-requires-clause-noded c =
    let B = c.args.border.now in
    noded_part (B ++ B) B (λ s there. ⊎_elim (λ m. m) (λ m. m) (Contains-append_cases B B s there)) c.requires.noded

-- the list of a key has the segments whose odd side has its number
pub returns-clause-only : goal.returns-clause-only
returns-clause-only c = λ k d within.
    let B = c.args.border.now in
    let N = c.in_ok-classes.classes.items in
    let K = c.in_ok-numbers.numbers.items in
    let keys = c.in_ok-parts.parts.keys.items in
    let k_known = known B N c.requires.noded c.requires.ascending c.requires.even c.each_is_on_grid.ensures c.in_ok-classes.ensures in
    let odd = subst (λ (M : List SideClasses). AreOddSides B M (length B) K) c.deref.ensures.value c.in_ok-numbers.ensures in
    let in_keys = Contains-get_or keys k 0 (omega (arith, within, c.in_ok-parts.ensures.length)) in
    let there = (c.in_ok-parts.ensures.keys.same (slice_index keys k)).0 in_keys in
    let is = c.in_ok-parts.ensures.parts k d within ∙ ap (λ (l : List ℕ). those (slice_index keys k) l B) c.deref-3.ensures.value in
    subst (IsSomeRim B) (sym is)
    (some_rim B N K (slice_index keys k) k_known odd
    (subst (λ (l : List ℕ). Contains l (slice_index keys k)) c.deref-3.ensures.value there))

-- the number of an interior place is one of the keys
pub returns-clause-each : goal.returns-clause-each
returns-clause-each c = λ z inner.
    let B = c.args.border.now in
    let N = c.in_ok-classes.classes.items in
    let K = c.in_ok-numbers.numbers.items in
    let keys = c.in_ok-parts.parts.keys.items in
    let lists = c.in_ok-parts.parts.lists.items in
    let k_known = known B N c.requires.noded c.requires.ascending c.requires.even c.each_is_on_grid.ensures c.in_ok-classes.ensures in
    let odd = subst (λ (M : List SideClasses). AreOddSides B M (length B) K) c.deref.ensures.value c.in_ok-numbers.ensures in
    let n = rim_of_place B N K z k_known odd inner in
    let in_K = subst (λ (l : List ℕ). Contains l n.0) (sym c.deref-3.ensures.value) n.1 in
    let at = (c.in_ok-parts.ensures.keys.same n.0).1 in_K in
    any_at lists at.0 (omega (arith, at.1, c.in_ok-parts.ensures.length))
    (λ part. IsFaceRim B part.items z)
    (λ d. subst (λ (R : List GridSegment). IsFaceRim B R z)
    (sym (c.in_ok-parts.ensures.parts at.0 d (omega (arith, at.1, c.in_ok-parts.ensures.length))
    ∙ ap (λ (l : List ℕ). those (slice_index keys at.0) l B) c.deref-3.ensures.value
    ∙ ap (λ (m : ℕ). those m K B) (same_place keys at.0 0 n.0 at.1 ∙ at.2))) n.2)

-- and two keys are two numbers
pub returns-clause-apart : goal.returns-clause-apart
returns-clause-apart c = λ i j d before within s first second.
    let B = c.args.border.now in
    let keys = c.in_ok-parts.parts.keys.items in
    let length_is = c.in_ok-parts.ensures.length in
    let k_known = known B c.in_ok-classes.classes.items c.requires.noded c.requires.ascending c.requires.even c.each_is_on_grid.ensures
    c.in_ok-classes.ensures in
    let same = rims_apart B c.deref-3.result.now (slice_index keys i) (slice_index keys j) s k_known.realm
    (subst (λ (l : List GridSegment). Contains l s) (c.in_ok-parts.ensures.parts i d (omega (arith, before, within))) first)
    (subst (λ (l : List GridSegment). Contains l s) (c.in_ok-parts.ensures.parts j d within) second) in
    let less = AllPairs-from_increasing keys c.in_ok-parts.ensures.keys.ascending i j 0 before (omega (arith, within, length_is)) in
    absurd (omega (arith, same, less))
