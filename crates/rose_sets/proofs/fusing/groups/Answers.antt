use Rattle.std.proofs.Common.{◌≡◌, ◌↔◌, ◌<◌, ◌≤◌, ℕ, List, All, Contains, length, slice_index, sym, subst, ◌∙◌, arith}
use Rattle.std.proofs.lemmas.List.{take_all}
use Rattle.std.proofs.lemmas.List.Elements.{All-push}
use Rattle.grid_base.proofs.Elements.{same_place}
use Rattle.rose_sets.specs.Sums.{IsSum}
use Rattle.rose_sets.specs.Fusions.{values_with}
use Rattle.rose_sets.specs.declared.group.Group.{Group}
use Rattle.rose_sets.proofs.PlaceSteps.{gathered, numbers_below, part_read, places_within, sum_of_key, one_more_key, fused}
use Rattle.rose_sets.proofs.fusing.groups.Goals as goal

-- each key is among the different ones
pub places_in-requires-clause-there : goal.places_in-requires-clause-there
places_in-requires-clause-there c = λ n there.
    subst (λ l. Contains l n) (sym c.deref.ensures.value)
    ((c.distinct-found.ensures.same n).1 (subst (λ l. Contains l n) (sym c.in_ok-from_slice.ensures.items) there))

-- each place is one of a key
pub places_by_key-requires : goal.places_by_key-requires
places_by_key-requires c =
    let h = gathered c.args.list.now c.args.keys.now c.distinct-found.result.items c.in_ok-places.places.items c.deref.result.now
    c.deref-2.result.now c.requires.one_each c.distinct-found.ensures.ascending c.deref.ensures.value c.deref-2.ensures.value
    c.in_ok-places.ensures in
    let below = numbers_below c.distinct-found.result.items c.args.keys.now c.deref-2.result.now h.placed in
    record { below = λ k d within. let l = below k d within in omega (arith, l, c.len.ensures, c.distinct-found.result.ok) }

-- the places of a key are those of values
pub sum_at-requires-clause-within : goal.sum_at-requires-clause-within
sum_at-requires-clause-within c =
    let h = gathered c.args.list.now c.args.keys.now c.distinct-found.result.items c.in_ok-places.places.items c.deref.result.now
    c.deref-2.result.now c.requires.one_each c.distinct-found.ensures.ascending c.deref.ensures.value c.deref-2.ensures.value
    c.in_ok-places.ensures in
    let in_parts : c.loop-k.k < length c.in_ok-parts.parts.items =
    omega (arith, c.in_ok-parts.ensures.length, c.len.ensures, c.len-k-end.ensures) in
    places_within c.args.list.now c.args.keys.now c.distinct-found.result.items c.deref-2.result.now h c.loop-k.k
    c.deref-in-loop-k.result.now (part_read (λ part. part.items) c.deref-2.result.now c.in_ok-parts.parts.items c.loop-k.k
    c.index.result.now c.deref-in-loop-k.result.now in_parts c.index.ensures c.deref-in-loop-k.ensures.value c.in_ok-parts.ensures.parts)

-- the group of one key more
pub loop-k-preserved : goal.loop-k-preserved
loop-k-preserved c =
    let list = c.args.list.now in
    let keys = c.args.keys.now in
    let found = c.distinct-found.result.items in
    let k = c.loop-k.k in
    let h = gathered list keys found c.in_ok-places.places.items c.deref.result.now c.deref-2.result.now c.requires.one_each
    c.distinct-found.ensures.ascending c.deref.ensures.value c.deref-2.ensures.value c.in_ok-places.ensures in
    let in_parts : k < length c.in_ok-parts.parts.items = omega (arith, c.in_ok-parts.ensures.length, c.len.ensures, c.len-k-end.ensures) in
    let in_found : k < length found = omega (arith, c.len-k-end.ensures, c.distinct-found.result.ok) in
    let has = part_read (λ part. part.items) c.deref-2.result.now c.in_ok-parts.parts.items k c.index.result.now
    c.deref-in-loop-k.result.now in_parts c.index.ensures c.deref-in-loop-k.ensures.value c.in_ok-parts.ensures.parts in
    let at : c.index-in-loop-k.result.now ≡ slice_index found k =
    c.index-in-loop-k.ensures ∙ same_place found k c.index-in-loop-k.result.now 0 in_found in
    let group : Group = record { key = c.index-in-loop-k.result.now; g = c.in_ok-g.g } in
    record {
      keys_are = one_more_key found k c.loop-k.groups.items c.push.new.self.items group in_found at c.in_ok-push.ensures.items
          c.loop-k.invariant.keys_are;
      sums =
          subst (All (λ group. IsSum (values_with group.key keys list) group.g)) (sym c.in_ok-push.ensures.items)
          (All-push (λ group. IsSum (values_with group.key keys list) group.g) c.loop-k.groups.items group c.loop-k.invariant.sums
          (subst (λ key. IsSum (values_with key keys list) c.in_ok-g.g) (sym at)
          (sum_of_key list keys found c.deref-2.result.now h c.deref-in-loop-k.result.now k c.in_ok-g.g in_found has c.in_ok-g.ensures)));
    }

-- all keys are gone through
pub returns : goal.returns
returns c =
    let found = c.distinct-found.result.items in
    let enough : length found ≤ c.loop-k.k = omega (arith, c.len-k-end.ensures, c.distinct-found.result.ok) in
    fused c.args.list.now c.args.keys.now found c.loop-k.groups.items c.distinct-found.ensures.ascending
    (subst (λ (l : List ℕ). (n : ℕ) → Contains found n ↔ Contains l n) c.in_ok-from_slice.ensures.items c.distinct-found.ensures.same)
    (c.loop-k.invariant.keys_are ∙ take_all c.loop-k.k found enough) c.loop-k.invariant.sums
