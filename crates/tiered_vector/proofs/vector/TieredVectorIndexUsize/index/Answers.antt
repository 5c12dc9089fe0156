-- The element at index is that at its place in its block.
use Rattle.std.proofs.Common.{List, length, get_or, Vec, ap, sym, ◌∙◌, arith}
use Rattle.tiered_vector.proofs.Starts.{ascending, from_zero, some_block, place_found}
use Rattle.tiered_vector.proofs.Edits.{element_of_joined}
use Rattle.tiered_vector.proofs.vector.TieredVectorIndexUsize.index.Goals as goal

pub place_of-block-requires-clause-ascending : goal.place_of-block-requires-clause-ascending
place_of-block-requires-clause-ascending g c =
    ascending c.self.inside.blocks.items _ (c.deref.ensures.value ∙ c.self.invariant.starts_there)

pub place_of-block-requires-clause-from_zero : goal.place_of-block-requires-clause-from_zero
place_of-block-requires-clause-from_zero g c =
    from_zero c.self.inside.blocks.items _ (c.deref.ensures.value ∙ c.self.invariant.starts_there)
    (some_block c.self.inside.blocks.items (omega (arith, ap length c.self.view_is, c.requires)))

pub index-requires : goal.index-requires
index-requires g c =
    let same = c.deref.ensures.value ∙ c.self.invariant.starts_there in
    let at = place_found c.self.inside.blocks.items _ same _ _ _ c.place_of-block.ensures in
    omega (arith, c.self.inside.blocks.ok.0, at.there)

pub index-requires-2 : goal.index-requires-2
index-requires-2 g c =
    let same = c.deref.ensures.value ∙ c.self.invariant.starts_there in
    let at = place_found c.self.inside.blocks.items _ same _ _ _ c.place_of-block.ensures in
    let b = c.index.result.now in
    omega (
      arith,
      b.ok.0,
      ap (λ (v : Vec _ _). length v.items) c.index.ensures,
      at.below b (omega (arith, ap length c.self.view_is, c.requires)),
    )

pub returns : goal.returns
returns g c =
    let bs = c.self.inside.blocks.items in
    let at = place_found bs _ (c.deref.ensures.value ∙ c.self.invariant.starts_there) _ _ _ c.place_of-block.ensures in
    let b = c.index.result.now in
    let x = c.index-2.result.now in
    let place = c.place_of-block.result.1 in
    c.index-2.ensures ∙ ap (λ (v : Vec _ _). get_or v.items place x) c.index.ensures
    ∙ sym (ap (λ (l : List _). get_or l c.args.index x) (sym c.self.view_is)
    ∙ element_of_joined bs _ b at.there place c.args.index at.behind x
    (at.below b (omega (arith, ap length c.self.view_is, c.requires))))
