-- Where there is a block, the starts are in order and one of them is for index.
use Rattle.std.proofs.Common.{◌<◌, length, ◌∙◌, arith}
use Rattle.std.proofs.lemmas.Bool.Decides.{nat_tests}
use Rattle.tiered_vector.proofs.Starts.{ascending, from_zero, place_found}
use Rattle.tiered_vector.proofs.blocks.make_room.Goals as goal

pub place_of-block-requires-clause-ascending : goal.place_of-block-requires-clause-ascending
place_of-block-requires-clause-ascending g c = ascending c.args.blocks.now.items _ (c.deref.ensures.value ∙ c.requires.starts)

pub place_of-block-requires-clause-from_zero : goal.place_of-block-requires-clause-from_zero
place_of-block-requires-clause-from_zero g c =
    let bs = c.args.blocks.now.items in
    let some : 0 < length bs = grind (arith, nat_tests, c.is_empty.ensures, c.if-is_empty.false, c.args.blocks.now.ok.0) in
    from_zero bs _ (c.deref.ensures.value ∙ c.requires.starts) some

pub index-requires : goal.index-requires
index-requires g c =
    let at = place_found c.args.blocks.now.items _ (c.deref.ensures.value ∙ c.requires.starts) _ _ _ c.place_of-block.ensures in
    omega (arith, c.args.blocks.now.ok.0, at.there)

pub halve-requires-clause-there : goal.halve-requires-clause-there
halve-requires-clause-there g c =
    let at = place_found c.args.blocks.now.items _ (c.deref.ensures.value ∙ c.requires.starts) _ _ _ c.place_of-block.ensures in
    omega (arith, c.args.blocks.now.ok.0, at.there)
