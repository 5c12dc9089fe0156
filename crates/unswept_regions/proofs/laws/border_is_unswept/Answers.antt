use Rattle.unswept_regions.proofs.BorderParity.{unswept_border}
use Rattle.unswept_regions.proofs.laws.border_is_unswept.Goals as goal

-- each chain stands for its original, and no id and no segment is there twice
pub returns : goal.returns
returns c = λ parts are.
    unswept_border c.args.drawing.now.drawing c.chain-chain.ensures.stand c.chain-chain.ensures.rising c.args.ids.now parts are
    c.ids-ids.ensures.ascending c.args.border.now c.segments-segments.ensures.ascending c.requires
