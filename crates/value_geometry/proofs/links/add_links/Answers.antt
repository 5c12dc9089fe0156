use Rattle.std.proofs.Common.{◌++◌, ◌∙◌, ap, append_assoc, sym}
use Rattle.value_geometry.specs.Links.{between}
use Rattle.value_geometry.proofs.ChainLinks.{links_more}
use Rattle.value_geometry.proofs.links.add_links.Goals as goal

-- one link more
pub loop-i-preserved : goal.loop-i-preserved
loop-i-preserved c =
    let chain = c.args.chain.now in
    let v = c.index-chain-i in
    let w = c.index-chain-i-in-loop-i in
    let before = c.args.list.now.items in
    let more = links_more chain c.loop-i.i v.result w.result c.loop-i.auto.i c.loop-i-test.true v.is w.is in
    c.in_ok-add_between.ensures ∙ ap (λ xs. xs ++ between v.result w.result) c.loop-i.invariant
    ∙ append_assoc before _ _ ∙ ap (λ xs. before ++ xs) (sym more)
