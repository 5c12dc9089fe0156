use Rattle.std.proofs.Common.{subst}
use Rattle.std.proofs.lemmas.List.Elements.{All-drop}
use Rattle.std.proofs.lemmas.Option.{IfSome_then}
use Rattle.hook_chain.specs.Ids.{IsChainOf}
use Rattle.value_geometry.specs.Links.{BeginsOtherwise}
use Rattle.value_geometry.proofs.WalkedChains.{first_chain, none_walked}
use Rattle.value_geometry.proofs.links.chain_at.Goals as goal

-- what is left of a walk along chains are chains
pub returns-in-Some-clause-chains : goal.returns-in-Some-clause-chains
returns-in-Some-clause-chains c =
    rw c.in-Some.ensures.rest (All-drop (λ e. IsChainOf c.args.drawing.now.drawing e.0 e.1) 1 c.args.walk.now c.requires)

pub returns-clause-chains : goal.returns-clause-chains
returns-clause-chains c =
    rw c.next_at-2.ensures.rest
    (All-drop (λ e. IsChainOf c.args.drawing.now.drawing e.0 e.1) 1 c.chains_from.result c.chains_from.ensures.chain)

-- a walk that begins at the id comes by its original first, or there is none
pub returns-clause-chain : goal.returns-clause-chain
returns-clause-chain c =
    IfSome_then c.next_at-2.result c.next_at-2.ensures.next
    (λ points begins. first_chain c.args.drawing.now.drawing c.args.id points.now c.chains_from.result _
    c.chains_from.ensures.chain begins)

pub returns-clause-none : goal.returns-clause-none
returns-clause-none c = λ none.
    none_walked c.args.id c.args.drawing.now.drawing.originals c.chains_from.ensures.rising
    (subst (BeginsOtherwise c.args.id) c.chains_from.ensures.exact (c.next_at-2.ensures.other none))
