use Rattle.std.proofs.Common.{rules}
use Rattle.std.proofs.lemmas.Fn.{always_returns_same}
use Rattle.hook_chain.specs.Measure.{progress}
use Rattle.realm_drawing.proofs.Places.{looked_up}
use Rattle.realm_drawing.proofs.passages.only_place.Goals as goal

-- along the chain, how far it has come rises
pub returns : goal.returns
returns c =
    let chain = c.args.chain.now in
    let first = c.in_ok-first.first.now in
    let at_first = c.in_ok-first.ensures.item in
    let facts = c.binary_search_by_key.ensures in
    let by_progress = facts.position (progress first) (always_returns_same _ _ _ (λ a r g called. search rules)) in
    rw c.ok.ensures.value
    (looked_up chain first c.args.p.now _ _ at_first.3.0 at_first.1 c.requires.chain c.progress-reach.ensures facts.bound
    by_progress)
