use Rattle.realm_drawing.specs.Found.{drawing_of, IsViolated, MendsPiece}
use Rattle.realm_drawing.proofs.LinkSearches.{no_link_first, no_link_more, no_link_left, link_found}
use Rattle.realm_drawing.proofs.violations.violation_along.Goals as goal

-- before the first link there is none
pub loop-i-init : goal.loop-i-init
loop-i-init c = no_link_first (IsViolated (drawing_of c.args.explicit.now c.args.originals.now)) c.args.chain.now

-- a link that isn't violated
pub loop-i-preserved : goal.loop-i-preserved
loop-i-preserved c =
    let d = drawing_of c.args.explicit.now c.args.originals.now in
    let v = c.index-chain-i in
    let w = c.index-chain-i-in-loop-i in
    no_link_more (IsViolated d) c.args.chain.now c.loop-i.i v.result w.result c.loop-i.auto.i c.loop-i-test.true
    v.is w.is c.loop-i.invariant c.in_default.ensures

-- a link that is
pub returns-in-Some : goal.returns-in-Some
returns-in-Some c =
    let d = drawing_of c.args.explicit.now c.args.originals.now in
    let v = c.index-chain-i in
    let w = c.index-chain-i-in-loop-i in
    link_found (λ t. MendsPiece d t c.in-Some.step) c.args.chain.now c.loop-i.i v.result w.result
    c.loop-i.auto.i c.loop-i-test.true v.is w.is c.in-Some.ensures

-- at the end no link is violated
pub returns : goal.returns
returns c =
    let d = drawing_of c.args.explicit.now c.args.originals.now in
    no_link_left (IsViolated d) c.args.chain.now c.loop-i.i c.loop-i-test.false c.loop-i.invariant
