use Rattle.std.proofs.Common.{take_all, sym, subst, ◌∙◌, arith}
use Rattle.std.proofs.lemmas.List.Elements.{All-get_or, All-more}
use Rattle.grid_base.specs.Segment.{GridSegment, BoxesMeet}
use Rattle.grid_base.specs.Drawing.{IsPiece}
use Rattle.hook_chain.specs.Mending.{IsPermitted}
use Rattle.realm_insert.specs.Clashes.{NoClash, AreClear}
use Rattle.realm_insert.proofs.FoundSteps.{where_none}
use Rattle.realm_insert.proofs.searching.are_clear.Goals as goal

-- each of the list is a piece
pub clash_met-requires-clause-other : goal.clash_met-requires-clause-other
clash_met-requires-clause-other c =
    let are = IsPiece c.args.drawing.now.drawing in
    subst are (sym c.t-item.is)
    (All-get_or are c.args.pieces.now c.loop-t.t-index c.t-item.result c.loop-t-test.true c.requires.pieces)

-- nor does the next piece
pub loop-t-preserved : goal.loop-t-preserved
loop-t-preserved c =
    let d = c.args.drawing.now.drawing in
    let s = c.args.s.now in
    let clear : GridSegment → Type 0 = λ t. BoxesMeet s t → NoClash d s t in
    All-more clear c.args.pieces.now c.loop-t.t-index c.t-item.result c.loop-t-test.true c.loop-t.invariant
    (subst clear c.t-item.is
    (where_none (clear c.t-item.result) (IsPermitted d) c.clash_met.result (sym c.if-is_some.false ∙ c.is_some.ensures) c.clash_met.ensures))

-- at the end no piece clashes
pub returns : goal.returns
returns c =
    subst (AreClear c.args.drawing.now.drawing c.args.s.now)
    (take_all c.loop-t.t-index c.args.pieces.now (omega (arith, c.loop-t-test.false))) c.loop-t.invariant
