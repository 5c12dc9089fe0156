use Rattle.std.proofs.Common.{IfOk, sym, subst, inl, inr, Vec, Global}
use Rattle.grid_base.specs.declared.kinds.Step.{Step}
use Rattle.hook_chain.specs.Mending.{IsPieceOf}
use Rattle.realm_drawing.specs.declared.keyed.KeyedPiece.{KeyedPiece}
use Rattle.realm_insert.specs.Indexing.{ListsKeyed}
use Rattle.realm_insert.proofs.indexing.keyed_pieces.Goals as goal

-- a step that splits a piece has this piece alone
pub returns-in-Split : goal.returns-in-Split
returns-in-Split c =
    subst (λ (step : Step). IfOk c.keyed_piece.result
    (λ (list : Vec KeyedPiece Global). ListsKeyed c.args.drawing.now (IsPieceOf step) list.items))
    (sym c.in-Split.is) c.keyed_piece.ensures

-- the others have two pieces
pub returns-in-Meet : goal.returns-in-Meet
returns-in-Meet c =
    let both = λ (step : Step). IfOk c.both_keyed.result
    (λ (list : Vec KeyedPiece Global). ListsKeyed c.args.drawing.now (IsPieceOf step) list.items) in
    elim c.in-Meet.is [
      | inl meet ↦ subst both (sym meet.1) c.both_keyed.ensures
      | inr corner ↦ subst both (sym corner) c.both_keyed.ensures
    ]
