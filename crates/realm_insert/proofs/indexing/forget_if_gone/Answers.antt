use Rattle.std.proofs.Common.{◌∙◌, sym, true≢false}
use Rattle.realm_insert.proofs.IndexKeys.{taken_out}
use Rattle.realm_insert.proofs.ForgottenPieces.{forgets_no_piece, forgets_one}
use Rattle.realm_insert.proofs.indexing.forget_if_gone.Goals as goal

-- what has no key is no piece
pub returns-then-is_none : goal.returns-then-is_none
returns-then-is_none c =
    let old = c.args.index.now in
    let noted = c.args.noted.now in
    forgets_one c.args.drawing.now.drawing noted old c.remove.new.self
    (λ piece. true≢false (sym (c.key.ensures.piece.1 piece) ∙ c.if-is_none.ensures))
    (taken_out old c.remove.new.self noted.key c.remove.result c.remove.ensures.found c.remove.ensures.removed
    c.remove.ensures.unchanged)

-- and what has one is
pub returns-else-is_none : goal.returns-else-is_none
returns-else-is_none c =
    forgets_no_piece c.args.drawing.now.drawing c.args.noted.now c.args.index.now
    (c.key.ensures.piece.0 c.if-is_none.ensures)
