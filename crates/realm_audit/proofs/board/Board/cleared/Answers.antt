use Rattle.std.proofs.Common.{sym, subst, ◌∙◌, true≢false}
use Rattle.grid_base.specs.Drawing.{HasViolation}
use Rattle.realm_audit.specs.Kept.{drawing_of}
use Rattle.realm_audit.proofs.KeptBoards.{kept_settled}
use Rattle.realm_audit.proofs.board.Board.cleared.Goals as goal

pub returns-then-branch : goal.returns-then-branch
returns-then-branch c = c.in_ok-is_violated.ensures.0 c.if-branch.true

-- there is no violation, so what is fresh need cover none
none_left : (c : goal.After-clear-2) → HasViolation (drawing_of c.self.inside.explicit c.self.inside.originals) → ⊥
none_left c violation =
    true≢false (sym (c.in_ok-is_violated.ensures.1 (subst HasViolation c.self.view_is violation)) ∙ c.if-branch.false)

pub invariant_of-result : goal.invariant_of-result
invariant_of-result c =
    let inside = c.self.inside in
    kept_settled inside.explicit inside.originals inside.shares inside.fresh_pieces.items c.clear.new.self.items
    inside.fresh_points.items c.clear-2.new.self.items c.clear.ensures.items c.clear-2.ensures.items (none_left c)
    c.self.invariant

pub returns : goal.returns
returns c = (c.self.view_is, none_left c)
