use Rattle.std.proofs.lemmas.List.Filters.{dedup_is}
use Rattle.realm_audit.proofs.KeptBoards.{kept_each_once}
use Rattle.realm_audit.proofs.board.Board.with_each_once.Goals as goal

-- the list has the same pieces, so it covers the same violations
pub invariant_of-result : goal.invariant_of-result
invariant_of-result c =
    let inside = c.self.inside in
    rw (dedup_is _ _ _ c.dedup.ensures.filtered) (kept_each_once inside.explicit inside.originals inside.shares
    inside.fresh_pieces.items c.sort_unstable.new.self.items inside.fresh_points.items c.sort_unstable.ensures.permutation
    c.self.invariant)
