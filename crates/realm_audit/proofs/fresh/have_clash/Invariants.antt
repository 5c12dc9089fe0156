use Rattle.std.proofs.Common.{◌↔◌, Any, take, length}
use Rattle.realm_audit.specs.Clashes.{HasClash, IsExplicitInPiece}
use Rattle.realm_audit.proofs.fresh.have_clash.Given as goal

-- a piece takes part in a violation just where one of the rest does
abbrev pub invariant-loop-rest : goal.invariant-loop-rest
invariant-loop-rest l = Any (HasClash l.explicit l.shares) l.pieces ↔ Any (HasClash l.explicit l.shares) l.rest

abbrev pub decreases-loop-rest : goal.decreases-loop-rest
decreases-loop-rest l = length l.rest

-- no piece does, and no point so far
abbrev pub invariant-loop-p : goal.invariant-loop-p
invariant-loop-p l = record {
  no_piece : Any (HasClash l.explicit l.shares) l.pieces → ⊥;
  no_point : Any (IsExplicitInPiece l.explicit l.shares) (take l.p-index l.points) → ⊥;
}
