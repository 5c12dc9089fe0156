use Rattle.std.proofs.Common.{◌≡◌, ◌++◌, map, take}
use Rattle.realm_insert.proofs.settling.list_pieces.Given as goal

-- the pieces so far were added
abbrev pub invariant-loop-one : goal.invariant-loop-one
invariant-loop-one l = l.fresh.items ≡ l.fn.fresh.items ++ map (λ f. f.piece) (take l.one-index l.drawn)
