use Rattle.std.proofs.Common.{◌≡◌, ◌+◌, take}
use Rattle.value_table.specs.Users.{users_in, times_among}
use Rattle.value_table.proofs.users.count_up.Given as goal

-- the keys so far are counted
abbrev pub invariant-loop-i : goal.invariant-loop-i
invariant-loop-i g l = (q : _) → users_in g.K.Ord.cmp l.counts q
    ≡ users_in g.K.Ord.cmp l.fn.counts q + times_among g.K.Ord.cmp (take l.i l.keys) q
