use Rattle.std.proofs.Common.{◌≡◌, ◌+◌, take}
use Rattle.value_table.specs.Users.{users_in, times_among}
use Rattle.value_table.proofs.users.count_down.Given as goal

-- the keys so far are no longer counted
abbrev pub invariant-loop-key : goal.invariant-loop-key
invariant-loop-key g l = (q : _)
    → users_in g.K.Ord.cmp l.counts q + times_among g.K.Ord.cmp (take l.key-index l.keys) q
    ≡ users_in g.K.Ord.cmp l.fn.counts q
