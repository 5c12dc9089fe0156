-- What every state of a store is like.
use Rattle.hook_chain.specs.StandingChains.{AllStand}
use Rattle.realm_insert.specs.State.{State}
use Rattle.realm_insert.specs.Snapshots.{IsValidState}

-- the state is valid, and each chain stands for its original
pub record IsSound (s : State) : Type 0 where
  -- the drawing is a realm, the parts of each value are there, and points, ids, names, numbers and traces are in order and in
  -- bounds
  pub valid : IsValidState s
  -- each chain leads from end to end of its original, in its envelope, and passes no grid point on the wrong side
  pub chains : AllStand s.drawing
