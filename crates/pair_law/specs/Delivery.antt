-- A follower that gets all that is sent for it, in order.
use Rattle.std.specs.Prelude.{ℕ, List, [], ◌∷◌, All}
use Rattle.record_codec.specs.declared.record.Record.{Record}
use Rattle.realm_insert.specs.State.{State}
use Rattle.realm_store.specs.Keeping.{Kept}
use Rattle.standby_core.specs.declared.frame.Frame.{Frame}
use Rattle.standby_core.specs.Frames.{IsLineOf}
use Rattle.pair_law.specs.Following.{Outcome, PassedOver, Applied, Turn, IsRun}
use Rattle.pair_law.specs.Sending.{IsSent}

-- the turns take the lines of these frames, in order
abbrev pub AreLinesOf : List Frame → List Turn → Type 0
AreLinesOf [] [] = Unit {0}
AreLinesOf (f ∷ frames) (turn ∷ turns) = IsLineOf f turn.line × AreLinesOf frames turns
AreLinesOf [] (turn ∷ turns) = ⊥
AreLinesOf (f ∷ frames) [] = ⊥

-- the reply is an acknowledgement
abbrev pub IsAcknowledgement : Outcome → Type 0
IsAcknowledgement PassedOver = Unit {0}
IsAcknowledgement Applied = Unit {0}
IsAcknowledgement _ = ⊥

-- The follower takes the frames that are sent for its number of changes, and acknowledges each. The newest file of the primary
-- begins with any state of its history.
pub record IsDelivered (records : List Record) (now : State) (start : Kept) (turns : List Turn) (end : Kept) : Type 0 where
  pub first : ℕ
  pub frames : List Frame
  pub is_sent : IsSent records now first start.state.changes frames
  pub lines : AreLinesOf frames turns
  pub run : IsRun start turns end
  pub acks : All (λ (turn : Turn). IsAcknowledgement turn.outcome) turns
