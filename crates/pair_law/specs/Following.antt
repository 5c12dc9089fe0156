-- What a follower makes of each line: the first of these outcomes whose cause holds.
use Rattle.std.specs.Prelude.{◌≡◌, ◌⊎◌, ℕ, true, List, [], ◌∷◌, ◌++◌, map, codes, Some}
use Rattle.std.specs.Fmt.{decimal}
use Rattle.record_codec.specs.Payload.{payload}
use Rattle.realm_insert.specs.State.{State}
use Rattle.realm_insert.specs.Snapshots.{state_of, IsValidState}
use Rattle.realm_files.specs.Writing.{renewed_place}
use Rattle.realm_store.specs.Keeping.{Kept}
use Rattle.realm_store.specs.Leading.{Leads}
use Rattle.realm_store.specs.Making.{IsFull, LacksGeneration, place_behind}
use Rattle.realm_store.specs.Renewing.{HasLastGeneration}
use Rattle.realm_store.specs.Replaying.{LeadsNowhere}
use Rattle.standby_core.specs.declared.frame.Frame.{Frame}
use Rattle.standby_core.specs.declared.frame.Frame.TheVariants.{Rec, Snap}
use Rattle.standby_core.specs.Frames.{IsLineOf}
use Rattle.standby_core.specs.Verdicts.{ComesNext}

-- ---- why a frame isn't applied

-- it is a state that isn't valid
abbrev pub IsUnsound : Frame → Type 0
IsUnsound (Rec r) = ⊥
IsUnsound (Snap s) = IsValidState (state_of s) → ⊥

-- it is a record, and the place of its gate would be too far
abbrev pub LacksRoomFor : Kept → Frame → Type 0
LacksRoomFor kept (Rec r) = IsFull kept
LacksRoomFor kept (Snap s) = ⊥

-- no greater generation may be written, and it is a state, or a record that would come behind a generation of its own
abbrev pub LacksGenerationFor : Kept → Frame → Type 0
LacksGenerationFor kept (Rec r) = LacksGeneration kept
LacksGenerationFor kept (Snap s) = HasLastGeneration kept

-- it is a record that leads from the state to none
abbrev pub IsMisfit : Kept → Frame → Type 0
IsMisfit kept (Rec r) = LeadsNowhere kept.state r
IsMisfit kept (Snap s) = ⊥

-- ---- what becomes of a frame

-- A record leads from the old state to the new. It stands behind the gate that waited, or behind a generation of its own where
-- one is wanted, with a gate behind it. A state is the payload of the next generation, on the file that wasn't the newest,
-- without a record.
abbrev pub IsApplied : Kept → Frame → Kept → Type 0
IsApplied old (Rec r) new =
    Leads old.state r new.state × (new.place ≡ Some (place_behind old r)) × (new.has_gate ≡ true)
IsApplied old (Snap s) new =
    (new.state ≡ state_of s) × (new.place ≡ Some (renewed_place old.place (payload s))) × (new.has_gate ≡ true)

-- a store that was started again on the same files: nothing is said of the byte of the next gate
pub record IsStartedAgain (old new : Kept) : Type 0 where
  pub state : new.state ≡ old.state
  pub place : new.place ≡ old.place

-- what becomes of a line
pub data Outcome : Type 0 where
  NoFrame : Outcome
  PassedOver : Outcome
  NoRoom : Outcome
  NoGeneration : Outcome
  NoRecord : Outcome
  Applied : Outcome

-- the frame is sound and comes next
pub record IsNext (old : Kept) (f : Frame) : Type 0 where
  pub sound : IsUnsound f → ⊥
  pub comes_next : ComesNext old.state.changes f

-- and there is room for it
pub record IsTaken (old : Kept) (f : Frame) : Type 0 where
  pub is_next : IsNext old f
  pub room : LacksRoomFor old f → ⊥
  pub generation : LacksGenerationFor old f → ⊥

-- this becomes of the frame, and of what is kept
abbrev pub Treats : Kept → Frame → Outcome → Kept → Type 0
Treats old f NoFrame new = IsUnsound f × (new ≡ old)
Treats old f PassedOver new =
    (IsUnsound f → ⊥) × (ComesNext old.state.changes f → ⊥) × (new ≡ old)
Treats old f NoRoom new = IsNext old f × LacksRoomFor old f × (new ≡ old)
Treats old f NoGeneration new =
    IsNext old f × (LacksRoomFor old f → ⊥) × LacksGenerationFor old f × (new ≡ old)
Treats old f NoRecord new = IsTaken old f × IsMisfit old f × IsStartedAgain old new
Treats old f Applied new = IsTaken old f × IsApplied old f new

-- ---- lines and replies

-- the line is that of no frame
abbrev pub IsNoFrame : List ℕ → Type 0
IsNoFrame line = (f : Frame) → IsLineOf f line → ⊥

-- this becomes of the line, and of what is kept
abbrev pub Takes : Kept → List ℕ → Outcome → Kept → Type 0
Takes old line outcome new =
    (IsNoFrame line × (outcome ≡ NoFrame) × (new ≡ old))
    ⊎ ((f : Frame) × IsLineOf f line × Treats old f outcome new)

-- the numbers of changes that are acknowledged, where so many are there then
abbrev pub acknowledged : Outcome → ℕ → List ℕ
acknowledged PassedOver changes = changes ∷ []
acknowledged Applied changes = changes ∷ []
acknowledged _ changes = []

-- the reply, where so many changes are there then
abbrev pub reply_of : Outcome → ℕ → List ℕ
reply_of NoFrame changes = codes "no frame" ++ 10 ∷ []
reply_of PassedOver changes = codes "ack " ++ (decimal changes ++ 10 ∷ [])
reply_of NoRoom changes = codes "no full" ++ 10 ∷ []
reply_of NoGeneration changes = codes "no generations" ++ 10 ∷ []
reply_of NoRecord changes = codes "no record" ++ 10 ∷ []
reply_of Applied changes = codes "ack " ++ (decimal changes ++ 10 ∷ [])

-- from what is kept first, this line may get this reply, and leads to what is kept then
abbrev pub Follows : Kept → List ℕ → List ℕ → Kept → Type 0
Follows old line reply new =
    (outcome : Outcome) × Takes old line outcome new × (reply ≡ reply_of outcome new.state.changes)

-- ---- runs

-- a line, what became of it, and what is kept then
pub record Turn : Type 0 where
  pub line : List ℕ
  pub outcome : Outcome
  pub after : Kept

-- the turns are made one after another, from what is kept first to what is kept in the end
abbrev pub IsRun : Kept → List Turn → Kept → Type 0
IsRun start [] end = end ≡ start
IsRun start (turn ∷ turns) end = Takes start turn.line turn.outcome turn.after × IsRun turn.after turns end

-- the lines that they take
abbrev pub lines_of : List Turn → List (List ℕ)
lines_of turns = map (λ (turn : Turn). turn.line) turns

-- the numbers of changes that they acknowledge, in order
abbrev pub acks_of : List Turn → List ℕ
acks_of [] = []
acks_of (turn ∷ turns) = acknowledged turn.outcome turn.after.state.changes ++ acks_of turns

-- the state where a frame was applied
abbrev pub made : Outcome → State → List State
made Applied s = s ∷ []
made _ s = []

-- the states that they make, one for each frame that was applied
abbrev pub states_of : List Turn → List State
states_of [] = []
states_of (turn ∷ turns) = made turn.outcome turn.after.state ++ states_of turns

-- their replies, one after another
abbrev pub replies : List Turn → List ℕ
replies [] = []
replies (turn ∷ turns) = reply_of turn.outcome turn.after.state.changes ++ replies turns
