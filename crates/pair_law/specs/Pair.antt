-- A primary and its follower. Frames and acknowledgements are on the way between them: nothing is ever taken out of what was
-- sent, so what is on the way may be lost, repeated and reordered.
use Rattle.std.specs.Prelude.{◌≡◌, ◌⊎◌, ℕ, List, [], ◌∷◌, ◌++◌, slice_get, Option, Some, None}
use Rattle.record_codec.specs.declared.record.Record.{Record}
use Rattle.record_codec.specs.Fitting.{IsRecord}
use Rattle.realm_insert.specs.State.{State}
use Rattle.realm_files.specs.Keeping.{at_gate}
use Rattle.realm_files.specs.Writing.{place_for}
use Rattle.realm_store.specs.Keeping.{Kept, nothing_kept}
use Rattle.realm_store.specs.Leading.{Leads}
use Rattle.realm_store.specs.Replaying.{LeadsNowhere}
use Rattle.realm_store.specs.Stands.{meaning}
use Rattle.standby_core.specs.declared.frame.Frame.{Frame}
use Rattle.pair_law.specs.History.{IsHistory}
use Rattle.pair_law.specs.Following.{Outcome, Treats, IsStartedAgain, acknowledged}
use Rattle.pair_law.specs.Sending.{IsSent}

-- the history of the primary and its present state, the frames that were sent, what the follower keeps, the
-- acknowledgements that it gave, and those of them that have come back
pub record Pair : Type 0 where
  pub records : List Record
  pub now : State
  pub frames : List Frame
  pub follower : Kept
  pub acks : List ℕ
  pub heard : List ℕ

-- what may happen
pub data Event : Type 0 where
  -- the primary adds a record
  Adds : Record → Event
  -- it sends the frames for a follower with so many changes, where the newest file begins with the state after so many
  -- records of its history
  Ships : (first have : ℕ) → Event
  -- the frame at this place of what was sent is delivered
  Delivers : (which : ℕ) → Event
  -- the follower stops and starts again
  Restarts : Event
  -- the acknowledgement at this place of what was given comes back
  Returns : (which : ℕ) → Event

-- the record joins the history, where that is a history again
pub record Joins (old : Pair) (r : Record) (new : Pair) : Type 0 where
  pub has_text : IsRecord r
  pub after : State
  pub leads : Leads old.now r after
  pub is_new : new ≡ record old { records = old.records ++ r ∷ []; now = after }

-- where it isn't, nothing is added
pub record StaysOut (old : Pair) (r : Record) (new : Pair) : Type 0 where
  pub no_history : IsRecord r → LeadsNowhere old.now r
  pub is_same : new ≡ old

-- the frames are sent
pub record Sends (old : Pair) (first have : ℕ) (new : Pair) : Type 0 where
  pub frames : List Frame
  pub is_sent : IsSent old.records old.now first have frames
  pub is_new : new ≡ record old { frames = frames ++ old.frames }

-- the follower treats the frame
pub record Gets (old : Pair) (f : Frame) (new : Pair) : Type 0 where
  pub outcome : Outcome
  pub after : Kept
  pub treats : Treats old.follower f outcome after
  pub is_new : new ≡ record old { follower = after; acks = acknowledged outcome after.state.changes ++ old.acks }

abbrev pub Got : Pair → Option Frame → Pair → Type 0
Got old None new = new ≡ old
Got old (Some f) new = Gets old f new

-- the same state, at the gate behind the generation that the next record comes behind
abbrev pub carried : Kept → Kept
carried kept = at_gate kept.state (place_for meaning kept)

-- The follower keeps what it kept. Where it stopped in the midst of a record, the generation that the record comes behind may
-- be there already.
pub record StartsAgain (old new : Pair) : Type 0 where
  pub after : Kept
  pub again : IsStartedAgain old.follower after ⊎ IsStartedAgain (carried old.follower) after
  pub is_new : new ≡ record old { follower = after }

abbrev pub hears : Pair → Option ℕ → Pair
hears old None = old
hears old (Some m) = record old { heard = m ∷ old.heard }

-- the event leads from the old pair to the new
abbrev pub Happens : Pair → Event → Pair → Type 0
Happens old (Adds r) new = Joins old r new ⊎ StaysOut old r new
Happens old (Ships first have) new = Sends old first have new
Happens old (Delivers which) new = Got old (slice_get old.frames which) new
Happens old Restarts new = StartsAgain old new
Happens old (Returns which) new = new ≡ hears old (slice_get old.acks which)

-- the events lead one after another from the first pair to the last
abbrev pub Happen : Pair → List Event → Pair → Type 0
Happen start [] end = end ≡ start
Happen start (event ∷ events) end =
    (between : Pair) × Happens start event between × Happen between events end

-- any history, nothing on the way, and a follower with empty files
pub record IsBeginning (p : Pair) : Type 0 where
  pub history : IsHistory p.records p.now
  pub no_frames : p.frames ≡ []
  pub empty : p.follower ≡ nothing_kept
  pub no_acks : p.acks ≡ []
  pub none_heard : p.heard ≡ []
