-- This file shows that no list of events is impossible.
use Rattle.std.proofs.Common.{ℕ, true, List, [], ◌∷◌, ◌++◌, take, drop, slice_get, refl, sym, subst, arith, ◌⊎◌, inl, inr}
use Rattle.std.proofs.Common.{Option, Some, None}
use Rattle.std.proofs.lemmas.Bool.{cases_lt}
use Rattle.std.proofs.lemmas.List.{take-append-drop}
use Rattle.record_codec.specs.declared.record.Record.{Record}
use Rattle.record_codec.specs.declared.snapshot.Snapshot.{Snapshot}
use Rattle.record_codec.specs.Payload.{payload}
use Rattle.realm_insert.specs.State.{empty_state}
use Rattle.realm_insert.specs.Snapshots.{state_of, snapshot_for}
use Rattle.realm_insert.proofs.OneSnapshot.{state_again}
use Rattle.realm_files.specs.Writing.{renewed_place}
use Rattle.realm_store.specs.Keeping.{Kept}
use Rattle.realm_store.specs.Making.{place_behind}
use Rattle.realm_store.specs.Replaying.{LeadOn}
use Rattle.standby_core.specs.declared.frame.Frame.{Frame}
use Rattle.standby_core.specs.declared.frame.Frame.TheVariants.{Rec, Snap}
use Rattle.standby_core.specs.Shipping.{AreSent, records_above}
use Rattle.standby_core.specs.Verdicts.{ComesNext}
use Rattle.pair_law.specs.Following.{Outcome, NoFrame, PassedOver, NoRoom, NoGeneration, NoRecord, Applied, acknowledged}
use Rattle.pair_law.specs.Following.{Treats, IsUnsound, LacksRoomFor, LacksGenerationFor, IsNext, IsTaken}
use Rattle.pair_law.specs.Sending.{IsSent}
use Rattle.pair_law.specs.Pair.{Pair, Event, Adds, Ships, Delivers, Restarts, Returns, Got, hears, Happens, Happen}
use Rattle.pair_law.proofs.Rises.{lead_split}
use Rattle.pair_law.proofs.Events.{Holds, goes}

-- ---- what isn't impossible

abbrev pub IsPossible : Type 0 → Type 0
IsPossible A = (A → ⊥) → ⊥

sure : {A : Type 0} → A → IsPossible A
sure a never = never a

-- it holds or it doesn't
either : (A : Type 0) → IsPossible (A ⊎ (A → ⊥))
either A never = never (inr (λ a. never (inl a)))

-- ---- what is sent

-- some frames are sent to each follower
some_frames : (base : ℕ) (records : List Record) (now : Snapshot) (k : ℕ)
    → (frames : List Frame) × AreSent base records now k frames
some_frames base records now k =
    elim (cases_lt k now.changes) [
      | inl more ↦ elim (cases_lt k base) [
        | inl before ↦ (
          Snap now ∷ [],
          record {
            nothing_new = λ few. absurd (omega arith);
            new_records = λ _ from. absurd (omega arith);
            whole_state = λ _ _. refl;
          },
        )
        | inr from ↦ (
          records_above k records,
          record {
            nothing_new = λ few. absurd (omega arith);
            new_records = λ _ _. refl;
            whole_state = λ _ before. absurd (omega arith);
          },
        )
      ]
      | inr few ↦ (
        [],
        record {
          nothing_new = λ _. refl;
          new_records = λ more _. absurd (omega arith);
          whole_state = λ more _. absurd (omega arith);
        },
      )
    ]

-- ---- one event

-- something becomes of each frame
abbrev Becomes : Kept → Frame → Type 0
Becomes old f = (outcome : Outcome) × (new : Kept) × Treats old f outcome new

fits : (old : Kept) (r : Record) → IsTaken old (Rec r) → IsPossible (Becomes old (Rec r))
fits old r taken never =
    never (
      NoRecord,
      old,
      (
        taken,
        (λ after leads. never (
          Applied,
          record { state = after; place = Some (place_behind old r); has_gate = true },
          (taken, (leads, refl, refl)),
        )),
        record { state = refl; place = refl },
      ),
    )

ends_well : (old : Kept) (f : Frame) → IsTaken old f → IsPossible (Becomes old f)
ends_well old (Rec r) taken never = fits old r taken never
ends_well old (Snap s) taken never =
    never (
      Applied,
      record { state = state_of s; place = Some (renewed_place old.place (payload s)); has_gate = true },
      (taken, (refl, refl, refl)),
    )

has_generation : (old : Kept) (f : Frame) → IsNext old f → (LacksRoomFor old f → ⊥)
    → LacksGenerationFor old f ⊎ (LacksGenerationFor old f → ⊥) → IsPossible (Becomes old f)
has_generation old f next room (inl lacks) never = never (NoGeneration, old, (next, room, lacks, refl))
has_generation old f next room (inr has) never =
    ends_well old f (record { is_next = next; room = room; generation = has }) never

has_room : (old : Kept) (f : Frame) → IsNext old f → LacksRoomFor old f ⊎ (LacksRoomFor old f → ⊥)
    → IsPossible (Becomes old f)
has_room old f next (inl lacks) never = never (NoRoom, old, (next, lacks, refl))
has_room old f next (inr room) never =
    either (LacksGenerationFor old f) (λ which. has_generation old f next room which never)

comes_next : (old : Kept) (f : Frame) → (IsUnsound f → ⊥)
    → ComesNext old.state.changes f ⊎ (ComesNext old.state.changes f → ⊥) → IsPossible (Becomes old f)
comes_next old f sound (inl comes) never =
    either (LacksRoomFor old f) (λ which. has_room old f (record { sound = sound; comes_next = comes }) which never)
comes_next old f sound (inr skips) never = never (PassedOver, old, (sound, skips, refl))

is_sound : (old : Kept) (f : Frame) → IsUnsound f ⊎ (IsUnsound f → ⊥) → IsPossible (Becomes old f)
is_sound old f (inl unsound) never = never (NoFrame, old, (unsound, refl))
is_sound old f (inr sound) never =
    either (ComesNext old.state.changes f) (λ which. comes_next old f sound which never)

becomes : (old : Kept) (f : Frame) → IsPossible (Becomes old f)
becomes old f never = either (IsUnsound f) (λ which. is_sound old f which never)

got : (p : Pair) (o : Option Frame) → IsPossible ((q : Pair) × Got p o q)
got p None never = never (p, refl)
got p (Some f) never =
    becomes p.follower f (λ (outcome, after, treats). never (
      record p {
        follower = after;
        acks = acknowledged outcome after.state.changes ++ p.acks;
      },
      record { outcome = outcome; after = after; treats = treats; is_new = refl },
    ))

-- each event has an end
happens : (p : Pair) (event : Event) → Holds p → IsPossible ((q : Pair) × Happens p event q)
happens p (Adds r) h never =
    never (
      p,
      inr (record {
        no_history = λ text after leads. never (
          record p { records = p.records ++ r ∷ []; now = after },
          inl (record { has_text = text; after = after; leads = leads; is_new = refl }),
        );
        is_same = refl;
      }),
    )
happens p (Ships first have) h never =
    let cut = take first p.records in
    let lead = subst (λ l. LeadOn empty_state l p.now) (sym (take-append-drop first p.records)) h.history.lead in
    let split = lead_split empty_state p.now cut (drop first p.records) lead in
    let snapshot = snapshot_for p.now in
    let some = some_frames split.0.changes (drop first p.records) snapshot have in
    let sent : IsSent p.records p.now first have some.0 = record {
      base = split.0;
      is_base = split.1;
      snapshot = snapshot;
      is_present = state_again p.now;
      are_sent = some.1;
    } in
    never (record p { frames = some.0 ++ p.frames }, record { frames = some.0; is_sent = sent; is_new = refl })
happens p (Delivers which) h never = got p (slice_get p.frames which) never
happens p Restarts h never =
    never (p, record { after = p.follower; again = inl record { state = refl; place = refl }; is_new = refl })
happens p (Returns which) h never = never (hears p (slice_get p.acks which), refl)

-- and so has each list of them
pub happen : (p : Pair) (events : List Event) → Holds p → IsPossible ((q : Pair) × Happen p events q)
happen p [] h never = never (p, refl)
happen p (event ∷ events) h never =
    happens p event h (λ (between, first). happen between events (goes p between event h first).holds
    (λ (end, rest). never (end, (between, first, rest))))
