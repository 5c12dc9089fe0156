-- This file shows that a follower stays in the primary's history, whatever happens between them.
use Rattle.std.proofs.Common.{◌≡◌, ◌≤◌, ℕ, List, [], ◌∷◌, ◌++◌, refl, sym, ap, subst, arith, ◌⊎◌, inl, inr}
use Rattle.std.proofs.Common.{All, Contains, nat_lt, drop, Option, Some, None, slice_get}
use Rattle.std.specs.List.{filter}
use Rattle.std.proofs.lemmas.Bool.{cases_lt}
use Rattle.std.proofs.lemmas.Option.{slice_get_within, get_or_from_slice_get}
use Rattle.std.proofs.lemmas.List.Elements.{All-nil, All-cons, All-append, All-push, All-weaker, All-get_or, All-map, All-filter, All-drop, All-contains_itself}
use Rattle.record_codec.specs.declared.record.Record.{Record}
use Rattle.record_codec.specs.declared.snapshot.Snapshot.{Snapshot}
use Rattle.record_codec.specs.Fitting.{IsRecord}
use Rattle.realm_insert.specs.State.{State, empty_state}
use Rattle.realm_insert.specs.Snapshots.{state_of}
use Rattle.realm_store.specs.Keeping.{Kept}
use Rattle.realm_store.specs.Replaying.{LeadOn}
use Rattle.standby_core.specs.declared.frame.Frame.{Frame}
use Rattle.standby_core.specs.declared.frame.Frame.TheVariants.{Rec, Snap}
use Rattle.standby_core.specs.Shipping.{last_number, records_above}
use Rattle.pair_law.specs.History.{IsHistory, IsStateOf, IsFrameOf}
use Rattle.pair_law.specs.Following.{Outcome, NoFrame, PassedOver, NoRoom, NoGeneration, NoRecord, Applied, IsStartedAgain, acknowledged}
use Rattle.pair_law.specs.Sending.{IsSent}
use Rattle.pair_law.specs.Pair.{Pair, Event, Adds, Ships, Delivers, Restarts, Returns, Joins, Sends, Gets, Got}
use Rattle.pair_law.specs.Pair.{StartsAgain, carried, hears, Happens, Happen, IsBeginning}
use Rattle.pair_law.specs.Law.{IsFollowing}
use Rattle.pair_law.proofs.Rises.{lead_join}
use Rattle.pair_law.proofs.Histories.{present, state_stays, frame_stays}
use Rattle.pair_law.proofs.Followers.{treated}

-- what is sent is of the history, and what is kept too
pub record Holds (p : Pair) : Type 0 where
  pub history : IsHistory p.records p.now
  pub frames : All (IsFrameOf p.records) p.frames
  pub following : IsFollowing p

-- so it is behind an event, and the follower has no fewer changes
pub record Goes (old new : Pair) : Type 0 where
  pub holds : Holds new
  pub no_fewer : old.follower.state.changes ≤ new.follower.state.changes

-- each element of a list is where it is found
found : {A : Type 0} (P : A → Type 0) (xs : List A) (which : ℕ) (x : A) → slice_get xs which ≡ Some x → All P xs → P x
found P xs which x is all =
    let within = slice_get_within xs which x is in
    subst P (get_or_from_slice_get xs which x x is) (All-get_or P xs which x within all)

-- ---- the primary

joins : (p q : Pair) (r : Record) → Holds p → Joins p r q → Goes p q
joins p q r h j =
    let is_frame = IsFrameOf (p.records ++ r ∷ []) in
    let next : Goes p (record p { records = p.records ++ r ∷ []; now = j.after }) = record {
      holds = record {
        history = record {
          have_texts = All-push IsRecord p.records r h.history.have_texts j.has_text;
          lead = lead_join empty_state p.now j.after p.records (r ∷ []) h.history.lead (j.after, j.leads, refl);
        };
        frames = All-weaker (IsFrameOf p.records) is_frame (λ f. frame_stays p.records (r ∷ []) f) p.frames h.frames;
        following = record {
          of_history = state_stays p.records (r ∷ []) p.follower.state h.following.of_history;
          acks = h.following.acks;
          heard = h.following.heard;
        };
      };
      no_fewer = omega arith;
    } in
    subst (λ x. Goes p x) (sym j.is_new) next

stays : (p q : Pair) → Holds p → q ≡ p → Goes p q
stays p q h is = subst (λ x. Goes p x) (sym is) (record { holds = h; no_fewer = omega arith })

-- the records that are sent are of the history
records_of : (records : List Record) (first have : ℕ) → All (IsFrameOf records) (records_above have (drop first records))
records_of records first have =
    let test = λ (r : Record). nat_lt have (last_number r) in
    All-map (IsFrameOf records) Rec (filter test (drop first records))
    (All-filter test (Contains records) (drop first records)
    (All-drop (Contains records) first records (All-contains_itself records)))

-- and so is the state
state_of_present : (records : List Record) (now : State) (snapshot : Snapshot) → LeadOn empty_state records now
    → state_of snapshot ≡ now → IsFrameOf records (Snap snapshot)
state_of_present records now snapshot lead is = subst (λ s. IsStateOf records s) (sym is) (present records now lead)

sent : (records : List Record) (now : State) (first have : ℕ) (frames : List Frame) → LeadOn empty_state records now
    → IsSent records now first have frames → All (IsFrameOf records) frames
sent records now first have frames lead s =
    let P = IsFrameOf records in
    elim (cases_lt have s.snapshot.changes) [
      | inl more ↦ elim (cases_lt have s.base.changes) [
        | inl before ↦
            subst (λ l. All P l) (sym (s.are_sent.whole_state more before)) (All-cons P (Snap s.snapshot) []
            (state_of_present records now s.snapshot lead s.is_present) (All-nil P))
        | inr from ↦ subst (λ l. All P l) (sym (s.are_sent.new_records more from)) (records_of records first have)
      ]
      | inr few ↦ subst (λ l. All P l) (sym (s.are_sent.nothing_new few)) (All-nil P)
    ]

sends : (p q : Pair) (first have : ℕ) → Holds p → Sends p first have q → Goes p q
sends p q first have h s =
    let next : Goes p (record p { frames = s.frames ++ p.frames }) = record {
      holds = record {
        history = h.history;
        frames = All-append (IsFrameOf p.records) s.frames p.frames
            (sent p.records p.now first have s.frames h.history.lead s.is_sent) h.frames;
        following = record {
          of_history = h.following.of_history;
          acks = h.following.acks;
          heard = h.following.heard;
        };
      };
      no_fewer = omega arith;
    } in
    subst (λ x. Goes p x) (sym s.is_new) next

-- ---- the follower

-- a bound that rises
risen : (m n : ℕ) (list : List ℕ) → m ≤ n → All (λ k. k ≤ m) list → All (λ k. k ≤ n) list
risen m n list less all = All-weaker (λ k. k ≤ m) (λ k. k ≤ n) (λ k few. omega arith) list all

acks_within : (outcome : Outcome) (n : ℕ) → All (λ m. m ≤ n) (acknowledged outcome n)
acks_within outcome n =
    let P = λ (m : ℕ). m ≤ n in
    let one : All P (n ∷ []) = All-cons P n [] (omega arith) (All-nil P) in
    let none : All P [] = All-nil P in
    elim outcome as (λ o. All P (acknowledged o n)) [
      | NoFrame ↦ none
      | PassedOver ↦ one
      | NoRoom ↦ none
      | NoGeneration ↦ none
      | NoRecord ↦ none
      | Applied ↦ one
    ]

gets : (p q : Pair) (f : Frame) → Holds p → IsFrameOf p.records f → Gets p f q → Goes p q
gets p q f h has g =
    let step = treated p.records p.now h.history p.follower g.after f g.outcome h.following.of_history has g.treats in
    let n = g.after.state.changes in
    let less = step.no_fewer in
    let next : Goes p (record p { follower = g.after; acks = acknowledged g.outcome n ++ p.acks }) = record {
      holds = record {
        history = h.history;
        frames = h.frames;
        following = record {
          of_history = step.of_history;
          acks = All-append (λ m. m ≤ n) (acknowledged g.outcome n) p.acks (acks_within g.outcome n)
              (risen p.follower.state.changes n p.acks less h.following.acks);
          heard = risen p.follower.state.changes n p.heard less h.following.heard;
        };
      };
      no_fewer = less;
    } in
    subst (λ x. Goes p x) (sym g.is_new) next

got : (p q : Pair) (which : ℕ) (o : Option Frame) → slice_get p.frames which ≡ o → Holds p → Got p o q → Goes p q
got p q which None is h g = stays p q h g
got p q which (Some f) is h g = gets p q f h (found (IsFrameOf p.records) p.frames which f is h.frames) g

-- a store that starts again has its state, whether or not a generation was put before a record
again_state : (old after : Kept) → IsStartedAgain old after ⊎ IsStartedAgain (carried old) after → after.state ≡ old.state
again_state old after (inl here) = here.state
again_state old after (inr behind) = behind.state

again : (p q : Pair) → Holds p → StartsAgain p q → Goes p q
again p q h s =
    let same = again_state p.follower s.after s.again in
    let number : s.after.state.changes ≡ p.follower.state.changes = ap (λ (t : State). t.changes) same in
    let next : Goes p (record p { follower = s.after }) = record {
      holds = record {
        history = h.history;
        frames = h.frames;
        following = record {
          of_history = subst (λ t. IsStateOf p.records t) (sym same) h.following.of_history;
          acks = risen p.follower.state.changes s.after.state.changes p.acks (omega arith) h.following.acks;
          heard = risen p.follower.state.changes s.after.state.changes p.heard (omega arith) h.following.heard;
        };
      };
      no_fewer = omega arith;
    } in
    subst (λ x. Goes p x) (sym s.is_new) next

returned : (p : Pair) (which : ℕ) (o : Option ℕ) → slice_get p.acks which ≡ o → Holds p → Goes p (hears p o)
returned p which None is h = record { holds = h; no_fewer = omega arith }
returned p which (Some m) is h =
    let P = λ (k : ℕ). k ≤ p.follower.state.changes in
    record {
      holds = record {
        history = h.history;
        frames = h.frames;
        following = record {
          of_history = h.following.of_history;
          acks = h.following.acks;
          heard = All-cons P m p.heard (found P p.acks which m is h.following.acks) h.following.heard;
        };
      };
      no_fewer = omega arith;
    }

-- ---- events

pub goes : (p q : Pair) (event : Event) → Holds p → Happens p event q → Goes p q
goes p q (Adds r) h (inl j) = joins p q r h j
goes p q (Adds r) h (inr s) = stays p q h s.is_same
goes p q (Ships first have) h s = sends p q first have h s
goes p q (Delivers which) h g = got p q which (slice_get p.frames which) refl h g
goes p q Restarts h s = again p q h s
goes p q (Returns which) h is =
    subst (λ x. Goes p x) (sym is) (returned p which (slice_get p.acks which) refl h)

pub go : (p q : Pair) (events : List Event) → Holds p → Happen p events q → Goes p q
go p q [] h is = stays p q h is
go p q (event ∷ events) h (between, first, rest) =
    let one = goes p between event h first in
    let more = go between q events one.holds rest in
    let less = one.no_fewer in
    let few = more.no_fewer in
    record { holds = more.holds; no_fewer = omega arith }

pub begins : (p : Pair) → IsBeginning p → Holds p
begins p b =
    let P = λ (m : ℕ). m ≤ p.follower.state.changes in
    record {
      history = b.history;
      frames = subst (λ l. All (IsFrameOf p.records) l) (sym b.no_frames) (All-nil (IsFrameOf p.records));
      following = record {
        of_history = subst (λ k. IsStateOf p.records k.state) (sym b.empty)
            (record { before = []; left = p.records; in_order = refl; lead = refl });
        acks = subst (λ l. All P l) (sym b.no_acks) (All-nil P);
        heard = subst (λ l. All P l) (sym b.none_heard) (All-nil P);
      };
    }
