-- This file shows that calls which are made again lead to where they led.
use Rattle.std.proofs.Common.{◌≡◌, ℕ, zero, suc, ◌≤◌, List, [], ◌∷◌, take, drop}
use Rattle.std.proofs.Common.{refl, sym, ap, ◌∙◌, arith}
use Rattle.outside_world.specs.declared.world.FileName.{FileName}
use Rattle.outside_world.specs.declared.leave.Leave.{Leave}
use Rattle.outside_world.specs.declared.leave.Leave.TheVariants.{Old, New, Fill}
use Rattle.outside_world.specs.declared.call_log.Call.{Call}
use Rattle.outside_world.specs.Files.{FileState, opened, file_after, after_event, after_events}
use Rattle.outside_world.specs.Log.{left_by}
use Rattle.outside_world.specs.LogFields.{event_of, events_of, given_in, written_in, size_written}
use Rattle.outside_world.proofs.LeftImages.{Reached, reached, reached_event}

-- the first calls were made again: from this state on the others lead to where all lead
pub record Replaying (f : FileName) (first : List ℕ) (calls : List Call) (written : List ℕ) (leave : Leave)
    (output now left rest : List ℕ) (others : List Call) : Type 0 where
  pub state : FileState
  pub behind : List ℕ
  pub goes_on : file_after f first (events_of output written calls) ≡ after_events f state (events_of behind rest others)
  pub is_now : now ≡ state.now
  pub is_left : left ≡ left_by leave state
  pub is_reached : Reached state

-- of a file to which nothing was done a crash leaves what is there
left_by-opened : (leave : Leave) (first : List ℕ) → left_by leave (opened first) ≡ first
left_by-opened Old first = refl
left_by-opened New first = refl
left_by-opened (Fill byte) first = refl

module _ (f : FileName) (first : List ℕ) (calls : List Call) (written : List ℕ) (leave : Leave) (output : List ℕ) where
  abbrev So : (now left rest : List ℕ) → List Call → Type 0
  So now left rest others = Replaying f first calls written leave output now left rest others

  pub replay_begins : (now left : List ℕ) → now ≡ first → left ≡ first → So now left written calls
  replay_begins now left now_is left_is = record {
    state = opened first;
    behind = output;
    goes_on = refl;
    is_now = now_is;
    is_left = left_is ∙ sym (left_by-opened leave first);
    is_reached = reached f first [];
  }

  pub replay_goes_on : (now left rest now_then left_then rest_then : List ℕ) (call : Call) (others : List Call)
      → So now left rest (call ∷ others)
      → ((s : FileState) (o : List ℕ) → Reached s → now ≡ s.now → left ≡ left_by leave s
      → (now_then ≡ (after_event f s (event_of o rest call)).now) × (left_then ≡ left_by leave (after_event f s (event_of o rest call))))
      → rest_then ≡ drop (written_in call) rest → So now_then left_then rest_then others
  replay_goes_on now left rest now_then left_then rest_then call others so step is =
      let made = step so.state so.behind so.is_reached so.is_now so.is_left in
      record {
        state = after_event f so.state (event_of so.behind rest call);
        behind = drop (given_in call) so.behind;
        goes_on = so.goes_on
            ∙ ap (λ l. after_events f (after_event f so.state (event_of so.behind rest call))
            (events_of (drop (given_in call) so.behind) l others)) (sym is);
        is_now = made.0;
        is_left = made.1;
        is_reached = reached_event f so.state (event_of so.behind rest call) so.is_reached;
      }

  pub replay_ends : (now left rest : List ℕ) (others : List Call) → others ≡ [] → So now left rest others
      → left ≡ left_by leave (file_after f first (events_of output written calls))
  replay_ends now left rest others none so =
      so.is_left ∙ ap (λ s. left_by leave s) (sym (so.goes_on ∙ ap (λ l. after_events f so.state (events_of so.behind rest l)) none))

-- the calls of a front
pub take-events_of : (k : ℕ) (output written : List ℕ) (calls : List Call)
    → take k (events_of output written calls) ≡ events_of output written (take k calls)
take-events_of zero output written calls = refl
take-events_of (suc k) output written [] = refl
take-events_of (suc k) output written (call ∷ calls) =
    ap (λ l. event_of output written call ∷ l) (take-events_of k (drop (given_in call) output) (drop (written_in call) written) calls)

pub size_written-take : (k : ℕ) (calls : List Call) → size_written (take k calls) ≤ size_written calls
size_written-take zero calls = omega arith
size_written-take (suc k) [] = omega arith
size_written-take (suc k) (call ∷ calls) = omega (arith, size_written-take k calls)
