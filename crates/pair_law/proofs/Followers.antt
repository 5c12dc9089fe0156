-- This file shows that a follower stays in a history, over one frame of it and over many lines.
use Rattle.std.proofs.Common.{◌≡◌, ◌≤◌, ℕ, List, [], ◌∷◌, ◌++◌, refl, sym, ap, subst, ◌∙◌, arith, inl, inr, All, Contains}
use Rattle.std.proofs.lemmas.List.Elements.{All-nil, All-cons, All-append, All-head, All-tail, All-weaker, Contains-append_right}
use Rattle.record_codec.specs.declared.record.Record.{Record}
use Rattle.realm_insert.specs.State.{State}
use Rattle.realm_store.specs.Keeping.{Kept}
use Rattle.standby_core.specs.declared.frame.Frame.{Frame}
use Rattle.standby_core.specs.declared.frame.Frame.TheVariants.{Rec, Snap}
use Rattle.pair_law.specs.History.{IsHistory, IsStateOf, IsFrameOf}
use Rattle.pair_law.specs.Following.{Outcome, NoFrame, PassedOver, NoRoom, NoGeneration, NoRecord, Applied}
use Rattle.pair_law.specs.Following.{Treats, Takes, Turn, IsRun, IsApplied, IsTaken, acknowledged, acks_of, made, states_of}
use Rattle.pair_law.specs.Law.{IsSomeLineOf, states_in, IsKeptIn, EndsIn}
use Rattle.pair_law.proofs.Rises.{leads_rise}
use Rattle.pair_law.proofs.Histories.{next_state, has_next}

-- what is kept then has a state of the history, with no fewer changes
pub record IsStep (records : List Record) (old new : Kept) : Type 0 where
  pub of_history : IsStateOf records new.state
  pub no_fewer : old.state.changes ≤ new.state.changes

-- it has the same state
stays : (records : List Record) (old new : Kept) → IsStateOf records old.state → new.state ≡ old.state → IsStep records old new
stays records old new here same = record {
  of_history = subst (λ s. IsStateOf records s) (sym same) here;
  no_fewer = let e : new.state.changes ≡ old.state.changes = ap (λ (s : State). s.changes) same in omega arith;
}

same_state : {old new : Kept} → new ≡ old → new.state ≡ old.state
same_state same = ap (λ (k : Kept). k.state) same

-- unless a frame was applied, the state is the same
abbrev IsSame : Outcome → State → State → Type 0
IsSame Applied old new = Unit {0}
IsSame _ old new = new ≡ old

same_unless_applied : (old new : Kept) (f : Frame) (outcome : Outcome) → Treats old f outcome new
    → IsSame outcome old.state new.state
same_unless_applied old new f NoFrame t = same_state t.1
same_unless_applied old new f PassedOver t = same_state t.2
same_unless_applied old new f NoRoom t = same_state t.2
same_unless_applied old new f NoGeneration t = same_state t.3
same_unless_applied old new f NoRecord t = t.2.state
same_unless_applied old new f Applied t = tt

same_over_line : (old : Kept) (turn : Turn) → Takes old turn.line turn.outcome turn.after
    → IsSame turn.outcome old.state turn.after.state
same_over_line old turn (inl none) =
    subst (λ o. IsSame o old.state turn.after.state) (sym none.1) (same_state none.2)
same_over_line old turn (inr (f, line, t)) = same_unless_applied old turn.after f turn.outcome t

-- a state that the follower was in from behind a line on, it was in from before that line on
was_in_before : (outcome : Outcome) (old new : State) (rest : List State) → IsSame outcome old new
    → (s : State) → Contains (new ∷ rest) s → Contains (old ∷ (made outcome new ++ rest)) s
was_in_before Applied old new rest same s has = Contains-append_right (old ∷ []) (new ∷ rest) s has
was_in_before NoFrame old new rest same s has = subst (λ t. Contains (t ∷ rest) s) same has
was_in_before PassedOver old new rest same s has = subst (λ t. Contains (t ∷ rest) s) same has
was_in_before NoRoom old new rest same s has = subst (λ t. Contains (t ∷ rest) s) same has
was_in_before NoGeneration old new rest same s has = subst (λ t. Contains (t ∷ rest) s) same has
was_in_before NoRecord old new rest same s has = subst (λ t. Contains (t ∷ rest) s) same has

module _ (records : List Record) (now : State) (history : IsHistory records now) where
  -- a frame of the history that is applied leads to a state of it
  applied : (old new : Kept) (f : Frame) → IsStateOf records old.state → IsFrameOf records f → IsTaken old f
      → IsApplied old f new → IsStep records old new
  applied old new (Rec r) here has taken is = record {
    of_history = next_state records now old.state new.state r history here has taken.is_next.comes_next is.0;
    no_fewer = leads_rise old.state new.state r is.0;
  }
  applied old new (Snap s) here has taken is =
      let more = taken.is_next.comes_next in
      let number : new.state.changes ≡ s.changes = ap (λ (t : State). t.changes) is.0 in
      record {
        of_history = subst (λ t. IsStateOf records t) (sym is.0) has;
        no_fewer = omega arith;
      }

  -- whatever becomes of it
  pub treated : (old new : Kept) (f : Frame) (outcome : Outcome) → IsStateOf records old.state → IsFrameOf records f
      → Treats old f outcome new → IsStep records old new
  treated old new f NoFrame here has t = stays records old new here (same_state t.1)
  treated old new f PassedOver here has t = stays records old new here (same_state t.2)
  treated old new f NoRoom here has t = stays records old new here (same_state t.2)
  treated old new f NoGeneration here has t = stays records old new here (same_state t.3)
  treated old new f NoRecord here has t = stays records old new here t.2.state
  treated old new f Applied here has t = applied old new f here has t.0 t.1

  taken : (old : Kept) (turn : Turn) → IsStateOf records old.state → IsSomeLineOf records turn
      → Takes old turn.line turn.outcome turn.after → IsStep records old turn.after
  taken old turn here of (inl none) = stays records old turn.after here (same_state none.2)
  taken old turn here of (inr (f, line, t)) = treated old turn.after f turn.outcome here (of.each f line) t

  -- no frame of the history leads nowhere
  fits : (old new : Kept) (f : Frame) (outcome : Outcome) → IsStateOf records old.state → IsFrameOf records f
      → Treats old f outcome new → outcome ≡ NoRecord → ⊥
  fits old new (Rec r) NoRecord here has t is =
      let next = has_next records now old.state r history here has t.0.is_next.comes_next in
      t.1 next.0 next.1
  fits old new (Snap s) NoRecord here has t is = t.1
  fits old new f NoFrame here has t is = absurd cc
  fits old new f PassedOver here has t is = absurd cc
  fits old new f NoRoom here has t is = absurd cc
  fits old new f NoGeneration here has t is = absurd cc
  fits old new f Applied here has t is = absurd cc

  no_misfit : (old : Kept) (turn : Turn) → IsStateOf records old.state → IsSomeLineOf records turn
      → Takes old turn.line turn.outcome turn.after → turn.outcome ≡ NoRecord → ⊥
  no_misfit old turn here of (inl none) is = let e : NoFrame ≡ NoRecord = sym none.1 ∙ is in absurd (cc e)
  no_misfit old turn here of (inr (f, line, t)) is = fits old turn.after f turn.outcome here (of.each f line) t is

  made_states : (outcome : Outcome) (s : State) → IsStateOf records s → All (IsStateOf records) (made outcome s)
  made_states Applied s here = All-cons (IsStateOf records) s [] here (All-nil (IsStateOf records))
  made_states NoFrame s here = All-nil (IsStateOf records)
  made_states PassedOver s here = All-nil (IsStateOf records)
  made_states NoRoom s here = All-nil (IsStateOf records)
  made_states NoGeneration s here = All-nil (IsStateOf records)
  made_states NoRecord s here = All-nil (IsStateOf records)

  kept_acks : (outcome : Outcome) (were : List State) (s : State) (end : Kept) → IsStateOf records s → Contains were s
      → s.changes ≤ end.state.changes → All (IsKeptIn records were end) (acknowledged outcome s.changes)
  kept_acks outcome were s end here was few =
      let P = λ (m : ℕ). IsKeptIn records were end m in
      let one : All P (s.changes ∷ []) = All-cons P s.changes []
      (record { state = s; of_history = here; was_in = was; number = refl; no_fewer = few }) (All-nil P) in
      let none : All P [] = All-nil P in
      elim outcome as (λ o. All P (acknowledged o s.changes)) [
        | NoFrame ↦ none
        | PassedOver ↦ one
        | NoRoom ↦ none
        | NoGeneration ↦ none
        | NoRecord ↦ none
        | Applied ↦ one
      ]

  -- where the follower was in more states, each number stays that of one of them
  in_more : (were more : List State) (end : Kept) (m : ℕ) → ((s : State) → Contains were s → Contains more s)
      → IsKeptIn records were end m → IsKeptIn records more end m
  in_more were more end m all kept = record {
    state = kept.state;
    of_history = kept.of_history;
    was_in = all kept.state kept.was_in;
    number = kept.number;
    no_fewer = kept.no_fewer;
  }

  -- over many lines
  pub ends : (start end : Kept) (turns : List Turn) → IsStateOf records start.state → All (IsSomeLineOf records) turns
      → IsRun start turns end → EndsIn records start turns end
  ends start end [] here of is = record {
    of_history = subst (λ k. IsStateOf records k.state) (sym is) here;
    no_fewer = let e : end.state.changes ≡ start.state.changes = ap (λ (k : Kept). k.state.changes) is in omega arith;
    states = All-nil (IsStateOf records);
    no_misfit = All-nil (λ (turn : Turn). turn.outcome ≡ NoRecord → ⊥);
    acks = All-nil (IsKeptIn records (states_in start []) end);
  }
  ends start end (turn ∷ turns) here of (takes, run) =
      let step = taken start turn here (All-head (IsSomeLineOf records) turn turns of) takes in
      let rest = ends turn.after end turns step.of_history (All-tail (IsSomeLineOf records) turn turns of) run in
      let less = step.no_fewer in
      let few = rest.no_fewer in
      let after = turn.after.state in
      let earlier = was_in_before turn.outcome start.state after (states_of turns) (same_over_line start turn takes) in
      let were = states_in start (turn ∷ turns) in
      record {
        of_history = rest.of_history;
        no_fewer = omega arith;
        states = All-append (IsStateOf records) (made turn.outcome turn.after.state) (states_of turns)
            (made_states turn.outcome turn.after.state step.of_history) rest.states;
        no_misfit = All-cons (λ (turn : Turn). turn.outcome ≡ NoRecord → ⊥) turn turns
            (no_misfit start turn here (All-head (IsSomeLineOf records) turn turns of) takes) rest.no_misfit;
        acks = All-append (IsKeptIn records were end) (acknowledged turn.outcome after.changes) (acks_of turns)
            (kept_acks turn.outcome were after end step.of_history (earlier after (0, omega arith, refl)) few)
            (All-weaker (IsKeptIn records (states_in turn.after turns) end) (IsKeptIn records were end)
            (λ m. in_more (states_in turn.after turns) were end m earlier) (acks_of turns) rest.acks);
      }
