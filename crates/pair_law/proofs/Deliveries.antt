-- This file shows that a follower which acknowledges all that is sent for it ends in the primary's present state.
use Rattle.std.proofs.Common.{◌≡◌, ◌<◌, ◌≤◌, ℕ, List, [], ◌∷◌, ◌++◌, take, drop, refl, sym, ap, subst, ◌∙◌, arith, inl, inr}
use Rattle.std.proofs.Common.{All, cond, map, nat_lt}
use Rattle.std.specs.List.{filter}
use Rattle.std.proofs.lemmas.Bool.{lt-ltb, le-ltb, cases_lt}
use Rattle.std.proofs.lemmas.List.{take-append-drop}
use Rattle.std.proofs.lemmas.List.Elements.{All-head, All-tail, All-take}
use Rattle.record_codec.specs.declared.record.Record.{Record}
use Rattle.record_codec.specs.declared.snapshot.Snapshot.{Snapshot}
use Rattle.record_codec.specs.Fitting.{IsRecord}
use Rattle.realm_insert.specs.State.{State, empty_state}
use Rattle.realm_insert.specs.Snapshots.{state_of}
use Rattle.realm_store.specs.Keeping.{Kept}
use Rattle.realm_store.specs.Leading.{Leads}
use Rattle.realm_store.specs.Replaying.{LeadOn}
use Rattle.realm_store.proofs.LedOnce.{leads_once}
use Rattle.standby_core.specs.declared.frame.Frame.{Frame}
use Rattle.standby_core.specs.declared.frame.Frame.TheVariants.{Rec, Snap}
use Rattle.standby_core.specs.Frames.{IsLineOf}
use Rattle.standby_core.specs.Shipping.{last_number, records_above}
use Rattle.standby_core.specs.Verdicts.{ComesNext}
use Rattle.standby_core.proofs.FrameLines.{one_frame}
use Rattle.pair_law.specs.History.{IsHistory, IsStateOf}
use Rattle.pair_law.specs.Following.{Outcome, NoFrame, PassedOver, NoRoom, NoGeneration, NoRecord, Applied}
use Rattle.pair_law.specs.Following.{Turn, Treats, Takes, IsRun, IsApplied}
use Rattle.pair_law.specs.Delivery.{AreLinesOf, IsAcknowledgement, IsDelivered}
use Rattle.pair_law.proofs.Rises.{numbered, leads_rise, texts_behind, lead_once, lead_split, lead_rises, lead_stays}
use Rattle.pair_law.proofs.Histories.{texts_before}

-- ---- one frame

-- a frame that comes next and is acknowledged was applied
applied_frame : (old new : Kept) (f : Frame) (outcome : Outcome) → Treats old f outcome new → IsAcknowledgement outcome
    → ComesNext old.state.changes f → IsApplied old f new
applied_frame old new f PassedOver t ack comes = absurd (t.1 comes)
applied_frame old new f Applied t ack comes = t.1
applied_frame old new f NoFrame t ack comes = absurd ack
applied_frame old new f NoRoom t ack comes = absurd ack
applied_frame old new f NoGeneration t ack comes = absurd ack
applied_frame old new f NoRecord t ack comes = absurd ack

applied : (old : Kept) (turn : Turn) (f : Frame) → IsLineOf f turn.line → Takes old turn.line turn.outcome turn.after
    → IsAcknowledgement turn.outcome → ComesNext old.state.changes f → IsApplied old f turn.after
applied old turn f line (inl none) ack comes = absurd (none.0 f line)
applied old turn f line (inr (g, also, t)) ack comes =
    let same : g ≡ f = one_frame g f turn.line also line in
    applied_frame old turn.after f turn.outcome (subst (λ x. Treats old x turn.outcome turn.after) same t) ack comes

-- ---- which records are sent

-- those up to the number of changes aren't
none_before : (k : ℕ) (s e : State) (before left : List Record) → All IsRecord before → LeadOn s before e → e.changes ≤ k
    → filter (λ r. nat_lt k (last_number r)) (before ++ left) ≡ filter (λ r. nat_lt k (last_number r)) left
none_before k s e [] left texts lead few = refl
none_before k s e (r ∷ before) left texts (mid, first, later) few =
    let test = λ (q : Record). nat_lt k (last_number q) in
    let last = (numbered s mid r (All-head IsRecord r before texts) first).last in
    let rise = lead_rises mid e before later in
    let below : last_number r ≤ k = omega arith in
    ap (λ b. cond b (r ∷ filter test (before ++ left)) (filter test (before ++ left))) (le-ltb k (last_number r) below)
    ∙ none_before k mid e before left (All-tail IsRecord r before texts) later few

-- and all behind them are
all_behind : (k : ℕ) (s e : State) (left : List Record) → LeadOn s left e → k ≤ s.changes
    → filter (λ r. nat_lt k (last_number r)) left ≡ left
all_behind k s e [] lead more = refl
all_behind k s e (r ∷ left) (mid, first, later) more =
    let test = λ (q : Record). nat_lt k (last_number q) in
    let number = first.number in
    let above : k < last_number r = omega arith in
    let rise = leads_rise s mid r first in
    ap (λ b. cond b (r ∷ filter test left) (filter test left)) (lt-ltb k (last_number r) above)
    ∙ ap (λ l. r ∷ l) (all_behind k mid e left later (omega arith))

-- ---- many frames

changes_same : {s t : State} → s ≡ t → s.changes ≡ t.changes
changes_same same = ap (λ (s : State). s.changes) same

-- records that lead on one after another, each acknowledged
lead_all : (now s : State) (left : List Record) (old end : Kept) (turns : List Turn) → old.state ≡ s → LeadOn s left now
    → AreLinesOf (map Rec left) turns → IsRun old turns end → All (λ (turn : Turn). IsAcknowledgement turn.outcome) turns
    → end.state ≡ now
lead_all now s [] old end [] same lead lines run acks = ap (λ (k : Kept). k.state) run ∙ same ∙ sym lead
lead_all now s [] old end (turn ∷ turns) same lead lines run acks = absurd lines
lead_all now s (r ∷ left) old end [] same lead lines run acks = absurd lines
lead_all now s (r ∷ left) old end (turn ∷ turns) same (mid, first, later) (line, lines) (takes, run) acks =
    let P = λ (turn : Turn). IsAcknowledgement turn.outcome in
    let number = first.number in
    let as_many = changes_same same in
    let is = applied old turn (Rec r) line takes (All-head P turn turns acks) (omega arith) in
    let there : turn.after.state ≡ mid =
    leads_once s turn.after.state mid r (subst (λ m. Leads m r turn.after.state) same is.0) first in
    lead_all now mid left turn.after end turns there later lines run (All-tail P turn turns acks)

-- one state that has more changes
whole : (now : State) (s : Snapshot) (old end : Kept) (turns : List Turn) → state_of s ≡ now
    → old.state.changes < s.changes → AreLinesOf (Snap s ∷ []) turns → IsRun old turns end
    → All (λ (turn : Turn). IsAcknowledgement turn.outcome) turns → end.state ≡ now
whole now s old end [] present more lines run acks = absurd lines
whole now s old end (turn ∷ []) present more (line, lines) (takes, run) acks =
    let P = λ (turn : Turn). IsAcknowledgement turn.outcome in
    let is = applied old turn (Snap s) line takes (All-head P turn [] acks) more in
    ap (λ (k : Kept). k.state) run ∙ is.0 ∙ present
whole now s old end (turn ∷ other ∷ turns) present more (line, lines) run acks = absurd lines

-- none, where there are as many changes
nothing : (now : State) (old end : Kept) (turns : List Turn) → now ≡ old.state → AreLinesOf [] turns → IsRun old turns end
    → end.state ≡ now
nothing now old end [] same lines run = ap (λ (k : Kept). k.state) run ∙ sym same
nothing now old end (turn ∷ turns) same lines run = absurd lines

module _ (records : List Record) (now : State) (history : IsHistory records now)
    (start end : Kept) (here : IsStateOf records start.state) (turns : List Turn) where
  -- the records behind the follower's state lead on to the present
  onward : LeadOn start.state here.left now
  onward =
      let split = lead_split empty_state now here.before here.left
      (subst (λ l. LeadOn empty_state l now) here.in_order history.lead) in
      subst (λ m. LeadOn m here.left now)
      (lead_once empty_state split.0 start.state here.before split.1 here.lead) split.2

  -- of the history, just these are above the follower's state
  above : records_above start.state.changes records ≡ map Rec here.left
  above =
      let k = start.state.changes in
      let texts = texts_before records start.state history.have_texts here in
      ap (λ l. records_above k l) here.in_order
      ∙ ap (map Rec) (none_before k empty_state start.state here.before here.left texts here.lead (omega arith)
      ∙ all_behind k start.state now here.left onward (omega arith))

  -- and so of the records behind a state with no more changes
  sent : (first : ℕ) (base : State) → LeadOn empty_state (take first records) base → base.changes ≤ start.state.changes
      → records_above start.state.changes (drop first records) ≡ map Rec here.left
  sent first base lead few =
      let k = start.state.changes in
      let texts = All-take IsRecord first records history.have_texts in
      sym (ap (map Rec) (none_before k empty_state base (take first records) (drop first records) texts lead few))
      ∙ ap (λ l. records_above k l) (take-append-drop first records) ∙ above

  -- frames that are these are taken so
  taken : (frames these : List Frame) → frames ≡ these → AreLinesOf frames turns → AreLinesOf these turns
  taken frames these is lines = subst (λ l. AreLinesOf l turns) is lines

  pub catches_up : IsDelivered records now start turns end → end.state ≡ now
  catches_up d =
      let s = d.is_sent in
      let as_many : s.snapshot.changes ≡ now.changes = changes_same s.is_present in
      elim (cases_lt start.state.changes s.snapshot.changes) [
        | inl more ↦ elim (cases_lt start.state.changes s.base.changes) [
          | inl before ↦
              whole now s.snapshot start end turns s.is_present more
              (taken d.frames (Snap s.snapshot ∷ []) (s.are_sent.whole_state more before) d.lines) d.run d.acks
          | inr from ↦
              lead_all now start.state here.left start end turns refl onward
              (taken d.frames (map Rec here.left) (s.are_sent.new_records more from ∙ sent d.first s.base s.is_base from) d.lines)
              d.run d.acks
        ]
        | inr few ↦
            nothing now start end turns
            (lead_stays start.state now here.left
            (texts_behind here.before here.left (subst (λ l. All IsRecord l) here.in_order history.have_texts))
            onward (omega arith))
            (taken d.frames [] (s.are_sent.nothing_new few) d.lines) d.run
      ]
