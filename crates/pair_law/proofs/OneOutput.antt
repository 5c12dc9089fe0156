-- This file shows that from a state and a place lines have one output, and lead to one state and place.
use Rattle.std.proofs.Common.{◌≡◌, ℕ, Bool, List, [], ◌∷◌, ◌++◌, refl, sym, ap, subst, ◌∙◌, ◌⊎◌, inl, inr}
use Rattle.realm_store.specs.Keeping.{Kept}
use Rattle.realm_store.proofs.LedOnce.{leads_once}
use Rattle.standby_core.specs.declared.frame.Frame.{Frame}
use Rattle.standby_core.specs.declared.frame.Frame.TheVariants.{Rec, Snap}
use Rattle.standby_core.specs.Verdicts.{ComesNext}
use Rattle.standby_core.proofs.FrameLines.{one_frame}
use Rattle.pair_law.specs.Following.{Outcome, NoFrame, PassedOver, NoRoom, NoGeneration, NoRecord, Applied}
use Rattle.pair_law.specs.Following.{IsUnsound, LacksRoomFor, LacksGenerationFor, IsMisfit, IsApplied, IsStartedAgain}
use Rattle.pair_law.specs.Following.{Treats, Takes, Turn, IsRun, reply_of, made, lines_of}
use Rattle.pair_law.specs.Law.{IsSameRun}

-- ---- causes, in their order

-- where the cause holds, one of two, and else the other
abbrev Either : (Cause A B : Type 0) → Type 0
Either Cause A B = (Cause × A) ⊎ ((Cause → ⊥) × B)

-- two that have the same cause are both the one, or both the other
by_cause : (Cause : Type 0) {A B C D R : Type 0} → (A → C → R) → (B → D → R) → Either Cause A B → Either Cause C D → R
by_cause Cause one other (inl a) (inl c) = one a.1 c.1
by_cause Cause one other (inl a) (inr d) = absurd (d.0 a.0)
by_cause Cause one other (inr b) (inl c) = absurd (b.0 c.0)
by_cause Cause one other (inr b) (inr d) = other b.1 d.1

-- this outcome leaves what is kept
abbrev Leaves : Outcome → Kept → Outcome → Kept → Type 0
Leaves word old outcome new = (outcome ≡ word) × (new ≡ old)

abbrev Fitting : Kept → Frame → Outcome → Kept → Type 0
Fitting old f outcome new =
    Either (IsMisfit old f) ((outcome ≡ NoRecord) × IsStartedAgain old new) ((outcome ≡ Applied) × IsApplied old f new)

abbrev Numbered : Kept → Frame → Outcome → Kept → Type 0
Numbered old f outcome new =
    Either (LacksGenerationFor old f) (Leaves NoGeneration old outcome new) (Fitting old f outcome new)

abbrev Roomy : Kept → Frame → Outcome → Kept → Type 0
Roomy old f outcome new = Either (LacksRoomFor old f) (Leaves NoRoom old outcome new) (Numbered old f outcome new)

abbrev Coming : Kept → Frame → Outcome → Kept → Type 0
Coming old f outcome new =
    Either (ComesNext old.state.changes f → ⊥) (Leaves PassedOver old outcome new) (Roomy old f outcome new)

abbrev Sound : Kept → Frame → Outcome → Kept → Type 0
Sound old f outcome new = Either (IsUnsound f) (Leaves NoFrame old outcome new) (Coming old f outcome new)

-- a frame that is applied isn't one that leads nowhere
fits : (old new : Kept) (f : Frame) → IsApplied old f new → IsMisfit old f → ⊥
fits old new (Rec r) is none = none new.state is.0
fits old new (Snap s) is none = none

in_order : (old new : Kept) (f : Frame) (outcome : Outcome) → Treats old f outcome new → Sound old f outcome new
in_order old new f NoFrame t = inl (t.0, (refl, t.1))
in_order old new f PassedOver t = inr (t.0, inl (t.1, (refl, t.2)))
in_order old new f NoRoom t = inr (t.0.sound, inr (λ skips. skips t.0.comes_next, inl (t.1, (refl, t.2))))
in_order old new f NoGeneration t =
    inr (t.0.sound, inr (λ skips. skips t.0.comes_next, inr (t.1, inl (t.2, (refl, t.3)))))
in_order old new f NoRecord t =
    let next = t.0.is_next in
    inr (next.sound, inr (λ skips. skips next.comes_next, inr (t.0.room, inr (t.0.generation, inl (t.1, (refl, t.2))))))
in_order old new f Applied t =
    let next = t.0.is_next in
    inr (
      next.sound,
      inr (
        λ skips. skips next.comes_next,
        inr (t.0.room, inr (t.0.generation, inr (fits old new f t.1, (refl, t.1)))),
      ),
    )

-- ---- one frame

-- the same, where another thing is known of the byte of the next gate
abbrev regated : Kept → Bool → Kept
regated kept gate = record { state = kept.state; place = kept.place; has_gate = gate }

again_regated : (old again : Kept) → IsStartedAgain old again → again ≡ regated old again.has_gate
again_regated old again same = λ i. record { state = same.state i; place = same.place i; has_gate = again.has_gate }

-- one outcome, one state and one place
record IsAlike (outcome also : Outcome) (new other : Kept) : Type 0 where
  outcomes : also ≡ outcome
  ends : IsStartedAgain new other

left_alike : (word : Outcome) (old new other : Kept) (gate : Bool) (outcome also : Outcome) → Leaves word old outcome new
    → Leaves word (regated old gate) also other → IsAlike outcome also new other
left_alike word old new other gate outcome also t u = record {
  outcomes = u.0 ∙ sym t.0;
  ends = record {
    state = ap (λ (k : Kept). k.state) u.1 ∙ sym (ap (λ (k : Kept). k.state) t.1);
    place = ap (λ (k : Kept). k.place) u.1 ∙ sym (ap (λ (k : Kept). k.place) t.1);
  };
}

-- both are started again
again_alike : (old new other : Kept) (gate : Bool) (outcome also : Outcome)
    → (outcome ≡ NoRecord) × IsStartedAgain old new → (also ≡ NoRecord) × IsStartedAgain (regated old gate) other
    → IsAlike outcome also new other
again_alike old new other gate outcome also t u = record {
  outcomes = u.0 ∙ sym t.0;
  ends = record { state = u.1.state ∙ sym t.1.state; place = u.1.place ∙ sym t.1.place };
}

applied_alike : (old new other : Kept) (gate : Bool) (f : Frame) (outcome also : Outcome)
    → (outcome ≡ Applied) × IsApplied old f new → (also ≡ Applied) × IsApplied (regated old gate) f other
    → IsAlike outcome also new other
applied_alike old new other gate (Rec r) outcome also t u = record {
  outcomes = u.0 ∙ sym t.0;
  ends = record { state = leads_once old.state other.state new.state r u.1.0 t.1.0; place = u.1.1 ∙ sym t.1.1 };
}
applied_alike old new other gate (Snap s) outcome also t u = record {
  outcomes = u.0 ∙ sym t.0;
  ends = record { state = u.1.0 ∙ sym t.1.0; place = u.1.1 ∙ sym t.1.1 };
}

module _ (old new other : Kept) (gate : Bool) (outcome also : Outcome) where
  left : (word : Outcome) → Leaves word old outcome new → Leaves word (regated old gate) also other
      → IsAlike outcome also new other
  left word = left_alike word old new other gate outcome also

  treated_alike : (f : Frame) → Sound old f outcome new → Sound (regated old gate) f also other
      → IsAlike outcome also new other
  treated_alike (Rec r) =
      by_cause (IsUnsound (Rec r)) (left NoFrame) (by_cause (ComesNext old.state.changes (Rec r) → ⊥) (left PassedOver)
      (by_cause (LacksRoomFor old (Rec r)) (left NoRoom) (by_cause (LacksGenerationFor old (Rec r)) (left NoGeneration)
      (by_cause (IsMisfit old (Rec r)) (again_alike old new other gate outcome also)
      (applied_alike old new other gate (Rec r) outcome also)))))
  treated_alike (Snap s) =
      by_cause (IsUnsound (Snap s)) (left NoFrame) (by_cause (ComesNext old.state.changes (Snap s) → ⊥) (left PassedOver)
      (by_cause (LacksRoomFor old (Snap s)) (left NoRoom) (by_cause (LacksGenerationFor old (Snap s)) (left NoGeneration)
      (by_cause (IsMisfit old (Snap s)) (again_alike old new other gate outcome also)
      (applied_alike old new other gate (Snap s) outcome also)))))

  -- ---- one line

  taken_alike : (line : List ℕ) → Takes old line outcome new → Takes (regated old gate) line also other
      → IsAlike outcome also new other
  taken_alike line (inl none) (inl same) = left NoFrame (none.1, none.2) (same.1, same.2)
  taken_alike line (inl none) (inr (f, is, t)) = absurd (none.0 f is)
  taken_alike line (inr (f, is, t)) (inl none) = absurd (none.0 f is)
  taken_alike line (inr (f, is, t)) (inr (g, also_is, u)) =
      let same : g ≡ f = one_frame g f line also_is is in
      treated_alike f (in_order old new f outcome t)
      (in_order (regated old gate) other f also (subst (λ h. Treats (regated old gate) h also other) same u))

-- ---- many lines

pub same_run : (start again end other : Kept) (turns also : List Turn) → IsStartedAgain start again
    → lines_of also ≡ lines_of turns → IsRun start turns end → IsRun again also other → IsSameRun turns also end other
same_run start again end other [] [] same lines run then = record {
  same_replies = refl;
  same_states = refl;
  same_end = record {
    state = ap (λ (k : Kept). k.state) then ∙ same.state ∙ sym (ap (λ (k : Kept). k.state) run);
    place = ap (λ (k : Kept). k.place) then ∙ same.place ∙ sym (ap (λ (k : Kept). k.place) run);
  };
}
same_run start again end other [] (turn ∷ also) same lines run then = absurd cc
same_run start again end other (turn ∷ turns) [] same lines run then = absurd cc
same_run start again end other (turn ∷ turns) (next ∷ also) same lines (takes, run) (too, then) =
    let line : next.line ≡ turn.line = cc in
    let rest : lines_of also ≡ lines_of turns = cc in
    let here = subst (λ l. Takes again l next.outcome next.after) line too in
    let there = subst (λ k. Takes k turn.line next.outcome next.after) (again_regated start again same) here in
    let one = taken_alike start turn.after next.after again.has_gate turn.outcome next.outcome turn.line takes there in
    let more = same_run turn.after next.after end other turns also one.ends rest run then in
    record {
      same_replies = λ i. reply_of (one.outcomes i) (one.ends.state i).changes ++ more.same_replies i;
      same_states = λ i. made (one.outcomes i) (one.ends.state i) ++ more.same_states i;
      same_end = more.same_end;
    }
