-- This file shows that an answer is one step: what the files keep stays, or one commit more was made. Each step leads from sound
-- states to sound states, and one from a group to a group leaves what the files keep.
use Rattle.std.proofs.Common.{◌≡◌, ◌⊎◌, inl, inr, ℕ, ◌+◌, ◌-◌, ◌<◌, true, List, [], ◌∷◌, ◌++◌, length, codes}
use Rattle.std.proofs.Common.{refl, sym, ◌∙◌, ap, subst, arith, length-append}
use Rattle.std.specs.Prelude.{Option, Some, None, IsSome, MatchOption}
use Rattle.std.specs.Fmt.{decimal}
use Rattle.line_grammar.specs.declared.command.Command.TheVariants as commands
use Rattle.line_grammar.specs.declared.command.Change.{Change}
use Rattle.realm_insert.specs.State.{State}
use Rattle.record_codec.specs.declared.entry.Entry.{Entry}
use Rattle.realm_store.specs.Keeping.{Kept, Group, SpendableKept, HasGroup, HasNoGroup, state_with, without_group}
use Rattle.realm_store.specs.Leading.{LeadOnBy}
use Rattle.realm_store.specs.Making.{IsMade, Joins, kept_with}
use Rattle.realm_store.specs.Sound.{IsSound}
use Rattle.realm_store.specs.Replies.{ok_reply}
use Rattle.rose_query.specs.Replies.{line_feed}
use Rattle.rose_shell.specs.Replies.{commit_reply}
use Rattle.rose_shell.specs.Answers.{Outcome, RefusedWhere, AnswersChange, AnswersCheckpoint, IsCheckpoint, IsBegin, IsEnd, IsGivenUp}
use Rattle.rose_shell.specs.Answers.{AnswersCommand, AnswersLine}
use Rattle.rose_shell.specs.Running.{IsSoundStore}

-- of a commit: a change outside a group, or a whole group
pub record IsCommit (old : Kept) (reply : List ℕ) (new : Kept) : Type 0 where
  pub changes : old.state.changes < new.state.changes
  pub has_reply : 0 < length reply
  pub has_gate : new.has_gate ≡ true

-- the state stays, and a gate that was there is there
pub record StaysAt (old new : Kept) : Type 0 where
  pub state : new.state ≡ old.state
  pub has_gate : old.has_gate ≡ true → new.has_gate ≡ true

-- the state that the files keep stays, or one commit more was made
pub record IsOneStep (old : SpendableKept) (reply : List ℕ) (new : SpendableKept) : Type 0 where
  pub kept : StaysAt old.kept new.kept ⊎ IsCommit old.kept reply new.kept
  pub sound : IsSoundStore old → IsSoundStore new
  pub grouped : HasGroup old → HasGroup new → new.kept ≡ old.kept

-- ---- stores that stay

-- what is kept stays
pub stays_by : {old new : Kept} → new ≡ old → StaysAt old new
stays_by same = record {
  state = ap (λ (k : Kept). k.state) same;
  has_gate = λ has. ap (λ (k : Kept). k.has_gate) same ∙ has;
}

-- so does the whole store
pub stays_whole : {old new : SpendableKept} {reply : List ℕ} → new ≡ old → IsOneStep old reply new
stays_whole same = record {
  kept = inl (stays_by (ap (λ (s : SpendableKept). s.kept) same));
  sound = λ sound. subst (λ (s : SpendableKept). IsSoundStore s) (sym same) sound;
  grouped = λ _ _. ap (λ (s : SpendableKept). s.kept) same;
}

-- no group is open where none is
no_group : {P : Type 0} (s : SpendableKept) → s.group ≡ None → HasGroup s → P
no_group s none has =
    let never = subst (λ (g : Option Group). IsSome g) none has in
    absurd (cc)

-- a store without a group is in the state that it keeps
sound_alone : (s : SpendableKept) → s.group ≡ None → IsSound s.kept.state → IsSoundStore s
sound_alone s none sound =
    (sound, subst (λ (g : Option Group). IsSound (state_with s.kept.state g)) (sym none) sound)

-- ---- changes

-- the reply to a change begins with a word
reply_has_bytes : (change steps first added : ℕ) → 0 < length (ok_reply change steps first added)
reply_has_bytes change steps first added =
    let rest = decimal change ++ (codes " steps " ++ (decimal steps ++ (codes " first " ++ (decimal first
    ++ (codes " new " ++ (decimal added ++ 10 ∷ [])))))) in
    let word : length (codes "ok ") ≡ 3 = refl in
    omega (arith, length-append (codes "ok ") rest, word)

-- outside a group a change is one commit
made_steps : (c : Change) (old : SpendableKept) (reply : List ℕ) (new : SpendableKept) → IsMade c old.kept reply new.kept
    → new.group ≡ None → IsOneStep old reply new
made_steps c old reply new made none =
    let next = made.makes.next in
    record {
      kept = inr record {
        changes = omega (arith, next.changes);
        has_reply = subst (λ (l : List ℕ). 0 < length l) (sym made.reply_is)
            (reply_has_bytes new.kept.state.changes (length made.steps) old.kept.state.next_id
            (new.kept.state.next_id - old.kept.state.next_id));
        has_gate = made.makes.has_gate;
      };
      sound = λ _. sound_alone new none made.sound;
      grouped = λ _ has. no_group new none has;
    }

-- in one what the files keep stays
joins_steps : (c : Change) (old : SpendableKept) (group more : Group) (reply : List ℕ) (new : SpendableKept)
    → new.kept ≡ old.kept → new.group ≡ Some more → Joins c old.kept group reply more → IsOneStep old reply new
joins_steps c old group more reply new stays is joins = record {
  kept = inl (stays_by stays);
  sound = λ sound. (
    subst (λ (k : Kept). IsSound k.state) (sym stays) sound.0,
    subst (λ (g : Option Group). IsSound (state_with new.kept.state g)) (sym is) joins.sound,
  );
  grouped = λ _ _. stays;
}

committed_steps : (c : Change) (old : SpendableKept) (reply : List ℕ) (new : SpendableKept) (group : Option Group)
    → MatchOption group (IsMade c old.kept reply new.kept × (new.group ≡ None))
    (λ old_group. (new.kept ≡ old.kept) × ((more : Group) × (new.group ≡ Some more) × Joins c old.kept old_group reply more))
    → IsOneStep old reply new
committed_steps c old reply new None made = made_steps c old reply new made.0 made.1
committed_steps c old reply new (Some group) joined =
    joins_steps c old group joined.1.0 reply new joined.0 joined.1.1 joined.1.2

change_steps : (c : Change) (old : SpendableKept) (reply : List ℕ) (new : SpendableKept) → AnswersChange c old reply new
    → IsOneStep old reply new
change_steps c old reply new (inl refused) = stays_whole refused.kept_stays
change_steps c old reply new (inr committed) = committed_steps c old reply new old.group committed

-- ---- checkpoints

renewed_steps : (old : SpendableKept) (reply : List ℕ) (new : SpendableKept) → IsCheckpoint old reply new → IsOneStep old reply new
renewed_steps old reply new done = record {
  kept = inl record { state = done.renewed.state; has_gate = λ _. done.renewed.has_gate };
  sound = λ sound. sound_alone new done.no_group (subst (λ (s : State). IsSound s) (sym done.renewed.state) sound.0);
  grouped = λ _ has. no_group new done.no_group has;
}

checkpoint_steps : (old : SpendableKept) (reply : List ℕ) (new : SpendableKept) → AnswersCheckpoint old reply new
    → IsOneStep old reply new
checkpoint_steps old reply new (inl refused) = stays_whole refused.kept_stays
checkpoint_steps old reply new (inr done) = renewed_steps old reply new done.1

-- ---- groups

-- a line is refused where there is a cause, and else is a step
refused_steps : (cause : SpendableKept → Type 0) (refusal : List ℕ) (outcome : Outcome) (old : SpendableKept) (reply : List ℕ)
    (new : SpendableKept) → (outcome old reply new → IsOneStep old reply new) → RefusedWhere cause refusal outcome old reply new
    → IsOneStep old reply new
refused_steps cause refusal outcome old reply new steps (inl refused) = stays_whole refused.2
refused_steps cause refusal outcome old reply new steps (inr done) = steps done.1

begin_steps : (old : SpendableKept) (reply : List ℕ) (new : SpendableKept) → IsBegin old reply new → IsOneStep old reply new
begin_steps old reply new done =
    subst (λ (s : SpendableKept). IsOneStep old reply s) (sym done.new_is)
    (record { kept = inl (stays_by refl); sound = λ sound. (sound.0, sound.0); grouped = λ _ _. refl })

-- a store that keeps the same, without a group
alone_steps : (old : SpendableKept) (reply : List ℕ) → IsOneStep old reply (without_group old.kept)
alone_steps old reply =
    record {
      kept = inl (stays_by refl);
      sound = λ sound. (sound.0, sound.0);
      grouped = λ _ has. no_group (without_group old.kept) refl has;
    }

given_up_steps : (old : SpendableKept) (reply : List ℕ) (new : SpendableKept) → IsGivenUp old reply new → IsOneStep old reply new
given_up_steps old reply new done =
    subst (λ (s : SpendableKept). IsOneStep old reply s) (sym done.new_is) (alone_steps old reply)

-- each entry is one change more
pub changes_led : (start : State) (entries : List Entry) (end : State) → LeadOnBy start entries end
    → end.changes ≡ start.changes + length entries
changes_led start [] end same = omega (arith, ap (λ (s : State). s.changes) same)
changes_led start (e ∷ entries) end (mid, by, more) = omega (arith, by.next.changes, changes_led mid entries end more)

-- the reply to a commit begins with a word
commit_has_bytes : (count : ℕ) → 0 < length (commit_reply count)
commit_has_bytes count =
    let word : length (codes "ok commit ") ≡ 10 = refl in
    omega (arith, length-append (codes "ok commit ") (decimal count ++ line_feed), word)

-- a group with a change is one commit
ended_steps : (old : SpendableKept) (group : Group) (entries : List Entry) (count : ℕ)
    → LeadOnBy old.kept.state entries group.state → IsSound group.state
    → IsOneStep old (commit_reply count) (without_group (kept_with entries old.kept group))
ended_steps old group [] count leads sound = alone_steps old (commit_reply count)
ended_steps old group (e ∷ entries) count leads sound = record {
  kept = inr record {
    changes = omega (arith, changes_led old.kept.state (e ∷ entries) group.state leads);
    has_reply = commit_has_bytes count;
    has_gate = refl;
  };
  sound = λ _. (sound, sound);
  grouped = λ _ has. no_group (without_group (kept_with (e ∷ entries) old.kept group)) refl has;
}

end_steps : (old : SpendableKept) (reply : List ℕ) (new : SpendableKept) → IsEnd old reply new → IsOneStep old reply new
end_steps old reply new done =
    let ends = done.ends in
    subst (λ (s : SpendableKept). IsOneStep old reply s) (sym ends.new_is)
    (subst (λ (r : List ℕ). IsOneStep old r (without_group (kept_with ends.group.entries old.kept ends.group))) (sym done.reply_is)
    (ended_steps old ends.group ends.group.entries done.count ends.leads ends.sound))

-- ---- lines

command_steps : (c : commands.the_data) (old : SpendableKept) (reply : List ℕ) (new : SpendableKept) → AnswersCommand c old reply new
    → IsOneStep old reply new
command_steps (commands.Change c) old reply new answered = change_steps c old reply new answered
command_steps (commands.Query q) old reply new answered = stays_whole answered.1
command_steps (commands.Batch size) old reply new refused = stays_whole refused.kept_stays
command_steps commands.Checkpoint old reply new answered =
    refused_steps HasGroup _ AnswersCheckpoint old reply new (checkpoint_steps old reply new) answered
command_steps commands.Begin old reply new answered =
    refused_steps HasGroup _ IsBegin old reply new (begin_steps old reply new) answered
command_steps commands.Commit old reply new answered =
    refused_steps HasNoGroup _ IsEnd old reply new (end_steps old reply new) answered
command_steps commands.Abandon old reply new answered =
    refused_steps HasNoGroup _ IsGivenUp old reply new (given_up_steps old reply new) answered

-- what a line is answered
pub line_steps : (old : SpendableKept) (line reply : List ℕ) (new : SpendableKept) → AnswersLine old line reply new
    → IsOneStep old reply new
line_steps old line reply new (inl said) = command_steps said.0 old reply new said.2
line_steps old line reply new (inr refused) = stays_whole refused.kept_stays
