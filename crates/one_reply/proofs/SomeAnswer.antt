-- This file shows that each line says a command or goes wrong at a place, and what of this is answered.
use Rattle.std.proofs.Common.{arith, ◌≡◌, ◌⊎◌, ℕ, ◌-◌, ◌<◌, ◌≤◌, ◌^◌, true, false, List, [], length, Result, Ok, Err}
use Rattle.std.proofs.Common.{Option, Some, None, IfSome, refl, sym, ap, subst, ◌∙◌, inl, inr}
use Rattle.std.specs.Option.{is_some}
use Rattle.std.proofs.lemmas.Bool.{true≢false}
use Rattle.std.proofs.lemmas.Option.{none-some}
use Rattle.line_grammar.specs.Lines.{Says, IsRefusal}
use Rattle.line_grammar.specs.Forms.{command_at}
use Rattle.line_grammar.specs.declared.command.Command.{Command}
use Rattle.line_grammar.specs.declared.command.Command.TheVariants as commands
use Rattle.line_grammar.specs.declared.fault.LineError.TheVariants.{Bad}
use Rattle.line_grammar.proofs.Refusals.{stops, spelled, no_command, fault_at}
use Rattle.realm_insert.specs.State.{State}
use Rattle.realm_insert.specs.Snapshots.{IsValidState}
use Rattle.realm_insert.specs.declared.refusal.Refusal.TheVariants.{Range}
use Rattle.realm_files.specs.Writing.{generation_of, renewed_place}
use Rattle.realm_store.specs.Keeping.{Kept, Group, SpendableKept, state_with, present, HasGroup, HasNoGroup}
use Rattle.realm_store.specs.Keeping.{with_group, without_group}
use Rattle.realm_store.specs.Leading.{LeadOnBy}
use Rattle.realm_store.specs.Making.{kept_with}
use Rattle.realm_store.specs.Renewing.{IsRenewed}
use Rattle.realm_store.specs.Sound.{IsSound}
use Rattle.rose_query.specs.Replies.{no_reply}
use Rattle.query_batch.specs.Answers.{TellsCommand, TellsLine}
use Rattle.query_batch.specs.Replies.{no_line_reply, too_long_reply, batch_change_reply}
use Rattle.rose_shell.specs.Answers.{Outcome, RefusedWhere, AnswersCheckpoint, IsBegin, IsEnd, IsGivenUp}
use Rattle.rose_shell.specs.Answers.{AnswersCommand, RefusesLine, StoreAnswers}
use Rattle.rose_shell.specs.Replies.{checkpoint_reply, no_generations_reply, begin_reply, commit_reply, abandon_reply}
use Rattle.rose_shell.specs.Replies.{in_group_reply, no_group_reply}
use Rattle.one_reply.specs.Answerable.{HasLed, HasSomeAnswer, HasSomeReplyInBatch}
use Rattle.one_reply.specs.Payloads.{FitsInPages}
use Rattle.one_reply.proofs.SomePayload.{some_payload}
use Rattle.one_reply.proofs.SomeReply.{some_reply}

-- what is read of the line is its command, or it is refused where no text goes on
pub says_or_not : (line : List ℕ) → ((c : Command) × Says line c) ⊎ ((at : ℕ) × IsRefusal line (Bad at))
says_or_not line = by (command_at line) refl
  where
    by : (read : Result Command ℕ) → command_at line ≡ read
        → ((c : Command) × Says line c) ⊎ ((at : ℕ) × IsRefusal line (Bad at))
    by (Ok c) is = inl (c, (spelled line c is).spelled)
    by (Err left) is =
        let stop = stops line left is in inr (length line - left, (no_command line left stop, fault_at line left stop))

-- ---- in a batch
-- a query is told as alone, and all else is refused
told_command : (c : Command) (s : State) → HasSomeReplyInBatch c s → IsValidState s → (reply : List ℕ) × TellsCommand c s reply
told_command (commands.Query q) s some valid = some_reply q s some valid
told_command (commands.Change c) s some valid = (batch_change_reply, refl)
told_command (commands.Batch size) s some valid = (batch_change_reply, refl)
told_command commands.Checkpoint s some valid = (batch_change_reply, refl)
told_command commands.Begin s some valid = (batch_change_reply, refl)
told_command commands.Commit s some valid = (batch_change_reply, refl)
told_command commands.Abandon s some valid = (batch_change_reply, refl)

-- a line by its command, or by the place where it goes wrong
pub told_line : (line : Option (List ℕ)) (s : State) → IsValidState s
    → ((c : Command) (text : List ℕ) → line ≡ Some text → Says text c → HasSomeReplyInBatch c s)
    → (reply : List ℕ) × TellsLine s line reply
told_line None s valid some = (too_long_reply, refl)
told_line (Some line) s valid some = elim (says_or_not line) [
  | inl (c, says) ↦ let (reply, tells) = told_command c s (some c line refl says) valid in (reply, inl (c, says, tells))
  | inr (at, refused) ↦ (no_line_reply at, inr (at, refused, refl))
]

-- ---- alone
-- a number is below another, or not
less_or_not : (m n : ℕ) → (m < n) ⊎ (n ≤ m)
less_or_not m n = grind arith

-- a line has this outcome from the store, with some reply
abbrev HasOutcome : Outcome → SpendableKept → Type 0
HasOutcome outcome old = (reply : List ℕ) × (new : SpendableKept) × outcome old reply new × (new.spent ≡ false)

-- a group is open or none is, and where it decides that the line is refused, it is
where_open : (refusal : List ℕ) (outcome : Outcome) (old : SpendableKept) → old.spent ≡ false
    → (HasNoGroup old → HasOutcome outcome old) → HasOutcome (RefusedWhere HasGroup refusal outcome) old
where_open refusal outcome old ready some = by old.group refl
  where
    by : (group : Option Group) → old.group ≡ group → HasOutcome (RefusedWhere HasGroup refusal outcome) old
    by (Some group) is = (refusal, old, inl (ap is_some is, refl, refl), ready)
    by None is =
        let (reply, new, answers, unspent) = some is in
        (reply, new, inr (λ has. true≢false (sym has ∙ ap is_some is), answers), unspent)

where_none : (refusal : List ℕ) (outcome : Outcome) (old : SpendableKept) → old.spent ≡ false
    → ((group : Group) → old.group ≡ Some group → HasOutcome outcome old) → HasOutcome (RefusedWhere HasNoGroup refusal outcome) old
where_none refusal outcome old ready some = by old.group refl
  where
    by : (group : Option Group) → old.group ≡ group → HasOutcome (RefusedWhere HasNoGroup refusal outcome) old
    by None is = (refusal, old, inl (is, refl, refl), ready)
    by (Some group) is =
        let (reply, new, answers, unspent) = some group is in
        (reply, new, inr (λ none. none-some group (sym none ∙ is), answers), unspent)

-- there is a greater generation or none, and the state has a payload
some_checkpoint : (old : SpendableKept) → old.spent ≡ false → IsValidState (present old) → FitsInPages old.kept.state
    → HasNoGroup old → HasOutcome AnswersCheckpoint old
some_checkpoint old ready valid fits alone = by (less_or_not (generation_of old.kept.place) (2 ^ 63))
  where
    by : (generation_of old.kept.place < 2 ^ 63) ⊎ (2 ^ 63 ≤ generation_of old.kept.place) → HasOutcome AnswersCheckpoint old
    by (inr last) =
        (no_generations_reply, old, inl (record { is_last = last; reply_is = refl; kept_stays = refl }), ready)
    by (inl more) =
        let here : IsValidState old.kept.state =
        subst (λ (group : Option Group). IsValidState (state_with old.kept.state group)) alone valid in
        let (bytes, opens) = some_payload old.kept.state here fits in
        let kept : Kept =
        record { state = old.kept.state; place = Some (renewed_place old.kept.place bytes); has_gate = true } in
        let renewed : IsRenewed old.kept kept =
        record { state = refl; payload = bytes; opens = opens; place = refl; has_gate = refl } in (
          checkpoint_reply,
          without_group kept,
          inr (λ last. omega (arith, more, last), record { reply_is = refl; renewed = renewed; no_group = refl }),
          refl,
        )

-- the group ends
some_end : (old : SpendableKept) (group : Group) → old.group ≡ Some group → HasLed old → HasOutcome IsEnd old
some_end old group is has_led =
    let (leads, sound) : LeadOnBy old.kept.state group.entries group.state × IsSound group.state =
    subst (λ (o : Option Group). IfSome o (λ g. LeadOnBy old.kept.state g.entries g.state × IsSound g.state)) is has_led in (
      commit_reply (length group.entries),
      without_group (kept_with group.entries old.kept group),
      record {
        count = length group.entries;
        ends = record { group = group; was_open = is; count_is = refl; leads = leads; new_is = refl; sound = sound };
        reply_is = refl;
      },
      refl,
    )

-- each command by its table
answered_command : (c : Command) (old : SpendableKept) → old.spent ≡ false → HasSomeAnswer old c → IsValidState (present old)
    → HasOutcome (AnswersCommand c) old
answered_command (commands.Query q) old ready some valid =
    let (reply, answers) = some_reply q (present old) some valid in (reply, old, (answers, refl), ready)
answered_command (commands.Batch size) old ready some valid =
    (no_reply Range, old, record { is_out = some; reply_is = refl; kept_stays = refl }, ready)
answered_command (commands.Change c) old ready some valid = absurd some
answered_command commands.Checkpoint old ready some valid =
    where_open in_group_reply AnswersCheckpoint old ready (some_checkpoint old ready valid some)
answered_command commands.Begin old ready some valid = where_open in_group_reply IsBegin old ready
    (λ alone. (
      begin_reply,
      with_group old.kept (record { state = old.kept.state; entries = [] }),
      record { reply_is = refl; new_is = refl },
      refl,
    ))
answered_command commands.Commit old ready some valid =
    where_none no_group_reply IsEnd old ready (λ group is. some_end old group is some)
answered_command commands.Abandon old ready some valid = where_none no_group_reply IsGivenUp old ready
    (λ group is. (abandon_reply, without_group old.kept, record { reply_is = refl; new_is = refl }, refl))

-- the same of a line
pub answered_line : (line : List ℕ) (old : SpendableKept) → old.spent ≡ false → IsValidState (present old)
    → ((c : Command) → Says line c → HasSomeAnswer old c) → (reply : List ℕ) × (new : SpendableKept) × StoreAnswers old line reply new
answered_line line old ready valid some = elim (says_or_not line) [
  | inl (c, says) ↦
      let (reply, new, answers, unspent) = answered_command c old ready (some c says) valid in
      (reply, new, record { was_ready = ready; is_ready = unspent; outcome = inl (c, says, answers) })
  | inr (at, refused) ↦
      let refuses : RefusesLine line old (no_line_reply at) old =
      record { at = at; is_refusal = refused; reply_is = refl; kept_stays = refl } in
      (no_line_reply at, old, record { was_ready = ready; is_ready = ready; outcome = inr refuses })
]
