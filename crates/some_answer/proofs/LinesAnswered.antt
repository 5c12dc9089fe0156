-- This file shows that each line has an answer.
use Rattle.std.proofs.Common.{◌≡◌, ℕ, ◌-◌, false, List, [], ◌∷◌, ◌++◌, length, Option, Some, None, MatchOption}
use Rattle.std.proofs.Common.{refl, sym, subst, inl, inr}
use Rattle.grid_base.specs.declared.kinds.Step.{Step}
use Rattle.line_grammar.specs.Lines.{Says}
use Rattle.line_grammar.specs.Spellable.{IsSpellableChange}
use Rattle.line_grammar.specs.declared.command.Change.{Change}
use Rattle.line_grammar.specs.declared.command.Command.{Command}
use Rattle.line_grammar.specs.declared.command.Command.TheVariants as commands
use Rattle.realm_insert.specs.Next.{Next}
use Rattle.realm_insert.specs.Snapshots.{IsValidState}
use Rattle.realm_insert.specs.State.{State}
use Rattle.realm_insert.specs.declared.refusal.Refusal.{Refusal}
use Rattle.realm_store.specs.Keeping.{Group, SpendableKept, state_with, present, with_group, without_group}
use Rattle.realm_store.specs.Making.{HasRoom, entry_of, record_of, kept_behind, IsMade, IsRefusedFor, Joins, Commits}
use Rattle.realm_store.specs.Replies.{ok_reply}
use Rattle.realm_store.specs.Sound.{IsSound}
use Rattle.rose_query.specs.Replies.{no_reply}
use Rattle.rose_shell.specs.Answers.{AnswersChange, StoreAnswers}
use Rattle.one_reply.specs.Answerable.{IsDrawnOnGrid, HasSomeAnswer}
use Rattle.one_reply.proofs.OneLine.{one_command}
use Rattle.one_reply.proofs.Rooms.{room_or_not}
use Rattle.one_reply.proofs.SomeAnswer.{says_or_not, answered_line}
use Rattle.some_answer.specs.Answered.{HasFewOriginals, IsAnswered}
use Rattle.some_answer.proofs.NewState.{new_sound}
use Rattle.some_answer.proofs.SomeChange.{some_change}

-- the change has an answer, and the store isn't spent then
record HasAnswer (c : Change) (old : SpendableKept) : Type 0 where
  reply : List ℕ
  new : SpendableKept
  unspent : new.spent ≡ false
  answers : AnswersChange c old reply new

-- a refusal names the cause, and the store stays
refused : (c : Change) (old : SpendableKept) (word : Refusal) → old.spent ≡ false → IsRefusedFor c (present old) old.kept word
    → HasAnswer c old
refused c old word ready is = record {
  reply = no_reply word;
  new = old;
  unspent = ready;
  answers = inl (record { refusal = word; is_refused = is; reply_is = refl; kept_stays = refl });
}

-- what is made is written, or joins the group
committed : (c : Change) (old : SpendableKept) (steps : List Step) (state : State) (group : Option Group) → old.group ≡ group
    → Next (state_with old.kept.state group) c steps state → IsSound state → HasRoom old.kept → HasAnswer c old
committed c old steps state None alone next sound room =
    let kept = kept_behind old.kept (record_of c steps state.changes) state in
    let reply = ok_reply state.changes (length steps) old.kept.state.next_id (state.next_id - old.kept.state.next_id) in
    let made : IsMade c old.kept reply kept =
    record { steps = steps; makes = record { next = next; place = refl; has_gate = refl; room = room }; sound = sound; reply_is = refl } in
    let new = without_group kept in
    let commits : Commits c old reply new =
    subst (λ (o : Option Group). MatchOption o (IsMade c old.kept reply kept × (new.group ≡ None))
    (λ group. (new.kept ≡ old.kept) × ((more : Group) × (new.group ≡ Some more) × Joins c old.kept group reply more))) (sym alone)
    (made, refl) in
    record { reply = reply; new = new; unspent = refl; answers = inr commits }
committed c old steps state (Some group) open_group next sound room =
    let more : Group = record { state = state; entries = group.entries ++ entry_of c steps ∷ [] } in
    let reply = ok_reply state.changes (length steps) group.state.next_id (state.next_id - group.state.next_id) in
    let joins : Joins c old.kept group reply more =
    record { steps = steps; next = next; entries = refl; room = room; sound = sound; reply_is = refl } in
    let new = with_group old.kept more in
    let commits : Commits c old reply new =
    subst (λ (o : Option Group). MatchOption o (IsMade c old.kept reply new.kept × (new.group ≡ None))
    (λ group. (new.kept ≡ old.kept) × ((more : Group) × (new.group ≡ Some more) × Joins c old.kept group reply more))) (sym open_group)
    (refl, (more, refl, joins)) in
    record { reply = reply; new = new; unspent = refl; answers = inr commits }

-- a change is refused for a cause in the state, or where there is no room for its record, and else made
answered : (c : Change) (old : SpendableKept) → old.spent ≡ false → IsSpellableChange c → IsValidState (present old)
    → IsDrawnOnGrid (present old) → HasFewOriginals c (present old) → HasAnswer c old
answered c old ready spellable valid grid few = elim (some_change c (present old) valid grid) [
  | inl (word, is) ↦ refused c old word ready (inl is)
  | inr (steps, state, next) ↦ elim (room_or_not old.kept) [
    | inl room ↦ committed c old steps state old.group refl next
        (new_sound c (present old) state steps valid grid next spellable few) room
    | inr (word, lacks) ↦ refused c old word ready (inr (next.accepted, lacks))
  ]
]

-- ---- lines
module _ (line : List ℕ) (old : SpendableKept) (ready : old.spent ≡ false) (valid : IsValidState (present old)) where
  -- any other command has an answer by the table
  other : (c : Command) → Says line c → HasSomeAnswer old c → (reply : List ℕ) × (new : SpendableKept) × StoreAnswers old line reply new
  other c says some =
      answered_line line old ready valid (λ d also. subst (HasSomeAnswer old) (one_command line c d says also) some)

  by_command : (c : Command) → Says line c → IsAnswered old c → (reply : List ℕ) × (new : SpendableKept) × StoreAnswers old line reply new
  by_command (commands.Change c) says some =
      let answer = answered c old ready says.0 valid some.0 some.1 in (
        answer.reply,
        answer.new,
        record { was_ready = ready; is_ready = answer.unspent; outcome = inl (commands.Change c, says, answer.answers) },
      )
  by_command c says some = other c says some

  pub some_answer : ((c : Command) → Says line c → IsAnswered old c)
      → (reply : List ℕ) × (new : SpendableKept) × StoreAnswers old line reply new
  some_answer each = elim (says_or_not line) [
    | inl (c, says) ↦ by_command c says (each c says)
    | inr (at, refused) ↦ answered_line line old ready valid (λ c says. absurd (refused.0 c says))
  ]
