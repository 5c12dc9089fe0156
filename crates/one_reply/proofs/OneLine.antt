-- This file shows that a line has one answer, in a batch and alone, but for the trace of a change that is made.
use Rattle.std.proofs.Common.{◌≡◌, ℕ, List, [], ◌∷◌, ◌++◌, length, Option, Some, None, sym, ap, ap₂, subst, ◌∙◌, inl, inr, arith}
use Rattle.std.proofs.lemmas.Option.{same_Some}
use Rattle.line_grammar.specs.Lines.{Says, IsFaultAt}
use Rattle.line_grammar.specs.declared.command.Change.{Change}
use Rattle.line_grammar.specs.declared.command.Command.{Command}
use Rattle.line_grammar.specs.declared.command.Command.TheVariants as commands
use Rattle.line_grammar.proofs.Commands.{one_command as one_spelled}
use Rattle.realm_insert.specs.State.{State, AreLatest}
use Rattle.realm_files.specs.Writing.{renewed_place}
use Rattle.realm_store.specs.Keeping.{Group, SpendableKept, present, HasGroup, HasNoGroup, without_group}
use Rattle.realm_store.specs.Making.{kept_with}
use Rattle.realm_store.specs.Renewing.{IsRenewed}
use Rattle.rose_query.specs.Replies.{no_reply}
use Rattle.query_batch.specs.Joined.{AreJoined}
use Rattle.query_batch.specs.Replies.{no_line_reply}
use Rattle.query_batch.specs.Answers.{TellsCommand, TellsText, TellsLine}
use Rattle.rose_shell.specs.Answers.{Outcome, RefusedWhere, AnswersChange, AnswersCheckpoint, IsBegin, IsEnd, IsGivenUp}
use Rattle.rose_shell.specs.Answers.{AnswersCommand, AnswersLine, StoreAnswers}
use Rattle.rose_shell.specs.Replies.{commit_reply, in_group_reply, no_group_reply}
use Rattle.one_reply.specs.Outcomes.{IsOneOutcome}
use Rattle.one_reply.proofs.OnePayload.{one_payload}
use Rattle.one_reply.proofs.OneChange.{one_refusal, not_both, same_kept, commits_twice}
use Rattle.one_reply.proofs.OneQuery.{IsOne, one_query}

-- ---- what a line says
-- a text is that of one command
pub one_command : (line : List ℕ) (c d : Command) → Says line c → Says line d → c ≡ d
one_command line c d one other = one_spelled c d one.0 other.0 (sym one.1 ∙ other.1)

-- and where it goes wrong
one_fault : (line : List ℕ) (m n : ℕ) → IsFaultAt line m → IsFaultAt line n → m ≡ n
one_fault line m n one other =
    let up = other.no_more m one.within one.begins in
    let down = one.no_more n other.within other.begins in
    omega (arith, up, down)

-- ---- lines of a batch
-- a query is answered as it is alone, and all other commands alike
one_told : (c : Command) (s : State) → AreLatest s.changes s.traces → IsOne (TellsCommand c) s
one_told (commands.Query q) s latest first second one other = one_query q s latest first second one other
one_told (commands.Change c) s latest first second one other = one ∙ sym other
one_told (commands.Batch size) s latest first second one other = one ∙ sym other
one_told commands.Checkpoint s latest first second one other = one ∙ sym other
one_told commands.Begin s latest first second one other = one ∙ sym other
one_told commands.Commit s latest first second one other = one ∙ sym other
one_told commands.Abandon s latest first second one other = one ∙ sym other

-- a line is a command's text, or goes wrong at one place
one_text : (line : List ℕ) (s : State) → AreLatest s.changes s.traces → (first second : List ℕ) → TellsText s line first
    → TellsText s line second → first ≡ second
one_text line s latest first second (inl (c, says, tells)) (inl (d, says_too, tells_too)) =
    let same = one_command line d c says_too says in
    one_told c s latest first second tells (subst (λ (e : Command). TellsCommand e s second) same tells_too)
one_text line s latest first second (inl (c, says, tells)) (inr (at, refused, is)) = absurd (refused.0 c says)
one_text line s latest first second (inr (at, refused, is)) (inl (c, says, tells)) = absurd (refused.0 c says)
one_text line s latest first second (inr (at, refused, is)) (inr (place, also, is_too)) =
    is ∙ ap no_line_reply (one_fault line at place refused.1 also.1) ∙ sym is_too

-- so it is with each line of a batch
pub one_of_batch : (line : Option (List ℕ)) (s : State) → AreLatest s.changes s.traces → (first second : List ℕ)
    → TellsLine s line first → TellsLine s line second → first ≡ second
one_of_batch None s latest first second one other = one ∙ sym other
one_of_batch (Some line) s latest first second one other = one_text line s latest first second one other

-- texts that are one each are one when they are joined
pub one_joined : {A : Type 0} (has_text : A → List ℕ → Type 0)
    → ((x : A) (first second : List ℕ) → has_text x first → has_text x second → first ≡ second) → (xs : List A)
    → (first second : List ℕ) → AreJoined has_text xs first → AreJoined has_text xs second → first ≡ second
one_joined has_text alone [] first second one other = one ∙ sym other
one_joined has_text alone (x ∷ xs) first second (text, rest, has, is, joined) (other, more, has_too, is_too, joined_too) =
    is ∙ ap₂ (λ (a b : List ℕ). a ++ b) (alone x text other has has_too) (one_joined has_text alone xs rest more joined joined_too)
    ∙ sym is_too

-- ---- lines alone
-- the same part by part
same_store : (new other : SpendableKept) → new.kept ≡ other.kept → new.group ≡ other.group → new.spent ≡ other.spent → new ≡ other
same_store new other kept group spent = λ i. record { kept = kept i; group = group i; spent = spent i }

module _ (line : List ℕ) (old : SpendableKept) (first : List ℕ) (new : SpendableKept) (second : List ℕ) (other : SpendableKept) where
  -- a change is refused by one word, or committed
  one_change : (c : Change) → Says line (commands.Change c) → AnswersChange c old first new → AnswersChange c old second other
      → IsOneOutcome line old first new second other
  one_change c says (inl one) (inl also) =
      let word = one_refusal c (present old) old.kept one.refusal also.refusal one.is_refused also.is_refused in
      inl (one.reply_is ∙ ap no_reply word ∙ sym also.reply_is, one.kept_stays ∙ sym also.kept_stays)
  one_change c says (inl one) (inr made) = absurd (not_both c old one.refusal second other one.is_refused made)
  one_change c says (inr made) (inl also) = absurd (not_both c old also.refusal first new also.is_refused made)
  one_change c says (inr made) (inr again) = inr (c, says, commits_twice c old first new second other made again)

  -- both are one reply and lead to one store
  abbrev pub AreOne : Type 0
  AreOne = (first ≡ second) × (new ≡ other)

  -- the cause decides whether the line is refused
  one_unless : (cause : SpendableKept → Type 0) (refusal : List ℕ) (outcome : Outcome)
      → (outcome old first new → outcome old second other → AreOne)
      → RefusedWhere cause refusal outcome old first new → RefusedWhere cause refusal outcome old second other → AreOne
  one_unless cause refusal outcome one (inl (holds, is, stays)) (inl (also, is_too, stays_too)) =
      (is ∙ sym is_too, stays ∙ sym stays_too)
  one_unless cause refusal outcome one (inl (holds, is, stays)) (inr (none, answers)) = absurd (none holds)
  one_unless cause refusal outcome one (inr (none, answers)) (inl (holds, is, stays)) = absurd (none holds)
  one_unless cause refusal outcome one (inr (none, answers)) (inr (also, answers_too)) = one answers answers_too

  -- the same state has the same payload
  one_renewed : IsRenewed old.kept new.kept → IsRenewed old.kept other.kept → new.kept ≡ other.kept
  one_renewed one also =
      let payload = one_payload old.kept.state one.payload also.payload one.opens also.opens in
      same_kept new.kept other.kept (one.state ∙ sym also.state)
      (one.place ∙ ap (λ (p : List ℕ). Some (renewed_place old.kept.place p)) payload ∙ sym also.place)
      (one.has_gate ∙ sym also.has_gate)

  -- a checkpoint is made where there is a greater generation
  one_checkpoint : new.spent ≡ other.spent → AnswersCheckpoint old first new → AnswersCheckpoint old second other → AreOne
  one_checkpoint spent (inl last) (inl also) = (last.reply_is ∙ sym also.reply_is, last.kept_stays ∙ sym also.kept_stays)
  one_checkpoint spent (inl last) (inr (more, one)) = absurd (more last.is_last)
  one_checkpoint spent (inr (more, one)) (inl last) = absurd (more last.is_last)
  one_checkpoint spent (inr (more, one)) (inr (more_too, also)) = (
    one.reply_is ∙ sym also.reply_is,
    same_store new other (one_renewed one.renewed also.renewed) (one.no_group ∙ sym also.no_group) spent,
  )

  -- the group that is open ends, and its record is one
  one_end : IsEnd old first new → IsEnd old second other → AreOne
  one_end one also =
      let group : one.ends.group ≡ also.ends.group =
      same_Some one.ends.group also.ends.group (sym one.ends.was_open ∙ also.ends.was_open) in
      let count = one.ends.count_is ∙ ap (λ (g : Group). length g.entries) group ∙ sym also.ends.count_is in (
        one.reply_is ∙ ap commit_reply count ∙ sym also.reply_is,
        one.ends.new_is ∙ ap (λ (g : Group). without_group (kept_with g.entries old.kept g)) group ∙ sym also.ends.new_is,
      )

  -- a group is begun, or given up, in one way
  one_begin : IsBegin old first new → IsBegin old second other → AreOne
  one_begin one also = (one.reply_is ∙ sym also.reply_is, one.new_is ∙ sym also.new_is)

  one_given_up : IsGivenUp old first new → IsGivenUp old second other → AreOne
  one_given_up one also = (one.reply_is ∙ sym also.reply_is, one.new_is ∙ sym also.new_is)

  -- each command by its table
  one_answer : (c : Command) → Says line c → AreLatest (present old).changes (present old).traces → new.spent ≡ other.spent
      → AnswersCommand c old first new → AnswersCommand c old second other → IsOneOutcome line old first new second other
  one_answer (commands.Change c) says latest spent one also = one_change c says one also
  one_answer (commands.Query q) says latest spent one also =
      inl (one_query q (present old) latest first second one.0 also.0, one.1 ∙ sym also.1)
  one_answer (commands.Batch size) says latest spent one also =
      inl (one.reply_is ∙ sym also.reply_is, one.kept_stays ∙ sym also.kept_stays)
  one_answer commands.Checkpoint says latest spent one also =
      inl (one_unless HasGroup in_group_reply AnswersCheckpoint (one_checkpoint spent) one also)
  one_answer commands.Begin says latest spent one also = inl (one_unless HasGroup in_group_reply IsBegin one_begin one also)
  one_answer commands.Commit says latest spent one also = inl (one_unless HasNoGroup no_group_reply IsEnd one_end one also)
  one_answer commands.Abandon says latest spent one also =
      inl (one_unless HasNoGroup no_group_reply IsGivenUp one_given_up one also)

  -- a line says one command, or goes wrong at one place
  one_of_line : AreLatest (present old).changes (present old).traces → new.spent ≡ other.spent → AnswersLine old line first new
      → AnswersLine old line second other → IsOneOutcome line old first new second other
  one_of_line latest spent (inl (c, says, answers)) (inl (d, also, answers_too)) =
      let same = one_command line d c also says in
      one_answer c says latest spent answers (subst (λ (e : Command). AnswersCommand e old second other) same answers_too)
  one_of_line latest spent (inl (c, says, answers)) (inr refused) = absurd (refused.is_refusal.0 c says)
  one_of_line latest spent (inr refused) (inl (c, says, answers)) = absurd (refused.is_refusal.0 c says)
  one_of_line latest spent (inr refused) (inr also) =
      let place = one_fault line refused.at also.at refused.is_refusal.1 also.is_refusal.1 in
      inl (refused.reply_is ∙ ap no_line_reply place ∙ sym also.reply_is, refused.kept_stays ∙ sym also.kept_stays)

  -- neither store is spent then
  pub one_outcome : AreLatest (present old).changes (present old).traces → StoreAnswers old line first new
      → StoreAnswers old line second other → IsOneOutcome line old first new second other
  one_outcome latest one also = one_of_line latest (one.is_ready ∙ sym also.is_ready) one.outcome also.outcome
