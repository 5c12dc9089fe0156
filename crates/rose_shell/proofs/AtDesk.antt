-- This file shows what the store's answer to a change, to a checkpoint and to the lines of a group is at the desk.
use Rattle.std.proofs.Common.{◌≡◌, ◌⊎◌, ◌↔◌, inl, inr, Bool, true, false, List, ℕ, ◌<◌, refl, sym, ◌∙◌, ap, subst}
use Rattle.std.specs.Prelude.{◌≢◌, Option, Some, None, is_some, MatchOption, MatchResult, Result, Ok, Err, IfOk, OnOk, IsErrOf}
use Rattle.grid_base.specs.declared.memory.NoMemory.{NoMemory as Shortage}
use Rattle.outside_world.specs.Counts.{Rose}
use Rattle.outside_world.specs.declared.world.Outside.{Ghosts}
use Rattle.line_grammar.specs.Lines.{Says}
use Rattle.line_grammar.specs.declared.command.Change.{Change}
use Rattle.line_grammar.specs.declared.command.Query.{Query}
use Rattle.line_grammar.specs.declared.command.Command.{Command}
use Rattle.line_grammar.specs.declared.command.Command.TheVariants as commands
use Rattle.realm_insert.specs.State.{State}
use Rattle.realm_insert.specs.declared.refusal.Refusal.{Refusal}
use Rattle.realm_insert.specs.declared.refusal.Refusal.TheVariants.{Range}
use Rattle.realm_store.specs.Keeping.{Kept, Group, SpendableKept, present, HasGroup, changes_of, changes_in}
use Rattle.realm_store.specs.Keeping.{AllRest}
use Rattle.realm_store.specs.Making.{IsMade, Joins, Commits, Ends, IsRefusedFor}
use Rattle.realm_store.specs.Committing.{IsWritten, IsReplaced}
use Rattle.realm_store.specs.Renewing.{IsRenewed, HasLastGeneration}
use Rattle.realm_store.specs.declared.error.CommitError.{CommitError}
use Rattle.realm_store.specs.declared.error.CommitError.TheVariants as commits
use Rattle.realm_store.specs.declared.error.CheckpointError.{CheckpointError}
use Rattle.realm_store.specs.declared.error.CheckpointError.TheVariants as checkpoints
use Rattle.realm_store.specs.declared.error.EndError.{EndError}
use Rattle.realm_store.specs.declared.error.EndError.TheVariants as ends
use Rattle.rose_shell.specs.declared.fault.Fault.{Fault}
use Rattle.rose_shell.specs.declared.fault.Fault.TheVariants.{NoMemory}
use Rattle.rose_query.specs.Replies.{no_reply}
use Rattle.rose_query.specs.Answers.{AnswersQuery}
use Rattle.rose_shell.specs.Batches.{IsInRange}
use Rattle.rose_shell.specs.Answers.{AnswersCommand, AnswersLine}
use Rattle.rose_shell.specs.AtDesk.{AtDesk, IsSaid}
use Rattle.rose_shell.specs.Replies.{checkpoint_reply, commit_reply, in_group_reply}
use Rattle.rose_shell.specs.Desk.{Settled, CutShort}
use Rattle.rose_shell.specs.Running.{StoreTerms, ready_store}
use Rattle.rose_shell.specs.Loop.{ToldOfChange, ToldOfCheckpoint, ToldOfEnd}
use Rattle.rose_shell.proofs.Treatments.{settled_still}
use Rattle.rose_shell.proofs.Stores.{rests_at_desk, none_open, not_open, settled_same, change_written, change_cut_off}
use Rattle.rose_shell.proofs.Stores.{group_written, group_cut_off, checkpoint_written, checkpoint_cut_off}

-- a test has one of two results
pub not_true : (test : Bool) → (test ≡ true → ⊥) → test ≡ false
not_true true false_then = absurd (false_then refl)
not_true false false_then = refl

pub not_false : (test : Bool) → (test ≡ false → ⊥) → test ≡ true
not_false true true_then = refl
not_false false true_then = absurd (true_then refl)

not_both : {test : Bool} → test ≡ true → test ≡ false → ⊥
not_both is other = cc

-- a group that is open
is_open : {group : Group} (start : SpendableKept) → start.group ≡ Some group → HasGroup start
is_open start is = subst (λ (g : Option Group). is_some g ≡ true) (sym is) refl

has_some : {group : Group} (start : SpendableKept) → start.group ≡ Some group → start.group ≡ None → ⊥
has_some start is none = not_open start.group (is_open start is) none

-- the number of its changes
counted : {start end : SpendableKept} {count : ℕ} → Ends start count end → commit_reply (changes_in start) ≡ commit_reply count
counted ended =
    ap (λ (g : Option Group). commit_reply (changes_of g)) ended.was_open ∙ ap (λ (n : ℕ). commit_reply n) (sym ended.count_is)

module _ {World : Type 0} (outside : Ghosts World) where
  -- the store and the world are as they were, and there is a reply
  still_at_desk : {old new : World} {start end : SpendableKept} {line reply : List ℕ} {told : Result (List ℕ) Fault} → new ≡ old
      → end ≡ start → told ≡ Ok reply → start.spent ≡ false → outside.failed old ≡ false
      → (outside.tells old → AllRest start.kept (outside.view old))
      → AnswersLine start line reply start → AtDesk outside old new start end line told
  still_at_desk {old} {new} {start} {end} {line} {reply} {told} still same is ready intact rest answer =
      subst (λ (w : World). AtDesk outside old w start end line told) (sym still)
      (subst (λ (s : SpendableKept). AtDesk outside old old start s line told) (sym same)
      (subst (λ (r : Result (List ℕ) Fault). AtDesk outside old old start start line r) (sym is)
      (record {
        answer = record { was_ready = ready; is_ready = ready; outcome = answer };
        ready = λ memory disk. ready;
        intact = intact;
        caused = tt;
        spent = λ never. absurd (cc);
        told = λ tells. settled_still (rests_at_desk (rest tells));
      })))

  -- memory ran out before there was one, whatever has become of the store
  pub spent_at_desk : {old new : World} {start end : SpendableKept} {line : List ℕ} {told : Result (List ℕ) Fault} → new ≡ old
      → told ≡ Err NoMemory → outside.failed old ≡ false → (outside.tells old → AllRest start.kept (outside.view old))
      → AtDesk outside old new start end line told
  spent_at_desk {old} {new} {start} {end} {line} {told} still is intact rest =
      subst (λ (w : World). AtDesk outside old w start end line told) (sym still)
      (subst (λ (r : Result (List ℕ) Fault). AtDesk outside old old start end line r) (sym is)
      (record {
        answer = tt;
        ready = λ memory disk. absurd (memory refl);
        intact = tt;
        caused = intact;
        spent = λ never. absurd (cc);
        told = λ tells. settled_still (rests_at_desk (rest tells));
      }))

  -- outside a group a change is written, and in one the world is as it was
  change_settled : {old new : World} {P : Type 0} (c : Change) (start : SpendableKept) (reply : List ℕ) (end : SpendableKept)
      (group : Option Group) → (outside.tells old → AllRest start.kept (outside.view old)) → start.group ≡ group
      → (HasGroup start → (new ≡ old) × P)
      → MatchOption group (IsMade c start.kept reply end.kept × (end.group ≡ None))
      (λ before. (end.kept ≡ start.kept) × ((more : Group) × (end.group ≡ Some more) × Joins c start.kept before reply more))
      → IsWritten (outside.view old) (outside.view new) start.kept end.kept → AllRest end.kept (outside.view new)
      → outside.tells new → Settled StoreTerms (outside.view old) (outside.view new) start end
  change_settled c start reply end None rest is grouped made written rests tells = change_written made.0 written rests
  change_settled {old} c start reply end (Some group) rest is grouped joined written rests tells =
      let still = (grouped (is_open start is)).0 in
      subst (λ (w : World). Settled StoreTerms (outside.view old) (outside.view w) start end) (sym still)
      (settled_same (rest (subst (λ (w : World). outside.tells w) still tells)) joined.0)

  -- the disk failed while one was written
  change_cut : {old new : World} (c : Change) (start : SpendableKept) (line reply : List ℕ) (after : SpendableKept)
      → start.spent ≡ false → Says line (commands.Change c) → start.group ≡ None → Commits c start reply after
      → IsWritten (outside.view old) (outside.view new) start.kept after.kept
      → CutShort StoreTerms (outside.view old) (outside.view new) start line
  change_cut c start line reply after ready says none commits written =
      let made = (subst (λ (g : Option Group). MatchOption g (IsMade c start.kept reply after.kept × (after.group ≡ None))
      (λ group. (after.kept ≡ start.kept) × ((more : Group) × (after.group ≡ Some more) × Joins c start.kept group reply more)))
      none commits).0 in
      let alone : Commits c start reply (ready_store after.kept) =
      subst (λ (g : Option Group). MatchOption g (IsMade c start.kept reply after.kept × ((ready_store after.kept).group ≡ None))
      (λ group. (after.kept ≡ start.kept)
      × ((more : Group) × ((ready_store after.kept).group ≡ Some more) × Joins c start.kept group reply more)))
      (sym none) (made, refl) in
      let answer : StoreTerms.answers start line reply (ready_store after.kept) =
      record { was_ready = ready; is_ready = refl; outcome = inl (commands.Change c, says, inr alone) } in
      change_cut_off c says none made answer written

  module _ {old new : World} {start end : SpendableKept} {line : List ℕ} (ready : start.spent ≡ false)
      (intact : outside.failed old ≡ false) (rest : outside.tells old → AllRest start.kept (outside.view old)) where
    -- a change is made, or refused, or memory runs out, or the disk fails
    pub change_at_desk : (c : Change) (done : Result (List ℕ) CommitError) {told : Result (List ℕ) Fault} → ToldOfChange done told
        → Says line (commands.Change c)
        → IfOk done (λ reply. Commits c start reply end)
        → ((word : Refusal) → done ≡ Err (commits.Refused word)
        → IsRefusedFor c (present start) start.kept word × (end ≡ start) × (new ≡ old))
        → (HasGroup start → (new ≡ old) × (done ≢ Err commits.Disk))
        → (done ≡ Err commits.NoMemory → new ≡ old)
        → ((end.spent ≡ true) ↔ ((done ≡ Err commits.Disk) ⊎ (done ≡ Err commits.NoMemory)))
        → (¬ (IsErrOf done commits.Disk) → outside.failed new ≡ false)
        → (IsErrOf done commits.Disk → Rose (outside.disk_faults old) (outside.disk_faults new))
        → OnOk done (outside.tells new → AllRest end.kept (outside.view new))
        → OnOk done (outside.tells new → IsWritten (outside.view old) (outside.view new) start.kept end.kept)
        → (IsErrOf done commits.Disk → outside.tells new → (reply : List ℕ) × (after : SpendableKept) × Commits c start reply after
        × IsWritten (outside.view old) (outside.view new) start.kept after.kept)
        → AtDesk outside old new start end line told
    change_at_desk c (Ok reply) is says made refused grouped untouched spent whole fault rests written cut_off =
        let unspent = not_true end.spent (λ spends. elim (spent.0 spends) [ inl disk ↦ cc | inr memory ↦ cc ]) in
        subst (λ (r : Result (List ℕ) Fault). AtDesk outside old new start end line r) (sym is)
        (record {
          answer = record { was_ready = ready; is_ready = unspent; outcome = inl (commands.Change c, says, inr made) };
          ready = λ memory disk. unspent;
          intact = whole (λ is. absurd (cc));
          caused = tt;
          spent = λ never. absurd (cc);
          told = λ tells. change_settled c start reply end start.group rest refl grouped made (written tells) (rests tells) tells;
        })
    change_at_desk c (Err (commits.Refused word)) (inl is) says made refused grouped untouched spent still_intact fault rests written
        cut_off =
        let why = refused word refl in
        still_at_desk why.2 why.1 is ready intact rest
        (inl (commands.Change c, says, inl record { refusal = word; is_refused = why.0; reply_is = refl; kept_stays = refl }))
    change_at_desk c (Err (commits.Refused word)) (inr is) says made refused grouped untouched spent still_intact fault rests written
        cut_off =
        spent_at_desk (refused word refl).2 is intact rest
    change_at_desk c (Err commits.Disk) is says made refused grouped untouched spent whole fault rests written cut_off =
        let spends = spent.1 (inl refl) in
        subst (λ (r : Result (List ℕ) Fault). AtDesk outside old new start end line r) (sym is)
        (record {
          answer = tt;
          ready = λ memory disk. absurd (disk refl);
          intact = tt;
          caused = fault refl;
          spent = λ _ unspent. not_both spends unspent;
          told = λ tells.
              let cut = cut_off refl tells in
              change_cut c start line cut.0 cut.1 ready says (none_open start.group (λ has. (grouped has).1 refl)) cut.2 cut.3;
        })
    change_at_desk c (Err commits.NoMemory) is says made refused grouped untouched spent whole fault rests written cut_off =
        spent_at_desk (untouched refl) is intact rest

    -- and so is a checkpoint
    pub checkpoint_at_desk : {reply : List ℕ} (done : Result Unit CheckpointError) {told : Result (List ℕ) Fault}
        → ToldOfCheckpoint reply done told → reply ≡ checkpoint_reply → Says line commands.Checkpoint
        → start.group ≡ None → OnOk done (IsRenewed start.kept end.kept) → OnOk done (end.group ≡ None)
        → (IsErrOf done checkpoints.Generations ↔ HasLastGeneration start.kept)
        → (IsErrOf done checkpoints.Generations → (end ≡ start) × (new ≡ old))
        → (IsErrOf done checkpoints.NoMemory → new ≡ old)
        → ((end.spent ≡ true) ↔ ((done ≡ Err checkpoints.Disk) ⊎ (done ≡ Err checkpoints.NoMemory)))
        → (¬ (IsErrOf done checkpoints.Disk) → outside.failed new ≡ false)
        → (IsErrOf done checkpoints.Disk → Rose (outside.disk_faults old) (outside.disk_faults new))
        → OnOk done (outside.tells new → AllRest end.kept (outside.view new))
        → OnOk done (outside.tells new → IsReplaced (outside.view old) (outside.view new) start.kept end.kept)
        → (IsErrOf done checkpoints.Disk → outside.tells new → (after : Kept) × IsRenewed start.kept after
        × IsReplaced (outside.view old) (outside.view new) start.kept after)
        → AtDesk outside old new start end line told
    checkpoint_at_desk (Ok done) is same says none renewed alone last unchanged untouched spent whole fault rests replaced cut_off =
        let unspent = not_true end.spent (λ spends. elim (spent.0 spends) [ inl disk ↦ cc | inr memory ↦ cc ]) in
        subst (λ (r : Result (List ℕ) Fault). AtDesk outside old new start end line r) (sym is)
        (record {
          answer = record {
            was_ready = ready;
            is_ready = unspent;
            outcome = inl (
              commands.Checkpoint,
              says,
              inr (
                λ has. not_open start.group has none,
                inr (
                  λ is. let never = last.1 is in cc,
                  record { reply_is = same; renewed = renewed; no_group = alone },
                ),
              ),
            );
          };
          ready = λ memory disk. unspent;
          intact = whole (λ is. absurd (cc));
          caused = tt;
          spent = λ never. absurd (cc);
          told = λ tells. checkpoint_written renewed (replaced tells) (rests tells);
        })
    checkpoint_at_desk (Err checkpoints.Generations) (inl is) same says none renewed alone last unchanged untouched spent whole fault rests
        replaced cut_off =
        let why = unchanged refl in
        still_at_desk why.1 why.0 is ready intact rest
        (inl (
          commands.Checkpoint,
          says,
          inr (λ has. not_open start.group has none, inl record { is_last = last.0 refl; reply_is = refl; kept_stays = refl }),
        ))
    checkpoint_at_desk (Err checkpoints.Generations) (inr is) same says none renewed alone last unchanged untouched spent whole fault rests
        replaced cut_off =
        spent_at_desk (unchanged refl).1 is intact rest
    checkpoint_at_desk (Err checkpoints.Disk) is same says none renewed alone last unchanged untouched spent whole fault rests
        replaced cut_off =
        let spends = spent.1 (inl refl) in
        subst (λ (r : Result (List ℕ) Fault). AtDesk outside old new start end line r) (sym is)
        (record {
          answer = tt;
          ready = λ memory disk. absurd (disk refl);
          intact = tt;
          caused = fault refl;
          spent = λ _ unspent. not_both spends unspent;
          told = λ tells.
              let cut = cut_off refl tells in
              let answer : StoreTerms.answers start line checkpoint_reply (ready_store cut.0) = record {
                was_ready = ready;
                is_ready = refl;
                outcome = inl (
                  commands.Checkpoint,
                  says,
                  inr (
                    λ has. not_open start.group has none,
                    inr (
                      λ is. let never = last.1 is in cc,
                      record { reply_is = refl; renewed = cut.1; no_group = refl },
                    ),
                  ),
                );
              } in
              checkpoint_cut_off says none answer cut.1 cut.2;
        })
    checkpoint_at_desk (Err checkpoints.NoMemory) is same says none renewed alone last unchanged untouched spent whole fault rests
        replaced cut_off =
        spent_at_desk (untouched refl) is intact rest

  -- ---- commands that call no file

  module _ {world : World} {start : SpendableKept} {line : List ℕ} (ready : start.spent ≡ false) (intact : outside.failed world ≡ false)
      (rest : outside.tells world → AllRest start.kept (outside.view world)) where
    -- a query is answered about the state at present
    pub query_at_desk : (q : Query) (state : State) (done : Result (List ℕ) Shortage) {told : Result (List ℕ) Fault}
        → MatchResult done (λ reply. told ≡ Ok reply) (λ _. told ≡ Err NoMemory) → IfOk done (λ reply. AnswersQuery q state reply)
        → state ≡ present start → Says line (commands.Query q) → AtDesk outside world world start start line told
    query_at_desk q state (Ok reply) is answer same says =
        still_at_desk refl refl is ready intact rest
        (inl (commands.Query q, says, (subst (λ (s : State). AnswersQuery q s reply) same answer, refl)))
    query_at_desk q state (Err e) is answer same says = spent_at_desk refl is intact rest

    -- a number of a batch that is out of range is refused
    pub batch_at_desk : (size : ℕ) (done : Result (List ℕ) Shortage) {told : Result (List ℕ) Fault}
        → MatchResult done (λ reply. told ≡ Ok reply) (λ _. told ≡ Err NoMemory) → IfOk done (λ reply. reply ≡ no_reply Range)
        → (IsInRange size → ⊥) → Says line (commands.Batch size) → AtDesk outside world world start start line told
    batch_at_desk size (Ok reply) is same out says =
        still_at_desk refl refl is ready intact rest
        (inl (commands.Batch size, says, record { is_out = out; reply_is = same; kept_stays = refl }))
    batch_at_desk size (Err e) is same out says = spent_at_desk refl is intact rest

  -- a group is begun, or given up
  pub said_at_desk : {world : World} {start end : SpendableKept} {line : List ℕ} (c : Command) (told : Result (List ℕ) Fault)
      → start.spent ≡ false → outside.failed world ≡ false → (outside.tells world → AllRest start.kept (outside.view world))
      → IsSaid (AnswersCommand c) start end told → Says line c → AtDesk outside world world start end line told
  said_at_desk c (Ok reply) ready intact rest said says = record {
    answer = record { was_ready = ready; is_ready = said.ready; outcome = inl (c, says, said.answer) };
    ready = λ memory disk. said.ready;
    intact = intact;
    caused = tt;
    spent = λ never. absurd (cc);
    told = λ tells. settled_same (rest tells) said.same;
  }
  said_at_desk c (Err fault) ready intact rest said says =
      spent_at_desk refl (ap (λ (f : Fault). Err f) said.memory) intact rest

  -- a checkpoint is refused where a group is open, or there is no memory for that
  pub in_group_at_desk : {world : World} {start : SpendableKept} {line : List ℕ} → start.spent ≡ false → outside.failed world ≡ false
      → (outside.tells world → AllRest start.kept (outside.view world)) → (done : Result (List ℕ) Shortage) {told : Result (List ℕ) Fault}
      → MatchResult done (λ reply. told ≡ Ok reply) (λ _. told ≡ Err NoMemory) → IfOk done (λ reply. reply ≡ in_group_reply)
      → HasGroup start → Says line commands.Checkpoint → AtDesk outside world world start start line told
  in_group_at_desk ready intact rest (Ok reply) is same has says =
      still_at_desk refl refl is ready intact rest (inl (commands.Checkpoint, says, inl (has, same, refl)))
  in_group_at_desk ready intact rest (Err e) is same has says = spent_at_desk refl is intact rest

  module _ {old new : World} {start end : SpendableKept} {line : List ℕ} (ready : start.spent ≡ false)
      (intact : outside.failed old ≡ false) (rest : outside.tells old → AllRest start.kept (outside.view old)) where
    -- a group is written, or none is open, or memory runs out, or the disk fails; the reply was made of the number of its changes
    pub end_at_desk : {reply : List ℕ} (done : Result ℕ EndError) {told : Result (List ℕ) Fault}
        → ToldOfEnd reply done told → reply ≡ commit_reply (changes_in start) → Says line commands.Commit
        → (outside.tells new → outside.tells old)
        → IfOk done (λ count. Ends start count end)
        → (IsErrOf done ends.NoGroup ↔ (start.group ≡ None))
        → (IsErrOf done ends.NoGroup → (end ≡ start) × (new ≡ old))
        → IfOk done (λ count. count ≡ 0 → new ≡ old)
        → (IsErrOf done ends.NoMemory → new ≡ old)
        → ((end.spent ≡ true) ↔ ((done ≡ Err ends.Disk) ⊎ (done ≡ Err ends.NoMemory)))
        → (¬ (IsErrOf done ends.Disk) → outside.failed new ≡ false)
        → (IsErrOf done ends.Disk → Rose (outside.disk_faults old) (outside.disk_faults new))
        → OnOk done (outside.tells new → AllRest end.kept (outside.view new))
        → OnOk done (outside.tells new → IsWritten (outside.view old) (outside.view new) start.kept end.kept)
        → (IsErrOf done ends.Disk → outside.tells new → (count : ℕ) × (after : SpendableKept) × Ends start count after × (0 < count)
        × IsWritten (outside.view old) (outside.view new) start.kept after.kept)
        → AtDesk outside old new start end line told
    end_at_desk (Ok count) is same says earlier ended none unchanged nothing untouched spent whole fault rests written cut_off =
        let unspent = not_true end.spent (λ spends. elim (spent.0 spends) [ inl disk ↦ cc | inr memory ↦ cc ]) in
        subst (λ (r : Result (List ℕ) Fault). AtDesk outside old new start end line r) (sym is)
        (record {
          answer = record {
            was_ready = ready;
            is_ready = unspent;
            outcome = inl (
              commands.Commit,
              says,
              inr (has_some start ended.was_open, record { count = count; ends = ended; reply_is = same ∙ counted ended }),
            );
          };
          ready = λ memory disk. unspent;
          intact = whole (λ is. absurd (cc));
          caused = tt;
          spent = λ never. absurd (cc);
          told = λ tells.
              group_written count ended (λ no. ap (λ (w : World). outside.view w) (nothing no)) (written tells) (rest (earlier tells))
              (rests tells);
        })
    end_at_desk (Err ends.NoGroup) (inl is) same says earlier ended none unchanged nothing untouched spent whole fault rests written
        cut_off =
        let why = unchanged refl in
        still_at_desk why.1 why.0 is ready intact rest (inl (commands.Commit, says, inl (none.0 refl, refl, refl)))
    end_at_desk (Err ends.NoGroup) (inr is) same says earlier ended none unchanged nothing untouched spent whole fault rests written
        cut_off =
        spent_at_desk (unchanged refl).1 is intact rest
    end_at_desk (Err ends.Disk) {told} is same says earlier ended none unchanged nothing untouched spent whole fault rests written
        cut_off =
        let spends = spent.1 (inl refl) in
        subst (λ (r : Result (List ℕ) Fault). AtDesk outside old new start end line r) (sym is)
        (record {
          answer = tt;
          ready = λ memory disk. absurd (disk refl);
          intact = tt;
          caused = fault refl;
          spent = λ _ unspent. not_both spends unspent;
          told = λ tells.
              let cut = cut_off refl tells in
              let group = cut.2 in
              let answer : StoreTerms.answers start line (commit_reply cut.0) cut.1 = record {
                was_ready = ready;
                is_ready = ap (λ (s : SpendableKept). s.spent) group.new_is;
                outcome = inl (
                  commands.Commit,
                  says,
                  inr (has_some start group.was_open, record { count = cut.0; ends = group; reply_is = refl }),
                );
              } in
              group_cut_off group cut.3 answer says (is_open start group.was_open) cut.4;
        })
    end_at_desk (Err ends.NoMemory) is same says earlier ended none unchanged nothing untouched spent whole fault rests written cut_off =
        spent_at_desk (untouched refl) is intact rest
