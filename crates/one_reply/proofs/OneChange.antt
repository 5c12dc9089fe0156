-- This file shows that a change has one answer, but for its trace.
use Rattle.std.proofs.Common.{◌≡◌, ℕ, ◌+◌, ◌-◌, List, [], ◌∷◌, ◌++◌, length, Option, Some, None, MatchOption}
use Rattle.std.proofs.Common.{sym, ap, subst, ◌∙◌, inl, inr}
use Rattle.grid_base.specs.declared.kinds.Step.{Step}
use Rattle.line_grammar.specs.declared.command.Change.{Change}
use Rattle.realm_insert.specs.State.{State}
use Rattle.realm_insert.specs.Figures.{Figure}
use Rattle.realm_insert.specs.Next.{Next}
use Rattle.realm_insert.specs.Refusals.{IsFirstOf, order_of_refusals}
use Rattle.realm_insert.specs.declared.refusal.Refusal.{Refusal}
use Rattle.realm_insert.proofs.OneFigure.{one_figure}
use Rattle.realm_insert.proofs.SameStates.{one_state, none_is_first, not_refused}
use Rattle.realm_store.specs.Keeping.{Kept, Group, SpendableKept, state_with, present}
use Rattle.realm_store.specs.Making.{HasRoom, place_behind, entry_of, record_of, IsMade, IsRefusedFor, Joins, Commits}
use Rattle.realm_store.specs.Replies.{ok_reply}
use Rattle.one_reply.specs.Outcomes.{IsMadeTwice, JoinsTwice, IsWrittenTwice, IsJoinedTwice, CommitsTwice}
use Rattle.one_reply.proofs.Rooms.{one_lack, never_both}

-- ---- refusals
-- the first of a list that has its cause is one
first_is_one : (list : List Refusal) (c : Change) (s : State) (a b : Refusal) → IsFirstOf list c s a → IsFirstOf list c s b → a ≡ b
first_is_one [] c s a b one other = absurd one
first_is_one (r ∷ list) c s a b (inl here) (inl too) = here.1 ∙ sym too.1
first_is_one (r ∷ list) c s a b (inl here) (inr later) = absurd (later.0 here.0)
first_is_one (r ∷ list) c s a b (inr later) (inl here) = absurd (later.0 here.0)
first_is_one (r ∷ list) c s a b (inr one) (inr other) = first_is_one list c s a b one.1 other.1

-- the first cause in the state, or that there is no room where there is none
pub one_refusal : (c : Change) (state : State) (kept : Kept) (a b : Refusal) → IsRefusedFor c state kept a
    → IsRefusedFor c state kept b → a ≡ b
one_refusal c state kept a b (inl one) (inl other) = first_is_one order_of_refusals c state a b one other
one_refusal c state kept a b (inl one) (inr lacking) = absurd (none_is_first order_of_refusals c state a lacking.0 one)
one_refusal c state kept a b (inr lacking) (inl other) = absurd (none_is_first order_of_refusals c state b lacking.0 other)
one_refusal c state kept a b (inr lacking) (inr other) = one_lack kept a b lacking.1 other.1

-- what is refused isn't settled where there is room
refused_or_settled : (c : Change) (kept : Kept) (word : Refusal) (steps : List Step) (old new : State)
    → IsRefusedFor c old kept word → Next old c steps new → HasRoom kept → ⊥
refused_or_settled c kept word steps old new (inl refused) next room = not_refused old new c steps word next refused
refused_or_settled c kept word steps old new (inr lacking) next room = never_both kept word room lacking.1

-- so it is neither made nor does it join the group
pub not_both : (c : Change) (old : SpendableKept) (word : Refusal) (reply : List ℕ) (new : SpendableKept)
    → IsRefusedFor c (present old) old.kept word → Commits c old reply new → ⊥
not_both c old word reply new refused commits = by old.group refused commits
  where
    by : (group : Option Group) → IsRefusedFor c (state_with old.kept.state group) old.kept word
        → MatchOption group (IsMade c old.kept reply new.kept × (new.group ≡ None))
        (λ group. (new.kept ≡ old.kept) × ((more : Group) × (new.group ≡ Some more) × Joins c old.kept group reply more)) → ⊥
    by None word_is (made, alone) =
        refused_or_settled c old.kept word made.steps old.kept.state new.kept.state word_is made.makes.next made.makes.room
    by (Some group) word_is (stays, (more, is, joins)) =
        refused_or_settled c old.kept word joins.steps group.state more.state word_is joins.next joins.room

-- ---- what is kept then
-- the same field by field
pub same_kept : (new other : Kept) → new.state ≡ other.state → new.place ≡ other.place → new.has_gate ≡ other.has_gate
    → new ≡ other
same_kept new other state place gate = λ i. record { state = state i; place = place i; has_gate = gate i }

-- two traces of one change: a change draws one figure, and the numbers follow
record SettlesTwice (c : Change) (steps others : List Step) (old new other : State) : Type 0 where
  changes : new.changes ≡ other.changes
  next_id : new.next_id ≡ other.next_id
  by_one_trace : steps ≡ others → new ≡ other

settled_twice : (c : Change) (steps others : List Step) (old new other : State) → Next old c steps new → Next old c others other
    → SettlesTwice c steps others old new other
settled_twice c steps others old new other next also =
    let drawn = one_figure c old next.figure also.figure next.draws also.draws in
    record {
      changes = next.changes ∙ sym also.changes;
      next_id =
          next.next_id ∙ ap (λ (f : Figure). old.next_id + length f.segments) drawn ∙ sym also.next_id;
      by_one_trace = λ same.
          one_state old new other c steps next (subst (λ (s : List Step). Next old c s other) (sym same) also);
    }

-- the reply tells of the trace only how long it is
replies_as_long : (old new other : State) (steps others : List Step) (first second : List ℕ)
    → new.changes ≡ other.changes → new.next_id ≡ other.next_id
    → first ≡ ok_reply new.changes (length steps) old.next_id (new.next_id - old.next_id)
    → second ≡ ok_reply other.changes (length others) old.next_id (other.next_id - old.next_id)
    → length steps ≡ length others → first ≡ second
replies_as_long old new other steps others first second changes next_id is also many =
    is ∙ (λ i. ok_reply (changes i) (many i) old.next_id (next_id i - old.next_id)) ∙ sym also

-- a trace leads to one state, and has one record
pub made_twice : (c : Change) (old : Kept) (first : List ℕ) (new : Kept) (second : List ℕ) (other : Kept)
    → IsMade c old first new → IsMade c old second other → IsMadeTwice c old first new second other
made_twice c old first new second other one also =
    let twice = settled_twice c one.steps also.steps old.state new.state other.state one.makes.next also.makes.next in
    let as_many = replies_as_long old.state new.state other.state one.steps also.steps first second twice.changes twice.next_id
    one.reply_is also.reply_is in
    record {
      one = one;
      also = also;
      changes = twice.changes;
      next_id = twice.next_id;
      as_many = as_many;
      by_one_trace = λ same.
          let place : new.place ≡ other.place =
          one.makes.place ∙ (λ i. Some (place_behind old (record_of c (same i) (twice.changes i)))) ∙ sym also.makes.place in (
            as_many (ap (λ (steps : List Step). length steps) same),
            same_kept new other (twice.by_one_trace same) place (one.makes.has_gate ∙ sym also.makes.has_gate),
          );
    }

-- and one entry
pub joins_twice : (c : Change) (kept : Kept) (old : Group) (first : List ℕ) (new : Group) (second : List ℕ) (other : Group)
    → Joins c kept old first new → Joins c kept old second other → JoinsTwice c kept old first new second other
joins_twice c kept old first new second other one also =
    let twice = settled_twice c one.steps also.steps old.state new.state other.state one.next also.next in
    let as_many = replies_as_long old.state new.state other.state one.steps also.steps first second twice.changes twice.next_id
    one.reply_is also.reply_is in
    record {
      one = one;
      also = also;
      changes = twice.changes;
      next_id = twice.next_id;
      as_many = as_many;
      by_one_trace = λ same.
          let state = twice.by_one_trace same in
          let entries : new.entries ≡ other.entries =
          one.entries ∙ (λ i. old.entries ++ entry_of c (same i) ∷ []) ∙ sym also.entries in (
            as_many (ap (λ (steps : List Step). length steps) same),
            (λ i. record { state = state i; entries = entries i }),
          );
    }

-- with no group open, or with one
pub commits_twice : (c : Change) (old : SpendableKept) (first : List ℕ) (new : SpendableKept) (second : List ℕ)
    (other : SpendableKept) → Commits c old first new → Commits c old second other → CommitsTwice c old first new second other
commits_twice c old first new second other one also = by old.group one also
  where
    Committed : Option Group → List ℕ → SpendableKept → Type 0
    Committed group reply end = MatchOption group
        (IsMade c old.kept reply end.kept × (end.group ≡ None))
        (λ group. (end.kept ≡ old.kept) × ((more : Group) × (end.group ≡ Some more) × Joins c old.kept group reply more))

    by : (group : Option Group) → Committed group first new → Committed group second other
        → MatchOption group (IsWrittenTwice c old first new second other)
        (λ group. IsJoinedTwice c group old first new second other)
    by None (made, alone) (again, alone_too) = record {
      made = made_twice c old.kept first new.kept second other.kept made again;
      new_alone = alone;
      other_alone = alone_too;
    }
    by (Some group) (stays, (more, is, joins)) (stays_too, (as_well, is_too, joins_too)) = record {
      stays = stays;
      stays_too = stays_too;
      more = more;
      as_well = as_well;
      new_group = is;
      other_group = is_too;
      joins = joins_twice c old.kept group first more second as_well joins joins_too;
    }
