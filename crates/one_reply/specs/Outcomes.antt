-- Two answers to one line, from one store.
use Rattle.std.specs.Prelude.{◌≡◌, ◌⊎◌, ℕ, List, length, Some, None, MatchOption}
use Rattle.line_grammar.specs.Lines.{Says}
use Rattle.line_grammar.specs.declared.command.Change.{Change}
use Rattle.line_grammar.specs.declared.command.Command.TheVariants as commands
use Rattle.realm_store.specs.Keeping.{Kept, Group, SpendableKept}
use Rattle.realm_store.specs.Making.{IsMade, Joins}

-- The change is made, with two replies, which differ at most in the number of steps: the ids and the numbers of changes are
-- the same. By one trace all is the same.
pub record IsMadeTwice (c : Change) (old : Kept) (first : List ℕ) (new : Kept) (second : List ℕ) (other : Kept) : Type 0 where
  pub one : IsMade c old first new
  pub also : IsMade c old second other
  pub changes : new.state.changes ≡ other.state.changes
  pub next_id : new.state.next_id ≡ other.state.next_id
  pub as_many : length one.steps ≡ length also.steps → first ≡ second
  pub by_one_trace : one.steps ≡ also.steps → (first ≡ second) × (new ≡ other)

-- The change joins the group, with two replies, of which the same holds. By one trace the group is the same then.
pub record JoinsTwice (c : Change) (kept : Kept) (old : Group) (first : List ℕ) (new : Group) (second : List ℕ) (other : Group)
    : Type 0 where
  pub one : Joins c kept old first new
  pub also : Joins c kept old second other
  pub changes : new.state.changes ≡ other.state.changes
  pub next_id : new.state.next_id ≡ other.state.next_id
  pub as_many : length one.steps ≡ length also.steps → first ≡ second
  pub by_one_trace : one.steps ≡ also.steps → (first ≡ second) × (new ≡ other)

-- what is kept of the files stays, and the change joins the open group twice
pub record IsJoinedTwice (c : Change) (group : Group) (old : SpendableKept) (first : List ℕ) (new : SpendableKept)
    (second : List ℕ) (other : SpendableKept) : Type 0 where
  pub stays : new.kept ≡ old.kept
  pub stays_too : other.kept ≡ old.kept
  pub more : Group
  pub as_well : Group
  pub new_group : new.group ≡ Some more
  pub other_group : other.group ≡ Some as_well
  pub joins : JoinsTwice c old.kept group first more second as_well

-- the change is made twice, and no group is open then
pub record IsWrittenTwice (c : Change) (old : SpendableKept) (first : List ℕ) (new : SpendableKept)
    (second : List ℕ) (other : SpendableKept) : Type 0 where
  pub made : IsMadeTwice c old.kept first new.kept second other.kept
  pub new_alone : new.group ≡ None
  pub other_alone : other.group ≡ None

-- where no group is open it is made twice, else it joins the group twice
abbrev pub CommitsTwice : Change → SpendableKept → List ℕ → SpendableKept → List ℕ → SpendableKept → Type 0
CommitsTwice c old first new second other = MatchOption old.group
    (IsWrittenTwice c old first new second other)
    (λ group. IsJoinedTwice c group old first new second other)

-- both are one reply and lead to one store, or the line says a change that has two traces
abbrev pub IsOneOutcome : List ℕ → SpendableKept → List ℕ → SpendableKept → List ℕ → SpendableKept → Type 0
IsOneOutcome line old first new second other =
    ((first ≡ second) × (new ≡ other))
    ⊎ ((c : Change) × Says line (commands.Change c) × CommitsTwice c old first new second other)
