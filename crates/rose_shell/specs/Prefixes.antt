-- What a crash leaves of a session, counted by the commits: the state after as many commits as have replies
-- that had begun, or after one more. A commit is a change outside a group, or a whole group.
use Rattle.std.specs.Prelude.{◌≡◌, ◌⊎◌, ◌+◌, ◌-◌, ◌<◌, ℕ, zero, suc, Bool, true, false, MatchBool}
use Rattle.std.specs.Prelude.{List, [], ◌∷◌, length, if◌then◌else◌}
use Rattle.outside_world.specs.View.{Moment}
use Rattle.realm_files.specs.Stands.{Files}
use Rattle.rose_shell.specs.Turns.{Turn}

-- of a state of the desk this much is kept in the files; and from a state, this turn was a commit
module _ {S T : Type 0} (state_of : S → T) (is_commit : S → Turn S → Bool) where
  -- one where it is so
  abbrev pub one_if : Bool → ℕ
  one_if true = 1
  one_if false = 0

  -- the state after the first k commits of these turns, or after all of them where there are fewer
  abbrev pub state_after : S → List (Turn S) → ℕ → T
  state_after start [] k = state_of start
  state_after start (turn ∷ turns) zero = state_of start
  state_after start (turn ∷ turns) (suc k) =
      if is_commit start turn then state_after turn.after turns k else state_after turn.after turns (suc k)

  -- how many replies to commits have begun where so many bytes of the replies were given
  abbrev pub replies_begun : S → List (Turn S) → ℕ → ℕ
  replies_begun start [] n = 0
  replies_begun start (turn ∷ turns) zero = 0
  replies_begun start (turn ∷ turns) (suc n) =
      one_if (is_commit start turn) + replies_begun turn.after turns (suc n - length turn.reply)

  -- a commit has a reply of one byte at least, and any other turn leaves what is kept as it is
  abbrev pub IsCounted : S → List (Turn S) → Type 0
  IsCounted start [] = Unit {0}
  IsCounted start (turn ∷ turns) =
      MatchBool (is_commit start turn) (0 < length turn.reply) (state_of turn.after ≡ state_of start)
      × IsCounted turn.after turns

  -- the files stand for the state that k commits lead to, or that one more leads to
  abbrev pub StandsAround : (T → Files → Type 0) → S → List (Turn S) → ℕ
      → Files → Type 0
  StandsAround stands_for start turns k files =
      stands_for (state_after start turns k) files ⊎ stands_for (state_after start turns (suc k)) files

  -- the files of a moment stand around the commits whose replies had begun by then, where the run began when these
  -- bytes had been given
  abbrev pub IsPrefixMoment : (T → Files → Type 0) → S → List (Turn S) → List ℕ → Moment
      → Type 0
  IsPrefixMoment stands_for start turns given m =
      StandsAround stands_for start turns (replies_begun start turns (length m.given - length given)) m.files
