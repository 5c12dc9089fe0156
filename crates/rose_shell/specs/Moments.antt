-- What becomes of the files over turns, and what a crash may leave of them.
use Rattle.std.specs.Prelude.{◌≡◌, ◌⊎◌, ℕ, List, [], ◌∷◌, ◌++◌}
use Rattle.outside_world.specs.View.{View, Moment}
use Rattle.outside_world.specs.Since.{LeavesOnly}
use Rattle.realm_files.specs.Stands.{Files}
use Rattle.rose_shell.specs.Desk.{FilesRule, Terms, AllRestBy, StandsBetween}
use Rattle.rose_shell.specs.Turns.{Turn, end_of, files_after}

-- A moment of turns, from these files and these bytes given on: between two turns, or while the next one is answered; or its
-- reply has begun, and the files are those after it; or a later one.
abbrev pub IsMoment : {S : Type 0} → (S → S → Type 0) → FilesRule S → S → Files → List (Turn S) → List ℕ → Moment → Type 0
IsMoment same stands start files [] given m = (m.given ≡ given) × stands start m.files × (m.files ≡ files)
IsMoment same stands start files (turn ∷ turns) given m =
    ((m.given ≡ given) × StandsBetween same stands start turn.after files m.files)
    ⊎ (((sent unsent : List ℕ) × (turn.reply ≡ sent ++ unsent) × (m.given ≡ given ++ sent)
    × stands turn.after m.files × (m.files ≡ turn.files))
    ⊎ IsMoment same stands turn.after turn.files turns (given ++ turn.reply) m)

-- a turn behind which the files keep the same leaves both as they were
abbrev pub AreLeft : {S : Type 0} → (S → S → Type 0) → S → Files → List (Turn S) → Type 0
AreLeft same start files [] = Unit {0}
AreLeft same start files (turn ∷ turns) =
    (same start turn.after → turn.files ≡ files) × AreLeft same turn.after turn.files turns

-- The files follow the turns: at each crash since the start, from turn to turn, in what they read as now; and where no file
-- failed they are at rest.
pub record FollowsTurns {S : Type 0} (terms : Terms S) (none_failed : Type 0) (old new : View) (start : S)
    (turns : List (Turn S)) : Type 0 where
  pub crash : LeavesOnly old new (IsMoment terms.same terms.stands start old.reads turns old.given)
  pub still : AreLeft terms.same start old.reads turns
  pub reads : new.reads ≡ files_after old.reads turns
  pub rest : none_failed → AllRestBy terms new (end_of start turns)
