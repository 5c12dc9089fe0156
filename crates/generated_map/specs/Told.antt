-- What is told of a map that nobody wrote.
use Rattle.std.specs.Prelude.{◌≡◌, ℕ, List, [], ◌∷◌, ◌++◌, length, sum_by, codes}
use Rattle.std.specs.Fmt.{decimal}
use Rattle.grid_base.specs.declared.kinds.Step.{Step}
use Rattle.realm_insert.specs.State.{State, empty_state}
use Rattle.state_counts.specs.Counts.{AreCounts, count_lines, number_line}
use Rattle.state_counts.specs.declared.counting.Counts.{Counts}
use Rattle.generated_map.specs.Generated.{generated}
use Rattle.generated_map.specs.Runs.{TakesAll}

-- the changes lead from nothing to this state, and take so many steps in all
pub record LeadsTo (lines start : ℕ) (state : State) (steps : ℕ) : Type 0 where
  pub traces : List (List Step)
  pub run : TakesAll empty_state (generated lines start) traces state
  pub sum : steps ≡ sum_by length traces

-- the six lines: what was asked for, how much there is, and the number of steps
abbrev pub map_lines : ℕ → ℕ → Counts → ℕ → List ℕ
map_lines lines start counts steps =
    (codes "gen " ++ (decimal lines ++ (32 ∷ (decimal start ++ 10 ∷ []))))
    ++ (count_lines counts ++ number_line (codes "steps") steps)

-- the reply tells of a state to which the changes lead from nothing, and of the steps of that very run
pub record TellsMap (lines start : ℕ) (reply : List ℕ) : Type 0 where
  pub state : State
  pub steps : ℕ
  pub leads : LeadsTo lines start state steps
  pub counts : Counts
  pub are_counts : AreCounts state counts
  pub told : reply ≡ map_lines lines start counts steps
