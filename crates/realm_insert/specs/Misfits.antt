-- Traces that don't settle what a change makes of a drawing, and where they fail.
use Rattle.std.specs.Prelude.{◌≡◌, ◌+◌, ℕ, List, [], ◌∷◌, ◌++◌, length}
use Rattle.grid_base.specs.Drawing.{Drawing, HasViolation}
use Rattle.grid_base.specs.declared.kinds.Step.{Step}
use Rattle.line_grammar.specs.declared.command.Change.{Change}
use Rattle.hook_chain.specs.Mending.{IsPermitted}
use Rattle.hook_chain.specs.Steps.{Permitted}
use Rattle.realm_insert.specs.State.{State}
use Rattle.realm_insert.specs.Changes.{ChangesTo}

-- the steps lead from d to e, each permitted where it stands
abbrev pub LeadsBy : Drawing → List Step → Drawing → Type 0
LeadsBy d [] e = d ≡ e
LeadsBy d (step ∷ trace) e = (between : Drawing) × Permitted d step between × LeadsBy between trace e

-- the first of the steps isn't permitted in d, or none is left and d has a violation
abbrev pub IsStuck : Drawing → List Step → Type 0
IsStuck d [] = HasViolation d
IsStuck d (step ∷ more) = IsPermitted d step → ⊥

-- From d the trace fails at the step with this number, from 1: those before it lead on, and what is left is stuck there.
pub record Misfits (d : Drawing) (trace : List Step) (number : ℕ) : Type 0 where
  pub before : List Step
  pub left : List Step
  pub in_order : trace ≡ before ++ left
  pub number_is : number ≡ length before + 1
  pub reached : Drawing
  pub leads : LeadsBy d before reached
  pub stuck : IsStuck reached left

-- the trace fails so from what the change makes of the drawing of s
abbrev pub MisfitsAt : Change → State → List Step → ℕ → Type 0
MisfitsAt c s trace number =
    (changed : Drawing) × ChangesTo c s changed × Misfits changed trace number
