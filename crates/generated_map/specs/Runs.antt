-- Changes that are made one after another.
use Rattle.std.specs.Prelude.{◌≡◌, ◌⊎◌, List, [], ◌∷◌}
use Rattle.grid_base.specs.declared.kinds.Step.{Step}
use Rattle.line_grammar.specs.declared.command.Change.{Change}
use Rattle.realm_insert.specs.State.{State}
use Rattle.realm_insert.specs.Next.{Next}
use Rattle.realm_insert.specs.Refusals.{IsRefusedBy}
use Rattle.realm_insert.specs.declared.refusal.Refusal.{Refusal}

-- the change is refused, takes no step and leaves the state as it was
abbrev pub IsLeftOut : State → Change → List Step → State → Type 0
IsLeftOut old c trace new = (word : Refusal) × IsRefusedBy c old word × (trace ≡ []) × (new ≡ old)

-- the change is made by these steps, or it is refused
abbrev pub Takes : State → Change → List Step → State → Type 0
Takes old c trace new = Next old c trace new ⊎ IsLeftOut old c trace new

-- the changes lead from old to new one after another, each by its trace
abbrev pub TakesAll : State → List Change → List (List Step) → State → Type 0
TakesAll old [] [] new = new ≡ old
TakesAll old [] (trace ∷ traces) new = ⊥
TakesAll old (c ∷ more) [] new = ⊥
TakesAll old (c ∷ more) (trace ∷ traces) new =
    (between : State) × Takes old c trace between × TakesAll between more traces new
