-- Copies of points and originals. No public clause cites this file.
use Rattle.std.specs.Prelude.{◌≡◌, ◌⊎◌, ℕ, List, [], ◌∷◌, ◌++◌, Contains}
use Rattle.grid_base.specs.Point.{GridPoint}
use Rattle.grid_base.specs.Drawing.{Drawing}
use Rattle.grid_base.specs.declared.original.Original.{Original}
use Rattle.hook_chain.specs.Ids.{LacksId}
use Rattle.record_codec.specs.Payload.{IsOriginal}

-- p comes last where it is explicit, and else the list is as it was
abbrev pub HasAlso : List GridPoint → GridPoint → List GridPoint → List GridPoint → Type 0
HasAlso explicit p old new =
    (Contains explicit p × (new ≡ old ++ p ∷ [])) ⊎ ((Contains explicit p → ⊥) × (new ≡ old))

-- o is the original of d with this id, and has a text
pub record IsCopyOf (d : Drawing) (id : ℕ) (o : Original) : Type 0 where
  pub there : Contains d.originals o
  pub id_is : o.id ≡ id
  pub fits : IsOriginal o

-- the original with this id comes last, and where there is none the list is as it was
abbrev pub HasOriginalToo : Drawing → ℕ → List Original → List Original → Type 0
HasOriginalToo d id old new =
    ((o : Original) × IsCopyOf d id o × (new ≡ old ++ o ∷ [])) ⊎ (LacksId d.originals id × (new ≡ old))
