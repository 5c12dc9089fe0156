-- The pieces that are still to be looked at while a drawing is settled. No public clause cites this file.
use Rattle.std.specs.Prelude.{◌≡◌, ◌⊎◌, ◌↔◌, ℕ, ◌+◌, ◌≤◌, ◌^◌, List, length, Contains, Any, Result, Ok, Err}
use Rattle.grid_base.specs.Point.{GridPoint, IsBefore}
use Rattle.grid_base.specs.Segment.{GridSegment, IsEnd}
use Rattle.grid_base.specs.Crossing.{Inside, Cross}
use Rattle.grid_base.specs.Drawing.{Drawing, IsLink, HasLink, IsPoint, IsPiece}
use Rattle.grid_base.specs.declared.kinds.Step.{Step}
use Rattle.line_grammar.specs.declared.command.Change.{Change}
use Rattle.hook_chain.specs.Steps.{Settles}
use Rattle.hook_chain.specs.StandingChains.{AllValid}
use Rattle.realm_drawing.specs.Keyed.{KeyedDrawing, keyed, HasKey, AreKeyed}
use Rattle.realm_drawing.specs.declared.keyed.KeyedPiece.{KeyedPiece}
use Rattle.realm_index.specs.Index.{Entries}
use Rattle.realm_insert.specs.Changes.{IsChangedTo, IsExplicitAfter, redrawn}
use Rattle.realm_insert.specs.Figures.{Figure, Draws}
use Rattle.realm_insert.specs.Indexing.{ListsKeyed}
use Rattle.realm_insert.specs.Kept.{IsIndexed}
use Rattle.realm_insert.specs.Lines.{HasPlaceOffGrid}
use Rattle.realm_insert.specs.Refusals.{DeletesNothing, HasNoneOf, IsFirstOf}
use Rattle.realm_insert.specs.State.{State, HasIdsBelow}
use Rattle.realm_insert.specs.declared.refusal.ChangeError.{ChangeError}
use Rattle.realm_insert.specs.declared.refusal.ChangeError.TheVariants.{Refused, NoMemory}
use Rattle.realm_insert.specs.declared.refusal.Refusal.{Refusal}

-- each violation has a listed piece or an end of one
pub record IsCoveredBy (d : Drawing) (list : List GridSegment) : Type 0 where
  pub points : (p : GridPoint) (t : GridSegment) → IsPoint d p → IsPiece d t → Inside p t
      → Contains list t ⊎ Any (λ s. IsEnd p s) list
  pub crossings : (t u : GridSegment) → IsPiece d t → IsPiece d u → Cross t u → Contains list t ⊎ Contains list u

-- no violation has s or an end of it
pub record IsClean (d : Drawing) (s : GridSegment) : Type 0 where
  pub nothing_inside : (p : GridPoint) → IsPoint d p → IsPiece d s → Inside p s → ⊥
  pub no_end_inside : (p : GridPoint) (t : GridSegment) → IsEnd p s → IsPoint d p → IsPiece d t → Inside p t → ⊥
  pub no_crossing : (t : GridSegment) → IsPiece d s → IsPiece d t → Cross s t → ⊥

-- the explicit points are those there were and those of the path, and all else is as it was
pub record AddsPoints (path : List GridPoint) (old new : KeyedDrawing) : Type 0 where
  pub points : (q : GridPoint) → Contains new.drawing.points q ↔ (Contains path q ⊎ Contains old.drawing.points q)
  pub originals : new.drawing.originals ≡ old.drawing.originals
  pub keys : new.keys ≡ old.keys

-- the new list has what the old one has, and the segment between v and w with its key where it is a piece
abbrev pub ListsLink : KeyedDrawing → GridPoint → GridPoint → List KeyedPiece → List KeyedPiece → Type 0
ListsLink d v w old new = (t : GridSegment) (k : ℕ) → Contains new (keyed t k)
    ↔ (Contains old (keyed t k) ⊎ ((IsLink t v w × IsBefore t.a t.b) × HasKey d t k))

-- the list has the pieces that are links of the chain, each with its key
abbrev pub ListsLinks : KeyedDrawing → List GridPoint → List KeyedPiece → Type 0
ListsLinks d chain list = ListsKeyed d (λ s. IsBefore s.a s.b × HasLink chain s) list

-- ---- what a change makes
-- no refusal of the list has its cause and this is what the change draws, or this is the first that has it
abbrev pub FindsFigure : List Refusal → Change → State → Result Figure ChangeError → Type 0
FindsFigure list c s (Ok figure) = HasNoneOf list c s × Draws c s figure
FindsFigure list c s (Err (Refused word)) = IsFirstOf list c s word
FindsFigure list c s (Err NoMemory) = Unit {0}

-- the change is accepted as far as the drawing sees it, and ids from the first one on are free
pub record CanBeDrawn (c : Change) (figure : Figure) (d : Drawing) (first : ℕ) : Type 0 where
  pub on_grid : HasPlaceOffGrid c → ⊥
  pub there : DeletesNothing c d → ⊥
  pub ids : HasIdsBelow first d
  pub least : 1 ≤ first
  pub most : first + length figure.segments ≤ 2 ^ 32

-- d has become this by the change itself, and the list covers its violations
pub record IsPrepared (c : Change) (figure : Figure) (d : Drawing) (first : ℕ) (new : KeyedDrawing) (index : Entries)
    (fresh : List GridSegment) : Type 0 where
  pub points : (q : GridPoint) → Contains new.drawing.points q ↔ IsExplicitAfter c figure d.points q
  pub originals : new.drawing.originals ≡ (redrawn c figure d first).originals
  pub indexed : IsIndexed new index
  pub keyed : AreKeyed new
  pub valid : AllValid new.drawing
  pub covered : IsCoveredBy new.drawing fresh
  pub ids : HasIdsBelow (first + length figure.segments) new.drawing

-- the change and then the trace lead from d to e
abbrev pub Redraws : Change → Figure → Drawing → ℕ → List Step → Drawing → Type 0
Redraws c figure d first trace e = (changed : Drawing) × IsChangedTo c figure d first changed × Settles changed trace e
