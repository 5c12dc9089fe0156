-- This file shows that a state that pages keep is drawn on the grid.
use Rattle.std.proofs.Common.{ℕ, List, subst, inl, inr}
use Rattle.std.proofs.lemmas.List.Elements.{All-contains, All-from_recursion}
use Rattle.grid_base.specs.Drawing.{IsPoint}
use Rattle.grid_base.specs.Point.{GridPoint, OnGrid}
use Rattle.record_codec.specs.Payload.{IsSnapshot, IsOriginal}
use Rattle.record_codec.specs.declared.snapshot.Snapshot.{Snapshot}
use Rattle.realm_insert.specs.Snapshots.{state_of}
use Rattle.realm_insert.specs.State.{State}
use Rattle.realm_store.specs.Stands.{Opens}
use Rattle.one_reply.specs.Answerable.{IsDrawnOnGrid}

-- each point and each vertex has a text
texts_on_grid : (kept : Snapshot) (p : GridPoint) → IsSnapshot kept → IsPoint (state_of kept).drawing p → OnGrid p
texts_on_grid kept p fits (inl explicit) =
    All-contains OnGrid kept.points p (All-from_recursion OnGrid kept.points fits.points.1) explicit
texts_on_grid kept p fits (inr (k, o, within, is, vertex)) =
    let original = All-contains IsOriginal kept.originals o
    (All-from_recursion IsOriginal kept.originals fits.originals.1) (k, within, is) in
    All-contains OnGrid o.chain p (All-from_recursion OnGrid o.chain original.chain.1) vertex

pub kept_on_grid : (payload : List ℕ) (s : State) → Opens payload s → IsDrawnOnGrid s
kept_on_grid payload s opens = λ p point.
    texts_on_grid opens.snapshot p opens.is_snapshot (subst (λ (t : State). IsPoint t.drawing p) opens.state_is point)
