-- This file shows which lines a change has that was made.
use Rattle.std.proofs.Common.{◌≡◌, ◌⊎◌, ℕ, ◌≤◌, List, ◌∷◌, ◌++◌, map, Contains, ap, subst, ◌∙◌}
use Rattle.grid_base.specs.declared.kinds.Step.{Step}
use Rattle.grid_base.specs.declared.original.Original.{Original}
use Rattle.line_grammar.specs.declared.command.Change.{Change}
use Rattle.realm_audit.specs.declared.item.Item.{Item}
use Rattle.realm_audit.specs.declared.item.Item.TheVariants as items
use Rattle.realm_insert.specs.Differences.{points_besides, originals_besides}
use Rattle.realm_insert.specs.Next.{Next}
use Rattle.realm_insert.specs.Refusals.{IsAccepted, DeletesNothing, TakesNoPoint}
use Rattle.realm_insert.specs.Snapshots.{IsValidState}
use Rattle.realm_insert.specs.State.{State}
use Rattle.realm_insert.proofs.StepsTaken.{points_kept}
use Rattle.certificate_law.specs.Certificates.{segment_item, change_items}
use Rattle.store_certificate.specs.Telling.{lost_items, from_id, told_items}
use Rattle.store_certificate.proofs.Ids.{ids}
use Rattle.store_certificate.proofs.SettledIds.{ids-settled}
use Rattle.store_certificate.proofs.ChangedIds.{changed_ids}
use Rattle.store_certificate.proofs.LostItems.{lost_are}
use Rattle.store_certificate.proofs.NewOriginals.{new_are}

-- ---- what an accepted change has
something_deleted : (c : Change) (s : State) → IsAccepted c s → DeletesNothing c s.drawing → ⊥
something_deleted c s accepted = accepted.1.1.1.1.1.1.0

some_point_taken : (c : Change) (s : State) → IsAccepted c s → TakesNoPoint c s.drawing → ⊥
some_point_taken c s accepted = accepted.1.1.1.1.1.1.1.0

-- ---- its lines
-- the differences of the two drawings are what the change takes away, the points that come and the originals with new ids
pub change_told : (old new : State) (c : Change) (trace : List Step) → Next old c trace new → IsValidState old → IsValidState new
    → change_items old.drawing trace new.drawing
    ≡ told_items c (points_besides new.drawing.points old.drawing.points) (from_id old.next_id new.drawing.originals) trace
change_told old new c trace next valid valid_after =
    let d = old.drawing in
    let e = new.drawing in
    let points = points_kept next.changed e trace next.settles in
    let same = ids-settled next.changed e trace next.settles in
    let come : (n : ℕ) → Contains (ids e.originals) n → Contains (ids d.originals) n ⊎ (old.next_id ≤ n) = λ n there.
    changed_ids c next.figure d old.next_id n (subst (λ l. Contains l n) (same ∙ ap ids next.is_changed.originals) there) in
    let behind : List Original → List Item = λ os.
    map items.Point (points_besides e.points d.points) ++ (map segment_item os ++ map items.Step trace) in
    ap (λ (l : List Item). items.Change ∷ l) (
    lost_are c next.figure d next.changed e old.next_id (behind (originals_besides e.originals d.originals)) next.is_changed points
    same valid.points_ascend valid.ids_rise (something_deleted c old next.accepted) (some_point_taken c old next.accepted)
    ∙ ap (λ (os : List Original). lost_items c ++ behind os)
    (new_are d.originals e.originals old.next_id valid_after.ids_rise valid.ids come)
    )
