-- The certificate of what the files of a store keep: the state that the newest file begins with, and then of each change behind it
-- what it made of the drawing, and the steps that settled that.
use Rattle.std.specs.Prelude.{◌≡◌, ℕ, ◌+◌, List, [], ◌∷◌, ◌++◌, length, map}
use Rattle.grid_base.specs.Drawing.{Drawing}
use Rattle.grid_base.specs.declared.kinds.Step.{Step}
use Rattle.grid_base.specs.declared.original.Original.{Original}
use Rattle.record_codec.specs.declared.entry.Entry.{Entry}
use Rattle.record_codec.specs.declared.record.Record.{Record}
use Rattle.record_codec.specs.declared.snapshot.Snapshot.{Snapshot}
use Rattle.realm_audit.specs.declared.item.Item.{Item}
use Rattle.realm_audit.specs.declared.item.Item.TheVariants as items
use Rattle.realm_insert.specs.State.{State}
use Rattle.realm_insert.specs.Snapshots.{state_of}
use Rattle.realm_store.specs.Leading.{LeadsBy}
use Rattle.realm_insert.specs.Differences.{points_besides, originals_besides}

-- an original that was there at the beginning, and one that comes
abbrev pub chain_item : Original → Item
chain_item o = items.Original o.id o.chain

abbrev pub segment_item : Original → Item
segment_item o = items.Segment o.id o.a o.b

-- the lines of a change: what is gone, what has come, and the steps
abbrev pub change_items : Drawing → List Step → Drawing → List Item
change_items old trace new =
    items.Change
    ∷ (map items.Unpoint (points_besides old.points new.points)
    ++ (map (λ o. items.Remove o.id) (originals_besides old.originals new.originals)
    ++ (map items.Point (points_besides new.points old.points)
    ++ (map segment_item (originals_besides new.originals old.originals)
    ++ map items.Step trace))))

-- the lines of the changes of these entries, which lead from the first state to the other
abbrev pub AreChangeItems : State → List Entry → State → List Item → Type 0
AreChangeItems start [] end list = (end ≡ start) × (list ≡ [])
AreChangeItems start (e ∷ more) end list =
    (mid : State) × (later : List Item) × LeadsBy start e mid × AreChangeItems mid more end later
    × (list ≡ change_items start.drawing e.trace mid.drawing ++ later)

-- the lines of the state at the beginning: its explicit points, and its originals with their chains
abbrev pub opening_items : Snapshot → List Item
opening_items s = map items.Point s.points ++ map chain_item s.originals

-- the entries of records, in order
abbrev pub entries_of : List Record → List Entry
entries_of [] = []
entries_of (r ∷ records) = r.entries ++ entries_of records

-- the certificate of the state of the base and of these records, which lead from there to the end
abbrev pub IsCertificate : Snapshot → List Record → State → List Item → Type 0
IsCertificate base records end list =
    (changes : List Item) × AreChangeItems (state_of base) (entries_of records) end changes
    × (list ≡ opening_items base ++ (changes ++ items.End ∷ []))

-- how many steps the entries took
abbrev pub step_count : List Entry → ℕ
step_count [] = 0
step_count (e ∷ entries) = length e.trace + step_count entries
