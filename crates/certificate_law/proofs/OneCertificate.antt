-- This file shows that entries which lead from a state to another have lines, and but one list of them.
use Rattle.std.proofs.Common.{◌≡◌, ◌+◌, List, [], ◌∷◌, ◌++◌, refl, append_assoc, sym, ap, ap₂, subst, ◌∙◌}
use Rattle.record_codec.specs.declared.entry.Entry.{Entry}
use Rattle.record_codec.specs.declared.record.Record.{Record}
use Rattle.record_codec.specs.declared.snapshot.Snapshot.{Snapshot}
use Rattle.realm_audit.specs.declared.item.Item.{Item}
use Rattle.realm_audit.specs.declared.item.Item.TheVariants as items
use Rattle.realm_insert.specs.State.{State}
use Rattle.realm_insert.specs.Snapshots.{state_of}
use Rattle.realm_store.specs.Leading.{LeadsBy, LeadOnBy, Leads}
use Rattle.realm_store.proofs.LedOnce.{leads_once}
use Rattle.certificate_law.specs.Certificates.{AreChangeItems, IsCertificate, change_items, entries_of, opening_items}

-- the lines of each change, one after another
pub some_changes : (start end : State) (entries : List Entry) → LeadOnBy start entries end
    → (list : List Item) × AreChangeItems start entries end list
some_changes start end [] is = ([], (is, refl))
some_changes start end (e ∷ entries) (mid, by, rest) =
    let (later, are) = some_changes mid end entries rest in
    (change_items start.drawing e.trace mid.drawing ++ later, (mid, later, by, are, refl))

-- and those of further entries behind them
pub changes_join : (start mid end : State) (xs ys : List Entry) (list more : List Item) → AreChangeItems start xs mid list
    → AreChangeItems mid ys end more → AreChangeItems start (xs ++ ys) end (list ++ more)
changes_join start mid end [] ys list more (is, none) rest =
    subst (λ (l : List Item). AreChangeItems start ys end (l ++ more)) (sym none)
    (subst (λ s. AreChangeItems s ys end more) is rest)
changes_join start mid end (e ∷ xs) ys list more (next, later, by, first, is) rest = (
  next,
  later ++ more,
  by,
  changes_join next mid end xs ys later more first rest,
  ap (λ (l : List Item). l ++ more) is ∙ append_assoc (change_items start.drawing e.trace next.drawing) later more,
)

pub some_certificate : (base : Snapshot) (records : List Record) (end : State) → LeadOnBy (state_of base) (entries_of records) end
    → (list : List Item) × IsCertificate base records end list
some_certificate base records end lead =
    let (changes, are) = some_changes (state_of base) end (entries_of records) lead in
    (opening_items base ++ (changes ++ items.End ∷ []), (changes, are, refl))

-- an entry leads to one state, as a record of it alone does
leads_to_one : (start mid other : State) (e : Entry) → LeadsBy start e mid → LeadsBy start e other → mid ≡ other
leads_to_one start mid other e one also =
    let alone : Record = record { number = start.changes + 1; entries = e ∷ [] } in
    let first : Leads start alone mid = record { number = refl; entries = (mid, one, refl) } in
    let second : Leads start alone other = record { number = refl; entries = (other, also, refl) } in
    leads_once start mid other alone first second

one_list : (start end : State) (entries : List Entry) (first second : List Item) → AreChangeItems start entries end first
    → AreChangeItems start entries end second → first ≡ second
one_list start end [] first second one also = one.1 ∙ sym also.1
one_list start end (e ∷ entries) first second (mid, later, by, rest, is) (other, more, too, then, also) =
    let same = leads_to_one start other mid e too by in
    let tails = one_list mid end entries later more rest (subst (λ s. AreChangeItems s entries end more) same then) in
    is ∙ ap₂ (λ (s : State) (l : List Item). change_items start.drawing e.trace s.drawing ++ l) (sym same) tails ∙ sym also

pub one_certificate : (base : Snapshot) (records : List Record) (end : State) (first second : List Item)
    → IsCertificate base records end first → IsCertificate base records end second → first ≡ second
one_certificate base records end first second (changes, are, is) (others, too, also) =
    let same = one_list (state_of base) end (entries_of records) changes others are too in
    is ∙ ap (λ (l : List Item). opening_items base ++ (l ++ items.End ∷ [])) same ∙ sym also
