-- This file shows how the changes of entries are made again one after another, and their items given.
use Rattle.std.proofs.Common.{◌≡◌, ◌+◌, ◌<◌, ℕ, false, List, [], ◌∷◌, ◌++◌, length, take, drop, Ok, Err, refl, sym, ◌∙◌, ap, subst}
use Rattle.std.proofs.Common.{append_assoc}
use Rattle.std.proofs.lemmas.List.{append-nil, take_more, drop_more}
use Rattle.std.specs.Result.{IsErrAnd}
use Rattle.std.specs.Prelude.{Result, slice_index_or}
use Rattle.outside_world.specs.declared.world.Outside.{Ghosts}
use Rattle.record_codec.specs.declared.entry.Entry.{Entry}
use Rattle.record_codec.specs.declared.record.Record.{Record}
use Rattle.realm_audit.specs.declared.item.Item.{Item}
use Rattle.realm_insert.specs.State.{State, SpendableState}
use Rattle.realm_files.specs.Rows.{LeadOn}
use Rattle.realm_store.specs.Stands.{meaning}
use Rattle.realm_store.specs.Leading.{LeadsBy, LeadOnBy}
use Rattle.certificate_law.specs.Certificates.{change_items, AreChangeItems, entries_of}
use Rattle.rose_shell.specs.declared.fault.Fault.{Fault}
use Rattle.rose_shell.specs.declared.fault.Fault.TheVariants as faults
use Rattle.rose_shell.specs.Items.{GaveItems, GaveChanges}
use Rattle.rose_shell.proofs.Results.{err_is}
use Rattle.rose_shell.proofs.GivenItems.{gave_nothing, gave_none, gave_then, gave_all, gave_no_more}

-- ---- entries that lead on, and their items

-- entries behind others
lead_then : (start mid end : State) (es fs : List Entry) → LeadOnBy start es mid → LeadOnBy mid fs end → LeadOnBy start (es ++ fs) end
lead_then start mid end [] fs is later = subst (λ (s : State). LeadOnBy s fs end) is later
lead_then start mid end (e ∷ es) fs (next, leads, more) later = (next, leads, lead_then next mid end es fs more later)

lead_to : (start end : State) (es fs : List Entry) → LeadOnBy start (es ++ fs) end
    → (mid : State) × LeadOnBy start es mid × LeadOnBy mid fs end
lead_to start end [] fs lead = (start, refl, lead)
lead_to start end (e ∷ es) fs (next, leads, more) =
    let (mid, first, second) = lead_to next end es fs more in
    (mid, (next, leads, first), second)

-- the entries of records lead on where the records do
pub records_lead : (start end : State) (records : List Record) → LeadOn meaning start records end
    → LeadOnBy start (entries_of records) end
records_lead start end [] is = is
records_lead start end (r ∷ records) (mid, leads, more) =
    lead_then start mid end r.entries (entries_of records) leads.entries (records_lead mid end records more)

-- from the same state
pub lead_from : {start same : State} (records : List Record) (end : State) → start ≡ same → LeadOnBy same (entries_of records) end
    → LeadOnBy start (entries_of records) end
lead_from records end is lead = subst (λ (s : State). LeadOnBy s (entries_of records) end) (sym is) lead

pub changes_from : {start same : State} (records : List Record) (end : State) (list : List Item) → start ≡ same
    → AreChangeItems start (entries_of records) end list → AreChangeItems same (entries_of records) end list
changes_from records end list is items = subst (λ (s : State). AreChangeItems s (entries_of records) end list) is items

-- items of changes behind others
changes_then : (start mid end : State) (es fs : List Entry) (first second : List Item) → AreChangeItems start es mid first
    → AreChangeItems mid fs end second → AreChangeItems start (es ++ fs) end (first ++ second)
changes_then start mid end [] fs first second (same, none) are =
    subst (λ (l : List Item). AreChangeItems start fs end (l ++ second)) (sym none)
    (subst (λ (s : State). AreChangeItems s fs end second) same are)
changes_then start mid end (e ∷ es) fs first second (next, later, leads, more, is) are =
    let change = change_items start.drawing e.trace next.drawing in (
      next,
      later ++ second,
      leads,
      changes_then next mid end es fs later second more are,
      ap (λ (l : List Item). l ++ second) is ∙ append_assoc change later second,
    )

-- entries that lead on have items
pub some_changes : (start end : State) (es : List Entry) → LeadOnBy start es end → (list : List Item) × AreChangeItems start es end list
some_changes start end [] is = ([], (is, refl))
some_changes start end (e ∷ es) (next, leads, more) =
    let (later, are) = some_changes next end es more in
    (change_items start.drawing e.trace next.drawing ++ later, (next, later, leads, are, refl))

-- an entry leads where its change is made
pub led_alone : {state reached : State} {e : Entry} → ((after : State) → LeadsBy state e after → reached ≡ after)
    → (end : State) → LeadOnBy state (e ∷ []) end → reached ≡ end
led_alone led end (next, leads, last) = led next leads ∙ sym last

pub leads_alone : {state : State} {e : Entry} → (end : State) × LeadOnBy state (e ∷ []) end → (new : State) × LeadsBy state e new
leads_alone (end, (next, leads, last)) = (next, leads)

-- ---- changes that are made again

-- So far the entries before were made again and the items of their changes given, and the engine leads on by those that are left.
pub record Underway {World : Type 0} (outside : Ghosts World) (old now : World) (start : State) (entries before left : List Entry)
    (engine : SpendableState) : Type 0 where
  pub split : entries ≡ before ++ left
  pub ready : engine.spent ≡ false
  pub leads : (end : State) → LeadOnBy start entries end → LeadOnBy engine.state left end
  pub items : List Item
  pub are_items : AreChangeItems start before engine.state items
  pub gave : GaveItems outside old now items (Ok tt)

module _ {World : Type 0} {outside : Ghosts World} where
  pub underway_none : {w : World} (engine : SpendableState) (entries : List Entry) → engine.spent ≡ false → outside.failed w ≡ false
      → Underway outside w w engine.state entries [] entries engine
  underway_none engine entries ready intact = record {
    split = refl;
    ready = ready;
    leads = λ end lead. lead;
    items = [];
    are_items = (refl, refl);
    gave = gave_nothing intact;
  }

  -- the change of an entry was made, and its items given or begun
  pub one_change : {mid new : World} {state reached : State} {e : Entry} {list : List Item} {r : Result Unit Fault} (end : State)
      → LeadOnBy state (e ∷ []) end → ((after : State) → LeadsBy state e after → reached ≡ after)
      → list ≡ change_items state.drawing e.trace reached.drawing → GaveItems outside mid new list r
      → GaveChanges outside mid new state (e ∷ []) end r
  one_change {state = state} {e = e} {list} end (next, leads, last) led is gave =
      let list_is : list ≡ change_items state.drawing e.trace next.drawing =
      is ∙ ap (λ (s : State). change_items state.drawing e.trace s.drawing) (led next leads) in
      record {
        items = list;
        are_items = (next, [], leads, (last, refl), list_is ∙ sym (append-nil (change_items state.drawing e.trace next.drawing)));
        gave = gave;
      }

  -- or memory ran out before that
  pub no_change : {mid : World} {state : State} {e : Entry} (end : State) → outside.failed mid ≡ false → LeadOnBy state (e ∷ []) end
      → GaveChanges outside mid mid state (e ∷ []) end (Err faults.NoMemory)
  no_change {state = state} {e} end intact lead =
      let (list, are) = some_changes state end (e ∷ []) lead in
      record { items = list; are_items = are; gave = gave_none list intact }

  -- of these entries behind others
  module _ {old mid : World} {start : State} {entries before : List Entry} {engine : SpendableState} (these left : List Entry)
      (so_far : Underway outside old mid start entries before (these ++ left) engine) where
    -- where they lead
    pub leads_these : (end : State) × LeadOnBy start entries end → (mid : State) × LeadOnBy engine.state these mid
    leads_these (end, lead) =
        let (mid, first, second) = lead_to engine.state end these left (so_far.leads end lead) in
        (mid, first)

    pub underway_then : {new : World} {after : SpendableState} {u : Unit} → (end : State) × LeadOnBy start entries end → after.spent ≡ false
        → ((end : State) → LeadOnBy engine.state these end → after.state ≡ end)
        → ((end : State) → LeadOnBy engine.state these end → GaveChanges outside mid new engine.state these end (Ok u))
        → Underway outside old new start entries (before ++ these) left after
    underway_then {after = after} (end, lead) ready led gave =
        let (next, first, second) = lead_to engine.state end these left (so_far.leads end lead) in
        let now = gave next first in
        record {
          split = so_far.split ∙ sym (append_assoc before these left);
          ready = ready;
          leads = λ end lead.
              let (next, first, second) = lead_to engine.state end these left (so_far.leads end lead) in
              subst (λ (s : State). LeadOnBy s left end) (sym (led next first)) second;
          items = so_far.items ++ now.items;
          are_items = subst (λ (s : State). AreChangeItems start (before ++ these) s (so_far.items ++ now.items)) (sym (led next first))
              (changes_then start engine.state next before these so_far.items now.items so_far.are_items now.are_items);
          gave = gave_all (gave_then so_far.gave now.gave);
        }

    -- a fault came within them
    pub underway_cut : {new : World} {fault : Fault} (end : State) → LeadOnBy start entries end
        → ((end : State) → LeadOnBy engine.state these end → GaveChanges outside mid new engine.state these end (Err fault))
        → GaveChanges outside old new start entries end (Err fault)
    underway_cut end lead gave =
        let (next, first, second) = lead_to engine.state end these left (so_far.leads end lead) in
        let now = gave next first in
        let (later, are) = some_changes next end left second in
        let rest : AreChangeItems engine.state (these ++ left) end (now.items ++ later) =
        changes_then engine.state next end these left now.items later now.are_items are in
        let all : AreChangeItems start (before ++ (these ++ left)) end (so_far.items ++ (now.items ++ later)) =
        changes_then start engine.state end before (these ++ left) so_far.items (now.items ++ later) so_far.are_items rest in
        record {
          items = so_far.items ++ (now.items ++ later);
          are_items = subst (λ (l : List Entry). AreChangeItems start l end (so_far.items ++ (now.items ++ later))) (sym so_far.split) all;
          gave = gave_then so_far.gave (gave_no_more later now.gave);
        }

  -- memory ran out before the next
  pub underway_short : {old now : World} {start : State} {entries before left : List Entry} {engine : SpendableState}
      → Underway outside old now start entries before left engine → outside.failed now ≡ false → (end : State)
      → LeadOnBy start entries end → GaveChanges outside old now start entries end (Err faults.NoMemory)
  underway_short {old} {now} {start} {entries} {before} {left} {engine} so_far intact end lead =
      let (later, are) = some_changes engine.state end left (so_far.leads end lead) in
      let all : AreChangeItems start (before ++ left) end (so_far.items ++ later) =
      changes_then start engine.state end before left so_far.items later so_far.are_items are in
      record {
        items = so_far.items ++ later;
        are_items = subst (λ (l : List Entry). AreChangeItems start l end (so_far.items ++ later)) (sym so_far.split) all;
        gave = gave_then so_far.gave (gave_none later intact);
      }

  -- all were made again
  module _ {old now : World} {start : State} {entries before left : List Entry} {engine : SpendableState}
      (so_far : Underway outside old now start entries before left engine) (none : left ≡ []) (end : State)
      (lead : LeadOnBy start entries end) where
    pub reached_end : engine.state ≡ end
    reached_end = sym (subst (λ (l : List Entry). LeadOnBy engine.state l end) none (so_far.leads end lead))

    pub underway_over : GaveChanges outside old now start entries end (Ok tt)
    underway_over =
        let all : entries ≡ before = so_far.split ∙ ap (λ (l : List Entry). before ++ l) none ∙ append-nil before in
        record {
          items = so_far.items;
          are_items = subst (λ (l : List Entry). AreChangeItems start l end so_far.items) (sym all)
              (subst (λ (s : State). AreChangeItems start before s so_far.items) reached_end so_far.are_items);
          gave = so_far.gave;
        }

  -- a fault is handed on
  pub changes_err : {old new : World} {start end : State} {entries : List Entry} {fault : Fault} (r : Result Unit Fault)
      → IsErrAnd r (λ e. e ≡ fault) → GaveChanges outside old new start entries end (Err fault)
      → GaveChanges outside old new start entries end r
  changes_err {old} {new} {start} {end} {entries} r is gave =
      subst (λ (s : Result Unit Fault). GaveChanges outside old new start entries end s) (sym (err_is r is)) gave

  -- the entries that are left are these and others
  pub underway_at : {old now : World} {start : State} {entries before left : List Entry} {engine : SpendableState}
      (these after : List Entry) → left ≡ these ++ after → Underway outside old now start entries before left engine
      → Underway outside old now start entries before (these ++ after) engine
  underway_at {old} {now} {start} {entries} {before} {engine = engine} these after is so_far =
      subst (λ (l : List Entry). Underway outside old now start entries before l engine) is so_far

  pub underway_by : {old now : World} {start : State} {entries before done left : List Entry} {engine : SpendableState}
      → before ≡ done → Underway outside old now start entries done left engine
      → Underway outside old now start entries before left engine
  underway_by {old} {now} {start} {entries} {left = left} {engine} is so_far =
      subst (λ (l : List Entry). Underway outside old now start entries l left engine) (sym is) so_far

-- ---- by their places

module _ {X : Type 0} (list : List X) (i : ℕ) (x : X) (lt : i < length list) (is : x ≡ slice_index_or list i x) where
  pub next_left : drop i list ≡ x ∷ drop (i + 1) list
  next_left = drop_more list i x lt ∙ ap (λ (y : X). y ∷ drop (i + 1) list) (sym is)

  pub next_taken : take (i + 1) list ≡ take i list ++ x ∷ []
  next_taken = take_more list i x lt ∙ ap (λ (y : X). take i list ++ y ∷ []) (sym is)

-- the entries of a record that was read, and of those behind it
pub next_entries : {records left : List Record} {r : Record} (these : List Entry) → records ≡ r ∷ left → these ≡ r.entries
    → entries_of records ≡ these ++ entries_of left
next_entries {left = left} these is are = ap entries_of is ∙ ap (λ (l : List Entry). l ++ entries_of left) (sym are)
