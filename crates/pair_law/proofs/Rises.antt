-- This file shows that records lead to one state, and to more changes.
use Rattle.std.proofs.Common.{◌≡◌, ◌<◌, ◌≤◌, ◌+◌, List, [], ◌∷◌, ◌++◌, length, refl, sym, ap, subst, ◌∙◌, arith, All}
use Rattle.std.proofs.lemmas.List.Elements.{All-nil, All-cons, All-head, All-tail}
use Rattle.record_codec.specs.declared.entry.Entry.{Entry}
use Rattle.record_codec.specs.declared.record.Record.{Record}
use Rattle.record_codec.specs.Fitting.{IsRecord}
use Rattle.realm_insert.specs.State.{State}
use Rattle.realm_store.specs.Leading.{LeadOnBy, Leads}
use Rattle.realm_store.specs.Replaying.{LeadOn}
use Rattle.realm_store.proofs.LedOnce.{leads_once}
use Rattle.standby_core.specs.Shipping.{last_number}

-- each entry is one change more
pub changes_led : (start end : State) (entries : List Entry) → LeadOnBy start entries end
    → end.changes ≡ start.changes + length entries
changes_led start end [] same = omega (arith, ap (λ (s : State). s.changes) same)
changes_led start end (e ∷ entries) (mid, by, more) = omega (arith, by.next.changes, changes_led mid end entries more)

-- so a record leads to no fewer changes,
pub leads_rise : (old new : State) (r : Record) → Leads old r new → old.changes ≤ new.changes
leads_rise old new r leads = omega (arith, changes_led old new r.entries leads.entries)

-- and one that has a text, to more: its last change has the number of the state that it leads to
pub record IsNumbered (old : State) (r : Record) (new : State) : Type 0 where
  pub last : last_number r ≡ new.changes
  pub more : old.changes < new.changes

pub numbered : (old new : State) (r : Record) → IsRecord r → Leads old r new → IsNumbered old r new
numbered old new r text leads =
    let number = leads.number in
    let some = text.some in
    let led = changes_led old new r.entries leads.entries in
    record { last = omega arith; more = omega arith }

-- ---- records, one after another

-- of records that have texts, those in front have them, and those behind
pub texts_in_front : (rs more : List Record) → All IsRecord (rs ++ more) → All IsRecord rs
texts_in_front [] more texts = All-nil IsRecord
texts_in_front (r ∷ rs) more texts =
    All-cons IsRecord r rs (All-head IsRecord r (rs ++ more) texts)
    (texts_in_front rs more (All-tail IsRecord r (rs ++ more) texts))

pub texts_behind : (rs more : List Record) → All IsRecord (rs ++ more) → All IsRecord more
texts_behind [] more texts = texts
texts_behind (r ∷ rs) more texts = texts_behind rs more (All-tail IsRecord r (rs ++ more) texts)

-- records lead to one state
pub lead_once : (start s t : State) (rs : List Record) → LeadOn start rs s → LeadOn start rs t → s ≡ t
lead_once start s t [] one also = one ∙ sym also
lead_once start s t (r ∷ rs) (mid, first, later) (other, also, after) =
    let same : other ≡ mid = leads_once start other mid r also first in
    lead_once mid s t rs later (subst (λ m. LeadOn m rs t) same after)

-- with further records they lead on
pub lead_join : (start mid end : State) (rs more : List Record) → LeadOn start rs mid → LeadOn mid more end
    → LeadOn start (rs ++ more) end
lead_join start mid end [] more is later = subst (λ s. LeadOn s more end) is later
lead_join start mid end (r ∷ rs) more (next, first, rest) later = (next, first, lead_join next mid end rs more rest later)

pub lead_split : (start end : State) (rs more : List Record) → LeadOn start (rs ++ more) end
    → (mid : State) × LeadOn start rs mid × LeadOn mid more end
lead_split start end [] more lead = (start, refl, lead)
lead_split start end (r ∷ rs) more (next, first, rest) =
    let further = lead_split next end rs more rest in
    (further.0, (next, first, further.1), further.2)

-- to no fewer changes
pub lead_rises : (start end : State) (rs : List Record) → LeadOn start rs end → start.changes ≤ end.changes
lead_rises start end [] is =
    let same : end.changes ≡ start.changes = ap (λ (s : State). s.changes) is in
    omega arith
lead_rises start end (r ∷ rs) (next, first, rest) =
    let few = leads_rise start next r first in
    let later = lead_rises next end rs rest in
    omega arith

-- and where they are no more, there was no record that has a text
pub lead_stays : (start end : State) (rs : List Record) → All IsRecord rs → LeadOn start rs end
    → end.changes ≤ start.changes → end ≡ start
lead_stays start end [] texts is few = is
lead_stays start end (r ∷ rs) texts (next, first, rest) few =
    let more = (numbered start next r (All-head IsRecord r rs texts) first).more in
    let later = lead_rises next end rs rest in
    absurd (omega arith)
