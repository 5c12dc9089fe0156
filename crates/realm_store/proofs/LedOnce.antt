-- This file shows that an entry and a record lead from a state to one, and that a payload opens one.
use Rattle.std.proofs.Common.{◌≡◌, ℕ, List, [], ◌∷◌, sym, ◌∙◌, ap, subst}
use Rattle.line_grammar.specs.declared.command.Change.{Change}
use Rattle.line_grammar.specs.declared.command.Command.TheVariants as commands
use Rattle.line_grammar.specs.Spelling.{change_text}
use Rattle.line_grammar.specs.Spellable.{IsSpellableChange}
use Rattle.line_grammar.proofs.Commands.{one_command}
use Rattle.record_codec.specs.declared.entry.Entry.{Entry}
use Rattle.record_codec.specs.declared.record.Record.{Record}
use Rattle.record_codec.proofs.SnapshotLemmas.{one_state as one_snapshot}
use Rattle.realm_insert.specs.State.{State}
use Rattle.realm_insert.specs.Next.{Next}
use Rattle.realm_insert.specs.Snapshots.{state_of}
use Rattle.realm_insert.proofs.SameStates.{one_state}
use Rattle.realm_store.specs.Leading.{LeadsBy, LeadOnBy, Leads}
use Rattle.realm_store.specs.Stands.{Opens}

-- a line is the text of one change
pub one_change : (c d : Change) → IsSpellableChange c → IsSpellableChange d → change_text c ≡ change_text d → c ≡ d
one_change c d is also same =
    let one : commands.Change c ≡ commands.Change d = one_command (commands.Change c) (commands.Change d) is also same in cc

-- an entry leads from a state to one
pub leads_by_once : (old new other : State) (e : Entry) → LeadsBy old e new → LeadsBy old e other → new ≡ other
leads_by_once old new other e one also =
    let same = one_change also.change one.change also.spellable one.spellable (sym also.line ∙ one.line) in
    one_state old new other one.change e.trace one.next (subst (λ c. Next old c e.trace other) same also.next)

-- so do entries, one after another,
lead_on_by_once : (old new other : State) (entries : List Entry) → LeadOnBy old entries new → LeadOnBy old entries other → new ≡ other
lead_on_by_once old new other [] one also = one ∙ sym also
lead_on_by_once old new other (e ∷ more) (mid, first, later) (next, also, then) =
    let same = leads_by_once old next mid e also first in
    lead_on_by_once mid new other more later (subst (λ s. LeadOnBy s more other) same then)

-- and a record
pub leads_once : (old new other : State) (r : Record) → Leads old r new → Leads old r other → new ≡ other
leads_once old new other r one also = lead_on_by_once old new other r.entries one.entries also.entries

-- a payload opens one state
pub opens_once : (bytes : List ℕ) (s t : State) → Opens bytes s → Opens bytes t → s ≡ t
opens_once bytes s t one also =
    let same = one_snapshot one.snapshot also.snapshot one.is_snapshot also.is_snapshot (sym one.is_payload ∙ also.is_payload) in
    one.state_is ∙ ap state_of same ∙ sym also.state_is
