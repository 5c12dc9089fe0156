-- This file shows where an entry leads whose line is the text of a change.
use Rattle.std.proofs.Common.{◌≡◌, sym, subst, ◌∙◌}
use Rattle.line_grammar.specs.declared.command.Change.{Change}
use Rattle.record_codec.specs.declared.entry.Entry.{Entry}
use Rattle.realm_insert.specs.State.{State}
use Rattle.realm_insert.specs.Next.{Next}
use Rattle.realm_store.specs.Leading.{LeadsBy}
use Rattle.realm_store.specs.Replaying.{IsReplayable}
use Rattle.realm_store.proofs.LedOnce.{one_change, leads_by_once}

-- that change leads there
pub next_by : (old new : State) (e : Entry) (c : Change) → IsReplayable e.line c → LeadsBy old e new → Next old c e.trace new
next_by old new e c of_line leads =
    let same = one_change leads.change c leads.spellable of_line.spellable (sym leads.line ∙ of_line.is_text) in
    subst (λ (d : Change). Next old d e.trace new) same leads.next

-- and the state that it leads to is the only one
pub led_once : (old new other : State) (e : Entry) (c : Change) → IsReplayable e.line c → Next old c e.trace new → LeadsBy old e other
    → new ≡ other
led_once old new other e c of_line next leads =
    leads_by_once old new other e (record { change = c; spellable = of_line.spellable; line = of_line.is_text; next = next }) leads
