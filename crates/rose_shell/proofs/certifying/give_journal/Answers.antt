use Rattle.std.proofs.Common.{inl, inr, sym, subst}
use Rattle.rose_shell.specs.declared.status.Status.{Status}
use Rattle.rose_shell.specs.Certifying.{GivesItems}
use Rattle.rose_shell.proofs.GivenItems.{sink_or_memory, sink_rose, none_failed}
use Rattle.rose_shell.proofs.certifying.give_journal.Goals as goal

-- all was given
pub returns-in-Ok-clause-intact : goal.returns-in-Ok-clause-intact
returns-in-Ok-clause-intact g c = λ none. c.in-Ok.ensures.2.intact

pub returns-in-Ok-clause-told : goal.returns-in-Ok-clause-told
returns-in-Ok-clause-told g c = λ tells.
    let (list, is_certificate, gave) = c.in-Ok.ensures in
    (list, is_certificate, gave.told tells)

pub returns-in-Ok-clause-goes_on : goal.returns-in-Ok-clause-goes_on
returns-in-Ok-clause-goes_on g c = c.in-Ok.ensures.2.goes_on

-- or the sink failed, or memory ran out
pub returns-in-Err-clause-ends : goal.returns-in-Err-clause-ends
returns-in-Err-clause-ends g c = inr (sink_or_memory c.in-Err.ensures.2 c.from.ensures)

pub returns-in-Err-clause-intact : goal.returns-in-Err-clause-intact
returns-in-Err-clause-intact g c = none_failed c.in-Err.ensures.2 c.from.ensures

pub returns-in-Err-clause-sink_fault : goal.returns-in-Err-clause-sink_fault
returns-in-Err-clause-sink_fault g c = sink_rose c.in-Err.ensures.2 c.from.ensures

pub returns-in-Err-clause-told : goal.returns-in-Err-clause-told
returns-in-Err-clause-told g c = λ tells.
    let (list, is_certificate, gave) = c.in-Err.ensures in (
      list,
      is_certificate,
      subst (λ (s : Status). GivesItems (g.W.Outside.view c.args.world.now) (g.W.Outside.view c.give_certificate.new.world) list s)
          (sym c.from.ensures) (gave.told tells),
    )

pub returns-in-Err-clause-goes_on : goal.returns-in-Err-clause-goes_on
returns-in-Err-clause-goes_on g c = c.in-Err.ensures.2.goes_on
