use Rattle.std.proofs.Common.{inl, inr, refl}
use Rattle.rose_shell.proofs.Tellings.{none_asked}
use Rattle.rose_shell.proofs.telling.tell_map.Goals as goal

-- nothing happened before the lines were there
pub returns-in-Ok-clause-told : goal.returns-in-Ok-clause-told
returns-in-Ok-clause-told g c = λ tells. inr (c.in-Ok.told, c.in-Ok.ensures, c.give_lines.ensures.told tells)

pub returns-in-Err-clause-told : goal.returns-in-Err-clause-told
returns-in-Err-clause-told g c = λ tells. inl (refl, none_asked)

pub returns-in-Ok-clause-complete : goal.returns-in-Ok-clause-complete
returns-in-Ok-clause-complete g c = λ sink.
    elim c.give_lines.ensures.ends [
      | inl done ↦ inl done
      | inr fault ↦ absurd (sink (c.give_lines.ensures.sink_fault fault))
    ]
