use Rattle.std.proofs.Common.{inr, refl, sym, ◌∙◌, subst, map}
use Rattle.std.specs.Prelude.{string_bytes}
use Rattle.command_words.specs.Written.{AreWordsOf, IsNoCommand}
use Rattle.command_words.specs.declared.word.Word.{Word}
use Rattle.rose_shell.specs.Telling.{HasDone, CanBeDone, AsksNoFile}
use Rattle.rose_shell.proofs.Results.{at_some, at_none}
use Rattle.rose_shell.proofs.Tellings.{none_done}
use Rattle.rose_shell.proofs.running.run.Goals as goal

-- ---- the word `run`

-- the words are those of the command that was read, and of no other
pub returns-in-Run-clause-no_command : goal.returns-in-Run-clause-no_command
returns-in-Run-clause-no_command g c = λ none.
    let read = c.in-Ok-Some in
    absurd (none read.word (at_some (IsNoCommand (map string_bytes c.args.words.now)) (AreWordsOf (map string_bytes c.args.words.now))
    read.field-0-is read.ensures))

pub returns-in-Run-clause-untouched : goal.returns-in-Run-clause-untouched
returns-in-Run-clause-untouched g c = λ none.
    let read = c.in-Ok-Some in
    absurd (none read.word (at_some (IsNoCommand (map string_bytes c.args.words.now)) (AreWordsOf (map string_bytes c.args.words.now))
    read.field-0-is read.ensures))

-- so it is done, and asks what this asks
pub returns-in-Run-clause-told : goal.returns-in-Run-clause-told
returns-in-Run-clause-told g c = λ command written tells.
    let read = c.in-Ok-Some in
    let is = at_some (IsNoCommand (map string_bytes c.args.words.now)) (AreWordsOf (map string_bytes c.args.words.now))
    read.field-0-is read.ensures in
    subst
    (λ (w : Word). HasDone w (g.W.Outside.view c.args.world.now) (g.W.Outside.view c.run_lines.new.world) c.run_lines.result)
    (sym c.in-Run.is ∙ c.one_command.ensures _ read.word command is written) (c.run_lines.ensures.told tells)

pub returns-in-Run-clause-complete : goal.returns-in-Run-clause-complete
returns-in-Run-clause-complete g c = λ command written tells source sink disk can.
    let read = c.in-Ok-Some in
    let is = at_some (IsNoCommand (map string_bytes c.args.words.now)) (AreWordsOf (map string_bytes c.args.words.now))
    read.field-0-is read.ensures in
    let asked = subst (λ (w : Word). CanBeDone w (g.W.Outside.view c.args.world.now))
    (c.one_command.ensures _ command read.word written is ∙ c.in-Run.is) can in
    c.run_lines.ensures.complete tells source sink disk asked.0 asked.1.0 asked.1.1

pub returns-in-Run-clause-no_file : goal.returns-in-Run-clause-no_file
returns-in-Run-clause-no_file g c = λ command written asks.
    let read = c.in-Ok-Some in
    let is = at_some (IsNoCommand (map string_bytes c.args.words.now)) (AreWordsOf (map string_bytes c.args.words.now))
    read.field-0-is read.ensures in
    absurd (subst AsksNoFile (sym (sym c.in-Run.is ∙ c.one_command.ensures _ read.word command is written)) asks)

-- ---- the word `check`

pub returns-in-Check-clause-no_command : goal.returns-in-Check-clause-no_command
returns-in-Check-clause-no_command g c = λ none.
    let read = c.in-Ok-Some in
    absurd (none read.word (at_some (IsNoCommand (map string_bytes c.args.words.now)) (AreWordsOf (map string_bytes c.args.words.now))
    read.field-0-is read.ensures))

pub returns-in-Check-clause-untouched : goal.returns-in-Check-clause-untouched
returns-in-Check-clause-untouched g c = λ none.
    let read = c.in-Ok-Some in
    absurd (none read.word (at_some (IsNoCommand (map string_bytes c.args.words.now)) (AreWordsOf (map string_bytes c.args.words.now))
    read.field-0-is read.ensures))

pub returns-in-Check-clause-told : goal.returns-in-Check-clause-told
returns-in-Check-clause-told g c = λ command written tells.
    let read = c.in-Ok-Some in
    let is = at_some (IsNoCommand (map string_bytes c.args.words.now)) (AreWordsOf (map string_bytes c.args.words.now))
    read.field-0-is read.ensures in
    subst
    (λ (w : Word). HasDone w (g.W.Outside.view c.args.world.now) (g.W.Outside.view c.tell_store.new.world) c.tell_store.result)
    (sym c.in-Check.is ∙ c.one_command.ensures _ read.word command is written) (c.tell_store.ensures.told tells)

pub returns-in-Check-clause-complete : goal.returns-in-Check-clause-complete
returns-in-Check-clause-complete g c = λ command written tells source sink disk can.
    let read = c.in-Ok-Some in
    let is = at_some (IsNoCommand (map string_bytes c.args.words.now)) (AreWordsOf (map string_bytes c.args.words.now))
    read.field-0-is read.ensures in
    let asked = subst (λ (w : Word). CanBeDone w (g.W.Outside.view c.args.world.now))
    (c.one_command.ensures _ command read.word written is ∙ c.in-Check.is) can in
    c.tell_store.ensures.complete tells sink disk asked.0 asked.1

pub returns-in-Check-clause-no_file : goal.returns-in-Check-clause-no_file
returns-in-Check-clause-no_file g c = λ command written asks.
    let read = c.in-Ok-Some in
    let is = at_some (IsNoCommand (map string_bytes c.args.words.now)) (AreWordsOf (map string_bytes c.args.words.now))
    read.field-0-is read.ensures in
    absurd (subst AsksNoFile (sym (sym c.in-Check.is ∙ c.one_command.ensures _ read.word command is written)) asks)

-- ---- the word `gen`

pub returns-in-Gen-clause-no_command : goal.returns-in-Gen-clause-no_command
returns-in-Gen-clause-no_command g c = λ none.
    let read = c.in-Ok-Some in
    absurd (none read.word (at_some (IsNoCommand (map string_bytes c.args.words.now)) (AreWordsOf (map string_bytes c.args.words.now))
    read.field-0-is read.ensures))

pub returns-in-Gen-clause-untouched : goal.returns-in-Gen-clause-untouched
returns-in-Gen-clause-untouched g c = λ none.
    let read = c.in-Ok-Some in
    absurd (none read.word (at_some (IsNoCommand (map string_bytes c.args.words.now)) (AreWordsOf (map string_bytes c.args.words.now))
    read.field-0-is read.ensures))

pub returns-in-Gen-clause-told : goal.returns-in-Gen-clause-told
returns-in-Gen-clause-told g c = λ command written tells.
    let read = c.in-Ok-Some in
    let is = at_some (IsNoCommand (map string_bytes c.args.words.now)) (AreWordsOf (map string_bytes c.args.words.now))
    read.field-0-is read.ensures in
    subst
    (λ (w : Word). HasDone w (g.W.Outside.view c.args.world.now) (g.W.Outside.view c.tell_map.new.world) c.tell_map.result)
    (sym c.in-Gen.is ∙ c.one_command.ensures _ read.word command is written) (c.tell_map.ensures.told tells)

-- ---- the word `ship`

pub returns-in-Ship-clause-no_command : goal.returns-in-Ship-clause-no_command
returns-in-Ship-clause-no_command g c = λ none.
    let read = c.in-Ok-Some in
    absurd (none read.word (at_some (IsNoCommand (map string_bytes c.args.words.now)) (AreWordsOf (map string_bytes c.args.words.now))
    read.field-0-is read.ensures))

pub returns-in-Ship-clause-untouched : goal.returns-in-Ship-clause-untouched
returns-in-Ship-clause-untouched g c = λ none.
    let read = c.in-Ok-Some in
    absurd (none read.word (at_some (IsNoCommand (map string_bytes c.args.words.now)) (AreWordsOf (map string_bytes c.args.words.now))
    read.field-0-is read.ensures))

pub returns-in-Ship-clause-told : goal.returns-in-Ship-clause-told
returns-in-Ship-clause-told g c = λ command written tells.
    let read = c.in-Ok-Some in
    let is = at_some (IsNoCommand (map string_bytes c.args.words.now)) (AreWordsOf (map string_bytes c.args.words.now))
    read.field-0-is read.ensures in
    subst
    (λ (w : Word). HasDone w (g.W.Outside.view c.args.world.now) (g.W.Outside.view c.ship.new.world) c.ship.result)
    (sym c.in-Ship.is ∙ c.one_command.ensures _ read.word command is written) (c.ship.ensures.told tells)

pub returns-in-Ship-clause-complete : goal.returns-in-Ship-clause-complete
returns-in-Ship-clause-complete g c = λ command written tells source sink disk can.
    let read = c.in-Ok-Some in
    let is = at_some (IsNoCommand (map string_bytes c.args.words.now)) (AreWordsOf (map string_bytes c.args.words.now))
    read.field-0-is read.ensures in
    let asked = subst (λ (w : Word). CanBeDone w (g.W.Outside.view c.args.world.now))
    (c.one_command.ensures _ command read.word written is ∙ c.in-Ship.is) can in
    c.ship.ensures.complete tells sink disk asked.0 asked.1

pub returns-in-Ship-clause-no_file : goal.returns-in-Ship-clause-no_file
returns-in-Ship-clause-no_file g c = λ command written asks.
    let read = c.in-Ok-Some in
    let is = at_some (IsNoCommand (map string_bytes c.args.words.now)) (AreWordsOf (map string_bytes c.args.words.now))
    read.field-0-is read.ensures in
    absurd (subst AsksNoFile (sym (sym c.in-Ship.is ∙ c.one_command.ensures _ read.word command is written)) asks)

-- ---- the word `follow`

pub returns-in-Follow-clause-no_command : goal.returns-in-Follow-clause-no_command
returns-in-Follow-clause-no_command g c = λ none.
    let read = c.in-Ok-Some in
    absurd (none read.word (at_some (IsNoCommand (map string_bytes c.args.words.now)) (AreWordsOf (map string_bytes c.args.words.now))
    read.field-0-is read.ensures))

pub returns-in-Follow-clause-untouched : goal.returns-in-Follow-clause-untouched
returns-in-Follow-clause-untouched g c = λ none.
    let read = c.in-Ok-Some in
    absurd (none read.word (at_some (IsNoCommand (map string_bytes c.args.words.now)) (AreWordsOf (map string_bytes c.args.words.now))
    read.field-0-is read.ensures))

pub returns-in-Follow-clause-told : goal.returns-in-Follow-clause-told
returns-in-Follow-clause-told g c = λ command written tells.
    let read = c.in-Ok-Some in
    let is = at_some (IsNoCommand (map string_bytes c.args.words.now)) (AreWordsOf (map string_bytes c.args.words.now))
    read.field-0-is read.ensures in
    subst
    (λ (w : Word). HasDone w (g.W.Outside.view c.args.world.now) (g.W.Outside.view c.follow.new.world) c.follow.result)
    (sym c.in-Follow.is ∙ c.one_command.ensures _ read.word command is written) (c.follow.ensures.told tells)

pub returns-in-Follow-clause-complete : goal.returns-in-Follow-clause-complete
returns-in-Follow-clause-complete g c = λ command written tells source sink disk can.
    let read = c.in-Ok-Some in
    let is = at_some (IsNoCommand (map string_bytes c.args.words.now)) (AreWordsOf (map string_bytes c.args.words.now))
    read.field-0-is read.ensures in
    let asked = subst (λ (w : Word). CanBeDone w (g.W.Outside.view c.args.world.now))
    (c.one_command.ensures _ command read.word written is ∙ c.in-Follow.is) can in
    c.follow.ensures.complete tells source sink disk asked.0 asked.1.0 asked.1.1

pub returns-in-Follow-clause-no_file : goal.returns-in-Follow-clause-no_file
returns-in-Follow-clause-no_file g c = λ command written asks.
    let read = c.in-Ok-Some in
    let is = at_some (IsNoCommand (map string_bytes c.args.words.now)) (AreWordsOf (map string_bytes c.args.words.now))
    read.field-0-is read.ensures in
    absurd (subst AsksNoFile (sym (sym c.in-Follow.is ∙ c.one_command.ensures _ read.word command is written)) asks)

-- ---- the word `certify`

pub returns-in-Certify-clause-no_command : goal.returns-in-Certify-clause-no_command
returns-in-Certify-clause-no_command g c = λ none.
    let read = c.in-Ok-Some in
    absurd (none read.word (at_some (IsNoCommand (map string_bytes c.args.words.now)) (AreWordsOf (map string_bytes c.args.words.now))
    read.field-0-is read.ensures))

pub returns-in-Certify-clause-untouched : goal.returns-in-Certify-clause-untouched
returns-in-Certify-clause-untouched g c = λ none.
    let read = c.in-Ok-Some in
    absurd (none read.word (at_some (IsNoCommand (map string_bytes c.args.words.now)) (AreWordsOf (map string_bytes c.args.words.now))
    read.field-0-is read.ensures))

pub returns-in-Certify-clause-told : goal.returns-in-Certify-clause-told
returns-in-Certify-clause-told g c = λ command written tells.
    let read = c.in-Ok-Some in
    let is = at_some (IsNoCommand (map string_bytes c.args.words.now)) (AreWordsOf (map string_bytes c.args.words.now))
    read.field-0-is read.ensures in
    subst
    (λ (w : Word). HasDone w (g.W.Outside.view c.args.world.now) (g.W.Outside.view c.certify.new.world) c.certify.result)
    (sym c.in-Certify.is ∙ c.one_command.ensures _ read.word command is written) (c.certify.ensures.told tells)

pub returns-in-Certify-clause-complete : goal.returns-in-Certify-clause-complete
returns-in-Certify-clause-complete g c = λ command written tells source sink disk can.
    let read = c.in-Ok-Some in
    let is = at_some (IsNoCommand (map string_bytes c.args.words.now)) (AreWordsOf (map string_bytes c.args.words.now))
    read.field-0-is read.ensures in
    let asked = subst (λ (w : Word). CanBeDone w (g.W.Outside.view c.args.world.now))
    (c.one_command.ensures _ command read.word written is ∙ c.in-Certify.is) can in
    c.certify.ensures.complete tells sink disk asked.0 asked.1

pub returns-in-Certify-clause-no_file : goal.returns-in-Certify-clause-no_file
returns-in-Certify-clause-no_file g c = λ command written asks.
    let read = c.in-Ok-Some in
    let is = at_some (IsNoCommand (map string_bytes c.args.words.now)) (AreWordsOf (map string_bytes c.args.words.now))
    read.field-0-is read.ensures in
    absurd (subst AsksNoFile (sym (sym c.in-Certify.is ∙ c.one_command.ensures _ read.word command is written)) asks)

-- ---- the word `audit`

pub returns-in-Audit-clause-no_command : goal.returns-in-Audit-clause-no_command
returns-in-Audit-clause-no_command g c = λ none.
    let read = c.in-Ok-Some in
    absurd (none read.word (at_some (IsNoCommand (map string_bytes c.args.words.now)) (AreWordsOf (map string_bytes c.args.words.now))
    read.field-0-is read.ensures))

pub returns-in-Audit-clause-untouched : goal.returns-in-Audit-clause-untouched
returns-in-Audit-clause-untouched g c = λ none.
    let read = c.in-Ok-Some in
    absurd (none read.word (at_some (IsNoCommand (map string_bytes c.args.words.now)) (AreWordsOf (map string_bytes c.args.words.now))
    read.field-0-is read.ensures))

pub returns-in-Audit-clause-told : goal.returns-in-Audit-clause-told
returns-in-Audit-clause-told g c = λ command written tells.
    let read = c.in-Ok-Some in
    let is = at_some (IsNoCommand (map string_bytes c.args.words.now)) (AreWordsOf (map string_bytes c.args.words.now))
    read.field-0-is read.ensures in
    subst
    (λ (w : Word). HasDone w (g.W.Outside.view c.args.world.now) (g.W.Outside.view c.audit_input.new.world) c.audit_input.result)
    (sym c.in-Audit.is ∙ c.one_command.ensures _ read.word command is written) (c.audit_input.ensures.told tells)

pub returns-in-Audit-clause-complete : goal.returns-in-Audit-clause-complete
returns-in-Audit-clause-complete g c = λ command written tells source sink disk can.
    let read = c.in-Ok-Some in
    let is = at_some (IsNoCommand (map string_bytes c.args.words.now)) (AreWordsOf (map string_bytes c.args.words.now))
    read.field-0-is read.ensures in
    c.audit_input.ensures.complete tells source sink (subst (λ (w : Word). CanBeDone w (g.W.Outside.view c.args.world.now))
    (c.one_command.ensures _ command read.word written is ∙ c.in-Audit.is) can)

-- ---- no word

-- where none was read the words are those of none
pub returns-in-Ok-None-clause-usage : goal.returns-in-Ok-None-clause-usage
returns-in-Ok-None-clause-usage g c = λ _.
    let read = c.in-Ok-None in
    at_none (IsNoCommand (map string_bytes c.args.words.now)) (AreWordsOf (map string_bytes c.args.words.now)) read.field-0-is read.ensures

pub returns-in-Ok-None-clause-told : goal.returns-in-Ok-None-clause-told
returns-in-Ok-None-clause-told g c = λ command written tells.
    let read = c.in-Ok-None in
    absurd (at_none (IsNoCommand (map string_bytes c.args.words.now)) (AreWordsOf (map string_bytes c.args.words.now))
    read.field-0-is read.ensures command written)

pub returns-in-Ok-None-clause-complete : goal.returns-in-Ok-None-clause-complete
returns-in-Ok-None-clause-complete g c = λ command written tells source sink disk can.
    let read = c.in-Ok-None in
    absurd (at_none (IsNoCommand (map string_bytes c.args.words.now)) (AreWordsOf (map string_bytes c.args.words.now))
    read.field-0-is read.ensures command written)

pub returns-in-Ok-None-clause-no_file : goal.returns-in-Ok-None-clause-no_file
returns-in-Ok-None-clause-no_file g c = λ command written asks.
    let read = c.in-Ok-None in
    absurd (at_none (IsNoCommand (map string_bytes c.args.words.now)) (AreWordsOf (map string_bytes c.args.words.now))
    read.field-0-is read.ensures command written)

-- and where memory ran out nothing was done
pub returns-in-Err-clause-told : goal.returns-in-Err-clause-told
returns-in-Err-clause-told g c = λ command written tells. none_done _ command

pub returns-in-Err-clause-complete : goal.returns-in-Err-clause-complete
returns-in-Err-clause-complete g c = λ command written tells source sink disk can. inr refl
