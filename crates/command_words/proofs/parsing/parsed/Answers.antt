-- The parser's errors are exact for such a command: at an `Ok` nothing failed, and at an `Err` something did.
use Rattle.std.proofs.Common.{◌≡◌, ◌∙◌, [], map, ap, subst, string_bytes}
use Rattle.std.proofs.lemmas.List.Elements.{All-map}
use Rattle.clap.specs.Words.{HasKind, app_of, fault_of, is_simple, is_simple_and_free, subcommand_of}
use Rattle.command_words.specs.Parsing.{IsNoFlag, commands, told}
use Rattle.command_words.proofs.Spellings.{commands_are_free, commands_are_simple, refused_is_no_command, taken_is_spelled}
use Rattle.command_words.proofs.parsing.parsed.Goals as goal

-- what was met tells the words
pub returns-in-Ok : goal.returns-in-Ok
returns-in-Ok c =
    let words = map string_bytes c.args.words.now in
    let app_is : app_of c.in_ok-command.command ≡ commands = c.in_ok-command.ensures in
    let none = c.in-Ok.ensures.kinds (ap is_simple_and_free app_is ∙ commands_are_free) in
    let met = (c.in-Ok.ensures.matches (ap is_simple app_is ∙ commands_are_simple)).1 in
    taken_is_spelled words c.spelling_of.result (All-map IsNoFlag string_bytes c.args.words.now c.requires.no_flags)
    (subst (λ a. fault_of a words ≡ []) app_is none) (c.spelling_of.ensures ∙ ap told (met ∙ ap (λ a. subcommand_of a words) app_is))

-- and no command fails
pub returns : goal.returns
returns c =
    let words = map string_bytes c.args.words.now in
    let app_is : app_of c.in_ok-command.command ≡ commands = c.in_ok-command.ensures in
    let some = c.in-Err.ensures.kinds (ap is_simple_and_free app_is ∙ commands_are_free) in
    refused_is_no_command words c.in-Err.error (λ memory. c.in_default.not-OutOfMemory (c.kind.ensures ∙ memory))
    (subst (λ a. HasKind (fault_of a words) c.in-Err.error) app_is some)
