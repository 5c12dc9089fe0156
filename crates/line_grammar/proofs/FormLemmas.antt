-- This file shows that what stands behind each first word is read exactly.
use Rattle.std.proofs.Common.{List, ℕ, refl}
use Rattle.line_grammar.specs.declared.command.Command.{Command}
use Rattle.line_grammar.specs.Slots.{Slots, Fits, spelled, Nothing, OneNumber, OnePlace, TwoPlaces, OneName, NameAndPlaces, NameAndLists}
use Rattle.line_grammar.specs.Slots.{Operation, Question, Measure, Definition, SomeNames, TwoLists, KeyedNames}
use Rattle.line_grammar.specs.Rows.{Row, Line, row}
use Rattle.line_grammar.specs.Forms.{slots_at, filled, command_at, operation_at, question_at, measuring_at, definition_at}
use Rattle.line_grammar.proofs.Exact.{Tail, Tail-same, Then, then, Spells}
use Rattle.line_grammar.proofs.Literals.{Ended, finish, Made, made}
use Rattle.line_grammar.proofs.Choices.{Any}
use Rattle.line_grammar.proofs.WordLemmas.{keyword_token}
use Rattle.line_grammar.proofs.NameRows.{some_names, some_keyed}
use Rattle.line_grammar.proofs.TwoLists.{two_lists}
use Rattle.line_grammar.proofs.Ends as ends
use Rattle.line_grammar.proofs.Ends.{OperationFits, operation_text, QuestionFits, question_text, MeasuringFits, measuring_text}
use Rattle.line_grammar.proofs.Ends.{DefinitionFits, definition_text}

-- each form, up to the end of the line
slots_exact : (s : Slots) → Tail Any (Spells (Fits s) (spelled s)) (slots_at s)
unfolding slots_at
slots_exact Nothing =
    Tail-same Any (Ended tt) (Spells (Fits Nothing) (spelled Nothing)) (slots_at Nothing)
    (λ c s h. (tt, h.1)) (λ c s h. (refl, h.1)) (finish Any tt tt)
slots_exact OneNumber = ends.last_number
slots_exact OnePlace = ends.last_place
slots_exact TwoPlaces = ends.ends
slots_exact OneName = ends.last_name
slots_exact NameAndPlaces = ends.named_places
slots_exact NameAndLists = ends.named_lists
slots_exact Operation =
    Tail-same Any (Spells OperationFits operation_text) (Spells (Fits Operation) (spelled Operation)) operation_at
    (λ c s h. (h.0.1, h.1)) (λ c s h. ((tt, h.0), h.1)) ends.operation
slots_exact Question =
    Tail-same Any (Spells QuestionFits question_text) (Spells (Fits Question) (spelled Question)) question_at
    (λ c s h. (h.0.1, h.1)) (λ c s h. ((tt, h.0), h.1)) ends.question
slots_exact Measure =
    Tail-same Any (Spells MeasuringFits measuring_text) (Spells (Fits Measure) (spelled Measure)) measuring_at
    (λ c s h. (h.0.1, h.1)) (λ c s h. ((tt, h.0), h.1)) ends.measuring
slots_exact Definition =
    Tail-same Any (Spells DefinitionFits definition_text) (Spells (Fits Definition) (spelled Definition)) definition_at
    (λ c s h. ((h.0.0, h.0.1.1.0, h.0.1.1.1), h.1)) (λ c s h. ((h.0.0, (tt, (h.0.1, h.0.2))), h.1)) ends.definition
slots_exact SomeNames = some_names
slots_exact TwoLists = two_lists
slots_exact KeyedNames = some_keyed

-- what a row says
abbrev pub Filled : Row → Command → List ℕ → Type 0
Filled (Line word slots said) = Made said (Spells (Fits slots) (spelled slots))

filled_exact : (r : Row) → Tail Any (Filled r) (filled r)
unfolding filled
filled_exact (Line word slots said) = made Any said (Spells (Fits slots) (spelled slots)) (slots_at slots) (slots_exact slots)

pub whole : Tail Any (Then keyword_token.kind (λ k. Filled (row k))) command_at
unfolding command_at
whole = then keyword_token Any (λ k. Filled (row k)) (λ k. filled (row k)) (λ k fits. filled_exact (row k)) (λ k t fits. tt)
