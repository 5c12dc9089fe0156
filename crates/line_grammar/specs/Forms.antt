-- Reading what stands behind a keyword, and whole lines.
use Rattle.std.specs.Prelude.{ℕ, List, [], Result, Ok, Option, Some, None, Bool, true, false, codes}
use Rattle.rose_values.specs.declared.operators.Op.{Op}
use Rattle.rose_values.specs.declared.operators.Pred.{Pred}
use Rattle.rose_values.specs.declared.operators.Num.{Num}
use Rattle.line_grammar.specs.declared.command.At.{At}
use Rattle.line_grammar.specs.declared.command.Command.{Command}
use Rattle.line_grammar.specs.Words.{takes_two, measures_two}
use Rattle.line_grammar.specs.Reading.{◌>>=◌, literal_at, end_at, number_at, name_at, point_at}
use Rattle.line_grammar.specs.Reading.{led_point_at, led_name_at, points_at}
use Rattle.line_grammar.specs.Choosing.{operator_at, predicate_at, measure_at, keyword_at}
use Rattle.line_grammar.specs.Slots.{Slots, Values, Nothing, OneNumber, OnePlace, TwoPlaces, OneName, NameAndPlaces}
use Rattle.line_grammar.specs.Slots.{NameAndLists, Operation, Question, Measure, Definition, SomeNames, TwoLists, KeyedNames}
use Rattle.line_grammar.specs.Rows.{Row, Line, row}
use Rattle.line_grammar.specs.Listing.{lists_at}
use Rattle.line_grammar.specs.NameLists.{some_names_at, two_lists_at, some_keyed_at}

-- ---- what ends a line

-- a token, and then the end
abbrev pub last : {A : Type 0} → (List ℕ → Result (A × List ℕ) ℕ) → List ℕ → Result A ℕ
last read line = read line >>= λ x. end_at x.1 >>= λ none. Ok x.0

-- a number that ends the line
unfoldable pub last_number_at : List ℕ → Result ℕ ℕ
last_number_at line = last number_at line

-- a place that ends the line
unfoldable pub last_point_at : List ℕ → Result At ℕ
last_point_at line = last point_at line

-- a name that ends the line
unfoldable pub last_name_at : List ℕ → Result (List ℕ) ℕ
last_name_at line = last name_at line

-- a place behind a space, which ends the line
unfoldable pub last_led_point_at : List ℕ → Result At ℕ
last_led_point_at line = last led_point_at line

-- a name behind a space, which ends the line
unfoldable pub last_led_name_at : List ℕ → Result (List ℕ) ℕ
last_led_name_at line = last led_name_at line

-- ---- a token, and then what ends the line

-- a token, and then the rest, which may depend on the token
abbrev pub behind : {A B : Type 0} → (List ℕ → Result (A × List ℕ) ℕ) → (A → List ℕ → Result B ℕ)
    → List ℕ → Result (A × B) ℕ
behind read rest line = read line >>= λ x. rest x.0 x.1 >>= λ b. Ok (x.0, b)

-- two places that end the line
unfoldable pub two_points_at : List ℕ → Result (At × At) ℕ
two_points_at line = behind point_at (λ p. last_led_point_at) line

-- two names that end the line
unfoldable pub two_names_at : List ℕ → Result (List ℕ × List ℕ) ℕ
two_names_at line = behind name_at (λ a. last_led_name_at) line

-- a name, and places to the end of the line
unfoldable pub named_points_at : List ℕ → Result (List ℕ × List At) ℕ
named_points_at line = behind name_at (λ n. points_at []) line

-- a name, and lists of places to the end of the line
unfoldable pub named_lists_at : List ℕ → Result (List ℕ × List (List At)) ℕ
named_lists_at line = behind name_at (λ n. lists_at) line

-- a second name where two are taken, and the end
unfoldable pub second_at : Bool → List ℕ → Result (Option (List ℕ)) ℕ
second_at true line = last_led_name_at line >>= λ b. Ok (Some b)
second_at false line = end_at line >>= λ none. Ok None

-- one name, and a second where two are taken
unfoldable pub operands_at : Bool → List ℕ → Result (List ℕ × Option (List ℕ)) ℕ
operands_at two line = behind name_at (λ a. second_at two) line

-- an operator, and as many names as it takes
unfoldable pub operation_at : List ℕ → Result (Op × (List ℕ × Option (List ℕ))) ℕ
operation_at line = behind operator_at (λ op. operands_at (takes_two op)) line

-- a number of values, and as many names as it takes
unfoldable pub measuring_at : List ℕ → Result (Num × (List ℕ × Option (List ℕ))) ℕ
measuring_at line = behind measure_at (λ num. operands_at (measures_two num)) line

-- a predicate and two names
unfoldable pub question_at : List ℕ → Result (Pred × (List ℕ × List ℕ)) ℕ
question_at line = behind predicate_at (λ p. two_names_at) line

-- what stands behind a defined name
unfoldable pub defined_at : List ℕ → Result (Op × (List ℕ × Option (List ℕ))) ℕ
defined_at line = literal_at (codes " = ") line >>= operation_at

-- a name, and what it is to name
unfoldable pub definition_at : List ℕ → Result (List ℕ × (Op × (List ℕ × Option (List ℕ)))) ℕ
definition_at line = behind name_at (λ n. defined_at) line

-- ---- lines

-- what stands behind a first word
unfoldable pub slots_at : (s : Slots) → List ℕ → Result (Values s) ℕ
slots_at Nothing line = end_at line >>= λ none. Ok tt
slots_at OneNumber line = last_number_at line
slots_at OnePlace line = last_point_at line
slots_at TwoPlaces line = two_points_at line
slots_at OneName line = last_name_at line
slots_at NameAndPlaces line = named_points_at line
slots_at NameAndLists line = named_lists_at line
slots_at Operation line = operation_at line
slots_at Question line = question_at line
slots_at Measure line = measuring_at line
slots_at Definition line = definition_at line
slots_at SomeNames line = some_names_at line
slots_at TwoLists line = two_lists_at line
slots_at KeyedNames line = some_keyed_at line

-- nothing more, and a command that is said by its first word alone
abbrev pub alone_at : Command → List ℕ → Result Command ℕ
alone_at c line = end_at line >>= λ none. Ok c

-- what the line says behind the first word of the row
unfoldable pub filled : Row → List ℕ → Result Command ℕ
filled (Line word slots said) line = slots_at slots line >>= λ v. Ok (said v)

-- the command of which the line is the text
unfoldable pub command_at : List ℕ → Result Command ℕ
command_at line = keyword_at line >>= λ k. filled (row k.0) k.1
