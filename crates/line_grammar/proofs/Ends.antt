-- This file shows that what stands behind a keyword, up to the end of the line, is read exactly.
use Rattle.std.proofs.Common.{ℕ, Bool, true, false, List, [], ◌++◌, Option, Some, None, Ok, refl, sym, subst}
use Rattle.std.specs.Prelude.{codes}
use Rattle.std.specs.List.{AllByRecursion}
use Rattle.std.specs.Fmt.{decimal}
use Rattle.rose_values.specs.declared.operators.Op.{Op}
use Rattle.rose_values.specs.declared.operators.Pred.{Pred}
use Rattle.rose_values.specs.declared.operators.Num.{Num}
use Rattle.line_grammar.specs.declared.command.At.{At}
use Rattle.line_grammar.specs.Words.{operator, predicate, measure, takes_two, measures_two}
use Rattle.line_grammar.specs.Pieces.{point, led_point, points, lists, led_name, second}
use Rattle.line_grammar.specs.Fitting.{IsNumber, IsName, IsPoint, ArePoints, IsSecond}
use Rattle.line_grammar.specs.Reading.{◌>>=◌, end_at, led_name_at, points_at}
use Rattle.line_grammar.specs.Listing.{lists_at}
use Rattle.line_grammar.specs.Forms as forms
use Rattle.line_grammar.proofs.Exact.{Tail, Tail-same, Spells}
use Rattle.line_grammar.proofs.Literals.{Ended, finish, Made, made, led}
use Rattle.line_grammar.proofs.Runs.{Parted}
use Rattle.line_grammar.proofs.NameTokens.{name}
use Rattle.line_grammar.proofs.Numbers.{number}
use Rattle.line_grammar.proofs.Choices.{Any, Each}
use Rattle.line_grammar.proofs.WordLemmas.{operator_token, predicate_token, measure_token}
use Rattle.line_grammar.proofs.PlaceRows.{place, led_place, places}
use Rattle.line_grammar.proofs.ListRows.{some_or_none}
use Rattle.line_grammar.specs.Pieces.{space}
use Rattle.line_grammar.proofs.Compounds.{last, behind, past}

-- ---- what ends a line

pub last_number : Tail Any (Spells IsNumber decimal) forms.last_number_at
unfolding forms.last_number_at
last_number = last number Any tt (λ n t fits. tt)

pub last_place : Tail Any (Spells IsPoint point) forms.last_point_at
unfolding forms.last_point_at
last_place = last place Any tt (λ p t fits. tt)

pub last_name : Tail Any (Spells IsName (λ n. n)) forms.last_name_at
unfolding forms.last_name_at
last_name = last name Any tt (λ n t fits. tt)

last_led_place : Tail Parted (Spells IsPoint led_point) forms.last_led_point_at
unfolding forms.last_led_point_at
last_led_place = last led_place Parted tt (λ p t fits. refl)

last_led_name : Tail Parted (Spells IsName led_name) forms.last_led_name_at
unfolding forms.last_led_name_at led_name_at
last_led_name = last (led space name) Parted tt (λ n t fits. refl)

-- ---- two tokens that end a line

abbrev pub EndsFit : At × At → Type 0
EndsFit s = IsPoint s.0 × IsPoint s.1

abbrev pub ends_text : At × At → List ℕ
ends_text s = point s.0 ++ led_point s.1

pub ends : Tail Any (Spells EndsFit ends_text) forms.two_points_at
unfolding forms.two_points_at
ends = behind place Any (λ p q. IsPoint q) (λ p q. led_point q) (λ p. forms.last_led_point_at) (λ p. last_led_place) (λ p t fits. tt)

abbrev pub NamesFit : List ℕ × List ℕ → Type 0
NamesFit p = IsName p.0 × IsName p.1

abbrev pub names_text : List ℕ × List ℕ → List ℕ
names_text p = p.0 ++ led_name p.1

two_names : Tail Any (Spells NamesFit names_text) forms.two_names_at
unfolding forms.two_names_at
two_names = behind name Any (λ a b. IsName b) (λ a b. led_name b) (λ a. forms.last_led_name_at) (λ a. last_led_name) (λ a t fits. tt)

abbrev pub NamedPlacesFit : List ℕ × List At → Type 0
NamedPlacesFit p = IsName p.0 × AllByRecursion IsPoint p.1

abbrev pub named_places_text : List ℕ × List At → List ℕ
named_places_text p = p.0 ++ points p.1

pub named_places : Tail Any (Spells NamedPlacesFit named_places_text) forms.named_points_at
unfolding forms.named_points_at
named_places =
    behind name Any (λ n ps. AllByRecursion IsPoint ps) (λ n ps. points ps) (λ n. points_at []) (λ n. places) (λ n t fits. tt)

abbrev pub NamedListsFit : List ℕ × List (List At) → Type 0
NamedListsFit p = IsName p.0 × AllByRecursion ArePoints p.1

abbrev pub named_lists_text : List ℕ × List (List At) → List ℕ
named_lists_text p = p.0 ++ lists p.1

pub named_lists : Tail Any (Spells NamedListsFit named_lists_text) forms.named_lists_at
unfolding forms.named_lists_at
named_lists =
    behind name Any (λ n ls. AllByRecursion ArePoints ls) (λ n ls. lists ls) (λ n. lists_at) (λ n. some_or_none) (λ n t fits. tt)

-- ---- an operator and its names

seconds : (b : Option (List ℕ)) (s : List ℕ) → Made (λ n. Some n) (Spells IsName led_name) b s → Spells (IsSecond true) second b s
seconds b s h = subst (λ (c : Option (List ℕ)). Spells (IsSecond true) second c s) (sym h.made) h.spelled

is_second : (b : Option (List ℕ)) (s : List ℕ) → Spells (IsSecond true) second b s → Made (λ n. Some n) (Spells IsName led_name) b s
is_second None s h = absurd h.0
is_second (Some n) s h = record { value = n; made = refl; spelled = h }

no_second : (b : Option (List ℕ)) (s : List ℕ) → Ended None b s → Spells (IsSecond false) second b s
no_second b s h = subst (λ (c : Option (List ℕ)). Spells (IsSecond false) second c s) (sym h.0) (tt, h.1)

is_none : (b : Option (List ℕ)) (s : List ℕ) → Spells (IsSecond false) second b s → Ended None b s
is_none None s h = (refl, h.1)
is_none (Some n) s h = absurd h.0

second_is : (two : Bool) → Tail Parted (Spells (IsSecond two) second) (forms.second_at two)
unfolding forms.second_at
second_is true =
    Tail-same Parted (Made (λ n. Some n) (Spells IsName led_name)) (Spells (IsSecond true) second)
    (λ line. forms.last_led_name_at line >>= λ b. Ok (Some b)) seconds is_second
    (made Parted (λ n. Some n) (Spells IsName led_name) forms.last_led_name_at last_led_name)
second_is false =
    Tail-same Parted (Ended None) (Spells (IsSecond false) second) (λ line. end_at line >>= λ none. Ok None) no_second is_none
    (finish Parted None tt)

-- one name or two
abbrev pub OperandsFit : Bool → List ℕ × Option (List ℕ) → Type 0
OperandsFit two p = IsName p.0 × IsSecond two p.1

abbrev pub operands_text : List ℕ × Option (List ℕ) → List ℕ
operands_text p = p.0 ++ second p.1

operands : (two : Bool) → Tail Any (Spells (OperandsFit two) operands_text) (forms.operands_at two)
unfolding forms.operands_at
operands two =
    behind name Any (λ a b. IsSecond two b) (λ a b. second b) (λ a. forms.second_at two) (λ a. second_is two) (λ a t fits. tt)

abbrev pub OperationFits : Op × (List ℕ × Option (List ℕ)) → Type 0
OperationFits o = Each o.0 × OperandsFit (takes_two o.0) o.1

abbrev pub operation_text : Op × (List ℕ × Option (List ℕ)) → List ℕ
operation_text o = operator o.0 ++ operands_text o.1

pub operation : Tail Any (Spells OperationFits operation_text) forms.operation_at
unfolding forms.operation_at
operation =
    behind operator_token Any (λ op p. OperandsFit (takes_two op) p) (λ op p. operands_text p) (λ op. forms.operands_at (takes_two op))
    (λ op. operands (takes_two op)) (λ op t fits. tt)

abbrev pub MeasuringFits : Num × (List ℕ × Option (List ℕ)) → Type 0
MeasuringFits m = Each m.0 × OperandsFit (measures_two m.0) m.1

abbrev pub measuring_text : Num × (List ℕ × Option (List ℕ)) → List ℕ
measuring_text m = measure m.0 ++ operands_text m.1

pub measuring : Tail Any (Spells MeasuringFits measuring_text) forms.measuring_at
unfolding forms.measuring_at
measuring =
    behind measure_token Any (λ m p. OperandsFit (measures_two m) p) (λ m p. operands_text p) (λ m. forms.operands_at (measures_two m))
    (λ m. operands (measures_two m)) (λ m t fits. tt)

abbrev pub QuestionFits : Pred × (List ℕ × List ℕ) → Type 0
QuestionFits q = Each q.0 × NamesFit q.1

abbrev pub question_text : Pred × (List ℕ × List ℕ) → List ℕ
question_text q = predicate q.0 ++ names_text q.1

pub question : Tail Any (Spells QuestionFits question_text) forms.question_at
unfolding forms.question_at
question =
    behind predicate_token Any (λ p q. NamesFit q) (λ p q. names_text q) (λ p. forms.two_names_at)
    (λ p. two_names) (λ p t fits. tt)

-- ---- a name and what it is to name

abbrev pub defined_text : Op × (List ℕ × Option (List ℕ)) → List ℕ
defined_text o = codes " = " ++ operation_text o

defined : Tail Parted (Spells OperationFits defined_text) forms.defined_at
unfolding forms.defined_at
defined = past (codes " = ") Any Parted OperationFits operation_text forms.operation_at operation (λ t. refl)

abbrev pub DefinitionFits : List ℕ × (Op × (List ℕ × Option (List ℕ))) → Type 0
DefinitionFits d = IsName d.0 × OperationFits d.1

abbrev pub definition_text : List ℕ × (Op × (List ℕ × Option (List ℕ))) → List ℕ
definition_text d = d.0 ++ defined_text d.1

pub definition : Tail Any (Spells DefinitionFits definition_text) forms.definition_at
unfolding forms.definition_at
definition =
    behind name Any (λ n o. OperationFits o) (λ n o. defined_text o) (λ n. forms.defined_at) (λ n. defined) (λ n t fits. tt)
