-- What may stand behind the first word of a line: which values that has, which of them fit, and their text.
use Rattle.std.specs.Prelude.{ℕ, List, [], ◌++◌, Option, codes}
use Rattle.std.specs.List.{AllByRecursion}
use Rattle.std.specs.Fmt.{decimal}
use Rattle.rose_values.specs.declared.operators.Op.{Op}
use Rattle.rose_values.specs.declared.operators.Pred.{Pred}
use Rattle.rose_values.specs.declared.operators.Num.{Num}
use Rattle.line_grammar.specs.declared.command.At.{At}
use Rattle.line_grammar.specs.Words.{operator, predicate, measure, takes_two, measures_two}
use Rattle.line_grammar.specs.Pieces.{point, led_point, points, lists, led_name, names, keyed_names, second}
use Rattle.line_grammar.specs.Fitting.{IsNumber, IsName, IsPoint, ArePoints, AreNames, AreKeyed, IsSecond}

-- What may stand there. A definition is a name, an operator and what it takes. Each of some names stands behind a
-- space, and two lists of names have a semicolon between them.
pub data Slots : Type 0 where
  Nothing : Slots
  OneNumber : Slots
  OnePlace : Slots
  TwoPlaces : Slots
  OneName : Slots
  NameAndPlaces : Slots
  NameAndLists : Slots
  Operation : Slots
  Question : Slots
  Measure : Slots
  Definition : Slots
  SomeNames : Slots
  TwoLists : Slots
  KeyedNames : Slots

-- one name or two
abbrev pub Operands : Type 0
Operands = List ℕ × Option (List ℕ)

-- the values that stand there
abbrev pub Values : Slots → Type 0
Values Nothing = Unit {0}
Values OneNumber = ℕ
Values OnePlace = At
Values TwoPlaces = At × At
Values OneName = List ℕ
Values NameAndPlaces = List ℕ × List At
Values NameAndLists = List ℕ × List (List At)
Values Operation = Op × Operands
Values Question = Pred × (List ℕ × List ℕ)
Values Measure = Num × Operands
Values Definition = List ℕ × (Op × Operands)
Values SomeNames = List (List ℕ)
Values TwoLists = List (List ℕ) × List (List ℕ)
Values KeyedNames = List (List ℕ × ℕ)

-- those that have a text
abbrev pub Fits : (s : Slots) → Values s → Type 0
Fits Nothing v = Unit {0}
Fits OneNumber n = IsNumber n
Fits OnePlace p = IsPoint p
Fits TwoPlaces e = IsPoint e.0 × IsPoint e.1
Fits OneName n = IsName n
Fits NameAndPlaces n = IsName n.0 × AllByRecursion IsPoint n.1
Fits NameAndLists n = IsName n.0 × AllByRecursion ArePoints n.1
Fits Operation o = IsName o.1.0 × IsSecond (takes_two o.0) o.1.1
Fits Question q = IsName q.1.0 × IsName q.1.1
Fits Measure m = IsName m.1.0 × IsSecond (measures_two m.0) m.1.1
Fits Definition d = IsName d.0 × IsName d.1.1.0 × IsSecond (takes_two d.1.0) d.1.1.1
Fits SomeNames ns = AreNames ns
Fits TwoLists l = AreNames l.0 × AreNames l.1
Fits KeyedNames ks = AreKeyed ks

-- their text
abbrev pub spelled : (s : Slots) → Values s → List ℕ
spelled Nothing v = []
spelled OneNumber n = decimal n
spelled OnePlace p = point p
spelled TwoPlaces e = point e.0 ++ led_point e.1
spelled OneName n = n
spelled NameAndPlaces n = n.0 ++ points n.1
spelled NameAndLists n = n.0 ++ lists n.1
spelled Operation o = operator o.0 ++ (o.1.0 ++ second o.1.1)
spelled Question q = predicate q.0 ++ (q.1.0 ++ led_name q.1.1)
spelled Measure m = measure m.0 ++ (m.1.0 ++ second m.1.1)
spelled Definition d = d.0 ++ (codes " = " ++ (operator d.1.0 ++ (d.1.1.0 ++ second d.1.1.1)))
spelled SomeNames ns = names ns
spelled TwoLists l = names l.0 ++ (codes " ;" ++ names l.1)
spelled KeyedNames ks = keyed_names ks

-- what a command puts behind its first word
pub data Filling : Type 0 where
  Put : (s : Slots) → Values s → Filling

-- it has a text
abbrev pub fits_in : Filling → Type 0
fits_in (Put s v) = Fits s v

-- its text
abbrev pub text_in : Filling → List ℕ
text_in (Put s v) = spelled s v
