-- This file shows that the words of operators, predicates, numbers and lines are read exactly.
use Rattle.std.proofs.Common.{ℕ, List, refl}
use Rattle.rose_values.specs.declared.operators.Op.{Op}
use Rattle.rose_values.specs.declared.operators.Op.TheVariants as ops
use Rattle.rose_values.specs.declared.operators.Pred.{Pred}
use Rattle.rose_values.specs.declared.operators.Pred.TheVariants as preds
use Rattle.rose_values.specs.declared.operators.Num.{Num}
use Rattle.rose_values.specs.declared.operators.Num.TheVariants as nums
use Rattle.line_grammar.specs.declared.command.Keyword.{Keyword}
use Rattle.line_grammar.specs.declared.command.Keyword.TheVariants as lines
use Rattle.line_grammar.specs.Words.{operator, predicate, measure}
use Rattle.line_grammar.specs.Rows.{keyword, all_keywords}
use Rattle.line_grammar.proofs.CommandRows.{every_keyword}
use Rattle.line_grammar.specs.Choosing.{all_operators, all_predicates, all_measures, operator_at, predicate_at, measure_at}
use Rattle.line_grammar.specs.Choosing.{keyword_at}
use Rattle.line_grammar.proofs.Exact.{Reads, Token}
use Rattle.line_grammar.proofs.Choices.{Member, stands_at, word_kind, choice}

every_operator : (op : Op) → Member op all_operators
every_operator ops.Intersection = stands_at 0 all_operators refl
every_operator ops.Plus = stands_at 1 all_operators refl
every_operator ops.Minus = stands_at 2 all_operators refl
every_operator ops.CommonBorder = stands_at 3 all_operators refl
every_operator ops.Vertices = stands_at 4 all_operators refl
every_operator ops.Contour = stands_at 5 all_operators refl
every_operator ops.Interior = stands_at 6 all_operators refl

every_predicate : (p : Pred) → Member p all_predicates
every_predicate preds.Equal = stands_at 0 all_predicates refl
every_predicate preds.Inside = stands_at 1 all_predicates refl
every_predicate preds.EdgeInside = stands_at 2 all_predicates refl
every_predicate preds.VertexInside = stands_at 3 all_predicates refl
every_predicate preds.AreaDisjoint = stands_at 4 all_predicates refl
every_predicate preds.EdgeDisjoint = stands_at 5 all_predicates refl
every_predicate preds.Disjoint = stands_at 6 all_predicates refl
every_predicate preds.Intersects = stands_at 7 all_predicates refl
every_predicate preds.Meets = stands_at 8 all_predicates refl
every_predicate preds.Adjacent = stands_at 9 all_predicates refl
every_predicate preds.Encloses = stands_at 10 all_predicates refl
every_predicate preds.OnBorderOf = stands_at 11 all_predicates refl
every_predicate preds.BorderInCommon = stands_at 12 all_predicates refl

every_measure : (num : Num) → Member num all_measures
every_measure nums.Area2 = stands_at 0 all_measures refl
every_measure nums.Dist2 = stands_at 1 all_measures refl
every_measure nums.Diameter2 = stands_at 2 all_measures refl
every_measure nums.NoOfComponents = stands_at 3 all_measures refl

pub operators : (line : List ℕ) → Reads (word_kind operator) line (operator_at line)
unfolding operator_at
operators line = choice operator all_operators refl every_operator ops.Plus line

pub predicates : (line : List ℕ) → Reads (word_kind predicate) line (predicate_at line)
unfolding predicate_at
predicates line = choice predicate all_predicates refl every_predicate preds.Equal line

pub measures : (line : List ℕ) → Reads (word_kind measure) line (measure_at line)
unfolding measure_at
measures line = choice measure all_measures refl every_measure nums.Area2 line

pub keywords : (line : List ℕ) → Reads (word_kind keyword) line (keyword_at line)
unfolding keyword_at
keywords line = choice keyword all_keywords refl every_keyword lines.Batch line

abbrev pub operator_token : Token Op
operator_token = record { kind = word_kind operator; read = operator_at; reads = operators; sample = ops.Plus; sample_fits = tt }

abbrev pub predicate_token : Token Pred
predicate_token = record { kind = word_kind predicate; read = predicate_at; reads = predicates; sample = preds.Equal; sample_fits = tt }

abbrev pub measure_token : Token Num
measure_token = record { kind = word_kind measure; read = measure_at; reads = measures; sample = nums.Area2; sample_fits = tt }

abbrev pub keyword_token : Token Keyword
keyword_token = record { kind = word_kind keyword; read = keyword_at; reads = keywords; sample = lines.Batch; sample_fits = tt }
