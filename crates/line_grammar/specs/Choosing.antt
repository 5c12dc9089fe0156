-- Reading one of several words.
use Rattle.std.specs.Prelude.{ℕ, List, [], ◌∷◌, map, Result}
use Rattle.rose_values.specs.declared.operators.Op.{Op}
use Rattle.rose_values.specs.declared.operators.Op.TheVariants as ops
use Rattle.rose_values.specs.declared.operators.Pred.{Pred}
use Rattle.rose_values.specs.declared.operators.Pred.TheVariants as preds
use Rattle.rose_values.specs.declared.operators.Num.{Num}
use Rattle.rose_values.specs.declared.operators.Num.TheVariants as nums
use Rattle.line_grammar.specs.declared.command.Keyword.{Keyword}
use Rattle.line_grammar.specs.Words.{operator, predicate, measure}
use Rattle.line_grammar.specs.Rows.{keyword, all_keywords}
use Rattle.line_grammar.specs.Reading.{choose_at}

-- every operator
abbrev pub all_operators : List Op
all_operators =
    ops.Intersection ∷ ops.Plus ∷ ops.Minus ∷ ops.CommonBorder ∷ ops.Vertices ∷ ops.Contour
    ∷ ops.Interior ∷ []

-- every predicate
abbrev pub all_predicates : List Pred
all_predicates =
    preds.Equal ∷ preds.Inside ∷ preds.EdgeInside ∷ preds.VertexInside ∷ preds.AreaDisjoint
    ∷ preds.EdgeDisjoint ∷ preds.Disjoint ∷ preds.Intersects ∷ preds.Meets ∷ preds.Adjacent
    ∷ preds.Encloses ∷ preds.OnBorderOf ∷ preds.BorderInCommon ∷ []

-- every number of values
abbrev pub all_measures : List Num
all_measures = nums.Area2 ∷ nums.Dist2 ∷ nums.Diameter2 ∷ nums.NoOfComponents ∷ []

-- each with its word
abbrev pub entries : {T : Type 0} → (T → List ℕ) → List T → List (List ℕ × T)
entries word all = map (λ t. (word t, t)) all

-- the operator at the front
unfoldable pub operator_at : List ℕ → Result (Op × List ℕ) ℕ
operator_at line = choose_at (entries operator all_operators) line

-- the predicate at the front
unfoldable pub predicate_at : List ℕ → Result (Pred × List ℕ) ℕ
predicate_at line = choose_at (entries predicate all_predicates) line

-- the number of values at the front
unfoldable pub measure_at : List ℕ → Result (Num × List ℕ) ℕ
measure_at line = choose_at (entries measure all_measures) line

-- the first word of the line
unfoldable pub keyword_at : List ℕ → Result (Keyword × List ℕ) ℕ
keyword_at line = choose_at (entries keyword all_keywords) line
