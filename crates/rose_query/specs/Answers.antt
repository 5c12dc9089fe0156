-- What each query is answered about a state.
use Rattle.std.specs.Prelude.{◌≡◌, ◌↔◌, ℕ, List, AllPairs, Contains, Option, Some}
use Rattle.grid_base.specs.Point.{GridPoint, IsBefore}
use Rattle.grid_base.specs.Segment.{GridSegment, IsSegmentBefore}
use Rattle.grid_base.specs.Drawing.{Drawing, IsPoint, IsPiece}
use Rattle.grid_base.specs.declared.kinds.Step.{Step}
use Rattle.rose_values.specs.declared.geometry.Geometry.{Geometry}
use Rattle.rose_values.specs.declared.operators.Op.{Op}
use Rattle.rose_operators.specs.Results.{IsAscending}
use Rattle.line_grammar.specs.declared.command.Query.{Query}
use Rattle.line_grammar.specs.declared.command.Query.TheVariants.{Realm, Show, Chain, Eval, Trace, Ask, Faces}
use Rattle.line_grammar.specs.declared.command.Query.TheVariants.{Sum, Decompose, Overlay, Fusion}
use Rattle.line_grammar.specs.declared.command.Query.TheVariants.{Num as Measure}
use Rattle.hook_chain.specs.Ids.{LacksId, IsChainOf}
use Rattle.realm_insert.specs.State.{State, kept_trace}
use Rattle.realm_insert.specs.Operands.{LacksName, LacksOperand, HasWrongKinds, IsMadeOfNamed}
use Rattle.realm_insert.specs.Values.{IsGeometryNamed}
use Rattle.realm_insert.specs.declared.refusal.Refusal.TheVariants.{NoName, Types, NoId, NoTrace}
use Rattle.rose_query.specs.Causes.{Answer, Unless}
use Rattle.rose_query.specs.Asking.{AnswersAsk, AnswersNum}
use Rattle.rose_query.specs.Outlines.{AnswersFaces}
use Rattle.rose_query.specs.Sets.{AnswersSum, AnswersDecompose, AnswersOverlay, AnswersFusion}
use Rattle.rose_query.specs.Replies.{realm_reply, chain_reply, value_reply, trace_reply}

-- ---- what is drawn

-- these are the points and the pieces of d, ascending, each once
pub record Lists (d : Drawing) (points : List GridPoint) (pieces : List GridSegment) : Type 0 where
  pub points_ascend : AllPairs IsBefore points
  pub all_points : (p : GridPoint) → Contains points p ↔ IsPoint d p
  pub pieces_ascend : AllPairs IsSegmentBefore pieces
  pub all_pieces : (s : GridSegment) → Contains pieces s ↔ IsPiece d s

-- the reply lists the points and the pieces
pub record ShowsRealm (state : State) (reply : List ℕ) : Type 0 where
  pub points : List GridPoint
  pub pieces : List GridSegment
  pub lists : Lists state.drawing points pieces
  pub reply_is : reply ≡ realm_reply points pieces

-- the reply lists the chain of the original with this id, lesser end first
pub record ShowsChain (id : ℕ) (state : State) (reply : List ℕ) : Type 0 where
  pub points : List GridPoint
  pub is_chain : IsChainOf state.drawing id points
  pub reply_is : reply ≡ chain_reply points

-- the trace of the change with this number isn't kept
abbrev pub LacksTrace : ℕ → State → Type 0
LacksTrace number state = (steps : List Step) → Contains state.traces (kept_trace number steps) → ⊥

-- the reply lists the steps of the change with this number
pub record ShowsTrace (number : ℕ) (state : State) (reply : List ℕ) : Type 0 where
  pub steps : List Step
  pub is_kept : Contains state.traces (kept_trace number steps)
  pub reply_is : reply ≡ trace_reply steps

-- ---- values

-- the reply lists what the value with this name is made of at present
pub record ShowsValue (name : List ℕ) (state : State) (reply : List ℕ) : Type 0 where
  pub geometry : Geometry
  pub is_geometry : IsGeometryNamed state name (Some geometry)
  pub ascending : IsAscending geometry
  pub reply_is : reply ≡ value_reply geometry

-- ---- operators

-- the reply lists what the operator makes of the values with these names as they are at present
pub record ShowsMade (op : Op) (first : List ℕ) (second : Option (List ℕ)) (state : State) (reply : List ℕ) : Type 0 where
  pub made : Geometry
  pub is_made : IsMadeOfNamed op first second state made
  pub reply_is : reply ≡ value_reply made

-- What an operator is answered: a name that no value has is the first cause to refuse it, the kinds are the second.
abbrev pub AnswersEval : Op → List ℕ → Option (List ℕ) → Answer
AnswersEval op first second =
    Unless (λ s. LacksOperand first second s.values) NoName
    (Unless (λ s. HasWrongKinds op first second s.values) Types (ShowsMade op first second))

-- ---- queries

-- what a query is answered
abbrev pub AnswersQuery : Query → Answer
AnswersQuery Realm state reply = ShowsRealm state reply
AnswersQuery (Show name) state reply = Unless (λ s. LacksName name s.values) NoName (ShowsValue name) state reply
AnswersQuery (Chain id) state reply =
    Unless (λ s. LacksId s.drawing.originals id) NoId (ShowsChain id) state reply
AnswersQuery (Eval op first second) state reply = AnswersEval op first second state reply
AnswersQuery (Trace number) state reply = Unless (LacksTrace number) NoTrace (ShowsTrace number) state reply
AnswersQuery (Ask pred first second) state reply = AnswersAsk pred first second state reply
AnswersQuery (Measure num first second) state reply = AnswersNum num first second state reply
AnswersQuery (Faces name) state reply = AnswersFaces name state reply
AnswersQuery (Sum names) state reply = AnswersSum names state reply
AnswersQuery (Decompose name) state reply = AnswersDecompose name state reply
AnswersQuery (Overlay first second) state reply = AnswersOverlay first second state reply
AnswersQuery (Fusion entries) state reply = AnswersFusion entries state reply
