-- This file shows that a query has one reply in a state.
use Rattle.std.proofs.Common.{◌≡◌, ◌↔◌, ◌++◌, ℕ, IsTrue, List, get_or, Contains, Option, Some, sym, ap, ap₂, subst, ◌∙◌, inl, inr, arith}
use Rattle.grid_base.specs.Point.{GridPoint}
use Rattle.grid_base.specs.Segment.{GridSegment}
use Rattle.grid_base.specs.Drawing.{Drawing, IsPoint, IsPiece}
use Rattle.grid_base.specs.declared.kinds.Step.{Step}
use Rattle.grid_base.proofs.Elements.{same_place}
use Rattle.rose_values.specs.declared.geometry.Geometry.{Geometry}
use Rattle.rose_values.specs.declared.geometry.Geometry.TheVariants.{R}
use Rattle.rose_values.specs.Operators.{segments_of}
use Rattle.rose_values.specs.declared.operators.Op.{Op}
use Rattle.rose_values.specs.declared.operators.Pred.{Pred}
use Rattle.rose_values.specs.declared.operators.Num.{Num}
use Rattle.rose_predicates.specs.Predicates.{IsTrueOf}
use Rattle.rose_operators.proofs.AscendingLists.{same_points, same_segments}
use Rattle.r_faces.specs.FaceCycles.{AreFaces}
use Rattle.rose_sets.specs.Sums.{IsSum}
use Rattle.rose_sets.specs.Parts.{AreParts}
use Rattle.rose_sets.specs.Overlays.{IsOverlay}
use Rattle.rose_sets.specs.Fusions.{IsFusion}
use Rattle.rose_sets.proofs.OneSum.{one_sum}
use Rattle.line_grammar.specs.declared.command.Query.{Query}
use Rattle.line_grammar.specs.declared.command.Query.TheVariants.{Realm, Show, Chain, Eval, Trace, Ask, Faces}
use Rattle.line_grammar.specs.declared.command.Query.TheVariants.{Sum, Decompose, Overlay, Fusion}
use Rattle.line_grammar.specs.declared.command.Query.TheVariants.{Num as Measure}
use Rattle.hook_chain.specs.Ids.{LacksId, IsChainOf}
use Rattle.realm_insert.specs.State.{State, KeptTrace, kept_trace, AreLatest}
use Rattle.realm_insert.specs.Operands.{LacksName, LacksOperand, HasWrongKinds}
use Rattle.realm_insert.specs.declared.refusal.Refusal.{Refusal}
use Rattle.realm_insert.specs.declared.refusal.Refusal.TheVariants.{NoName, Types, NoId, NoTrace}
use Rattle.realm_insert.proofs.OneFigure.{one_named, one_second, one_of_named}
use Rattle.rose_query.specs.Causes.{Answer, Unless}
use Rattle.rose_query.specs.Asking.{HasUntakenKinds, HasUnmeasuredKinds, TellsTruth, TellsNumber, IsNumberOf}
use Rattle.rose_query.specs.Outlines.{IsNoRegion, ShowsFaces}
use Rattle.rose_query.specs.Replies.{realm_reply, chain_reply, value_reply, trace_reply, truth_reply, number_reply, faces_reply}
use Rattle.rose_query.specs.Replies.{parts_reply, pairs_reply, groups_reply}
use Rattle.rose_query.specs.Sets.{LacksSome, HasMixedKinds, HasNonRegion, names_of, keys_of}
use Rattle.rose_query.specs.Sets.{ShowsSum, ShowsParts, ShowsOverlay, ShowsFusion}
use Rattle.rose_query.proofs.PresentValues.{mixed_kinds, one_key_each}
use Rattle.rose_query.specs.Answers.{ShowsRealm, ShowsChain, ShowsTrace, LacksTrace, ShowsValue, ShowsMade, AnswersQuery}
use Rattle.one_reply.proofs.OneNumber.{same_answer}
use Rattle.one_reply.proofs.OneMeasure.{one_number}
use Rattle.one_reply.proofs.OneFace.{one_faces}
use Rattle.one_reply.proofs.OneSet.{one_list_of, present_ordered, one_parts, one_overlay, one_fusion}

-- two replies that the answer allows in the state are one
abbrev pub IsOne : Answer → State → Type 0
IsOne answer s = (first second : List ℕ) → answer s first → answer s second → first ≡ second

-- the cause decides which of the two it is
unless_one : (cause : State → Type 0) (refusal : Refusal) (answer : Answer) (s : State) → ((cause s → ⊥) → IsOne answer s)
    → IsOne (Unless cause refusal answer) s
unless_one cause refusal answer s one first second (inl (holds, is)) (inl (also, too)) = is ∙ sym too
unless_one cause refusal answer s one first second (inl (holds, is)) (inr (none, too)) = absurd (none holds)
unless_one cause refusal answer s one first second (inr (none, is)) (inl (holds, too)) = absurd (none holds)
unless_one cause refusal answer s one first second (inr (none, is)) (inr (also, too)) = one none first second is too

-- ---- what is drawn
-- ascending lists of the same points and pieces
one_realm : (s : State) → IsOne ShowsRealm s
one_realm s first second one other =
    let points = same_points (IsPoint s.drawing) one.points other.points one.lists.points_ascend other.lists.points_ascend
    one.lists.all_points other.lists.all_points in
    let pieces = same_segments (IsPiece s.drawing) one.pieces other.pieces one.lists.pieces_ascend other.lists.pieces_ascend
    one.lists.all_pieces other.lists.all_pieces in
    one.reply_is ∙ ap₂ realm_reply points pieces ∙ sym other.reply_is

-- each original with the id has the chain
chain_is_one : (d : Drawing) (id : ℕ) (c e : List GridPoint) → IsChainOf d id c → IsChainOf d id e → c ≡ e
chain_is_one d id c e one other =
    let (k, o, within, is, same) = one.there in
    let here = ap (λ x. x.id) is ∙ same in
    sym (one.only k o within here) ∙ other.only k o within here

-- so the original has one chain
one_chain : (id : ℕ) (s : State) → IsOne (ShowsChain id) s
one_chain id s first second one other =
    one.reply_is ∙ ap chain_reply (chain_is_one s.drawing id one.points other.points one.is_chain other.is_chain)
    ∙ sym other.reply_is

-- the number of a change tells at which place its trace is kept
trace_is_one : (s : State) (number : ℕ) (v w : List Step) → AreLatest s.changes s.traces → Contains s.traces (kept_trace number v)
    → Contains s.traces (kept_trace number w) → v ≡ w
trace_is_one s number v w latest (i, inside, is) (j, within, also) =
    let at_i = latest.numbers i (kept_trace number v) inside in
    let at_j = latest.numbers j (kept_trace number w) within in
    let number_i = ap (λ (t : KeptTrace). t.number) is in
    let number_j = ap (λ (t : KeptTrace). t.number) also in
    let place : i ≡ j = omega (arith, at_i, at_j, number_i, number_j) in
    ap (λ (t : KeptTrace). t.steps)
    (sym is ∙ same_place s.traces i (kept_trace number v) (kept_trace number w) inside
    ∙ ap (λ k. get_or s.traces k (kept_trace number w)) place ∙ also)

-- so a number has one trace
one_trace : (number : ℕ) (s : State) → AreLatest s.changes s.traces → IsOne (ShowsTrace number) s
one_trace number s latest first second one other =
    one.reply_is ∙ ap trace_reply (trace_is_one s number one.steps other.steps latest one.is_kept other.is_kept)
    ∙ sym other.reply_is

-- ---- values
-- a name has one geometry
one_value : (name : List ℕ) (s : State) → IsOne (ShowsValue name) s
one_value name s first second one other =
    let same = one_named s name one.geometry other.geometry one.is_geometry other.is_geometry one.ascending other.ascending in
    one.reply_is ∙ ap value_reply same ∙ sym other.reply_is

-- an operator makes one geometry of one
one_made : (op : Op) (first : List ℕ) (second : Option (List ℕ)) (s : State) → IsOne (ShowsMade op first second) s
one_made op first second s r t one other =
    one.reply_is ∙ ap value_reply (one_of_named op first second s one.made other.made one.is_made other.is_made)
    ∙ sym other.reply_is

-- of two geometries a predicate is true or it isn't
one_truth : (pred : Pred) (first second : List ℕ) (s : State) → IsOne (TellsTruth pred first second) s
one_truth pred first second s r t one other =
    let of = one.are_operands in
    let too = other.are_operands in
    let a = one_named s first other.a one.a too.is_first of.is_first too.first_ascends of.first_ascends in
    let b = one_named s second other.b one.b too.is_second of.is_second too.second_ascends of.second_ascends in
    let told = subst (λ (g : Geometry). IsTrue other.answer ↔ IsTrueOf pred one.a g) b
    (subst (λ (g : Geometry). IsTrue other.answer ↔ IsTrueOf pred g other.b) a other.is_true) in
    one.reply_is ∙ ap truth_reply (same_answer (IsTrueOf pred one.a one.b) one.answer other.answer one.is_true told)
    ∙ sym other.reply_is

-- they have one number
number_is_one : (num : Num) (first : List ℕ) (second : Option (List ℕ)) (s : State) → IsOne (TellsNumber num first second) s
number_is_one num first second s r t one other =
    let of = one.are_operands in
    let too = other.are_operands in
    let a = one_named s first other.a one.a too.is_first of.is_first too.first_ascends of.first_ascends in
    let b = one_second s second other.b one.b too.is_second of.is_second too.second_ascends of.second_ascends in
    let told = subst (λ (g : Option Geometry). IsNumberOf num one.a g other.found) b
    (subst (λ (g : Geometry). IsNumberOf num g other.b other.found) a other.is_number) in
    one.reply_is ∙ ap number_reply (one_number num one.a one.b one.found other.found one.is_number told) ∙ sym other.reply_is

-- a region has one border, which has one list of faces
one_outline : (name : List ℕ) (s : State) → IsOne (ShowsFaces name) s
one_outline name s first second one other =
    let region = one_named s name (R other.border) (R one.border) other.is_region one.is_region other.ascending one.ascending in
    let border = ap segments_of region in
    let also = subst (λ (b : List GridSegment). AreFaces b other.faces) border other.are_faces in
    one.reply_is ∙ ap faces_reply (one_faces one.border one.faces other.faces one.are_faces also) ∙ sym other.reply_is

-- ---- lists of values
-- values of one kind, of which there are some, have one sum
one_of_sum : (names : List (List ℕ)) (s : State) → (HasMixedKinds names s.values → ⊥) → IsOne (ShowsSum names) s
one_of_sum names s one_kind first second one other =
    let same = one_list_of s names other.values one.values other.are_present one.are_present in
    let also = subst (λ (l : List Geometry). IsSum l other.made) same other.is_sum in
    let made = one_sum one.values one.made other.made
    (λ none. one_kind ((mixed_kinds s names one.values one.are_present).1 (inl none))) one.noded
    (present_ordered s names one.values one.are_present) one.ascending other.ascending one.is_sum also in
    one.reply_is ∙ ap value_reply made ∙ sym other.reply_is

-- a value has one list of parts
one_cut : (name : List ℕ) (s : State) → IsOne (ShowsParts name) s
one_cut name s first second one other =
    let same = one_named s name other.value one.value other.is_present.0 one.is_present.0 other.is_present.1 one.is_present.1 in
    let also = subst (λ (g : Geometry). AreParts g other.parts) same other.are_parts in
    one.reply_is ∙ ap parts_reply (one_parts one.value one.parts other.parts one.are_parts also one.ascending other.ascending)
    ∙ sym other.reply_is

-- two lists of regions have one overlay
one_of_overlay : (a b : List (List ℕ)) (s : State) → IsOne (ShowsOverlay a b) s
one_of_overlay a b s first second one other =
    let same_a = one_list_of s a other.a one.a other.are_first one.are_first in
    let same_b = one_list_of s b other.b one.b other.are_second one.are_second in
    let also = subst (λ (l : List Geometry). IsOverlay one.a l other.pairs) same_b
    (subst (λ (l : List Geometry). IsOverlay l other.b other.pairs) same_a other.is_overlay) in
    one.reply_is ∙ ap pairs_reply (one_overlay one.a one.b one.pairs other.pairs one.is_overlay also) ∙ sym other.reply_is

-- values with keys have one fusion
one_of_fusion : (entries : List (List ℕ × ℕ)) (s : State) → IsOne (ShowsFusion entries) s
one_of_fusion entries s first second one other =
    let names = names_of entries in
    let same = one_list_of s names other.values one.values other.are_present one.are_present in
    let also = subst (λ (l : List Geometry). IsFusion l (keys_of entries) other.groups) same other.is_fusion in
    let groups = one_fusion one.values (keys_of entries) (one_key_each s entries one.values one.are_present) one.noded
    (present_ordered s names one.values one.are_present) one.groups other.groups one.is_fusion also one.ascending other.ascending in
    one.reply_is ∙ ap groups_reply groups ∙ sym other.reply_is

-- ---- every query
-- a name that no value has comes first, and then the kinds
named_one : (lacks kinds : State → Type 0) (answer : Answer) (s : State) → IsOne answer s
    → IsOne (Unless lacks NoName (Unless kinds Types answer)) s
named_one lacks kinds answer s one =
    unless_one lacks NoName (Unless kinds Types answer) s (λ none. unless_one kinds Types answer s (λ taken. one))

-- each query by what it lists
pub one_query : (q : Query) (s : State) → AreLatest s.changes s.traces → IsOne (AnswersQuery q) s
one_query Realm s latest = one_realm s
one_query (Show name) s latest = unless_one (λ t. LacksName name t.values) NoName (ShowsValue name) s (λ none. one_value name s)
one_query (Chain id) s latest = unless_one (λ t. LacksId t.drawing.originals id) NoId (ShowsChain id) s (λ none. one_chain id s)
one_query (Trace number) s latest = unless_one (LacksTrace number) NoTrace (ShowsTrace number) s (λ none. one_trace number s latest)
one_query (Eval op first second) s latest =
    named_one (λ t. LacksOperand first second t.values) (λ t. HasWrongKinds op first second t.values) (ShowsMade op first second) s
    (one_made op first second s)
one_query (Ask pred first second) s latest =
    named_one (λ t. LacksOperand first (Some second) t.values) (λ t. HasUntakenKinds pred first second t.values)
    (TellsTruth pred first second) s (one_truth pred first second s)
one_query (Measure num first second) s latest =
    named_one (λ t. LacksOperand first second t.values) (λ t. HasUnmeasuredKinds num first second t.values)
    (TellsNumber num first second) s (number_is_one num first second s)
one_query (Faces name) s latest =
    named_one (λ t. LacksName name t.values) (λ t. IsNoRegion name t.values) (ShowsFaces name) s (one_outline name s)
one_query (Sum names) s latest =
    unless_one (λ t. LacksSome names t.values) NoName (Unless (λ t. HasMixedKinds names t.values) Types (ShowsSum names)) s
    (λ none. unless_one (λ t. HasMixedKinds names t.values) Types (ShowsSum names) s (one_of_sum names s))
one_query (Decompose name) s latest =
    unless_one (λ t. LacksName name t.values) NoName (ShowsParts name) s (λ none. one_cut name s)
one_query (Overlay first second) s latest =
    named_one (λ t. LacksSome (first ++ second) t.values) (λ t. HasNonRegion (first ++ second) t.values) (ShowsOverlay first second) s
    (one_of_overlay first second s)
one_query (Fusion entries) s latest =
    named_one (λ t. LacksSome (names_of entries) t.values) (λ t. HasMixedKinds (names_of entries) t.values) (ShowsFusion entries) s
    (one_of_fusion entries s)
