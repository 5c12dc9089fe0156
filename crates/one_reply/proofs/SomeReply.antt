-- This file shows that in a valid state each query has a reply, where what it rests on is on the grid.
use Rattle.std.proofs.Common.{◌≡◌, ◌↔◌, ℕ, List, ◌++◌, flat_map, Contains, Option, Some, None, Ok, Err}
use Rattle.std.proofs.Common.{refl, sym, subst, ◌∙◌, inl, inr}
use Rattle.std.proofs.lemmas.Bool.{cases_eq, true≢false}
use Rattle.std.proofs.lemmas.List.{append-nil}
use Rattle.std.proofs.lemmas.List.Elements.{All-contains, Contains-get_or, Contains-append_left, Contains-append_right}
use Rattle.std.proofs.lemmas.List.Elements.{Contains-append_cases}
use Rattle.grid_base.specs.Border.{AreNoded}
use Rattle.grid_base.specs.Point.{GridPoint}
use Rattle.grid_base.specs.Segment.{GridSegment}
use Rattle.grid_base.specs.Drawing.{Drawing, IsPoint, IsPiece}
use Rattle.grid_base.specs.declared.original.Original.{Original}
use Rattle.rose_values.specs.declared.geometry.Geometry.{Geometry}
use Rattle.rose_values.specs.declared.geometry.Geometry.TheVariants.{P, L, R}
use Rattle.rose_values.specs.declared.operators.Num.{Num}
use Rattle.rose_values.specs.declared.operators.Num.TheVariants.{NoOfComponents}
use Rattle.rose_values.specs.declared.operators.Op.{Op}
use Rattle.rose_values.specs.declared.operators.Op.TheVariants.{Interior}
use Rattle.rose_values.specs.declared.operators.Pred.{Pred}
use Rattle.rose_values.specs.declared.operators.Pred.TheVariants.{Encloses}
use Rattle.rose_measure.proofs.Members.{Contains-flat_map, joined_from}
use Rattle.rose_predicates.specs.declared.answering.HoldsError.TheVariants.{WrongTypes}
use Rattle.line_grammar.specs.declared.command.Query.{Query}
use Rattle.line_grammar.specs.declared.command.Query.TheVariants.{Realm, Show, Chain, Eval, Trace, Ask, Faces}
use Rattle.line_grammar.specs.declared.command.Query.TheVariants.{Sum, Decompose, Overlay, Fusion}
use Rattle.line_grammar.specs.declared.command.Query.TheVariants.{Num as Measure}
use Rattle.hook_chain.specs.StandingChains.{AllValid}
use Rattle.hook_chain.specs.Ids.{LacksId, IsAscending as RiseById}
use Rattle.value_geometry.specs.Links.{links, links_of}
use Rattle.value_geometry.proofs.PartLinks.{on_chain}
use Rattle.realm_insert.specs.State.{State, KeptTrace, kept_trace}
use Rattle.realm_insert.specs.Operands.{AreOperands}
use Rattle.realm_insert.specs.Snapshots.{IsValidState}
use Rattle.realm_insert.specs.declared.refusal.Refusal.TheVariants.{NoName, Types, NoId, NoTrace}
use Rattle.rose_query.specs.Asking.{AnswersAsk, AnswersNum}
use Rattle.rose_query.specs.Causes.{Unless}
use Rattle.rose_query.specs.Outlines.{AnswersFaces}
use Rattle.rose_query.specs.Told.{TellsFaces}
use Rattle.rose_query.specs.Replies.{no_reply, realm_reply, chain_reply, value_reply, trace_reply, truth_reply, faces_reply}
use Rattle.rose_query.specs.Answers.{ShowsRealm, ShowsChain, ShowsTrace, LacksTrace, AnswersEval, AnswersQuery}
use Rattle.rose_query.proofs.DrawnOperands.{operands_are_outside}
use Rattle.rose_query.proofs.FaceAnswers.{faces_shown}
use Rattle.rose_query.proofs.Results.{told_answers}
use Rattle.rose_query.proofs.Told.{measured_answers, asked_answers}
use Rattle.rose_query.proofs.ValueAnswers.{value_shown}
use Rattle.one_reply.specs.Answerable.{IsDrawnOnGrid, HasSomeReply}
use Rattle.one_reply.proofs.Decisions.{first_with, answer_of}
use Rattle.one_reply.proofs.Listings.{listed_points, listed_segments}
use Rattle.one_reply.proofs.SomeGeometry.{only_one, some_value}
use Rattle.one_reply.proofs.SomeFaces.{some_faces}
use Rattle.one_reply.proofs.SomeMade.{MayMake, some_operated}
use Rattle.one_reply.proofs.SomeNumber.{MayMeasure, some_measure}
use Rattle.one_reply.proofs.SomeOperands.{AreFit, AreAllOnGrid, some_operands, first_on_grid, operands_on_grid}
use Rattle.one_reply.proofs.SomeSets.{IsTold, told_sum, told_parts, told_overlay, told_fusion}
use Rattle.one_reply.proofs.SomeTruth.{MayTell, some_truth}

-- ---- what is drawn
-- the explicit points and the vertices of all chains
point_is : (d : Drawing) (p : GridPoint) → Contains (d.points ++ flat_map (λ (o : Original). o.chain) d.originals) p ↔ IsPoint d p
point_is d p =
    let vertices = flat_map (λ (o : Original). o.chain) d.originals in (
      λ there. elim (Contains-append_cases d.points vertices p there) [
        | inl explicit ↦ inl explicit
        | inr vertex ↦
            let (o, (k, within, is), on) = joined_from (λ (o : Original). o.chain) d.originals p vertex in
            inr (k, o, within, is, on)
      ],
      λ point. elim point [
        | inl explicit ↦ Contains-append_left d.points vertices p explicit
        | inr (k, o, within, is, on) ↦ Contains-append_right d.points vertices p
            (Contains-flat_map (λ (q : Original). q.chain) d.originals o p (k, within, is) on)
      ],
    )

-- the links of all chains
piece_is : (d : Drawing) → RiseById d.originals → AllValid d → (s : GridSegment) → Contains (links_of d.originals) s ↔ IsPiece d s
piece_is d rising chains s = (
  λ there.
      let (o, there_too, link) = joined_from (λ (o : Original). links o.chain) d.originals s there in
      let (before, (k, q, within, is, on)) = (on_chain d o there_too (only_one d rising chains o there_too) s).0 link in
      (before, (k, q, within, is, on.1)),
  λ (before, (k, o, within, is, link)).
      let there : Contains d.originals o = (k, within, is) in
      Contains-flat_map (λ (q : Original). links q.chain) d.originals o s there
      ((on_chain d o there (only_one d rising chains o there) s).1 (before, (k, o, within, is, (refl, link)))),
)

-- both are listed in order
told_realm : (s : State) → IsValidState s → IsTold ShowsRealm s
told_realm s valid =
    let d = s.drawing in
    let (points, are) = listed_points (d.points ++ flat_map (λ (o : Original). o.chain) d.originals) in
    let (pieces, also) = listed_segments (links_of d.originals) in (
      realm_reply points pieces,
      record {
        points = points;
        pieces = pieces;
        lists = record {
          points_ascend = are.ascending;
          all_points = λ p.
              let is = point_is d p in (λ there. is.0 ((are.exact p).0 there), λ point. (are.exact p).1 (is.1 point));
          pieces_ascend = also.ascending;
          all_pieces = λ t.
              let is = piece_is d valid.ids_rise valid.chains t in
              (λ there. is.0 ((also.exact t).0 there), λ piece. (also.exact t).1 (is.1 piece));
        };
        reply_is = refl;
      },
    )

-- the chain of the first original with the id
told_chain : (id : ℕ) (s : State) → IsValidState s → IsTold (Unless (λ s. LacksId s.drawing.originals id) NoId (ShowsChain id)) s
told_chain id s valid = elim (first_with (λ (o : Original). o.id ≡ id) s.drawing.originals (λ o there. cases_eq o.id id)) [
  | inl (o, there, same) ↦
      let one = only_one s.drawing valid.ids_rise valid.chains o there in (
        chain_reply o.chain,
        inr (
          λ lacks. All-contains (λ (q : Original). q.id ≡ id → ⊥) s.drawing.originals o lacks there same,
          record {
            points = o.chain;
            is_chain = record {
              there = (there.0, o, there.1, there.2, same);
              only = λ k q within is. one.only k q within (is ∙ sym same);
            };
            reply_is = refl;
          },
        ),
      )
  | inr none ↦ (no_reply NoId, inl (λ k q within is. none _ (Contains-get_or s.drawing.originals k q within) is, refl))
]

-- the steps of the first trace with the number
told_trace : (number : ℕ) (s : State) → IsTold (Unless (LacksTrace number) NoTrace (ShowsTrace number)) s
told_trace number s = elim (first_with (λ (t : KeptTrace). t.number ≡ number) s.traces (λ t there. cases_eq t.number number)) [
  | inl (t, there, same) ↦
      let kept = subst (λ n. Contains s.traces (kept_trace n t.steps)) same there in
      (trace_reply t.steps, inr (λ lacks. lacks t.steps kept, record { steps = t.steps; is_kept = kept; reply_is = refl }))
  | inr none ↦ (no_reply NoTrace, inl (λ steps there. none (kept_trace number steps) there refl, refl))
]

-- ---- values
-- the geometry of the value, if there is one
told_value : (name : List ℕ) (s : State) → IsValidState s → IsTold (AnswersQuery (Show name)) s
told_value name s valid = elim (some_value s name valid) [
  | inl lacks ↦ (no_reply NoName, inl (lacks, refl))
  | inr (g, is) ↦ (value_reply g, value_shown g is.is_geometry is.ascending refl)
]

-- what the operator makes of them
may_make : (op : Op) (a : Geometry) (b : Option Geometry) (first : List ℕ) (second : Option (List ℕ)) (s : State)
    → HasSomeReply (Eval op first second) s → (IsDrawnOnGrid s → AreAllOnGrid a b) → MayMake op a b
may_make Interior a b first second s some grid = grid some
may_make op a b first second s some grid = tt

told_made : (op : Op) (first : List ℕ) (second : Option (List ℕ)) (s : State) → HasSomeReply (Eval op first second) s
    → IsValidState s → IsTold (AnswersEval op first second) s
told_made op first second s some valid = elim (some_operands s first second valid) [
  | inl lacks ↦ (no_reply NoName, inl (lacks, refl))
  | inr of ↦
      let may = may_make op of.a of.b first second s some (λ grid. operands_on_grid s first second valid grid of) in
      let made = some_operated op of.a of.b may of.fit in
      (made.reply, told_answers s first second of.a of.b of.are op made.result made.right made.wrong made.reply made.tells)
]

-- their number
may_measure : (num : Num) (a : Geometry) (b : Option Geometry) (first : List ℕ) (second : Option (List ℕ)) (s : State)
    → HasSomeReply (Measure num first second) s → (IsDrawnOnGrid s → AreAllOnGrid a b) → MayMeasure num a b
may_measure NoOfComponents a b first second s some grid = grid some
may_measure num a b first second s some grid = tt

told_number : (num : Num) (first : List ℕ) (second : Option (List ℕ)) (s : State) → HasSomeReply (Measure num first second) s
    → IsValidState s → IsTold (AnswersNum num first second) s
told_number num first second s some valid = elim (some_operands s first second valid) [
  | inl lacks ↦ (no_reply NoName, inl (lacks, refl))
  | inr of ↦
      let may = may_measure num of.a of.b first second s some (λ grid. operands_on_grid s first second valid grid of) in
      let (reply, told) = some_measure num of.a of.b may of.fit in
      (reply, measured_answers num s first second of.a of.b of.are reply told)
]

-- each point of a value is explicit and each segment a piece, so no point is inside a segment
may_tell : (pred : Pred) (a b : Geometry) (first second : List ℕ) (s : State) → HasSomeReply (Ask pred first second) s
    → (IsDrawnOnGrid s → AreAllOnGrid a (Some b)) → MayTell pred a b
may_tell Encloses a b first second s some grid = grid some
may_tell pred a b first second s some grid = tt

told_of : (pred : Pred) (first second : List ℕ) (s : State) (a : Geometry) (b : Option Geometry)
    → HasSomeReply (Ask pred first second) s → IsValidState s → AreOperands first (Some second) s a b → AreFit a b
    → (IsDrawnOnGrid s → AreAllOnGrid a b) → IsTold (AnswersAsk pred first second) s
told_of pred first second s a None some valid are fit grid = absurd are.is_second
told_of pred first second s a (Some b) some valid are fit grid =
    elim (some_truth pred a b (may_tell pred a b first second s some grid) fit
    (operands_are_outside s valid.realm valid.values_fit a b are)) [
      | inl untaken ↦ (
        no_reply Types,
        asked_answers s first second a b are pred (Err WrongTypes) tt (λ e. untaken, λ e. refl) (no_reply Types) refl,
      )
      | inr (taken, decided) ↦
          let (answer, is) = answer_of decided in (
            truth_reply answer,
            asked_answers s first second a b are pred (Ok answer) is (λ e. cc, λ e. absurd (true≢false (sym taken ∙ e)))
                (truth_reply answer) refl,
          )
    ]

-- so a predicate holds of them or doesn't
told_truth : (pred : Pred) (first second : List ℕ) (s : State) → HasSomeReply (Ask pred first second) s → IsValidState s
    → IsTold (AnswersAsk pred first second) s
told_truth pred first second s some valid = elim (some_operands s first (Some second) valid) [
  | inl lacks ↦ (no_reply NoName, inl (lacks, refl))
  | inr of ↦ told_of pred first second s of.a of.b some valid of.are of.fit
      (λ grid. operands_on_grid s first (Some second) valid grid of)
]

-- the faces of a region
listed_faces : (g : Geometry) → AreFit g None → AreAllOnGrid g None → (reply : List ℕ) × TellsFaces g reply
listed_faces (P points) fit grid = (no_reply Types, refl)
listed_faces (L lines) fit grid = (no_reply Types, refl)
listed_faces (R border) fit grid =
    let noded = subst AreNoded (append-nil border) fit.noded in
    let (faces, are) = some_faces border noded fit.first_ascends fit.first_even (first_on_grid (R border) None grid) in
    (faces_reply faces, record { ascending = fit.first_ascends; faces = faces; are_faces = are; reply_is = refl })

told_faces : (name : List ℕ) (s : State) → IsDrawnOnGrid s → IsValidState s → IsTold (AnswersFaces name) s
told_faces name s grid valid = elim (some_operands s name None valid) [
  | inl lacks ↦ elim lacks [ inl none ↦ (no_reply NoName, inl (none, refl)) | inr never ↦ absurd never ]
  | inr of ↦ faces_of of.a of.b of.are of.fit (operands_on_grid s name None valid grid of)
]
  where
    faces_of : (a : Geometry) (b : Option Geometry) → AreOperands name None s a b → AreFit a b → AreAllOnGrid a b
        → IsTold (AnswersFaces name) s
    faces_of a None are fit on_grid =
        let (reply, told) = listed_faces a fit on_grid in (reply, faces_shown s name a reply are.is_first told)
    faces_of a (Some b) are fit on_grid = absurd are.is_second

-- ---- every query
-- each by its kind
pub some_reply : (q : Query) (s : State) → HasSomeReply q s → IsValidState s → IsTold (AnswersQuery q) s
some_reply Realm s some valid = told_realm s valid
some_reply (Show name) s some valid = told_value name s valid
some_reply (Chain id) s some valid = told_chain id s valid
some_reply (Trace number) s some valid = told_trace number s
some_reply (Measure num first second) s some valid = told_number num first second s some valid
some_reply (Eval op first second) s some valid = told_made op first second s some valid
some_reply (Ask pred first second) s some valid = told_truth pred first second s some valid
some_reply (Faces name) s some valid = told_faces name s some valid
some_reply (Sum names) s some valid = told_sum names s valid
some_reply (Decompose name) s some valid = told_parts name s some valid
some_reply (Overlay first second) s some valid = told_overlay first second s valid
some_reply (Fusion entries) s some valid = told_fusion entries s valid
