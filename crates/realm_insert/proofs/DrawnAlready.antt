-- This file shows that a change by an operator draws what is drawn already.
use Rattle.std.proofs.Common.{◌≡◌, ℕ, ◌+◌, List, [], ◌∷◌, ◌++◌, Any, Contains, get_or, Option, Some, None, sym, subst, inl, inr}
use Rattle.std.proofs.lemmas.List.Elements.{All-contains, Contains-get_or, Contains-append_cases}
use Rattle.grid_base.specs.Point.{GridPoint}
use Rattle.grid_base.specs.Segment.{GridSegment, IsEnd}
use Rattle.grid_base.specs.Realm.{PointInside, TwoCross}
use Rattle.grid_base.specs.Drawing.{Drawing, HasLink, IsPoint, IsPiece, HasViolation, IsDrawnRealm}
use Rattle.grid_base.specs.declared.kinds.Kind.{Kind}
use Rattle.grid_base.specs.declared.kinds.Kind.TheVariants as kinds
use Rattle.grid_base.specs.declared.kinds.Step.{Step}
use Rattle.grid_base.specs.declared.original.Original.{Original}
use Rattle.grid_base.proofs.Elements.{Contains-nil, Contains-here, Contains-later}
use Rattle.grid_base.proofs.RealmLaw.{piece_ends, realm_settled}
use Rattle.line_grammar.specs.declared.command.Change.{Change}
use Rattle.line_grammar.specs.declared.command.Change.TheVariants.{Let}
use Rattle.hook_chain.specs.Straight.{placed}
use Rattle.realm_drawing.proofs.Additions.{piece_is_old_or_new, point_is_old_or_end, piece_stays}
use Rattle.rose_values.specs.declared.geometry.Geometry.{Geometry}
use Rattle.rose_values.specs.declared.geometry.Geometry.TheVariants.{P, L, R}
use Rattle.rose_values.specs.declared.operators.Op.{Op}
use Rattle.rose_values.specs.declared.operators.Op.TheVariants.{Intersection, Plus, Minus, CommonBorder, Vertices, Contour}
use Rattle.rose_values.specs.Operators.{IsMadeOf, IsMadeOfOne, IsMadeOfTwo, IsEndOfSome}
use Rattle.rose_operators.specs.Results.{IsResultOf}
use Rattle.rose_operators.proofs.Rows.{by_rows}
use Rattle.value_geometry.specs.Parts.{HasParts}
use Rattle.value_table.specs.Value.{points_among}
use Rattle.value_table.specs.declared.value.Parts.{Parts}
use Rattle.value_table.specs.declared.value.Parts.TheVariants as parts
use Rattle.realm_insert.specs.State.{State}
use Rattle.realm_insert.specs.Changes.{IsChangedTo, placed_all}
use Rattle.realm_insert.specs.Figures.{Figure, figure_of, Draws}
use Rattle.realm_insert.specs.Lines.{IsLet}
use Rattle.realm_insert.specs.Next.{Next, MakesNoViolation, KeepsAll}
use Rattle.realm_insert.specs.Operands.{IsSecondMadeOf}
use Rattle.realm_insert.specs.Values.{IsGeometryNamed, AreValuesOf}
use Rattle.realm_insert.proofs.KeptValues.{named_has_parts, original_stays}
use Rattle.realm_insert.proofs.NamedOperands.{named_pieces}
use Rattle.realm_insert.proofs.PreparedChanges.{untouched_change}

-- an end of a piece is a point
end_is_point : (d : Drawing) (s : GridSegment) (p : GridPoint) → IsPiece d s → IsEnd p s → IsPoint d p
end_is_point d s p piece (inl is_a) = subst (IsPoint d) (sym is_a) (piece_ends d s piece).0
end_is_point d s p piece (inr is_b) = subst (IsPoint d) (sym is_b) (piece_ends d s piece).1

-- what the figure draws are points and pieces of d
pub record IsDrawn (d : Drawing) (figure : Figure) : Type 0 where
  pub points : (p : GridPoint) → Contains figure.points p → IsPoint d p
  pub pieces : (s : GridSegment) → Contains figure.segments s → IsPiece d s

module _ (d : Drawing) where
  of_points : (list : List GridPoint) → ((p : GridPoint) → Contains list p → IsPoint d p) → IsDrawn d (figure_of (P list))
  of_points list are = record { points = are; pieces = λ s there. absurd (Contains-nil s there) }

  of_lines : (list : List GridSegment) → ((s : GridSegment) → Contains list s → IsPiece d s) → IsDrawn d (figure_of (L list))
  of_lines list are = record { points = λ p there. absurd (Contains-nil p there); pieces = are }

  of_border : (list : List GridSegment) → ((s : GridSegment) → Contains list s → IsPiece d s) → IsDrawn d (figure_of (R list))
  of_border list are = record { points = λ p there. absurd (Contains-nil p there); pieces = are }

  some_end : (list : List GridSegment) → ((s : GridSegment) → Contains list s → IsPiece d s) → (p : GridPoint)
      → IsEndOfSome list p → IsPoint d p
  some_end list are p (s, there, end) = end_is_point d s p (are s there) end

  -- ---- what operators make of what is drawn
  made_of_one : (op : Op) (a made : Geometry) → IsDrawn d (figure_of a) → IsMadeOfOne op a made
      → IsDrawn d (figure_of made)
  made_of_one Vertices (L list) (P made) a is = of_points made (λ p there. some_end list a.pieces p ((is p).0 there))
  made_of_one Vertices (R list) (P made) a is = of_points made (λ p there. some_end list a.pieces p ((is p).0 there))
  made_of_one Contour (R list) (L made) a is =
      of_lines made (λ s there. a.pieces s (subst (λ (l : List GridSegment). Contains l s) is there))
  made_of_one _ _ _ a is = absurd is

  either : (A B : List GridSegment) → ((s : GridSegment) → Contains A s → IsPiece d s)
      → ((s : GridSegment) → Contains B s → IsPiece d s) → (s : GridSegment) → Contains (A ++ B) s → IsPiece d s
  either A B of_first of_second s there = elim (Contains-append_cases A B s there) [
    | inl first ↦ of_first s first
    | inr second ↦ of_second s second
  ]

  made_of_two : (op : Op) (a b made : Geometry) → IsDrawn d (figure_of a) → IsDrawn d (figure_of b)
      → IsMadeOfTwo op a b made → IsDrawn d (figure_of made)
  made_of_two Intersection (P x) (P y) (P made) a b is = of_points made (λ p there. a.points p ((is p).0 there).0)
  made_of_two Intersection (L x) (L y) (P made) a b is = of_points made (λ p there. some_end x a.pieces p ((is p).0 there).0)
  made_of_two Intersection (R x) (R y) (R made) a b is =
      of_border made (λ s there. either x y a.pieces b.pieces s (is.of_these s there))
  made_of_two Intersection (R x) (L y) (L made) a b is = of_lines made (λ s there. b.pieces s ((is s).0 there).0)
  made_of_two Plus (P x) (P y) (P made) a b is = of_points made (λ p there. elim ((is p).0 there) [
    | inl first ↦ a.points p first
    | inr second ↦ b.points p second
  ])
  made_of_two Plus (L x) (L y) (L made) a b is = of_lines made (λ s there. elim ((is s).0 there) [
    | inl first ↦ a.pieces s first
    | inr second ↦ b.pieces s second
  ])
  made_of_two Plus (R x) (R y) (R made) a b is =
      of_border made (λ s there. either x y a.pieces b.pieces s (is.of_these s there))
  made_of_two Minus (P x) (P y) (P made) a b is = of_points made (λ p there. a.points p ((is p).0 there).0)
  made_of_two Minus (L x) (L y) (L made) a b is = of_lines made (λ s there. a.pieces s ((is s).0 there).0)
  made_of_two Minus (R x) (R y) (R made) a b is =
      of_border made (λ s there. either x y a.pieces b.pieces s (is.of_these s there))
  made_of_two CommonBorder (R x) (R y) (L made) a b is = of_lines made (λ s there. a.pieces s ((is s).0 there).0)
  made_of_two _ _ _ _ a b is = absurd is

-- ---- what values are made of
explicit_parts : (d : Drawing) (made : Parts) → HasParts d kinds.Points made → (p : GridPoint) → Contains (points_among made) p
    → Contains d.points p
explicit_parts d (parts.Points list) has p there = All-contains (Contains d.points) list p has there
explicit_parts d (parts.Ids ids) has p there = absurd has

module _ (s : State) (fit : AreValuesOf s.drawing s.values) where
  named_drawn : (name : List ℕ) (g : Geometry) → IsGeometryNamed s name (Some g) → IsDrawn s.drawing (figure_of g)
  named_drawn name (P list) (v, named, is) =
      let has = named_has_parts s.drawing s.values name v fit named in
      let of_kind = subst (λ (k : Kind). HasParts s.drawing k v.parts) is.0 has in
      of_points s.drawing list (λ p there. inl (explicit_parts s.drawing v.parts of_kind p
      (subst (λ (l : List GridPoint). Contains l p) is.1 there)))
  named_drawn name (L list) is = of_lines s.drawing list (named_pieces s name (L list) is)
  named_drawn name (R list) is = of_border s.drawing list (named_pieces s name (R list) is)

  second_drawn : (second : Option (List ℕ)) (b : Geometry) → IsSecondMadeOf s second (Some b) → IsDrawn s.drawing (figure_of b)
  second_drawn None b is = absurd is
  second_drawn (Some name) b is = named_drawn name b is

  by_operator : (op : Op) (first : List ℕ) (second : Option (List ℕ)) (a : Geometry) (b : Option Geometry) (made : Geometry)
      → IsGeometryNamed s first (Some a) → IsSecondMadeOf s second b → IsMadeOf op a b made → IsDrawn s.drawing (figure_of made)
  by_operator op first second a None made is_first is_second is =
      made_of_one s.drawing op a made (named_drawn first a is_first) is
  by_operator op first second a (Some b) made is_first is_second is =
      made_of_two s.drawing op a b made (named_drawn first a is_first) (second_drawn second b is_second) is

  -- what lines shut in has a border of their segments
  by_result : (op : Op) (first : List ℕ) (second : Option (List ℕ)) (a : Geometry) (b : Option Geometry) (made : Geometry)
      → IsResultOf op a b made → IsGeometryNamed s first (Some a) → IsSecondMadeOf s second b → IsDrawn s.drawing (figure_of made)
  by_result op first second =
      by_rows (λ a b made. IsGeometryNamed s first (Some a) → IsSecondMadeOf s second b → IsDrawn s.drawing (figure_of made))
      (λ op a b made is is_first is_second. by_operator op first second a b made is_first is_second is)
      (λ lines border shut_in is_first is_second. of_border s.drawing border
      (λ t there. named_pieces s first (L lines) is_first t (shut_in.of_these t there)))
      op

  pub let_drawn : (c : Change) (figure : Figure) → IsLet c → Draws c s figure → IsDrawn s.drawing figure
  let_drawn (Let name op first second) figure is (made, by, drawn) =
      subst (IsDrawn s.drawing) (sym drawn)
      (by_result op first second by.a by.b made by.is_made by.are_operands.is_first by.are_operands.is_second)
  let_drawn c figure is draws = absurd is

-- ---- where that is placed again
-- no piece is new
placed_pieces : (d : Drawing) (id : ℕ) (list : List GridSegment) → ((s : GridSegment) → Contains list s → IsPiece d s)
    → (t : GridSegment) → IsPiece (placed_all d id list) t → IsPiece d t
placed_pieces d id [] are t piece = piece
placed_pieces d id (s ∷ list) are t piece =
    let here = are s (Contains-here s list) in
    let rest = placed_pieces (placed d id s) (id + 1) list
    (λ u there. piece_stays d id s u (are u (Contains-later s list u there))) t piece in
    elim (piece_is_old_or_new d id s t here.0 rest) [ inl old ↦ old | inr same ↦ subst (IsPiece d) same here ]

-- and no point
placed_points : (d : Drawing) (id : ℕ) (list : List GridSegment) → ((s : GridSegment) → Contains list s → IsPiece d s)
    → (p : GridPoint) → IsPoint (placed_all d id list) p → IsPoint d p
placed_points d id [] are p point = point
placed_points d id (s ∷ list) are p point =
    let here = are s (Contains-here s list) in
    let rest = placed_points (placed d id s) (id + 1) list
    (λ u there. piece_stays d id s u (are u (Contains-later s list u there))) p point in
    elim (point_is_old_or_end d id s p here.0 rest) [ inl old ↦ old | inr end ↦ end_is_point d s p here end ]

-- what is so of an original is so afterwards
some_original : (Q : Original → Type 0) (d e : Drawing) → ((o : Original) → Contains d.originals o → Contains e.originals o)
    → Any Q d.originals → Any Q e.originals
some_original Q d e stays (k, o, within, is, holds) =
    let (j, inside, same) = stays o (k, within, is) in
    (j, o, inside, same, holds)

all_kept : (c : Change) (figure : Figure) (d : Drawing) (first : ℕ) (changed : Drawing) → IsLet c → IsDrawn d figure
    → IsChangedTo c figure d first changed → KeepsAll d changed
all_kept (Let name op one second) figure d first changed is_let drawn is =
    let stays : (o : Original) → Contains d.originals o → Contains changed.originals o = λ o there.
    subst (λ (l : List Original). Contains l o) (sym is.originals) (original_stays d first figure.segments o there) in
    record {
      originals = λ k o within. stays (get_or d.originals k o) (Contains-get_or d.originals k o within);
      points = λ p. (
        λ point. elim point [
          | inl explicit ↦ elim ((is.points p).0 explicit) [ inl new ↦ drawn.points p new | inr old ↦ inl old ]
          | inr vertex ↦ placed_points d first figure.segments drawn.pieces p
              (inr (subst (λ (l : List Original). Any (λ o. Contains o.chain p) l) is.originals vertex))
        ],
        λ point. elim point [
          | inl explicit ↦ inl ((is.points p).1 (inr explicit))
          | inr vertex ↦ inr (some_original (λ o. Contains o.chain p) d changed stays vertex)
        ],
      );
      pieces = λ s. (
        λ piece. placed_pieces d first figure.segments drawn.pieces s
            (piece.0, subst (λ (l : List Original). Any (λ o. HasLink o.chain s) l) is.originals piece.1),
        λ piece. (piece.0, some_original (λ o. HasLink o.chain s) d changed stays piece.1),
      );
    }
all_kept c figure d first changed is_let drawn is = absurd is_let

-- so a violation afterwards was there before
was_violated : (d changed : Drawing) → KeepsAll d changed → HasViolation changed → HasViolation d
was_violated d changed keeps (PointInside p s point piece inside) =
    PointInside p s ((keeps.points p).0 point) ((keeps.pieces s).0 piece) inside
was_violated d changed keeps (TwoCross s t piece other cross) =
    TwoCross s t ((keeps.pieces s).0 piece) ((keeps.pieces t).0 other) cross

pub let_settled : (s : State) (c : Change) → IsLet c → IsDrawnRealm s.drawing → AreValuesOf s.drawing s.values
    → MakesNoViolation s c
let_settled s c is_let realm fit = λ changed (figure, draws, is) violation.
    let keeps = all_kept c figure s.drawing s.next_id changed is_let (let_drawn s fit c figure is_let draws) is in
    realm_settled (IsPoint s.drawing) (IsPiece s.drawing) realm (was_violated s.drawing changed keeps violation)

pub let_is_there : (old : State) (c : Change) (trace : List Step) (new : State) → Next old c trace new → IsDrawnRealm old.drawing
    → AreValuesOf old.drawing old.values → IsLet c → (trace ≡ []) × KeepsAll old.drawing new.drawing
let_is_there old c trace new next realm fit is_let =
    let (empty, (figure, draws, is)) = untouched_change old c trace new next (let_settled old c is_let realm fit) in
    (empty, all_kept c figure old.drawing old.next_id new.drawing is_let (let_drawn old fit c figure is_let draws) is)
