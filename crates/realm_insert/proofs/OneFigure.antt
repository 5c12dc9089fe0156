-- This file shows that a change draws one figure in a state.
use Rattle.std.proofs.Common.{◌≡◌, ℕ, ◌+◌, ◌≤◌, ◌^◌, List, length, Option, Some, None, IfSome, refl, sym, ap, subst, ◌∙◌, arith}
use Rattle.grid_base.specs.Drawing.{Drawing}
use Rattle.grid_base.specs.declared.kinds.Kind.TheVariants as kinds
use Rattle.line_grammar.specs.declared.command.Change.{Change}
use Rattle.line_grammar.specs.declared.command.Change.TheVariants.{Let}
use Rattle.rose_values.specs.declared.geometry.Geometry.{Geometry}
use Rattle.rose_values.specs.declared.geometry.Geometry.TheVariants.{P, L, R}
use Rattle.rose_values.specs.declared.operators.Op.{Op}
use Rattle.rose_operators.specs.Results.{IsAscending, IsResultOf}
use Rattle.rose_operators.proofs.AscendingLists.{same_segments}
use Rattle.rose_operators.proofs.OneResult.{one_result}
use Rattle.value_geometry.specs.Geometry.{IsGeometryOf}
use Rattle.value_table.specs.declared.value.Value.{Value}
use Rattle.realm_insert.specs.State.{State}
use Rattle.realm_insert.specs.Figures.{Figure, figure_of, Draws}
use Rattle.realm_insert.specs.Refusals.{LacksIds}
use Rattle.realm_insert.specs.Operands.{IsSecondMadeOf, IsMadeOfNamed}
use Rattle.realm_insert.specs.Values.{IsGeometryNamed}
use Rattle.realm_insert.proofs.NamedOperands.{both_ordered}

-- ---- what operators are applied to
-- a value has one geometry
one_geometry : (d : Drawing) (v : Value) (g h : Geometry) → IsGeometryOf d v g → IsGeometryOf d v h → IsAscending g
    → IsAscending h → g ≡ h
one_geometry d v (P ps) (P qs) is also up up_too = ap P (is.1 ∙ sym also.1)
one_geometry d v (L ss) (L ts) is also up up_too = ap L (same_segments _ ss ts up up_too is.1 also.1)
one_geometry d v (R ss) (R ts) is also up up_too = ap R (same_segments _ ss ts up up_too is.1 also.1)
one_geometry d v (P ps) (L ts) is also up up_too = let kind : kinds.Points ≡ kinds.Lines = sym is.0 ∙ also.0 in absurd cc
one_geometry d v (P ps) (R ts) is also up up_too = let kind : kinds.Points ≡ kinds.Regions = sym is.0 ∙ also.0 in absurd cc
one_geometry d v (L ss) (P qs) is also up up_too = let kind : kinds.Lines ≡ kinds.Points = sym is.0 ∙ also.0 in absurd cc
one_geometry d v (L ss) (R ts) is also up up_too = let kind : kinds.Lines ≡ kinds.Regions = sym is.0 ∙ also.0 in absurd cc
one_geometry d v (R ss) (P qs) is also up up_too = let kind : kinds.Regions ≡ kinds.Points = sym is.0 ∙ also.0 in absurd cc
one_geometry d v (R ss) (L ts) is also up up_too = let kind : kinds.Regions ≡ kinds.Lines = sym is.0 ∙ also.0 in absurd cc

pub one_named : (s : State) (name : List ℕ) (g h : Geometry) → IsGeometryNamed s name (Some g) → IsGeometryNamed s name (Some h)
    → IsAscending g → IsAscending h → g ≡ h
one_named s name g h (v, named, is) (w, other, also) up up_too =
    let same : v ≡ w = cc in
    one_geometry s.drawing w g h (subst (λ (u : Value). IsGeometryOf s.drawing u g) same is) also up up_too

pub one_second : (s : State) (second : Option (List ℕ)) (b c : Option Geometry) → IsSecondMadeOf s second b
    → IsSecondMadeOf s second c → IfSome b IsAscending → IfSome c IsAscending → b ≡ c
one_second s None None None is also up up_too = refl
one_second s None (Some b) c is also up up_too = absurd is
one_second s None None (Some c) is also up up_too = absurd also
one_second s (Some name) None c is also up up_too = absurd is
one_second s (Some name) (Some b) None is also up up_too = absurd also
one_second s (Some name) (Some b) (Some c) is also up up_too = ap Some (one_named s name b c is also up up_too)

-- ---- what they make
pub one_of_named : (op : Op) (first : List ℕ) (second : Option (List ℕ)) (s : State) (g h : Geometry)
    → IsMadeOfNamed op first second s g → IsMadeOfNamed op first second s h → g ≡ h
one_of_named op first second s g h one other =
    let are = one.are_operands in
    let too = other.are_operands in
    let a = one_named s first other.a one.a too.is_first are.is_first too.first_ascends are.first_ascends in
    let b = one_second s second other.b one.b too.is_second are.is_second too.second_ascends are.second_ascends in
    let of_a = subst (λ (x : Geometry). IsResultOf op x other.b h) a other.is_made in
    let of_both = subst (λ (y : Option Geometry). IsResultOf op one.a y h) b of_a in
    one_result op one.a one.b g h are.noded (both_ordered s first second one.a one.b are.is_first are.is_second)
    one.ascending other.ascending one.is_made of_both

-- ---- what a change draws
pub one_figure : (c : Change) (s : State) (f g : Figure) → Draws c s f → Draws c s g → f ≡ g
one_figure (Let name op first second) s f g (made, is, drawn) (other, also, redrawn) =
    drawn ∙ ap figure_of (one_of_named op first second s made other is also) ∙ sym redrawn
one_figure c s f g one other = one ∙ sym other

-- where the ids of the one figure that a change draws are left none are lacking
pub ids_suffice : (c : Change) (s : State) (figure : Figure) → Draws c s figure → s.next_id + length figure.segments ≤ 2 ^ 32
    → LacksIds c s → ⊥
ids_suffice c s figure draws fits lacks =
    let same = ap (λ (f : Figure). length f.segments) (one_figure c s lacks.figure figure lacks.draws draws) in
    let past = lacks.too_many in
    omega (arith, same, past, fits)
