-- This file shows that two results of one operator on the same values are one geometry.
use Rattle.std.proofs.Common.{◌≡◌, List, [], ◌++◌, All, Option, Some, None, sym, ap, subst, ◌∙◌}
use Rattle.std.proofs.lemmas.List.{append-nil}
use Rattle.grid_base.specs.Border.{AreNoded}
use Rattle.grid_base.specs.Point.{IsBefore}
use Rattle.grid_base.specs.Segment.{GridSegment}
use Rattle.rose_values.specs.Border.{AreSegmentsAscending}
use Rattle.rose_values.specs.declared.geometry.Geometry.{Geometry}
use Rattle.rose_values.specs.declared.geometry.Geometry.TheVariants.{P, L, R}
use Rattle.rose_values.specs.declared.operators.Op.{Op}
use Rattle.rose_values.specs.declared.operators.Op.TheVariants.{Intersection, Plus, Minus, CommonBorder, Vertices, Contour, Interior}
use Rattle.rose_values.specs.Operators.{IsMadeOf, IsMadeOfOne, IsMadeOfTwo, IsCombination, segments_of, segments_of_second}
use Rattle.rose_overlay.proofs.OneRegion.{one_combination, one_region}
use Rattle.plane_classes.specs.Classes.{IsOuter}
use Rattle.rose_operators.specs.Results.{IsAscending, IsResultOf, ShutsIn}
use Rattle.rose_operators.proofs.AscendingLists.{same_points, same_segments}

one_made_of_one : (op : Op) (a g h : Geometry) → IsMadeOfOne op a g → IsMadeOfOne op a h → IsAscending g → IsAscending h
    → g ≡ h
one_made_of_one Vertices (L list) (P ps) (P qs) is also up up_too = ap P (same_points _ ps qs up up_too is also)
one_made_of_one Vertices (R list) (P ps) (P qs) is also up up_too = ap P (same_points _ ps qs up up_too is also)
one_made_of_one Contour (R list) (L ss) (L ts) is also up up_too = ap L (is ∙ sym also)
one_made_of_one _ _ _ _ is also up up_too = absurd assumption

-- the point set decides a border, and the elements all other lists
module _ (a b : Geometry) (noded : AreNoded (segments_of a ++ segments_of b))
    (ordered : All (λ s. IsBefore s.a s.b) (segments_of a ++ segments_of b)) where
  same_border : (op : Op) (ss ts : List GridSegment) → AreSegmentsAscending ss → AreSegmentsAscending ts
      → IsCombination op (segments_of a) (segments_of b) ss → IsCombination op (segments_of a) (segments_of b) ts
      → ◌≡◌ {A = Geometry} (R ss) (R ts)
  same_border op ss ts up up_too is also =
      ap R (one_combination op (segments_of a) (segments_of b) ss ts noded ordered up up_too is also)

one_made_of_two : (op : Op) (a b g h : Geometry) → AreNoded (segments_of a ++ segments_of b)
    → All (λ s. IsBefore s.a s.b) (segments_of a ++ segments_of b) → IsMadeOfTwo op a b g → IsMadeOfTwo op a b h
    → IsAscending g → IsAscending h → g ≡ h
one_made_of_two Intersection (P a) (P b) (P ps) (P qs) n o is also up up_too = ap P (same_points _ ps qs up up_too is also)
one_made_of_two Intersection (L a) (L b) (P ps) (P qs) n o is also up up_too = ap P (same_points _ ps qs up up_too is also)
one_made_of_two Intersection (R a) (R b) (R ss) (R ts) n o is also up up_too =
    same_border (R a) (R b) n o Intersection ss ts up up_too is also
one_made_of_two Intersection (R a) (L b) (L ss) (L ts) n o is also up up_too = ap L (same_segments _ ss ts up up_too is also)
one_made_of_two Plus (P a) (P b) (P ps) (P qs) n o is also up up_too = ap P (same_points _ ps qs up up_too is also)
one_made_of_two Plus (L a) (L b) (L ss) (L ts) n o is also up up_too = ap L (same_segments _ ss ts up up_too is also)
one_made_of_two Plus (R a) (R b) (R ss) (R ts) n o is also up up_too =
    same_border (R a) (R b) n o Plus ss ts up up_too is also
one_made_of_two Minus (P a) (P b) (P ps) (P qs) n o is also up up_too = ap P (same_points _ ps qs up up_too is also)
one_made_of_two Minus (L a) (L b) (L ss) (L ts) n o is also up up_too = ap L (same_segments _ ss ts up up_too is also)
one_made_of_two Minus (R a) (R b) (R ss) (R ts) n o is also up up_too =
    same_border (R a) (R b) n o Minus ss ts up up_too is also
one_made_of_two CommonBorder (R a) (R b) (L ss) (L ts) n o is also up up_too = ap L (same_segments _ ss ts up up_too is also)
one_made_of_two _ _ _ _ _ n o is also up up_too = absurd assumption

one_made : (op : Op) (a : Geometry) (b : Option Geometry) (g h : Geometry) → AreNoded (segments_of a ++ segments_of_second b)
    → All (λ s. IsBefore s.a s.b) (segments_of a ++ segments_of_second b) → IsAscending g → IsAscending h
    → IsMadeOf op a b g → IsMadeOf op a b h → g ≡ h
one_made op a None g h n o up up_too is also = one_made_of_one op a g h is also up up_too
one_made op a (Some b) g h n o up up_too is also = one_made_of_two op a b g h n o is also up up_too

-- what lines shut in has one border over them
one_shut_in : (lines ss ts : List GridSegment) → AreNoded (lines ++ []) → All (λ s. IsBefore s.a s.b) (lines ++ [])
    → AreSegmentsAscending ss → AreSegmentsAscending ts → ShutsIn lines ss → ShutsIn lines ts → ss ≡ ts
one_shut_in lines ss ts noded ordered up up_too is also =
    let alone : lines ++ [] ≡ lines = append-nil lines in
    one_region lines (λ q. ¬ IsOuter lines q) ss ts (subst AreNoded alone noded)
    (subst (All (λ s. IsBefore s.a s.b)) alone ordered) up up_too is also

one_interior : (a : Geometry) (b : Option Geometry) (g h : Geometry) → AreNoded (segments_of a ++ segments_of_second b)
    → All (λ s. IsBefore s.a s.b) (segments_of a ++ segments_of_second b) → IsAscending g → IsAscending h
    → IsResultOf Interior a b g → IsResultOf Interior a b h → g ≡ h
one_interior (L lines) None (R ss) (R ts) n o up up_too is also = ap R (one_shut_in lines ss ts n o up up_too is also)
one_interior (L lines) (Some b) g h n o up up_too is also = absurd is
one_interior (L lines) None (P ps) h n o up up_too is also = absurd is
one_interior (L lines) None (L ss) h n o up up_too is also = absurd is
one_interior (L lines) None (R ss) (P ps) n o up up_too is also = absurd also
one_interior (L lines) None (R ss) (L ts) n o up up_too is also = absurd also
one_interior (P ps) None g h n o up up_too is also = absurd is
one_interior (P ps) (Some b) g h n o up up_too is also = absurd is
one_interior (R ss) None g h n o up up_too is also = absurd is
one_interior (R ss) (Some b) g h n o up up_too is also = absurd is

pub one_result : (op : Op) (a : Geometry) (b : Option Geometry) (g h : Geometry)
    → AreNoded (segments_of a ++ segments_of_second b) → All (λ s. IsBefore s.a s.b) (segments_of a ++ segments_of_second b)
    → IsAscending g → IsAscending h → IsResultOf op a b g → IsResultOf op a b h → g ≡ h
one_result Interior a b g h n o up up_too is also = one_interior a b g h n o up up_too is also
one_result Intersection a b g h n o up up_too is also = one_made Intersection a b g h n o up up_too is also
one_result Plus a b g h n o up up_too is also = one_made Plus a b g h n o up up_too is also
one_result Minus a b g h n o up up_too is also = one_made Minus a b g h n o up up_too is also
one_result CommonBorder a b g h n o up up_too is also = one_made CommonBorder a b g h n o up up_too is also
one_result Vertices a b g h n o up up_too is also = one_made Vertices a b g h n o up up_too is also
one_result Contour a b g h n o up up_too is also = one_made Contour a b g h n o up up_too is also
