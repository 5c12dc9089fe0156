-- This file shows what holds of every result: what holds by the table and of what lines shut in.
use Rattle.std.proofs.Common.{List, Option, Some, None}
use Rattle.grid_base.specs.Segment.{GridSegment}
use Rattle.rose_values.specs.declared.geometry.Geometry.{Geometry}
use Rattle.rose_values.specs.declared.geometry.Geometry.TheVariants.{P, L, R}
use Rattle.rose_values.specs.declared.operators.Op.{Op}
use Rattle.rose_values.specs.declared.operators.Op.TheVariants.{Intersection, Plus, Minus, CommonBorder, Vertices, Contour, Interior}
use Rattle.rose_values.specs.Operators.{IsMadeOf}
use Rattle.rose_operators.specs.Results.{IsResultOf, ShutsIn}

module _ (X : Geometry → Option Geometry → Geometry → Type 0)
    (by_table : (op : Op) (a : Geometry) (b : Option Geometry) (g : Geometry) → IsMadeOf op a b g → X a b g)
    (by_interior : (lines border : List GridSegment) → ShutsIn lines border → X (L lines) None (R border)) where
  pub by_rows : (op : Op) (a : Geometry) (b : Option Geometry) (g : Geometry) → IsResultOf op a b g → X a b g
  by_rows Interior (L lines) None (R border) is = by_interior lines border is
  by_rows Interior (L lines) None (P ps) is = absurd is
  by_rows Interior (L lines) None (L ss) is = absurd is
  by_rows Interior (L lines) (Some b) g is = absurd is
  by_rows Interior (P ps) None g is = absurd is
  by_rows Interior (P ps) (Some b) g is = absurd is
  by_rows Interior (R ss) None g is = absurd is
  by_rows Interior (R ss) (Some b) g is = absurd is
  by_rows Intersection a b g is = by_table Intersection a b g is
  by_rows Plus a b g is = by_table Plus a b g is
  by_rows Minus a b g is = by_table Minus a b g is
  by_rows CommonBorder a b g is = by_table CommonBorder a b g is
  by_rows Vertices a b g is = by_table Vertices a b g is
  by_rows Contour a b g is = by_table Contour a b g is
