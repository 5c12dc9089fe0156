-- What `faces` is answered.
use Rattle.std.specs.Prelude.{◌≡◌, ◌≢◌, ℕ, List, Option, Some, IsSomeAnd}
use Rattle.grid_base.specs.Segment.{GridSegment}
use Rattle.grid_base.specs.declared.kinds.Kind.TheVariants.{Regions}
use Rattle.rose_values.specs.Border.{AreSegmentsAscending}
use Rattle.rose_values.specs.declared.geometry.Geometry.TheVariants.{R}
use Rattle.r_faces.specs.FaceCycles.{AreFaces}
use Rattle.r_faces.specs.declared.face.Face.{Face}
use Rattle.value_table.specs.Table.{NamedValues, value_named}
use Rattle.realm_insert.specs.State.{State}
use Rattle.realm_insert.specs.Operands.{LacksName}
use Rattle.realm_insert.specs.Values.{IsGeometryNamed}
use Rattle.realm_insert.specs.declared.refusal.Refusal.TheVariants.{NoName, Types}
use Rattle.rose_query.specs.Causes.{Answer, Unless}
use Rattle.rose_query.specs.Replies.{faces_reply}

-- the value with this name is none of regions
abbrev pub IsNoRegion : List ℕ → NamedValues → Type 0
IsNoRegion name values = IsSomeAnd (value_named name values) (λ v. v.kind ≢ Regions)

-- the reply lists the faces of the region with this name as it is at present
pub record ShowsFaces (name : List ℕ) (state : State) (reply : List ℕ) : Type 0 where
  pub border : List GridSegment
  pub is_region : IsGeometryNamed state name (Some (R border))
  pub ascending : AreSegmentsAscending border
  pub faces : List Face
  pub are_faces : AreFaces border faces
  pub reply_is : reply ≡ faces_reply faces

-- What `faces` is answered: a name that no value has is the first cause to refuse it, another kind the second.
abbrev pub AnswersFaces : List ℕ → Answer
AnswersFaces name =
    Unless (λ s. LacksName name s.values) NoName
    (Unless (λ s. IsNoRegion name s.values) Types (ShowsFaces name))
