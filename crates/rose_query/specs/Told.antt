-- What is told of a predicate, of a number and of faces. No public clause cites this file.
use Rattle.std.specs.Prelude.{◌≡◌, ◌⊎◌, ℕ, Bool, true, false, List, Option, Result, Ok, Err}
use Rattle.std.specs.Prelude.{option_map}
use Rattle.grid_base.specs.Segment.{GridSegment}
use Rattle.rose_values.specs.declared.geometry.Geometry.{Geometry}
use Rattle.rose_values.specs.declared.geometry.Geometry.TheVariants.{P, L, R}
use Rattle.rose_values.specs.declared.operators.Num.{Num}
use Rattle.rose_values.specs.Border.{AreSegmentsAscending}
use Rattle.rose_values.specs.Geometry.{kind_of}
use Rattle.rose_values.specs.Kinds.{measures}
use Rattle.rose_predicates.specs.declared.answering.HoldsError.{HoldsError}
use Rattle.rose_predicates.specs.declared.answering.HoldsError.TheVariants.{WrongTypes, NoMemory}
use Rattle.realm_insert.specs.declared.refusal.Refusal.TheVariants.{Types}
use Rattle.rose_query.specs.Asking.{IsNumberOf}
use Rattle.r_faces.specs.FaceCycles.{AreFaces}
use Rattle.r_faces.specs.declared.face.Face.{Face}
use Rattle.rose_query.specs.Replies.{no_reply, truth_reply, number_reply, faces_reply}

-- the reply tells the answer, or says that the predicate doesn't take the values
abbrev pub TellsAnswer : Result Bool HoldsError → List ℕ → Type 0
TellsAnswer (Ok answer) reply = reply ≡ truth_reply answer
TellsAnswer (Err WrongTypes) reply = reply ≡ no_reply Types
TellsAnswer (Err NoMemory) reply = ⊥

-- the reply tells the number of the values, or says that it isn't one of such values
abbrev pub TellsMeasure : Num → Geometry → Option Geometry → List ℕ → Type 0
TellsMeasure num a b reply =
    ((measures num (kind_of a) (option_map kind_of b) ≡ false) × (reply ≡ no_reply Types))
    ⊎ ((measures num (kind_of a) (option_map kind_of b) ≡ true)
    × (found : Option ℕ) × IsNumberOf num a b found × (reply ≡ number_reply found))

-- the border ascends, and the reply lists the faces of its region
pub record ListsFaces (border : List GridSegment) (reply : List ℕ) : Type 0 where
  pub ascending : AreSegmentsAscending border
  pub faces : List Face
  pub are_faces : AreFaces border faces
  pub reply_is : reply ≡ faces_reply faces

-- the reply lists the faces of the value, or says that it is no region
abbrev pub TellsFaces : Geometry → List ℕ → Type 0
TellsFaces (P points) reply = reply ≡ no_reply Types
TellsFaces (L lines) reply = reply ≡ no_reply Types
TellsFaces (R border) reply = ListsFaces border reply
